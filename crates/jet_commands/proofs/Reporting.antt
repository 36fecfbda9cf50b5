-- The rows of several queries, by those of one that asks for what any of them does; and the text of their reports.
use Rattle.std.proofs.Common.{◌≡◌, ◌∙◌, ap, ap₂, sym, refl, subst, arith, ℕ, suc, ◌+◌, ◌<◌, List, [], ◌∷◌, ◌++◌, map, append_assoc, append-nil, length, get_or, take, drop, take-append-drop}
use Rattle.std.specs.Prelude.{Contains}
use Rattle.std.proofs.lemmas.List.{take_more, length-take, map-append}
use Rattle.std.proofs.lemmas.List.Elements.{All-contains, Contains-get_or}
use Rattle.outer_io.specs.Pieces.{Putting, Laws}
use Rattle.lists.specs.Sets.{Ascends}
use Rattle.flow_model.specs.declared.StepSeen.{StepSeen}
use Rattle.flow_model.specs.Orders.{inner_cmp}
use Rattle.report_model.specs.Query.{Query}
use Rattle.report_model.specs.Rows.{Row, rows}
use Rattle.report_model.specs.Together.{Covers, together, only}
use Rattle.report_model.proofs.RowLemmas.{same_rows}
use Rattle.report_model.proofs.Own.{only_is_own, together_covers, together_ascends}
use Rattle.jet_model.specs.Report.{numbered_report, reports_from}
use Rattle.jet_commands.specs.Texts.{numbered_rows, reports_text}
use Rattle.jet_commands.specs.Answers.{IsUnion}

module _ (qs : List Query) (union : Query) (steps : List StepSeen) (is : IsUnion qs union) where
  -- the rows of one of the queries are its own of the rows of all
  own : (q : Query) → Contains qs q → Ascends inner_cmp q.points → only q (rows union steps) ≡ rows q steps
  own q there ascend =
      let covers = All-contains (Covers (together qs)) qs q (together_covers qs is.one_rule) there in
      ap (only q) (same_rows union (together qs) steps is.alike) ∙ sym (only_is_own (together qs) q steps covers ascend (together_ascends qs))

  -- the rows of one more query
  pub rows_more : (i : ℕ) (q : Query) (done more : List (List Row)) → i < length qs → q ≡ get_or qs i q → Ascends inner_cmp q.points
      → done ≡ map (λ p. rows p steps) (take i qs) → more ≡ done ++ only q (rows union steps) ∷ [] → more ≡ map (λ p. rows p steps) (take (i + 1) qs)
  rows_more i q done more inside is_item ascend so_far e =
      let there : Contains qs q = subst (Contains qs) (sym is_item) (Contains-get_or qs i q inside) in
      e
      ∙ ap₂ (λ (parts : List (List Row)) (rs : List Row). parts ++ rs ∷ []) so_far (own q there ascend)
      ∙ sym (map-append (λ (p : Query). rows p steps) (take i qs) (q ∷ []))
      ∙ ap (λ (x : Query). map (λ p. rows p steps) (take i qs ++ x ∷ [])) is_item
      ∙ ap (map (λ p. rows p steps)) (sym (take_more qs i q inside))

-- the text of the rows of several queries is that of their reports
pub rows-reports : (n : ℕ) (qs : List Query) (steps : List StepSeen) → reports_text n (map (λ q. rows q steps) qs) ≡ reports_from n qs steps
rows-reports n [] steps = refl
rows-reports n (q ∷ qs) steps = ap (λ (text : List ℕ). numbered_report n q steps ++ text) (rows-reports (n + 1) qs steps)

-- and one more
pub reports-append : (n : ℕ) (parts : List (List Row)) (rs : List Row) → reports_text n (parts ++ rs ∷ []) ≡ reports_text n parts ++ numbered_rows (n + length parts) rs
reports-append n [] rs =
    let here : n ≡ n + 0 = omega arith in
    append-nil (numbered_rows n rs) ∙ ap (λ (k : ℕ). numbered_rows k rs) here
reports-append n (part ∷ parts) rs =
    let there : n + 1 + length parts ≡ n + suc (length parts) = omega arith in
    ap (λ (text : List ℕ). numbered_rows n part ++ text) (reports-append (n + 1) parts rs)
    ∙ sym (append_assoc (numbered_rows n part) (reports_text (n + 1) parts) (numbered_rows (n + 1 + length parts) rs))
    ∙ ap (λ (k : ℕ). (numbered_rows n part ++ reports_text (n + 1) parts) ++ numbered_rows k rs) there

-- the first reports, and the next one
pub next_report : (parts : List (List Row)) (i number : ℕ) (rs : List Row) → i < length parts → rs ≡ get_or parts i rs → number ≡ i + 1
    → reports_text 1 (take i parts) ++ numbered_rows number rs ≡ reports_text 1 (take (i + 1) parts)
next_report parts i number rs inside is n =
    let place : number ≡ 1 + length (take i parts) = omega (arith, n, length-take i parts, inside) in
    ap (λ (k : ℕ). reports_text 1 (take i parts) ++ numbered_rows k rs) place
    ∙ sym (reports-append 1 (take i parts) rs)
    ∙ ap (λ (x : List Row). reports_text 1 (take i parts ++ x ∷ [])) is
    ∙ ap (reports_text 1) (sym (take_more parts i rs inside))

-- the first reports, and the others
reports-front : (n : ℕ) (front parts : List (List Row)) → reports_text n (front ++ parts) ≡ reports_text n front ++ reports_text (n + length front) parts
reports-front n [] parts = let here : n ≡ n + 0 = omega arith in ap (λ (k : ℕ). reports_text k parts) here
reports-front n (rs ∷ front) parts =
    let there : n + 1 + length front ≡ n + suc (length front) = omega arith in
    ap (λ (text : List ℕ). numbered_rows n rs ++ text) (reports-front (n + 1) front parts)
    ∙ sym (append_assoc (numbered_rows n rs) (reports_text (n + 1) front) (reports_text (n + 1 + length front) parts))
    ∙ ap (λ (k : ℕ). (numbered_rows n rs ++ reports_text (n + 1) front) ++ reports_text k parts) there

pub reports_left : (parts : List (List Row)) (i : ℕ) → (rest : List ℕ) × (reports_text 1 (take i parts) ++ rest ≡ reports_text 1 parts)
reports_left parts i = (
  reports_text (1 + length (take i parts)) (drop i parts),
  sym (reports-front 1 (take i parts) (drop i parts)) ∙ ap (reports_text 1) (take-append-drop i parts),
)

-- the reports are put, or a part of them
module _ {S : Type 0} (putting : Putting S) (laws : Laws putting) (parts : List (List Row)) (i number : ℕ) (rs : List Row) (s t u : S) (inside : i < length parts) (is : rs ≡ get_or parts i rs) (n : number ≡ i + 1)
    (done : putting.whole s (reports_text 1 (take i parts)) t) where
  pub puts-report : putting.whole t (numbered_rows number rs) u → putting.whole s (reports_text 1 (take (i + 1) parts)) u
  puts-report p = subst (λ (text : List ℕ). putting.whole s text u) (next_report parts i number rs inside is n) (laws.whole_then s t u (reports_text 1 (take i parts)) (numbered_rows number rs) done p)

  pub puts-some_report : putting.part t (numbered_rows number rs) u → putting.part s (reports_text 1 parts) u
  puts-some_report p =
      let left = reports_left parts (i + 1) in
      subst (λ (text : List ℕ). putting.part s text u) (ap (λ (w : List ℕ). w ++ left.0) (next_report parts i number rs inside is n) ∙ left.1)
      (laws.part_first s u (reports_text 1 (take i parts) ++ numbered_rows number rs) left.0 (laws.part_then s t u (reports_text 1 (take i parts)) (numbered_rows number rs) done p))
