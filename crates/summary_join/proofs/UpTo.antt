-- The epochs of a run, joined one after another.
use Rattle.std.proofs.Common.{◌≡◌, ℕ, zero, suc, ◌-◌, ◌<◌, ◌≤◌, List, [], ◌∷◌, ◌++◌, map, length, refl, ap, ap₂, sym, subst, ◌∙◌, true, arith, append_assoc, append-nil}
use Rattle.std.specs.Prelude.{All}
use Rattle.std.specs.List.{AllByRecursion}
use Rattle.std.proofs.lemmas.List.{map-append, length_push, same_from_push}
use Rattle.std.proofs.lemmas.List.Elements.{All-from_recursion, recursion_from_All}
use Rattle.lists.specs.Sets.{has}
use Rattle.flow_model.specs.declared.Loc.{Loc}
use Rattle.flow_model.specs.declared.InnerSink.{InnerSink}
use Rattle.flow_model.specs.declared.SourceByte.{SourceByte}
use Rattle.flow_model.specs.declared.StepSeen.{StepSeen}
use Rattle.flow_model.specs.Orders.{loc_cmp}
use Rattle.flow_model.specs.Origins.{origins}
use Rattle.flow_model.specs.Ranges.{IsLocation, IsInRange}
use Rattle.report_model.specs.Query.{Query, AreLocated, policy_of}
use Rattle.report_model.specs.Rows.{Row, row, rows_as_written}
use Rattle.epoch_model.specs.Cutting.{IsCutting, RisesTo}
use Rattle.epoch_model.specs.Stretch.{points_at_start, sinks_between, sinks_of_epoch}
use Rattle.epoch_model.specs.Summary.{Summary, AreSummaries}
use Rattle.epoch_model.specs.Crossing.{wanted}
use Rattle.epoch_model.specs.Join.{resolved, rows_of}
use Rattle.epoch_model.proofs.Adding.{all_had}
use Rattle.epoch_model.proofs.Asking.{rises_up}
use Rattle.epoch_model.proofs.Joining.{epoch_known}
use Rattle.epoch_model.proofs.Sinks.{sinks-all, sinks-later, sinks-split}
use Rattle.taint_shadow.specs.declared.labels.SinkLabel.{SinkLabel}
use Rattle.taint_shadow.specs.Places.{kept}
use Rattle.source_labels.specs.declared.labels.SourceLabels.{SourceLabels}
use Rattle.source_labels.specs.Laws.{label_laws}
use Rattle.source_labels.specs.Words.{label_words}
use Rattle.summary_join.specs.declared.cut.CutLabels.{CutLabels}
use Rattle.summary_join.specs.declared.piece.Piece.{Piece}
use Rattle.summary_join.specs.declared.first.FirstEpoch.{FirstEpoch}
use Rattle.summary_join.specs.First.{found_of}
use Rattle.summary_join.specs.Labels.{AllStand, had, label_at}
use Rattle.labelled_sinks.specs.Rows.{row_by}
use Rattle.summary_join.specs.Joins.{IsJoined}
use Rattle.summary_join.specs.Pieces.{ArePieces, IsPiece}
use Rattle.summary_join.specs.Runs.{AreOfRun, AreOfRunAfter, CutTrace}
use Rattle.summary_join.specs.UpTo.{IsUpTo, Rise, rows_from}
use Rattle.summary_join.proofs.Asking.{located}
use Rattle.summary_join.proofs.Places.{at_had, label_is, no_labels}

-- ---- the rows of epochs, one epoch after another

module _ (q : Query) (trace : List StepSeen) where
  rows_later : (s : ℕ) (cs : List ℕ) (t : ℕ) → 0 < s → RisesTo s cs t → rows_from q trace s cs ≡ map (row q trace) (sinks_between q trace s (t - s))
  rows_later s [] t pos h =
      let none : 0 ≡ t - s = omega (arith, h) in
      ap (λ (i : ℕ). map (row q trace) (sinks_between q trace s i)) none
  rows_later s (c ∷ cs) t pos h =
      let low : s ≤ c = omega (arith, h.0) in
      ap₂ (λ (x y : List Row). x ++ y) (ap (map (row q trace)) (sinks-later q trace s (c - s) pos)) (rows_later c cs t (omega (arith, h.0)) h.1)
      ∙ sym (ap (map (row q trace)) (sinks-split q trace s c t low (rises_up c cs t h.1))
      ∙ map-append (row q trace) (sinks_between q trace s (c - s)) (sinks_between q trace c (t - c)))

  rows_first : (c : ℕ) (cs : List ℕ) (t : ℕ) → c ≤ t → rows_from q trace c cs ≡ map (row q trace) (sinks_between q trace c (t - c))
      → rows_from q trace 0 (c ∷ cs) ≡ map (row q trace) (sinks_of_epoch q trace 0 t)
  rows_first c cs t high rest =
      let first = points_at_start q 0 in
      let own = sinks_between q trace 0 (c - 0) in
      let later = sinks_between q trace c (t - c) in
      let whole : t - 0 ≡ t = omega arith in
      ap (λ (rs : List Row). map (row q trace) (first ++ own) ++ rs) rest
      ∙ sym (map-append (row q trace) (first ++ own) later)
      ∙ ap (map (row q trace)) (append_assoc first own later
      ∙ ap (λ ks. first ++ ks) (sym (sinks-split q trace 0 c t (omega arith) high) ∙ ap (sinks_between q trace 0) whole))

  rows_all : (n : ℕ) (cuts : List ℕ) → IsCutting n cuts → rows_from q trace 0 cuts ≡ map (row q trace) (sinks_of_epoch q trace 0 n)
  rows_all zero [] h = cc
  rows_all zero (c ∷ []) h =
      let none : c ≡ 0 = cc in
      rows_first c [] 0 (omega (arith, none)) (ap (λ (k : ℕ). map (row q trace) (sinks_between q trace k (0 - k))) (sym none))
  rows_all zero (c ∷ b ∷ cs) h = cc
  rows_all (suc n) [] h = absurd (omega (arith, h))
  rows_all (suc n) (c ∷ cs) h = rows_first c cs (suc n) (rises_up c cs (suc n) h.1) (rows_later c cs (suc n) (omega (arith, h.0)) h.1)

  pub rows_of_cutting : (cuts : List ℕ) → IsCutting (length trace) cuts → rows_from q trace 0 cuts ≡ rows_as_written q trace
  rows_of_cutting cuts h = rows_all (length trace) cuts h ∙ sym (ap (map (row q trace)) (sinks-all q trace))

-- the cuts don't fall
rises : (s : ℕ) (cs : List ℕ) (t : ℕ) → RisesTo s cs t → Rise s cs
rises s [] t h = tt
rises s (c ∷ cs) t h = (omega (arith, h.0), rises c cs t h.1)

cutting_rises : (n : ℕ) (cuts : List ℕ) → IsCutting n cuts → Rise 0 cuts
cutting_rises zero cuts h = subst (Rise 0) (sym h) (omega arith, tt)
cutting_rises (suc n) cuts h = rises 0 cuts (suc n) h

-- ---- joined up to a cut

-- at the start there was nothing
pub begun : (run : CutTrace) (es : List Summary) (labels : SourceLabels) (cut : CutLabels) (pieces : List Piece) (sinks : List SinkLabel) → AreOfRun run es
    → ArePieces es cut.asked pieces → cut.labels.items ≡ [] → sinks ≡ [] → IsUpTo run labels cut pieces sinks
begun run es labels cut pieces sinks r h none no_sinks = record {
  in_range = r.in_range;
  located = r.located;
  time = 0;
  cuts = run.cuts;
  later = es;
  up = cutting_rises (length run.trace) run.cuts r.cutting;
  summaries = r.summaries;
  are = h;
  origins_are = λ l k. ap (label_words.means labels) (ap (λ ks. label_at cut.asked ks l) none ∙ no_labels cut.asked l) ∙ (label_laws.of_nothing labels).means;
  rows = ap (λ (ks : List SinkLabel). map (row_by labels) ks ++ rows_from run.query run.trace 0 run.cuts) no_sinks ∙ rows_of_cutting run.query run.trace run.cuts r.cutting;
}

-- after the first epoch the labels of its locations stand
all_stand : (first : FirstEpoch) (ls : List Loc) → AllByRecursion IsLocation ls → AllByRecursion (label_words.stands first.labels) (map (kept first.places) ls)
all_stand first [] a = tt
all_stand first (l ∷ ls) a = (first.standing.at l a.0, all_stand first ls a.1)

pub ends_stand : (first : FirstEpoch) (ls : List Loc) → All IsLocation ls → AllStand first.labels (map (kept first.places) ls)
ends_stand first ls a = All-from_recursion (label_words.stands first.labels) (map (kept first.places) ls) (all_stand first ls (recursion_from_All IsLocation ls a))

-- they have what was found
module _ (run : CutTrace) (es : List Summary) (first : FirstEpoch) (cut : CutLabels) (pieces : List Piece) (r : AreOfRunAfter run (found_of first) es) where
  first_rows : map (row_by first.labels) first.sinks.items ++ rows_from run.query run.trace r.past_first r.later ≡ rows_as_written run.query run.trace
  first_rows =
      let q = run.query in
      let trace = run.trace in
      let own : r.past_first ≡ r.past_first - 0 = omega arith in
      ap (λ (rs : List Row). rs ++ rows_from q trace r.past_first r.later) (r.first_found.rows ∙ ap (λ (n : ℕ). map (row q trace) (sinks_of_epoch q trace 0 n)) own)
      ∙ ap (rows_from q trace 0) (sym r.cuts_are)
      ∙ rows_of_cutting q trace run.cuts r.cutting

  pub begun_after : ArePieces es cut.asked pieces → All IsLocation cut.asked → cut.labels.items ≡ map (kept first.places) cut.asked
      → IsUpTo run first.labels cut pieces first.sinks.items
  begun_after h at_locations labels =
      let rise : Rise 0 (r.past_first ∷ r.later) = subst (Rise 0) r.cuts_are (cutting_rises (length run.trace) run.cuts r.cutting) in
      record {
        in_range = r.in_range;
        located = r.located;
        time = r.past_first;
        cuts = r.later;
        later = es;
        up = rise.1;
        summaries = r.summaries;
        are = h;
        origins_are = λ l k.
            ap (λ ks. label_words.means first.labels (label_at cut.asked ks l)) labels
            ∙ ap (label_words.means first.labels) (label_is (kept first.places) cut.asked l k)
            ∙ r.first_found.ends l (at_had IsLocation cut.asked l (recursion_from_All IsLocation cut.asked at_locations) k);
        rows = first_rows;
      }

-- where two functions give the same for all in a list, they do for each that it has
same_at : (f g : Loc → List SourceByte) (ls : List Loc) → map f ls ≡ map g ls → AllByRecursion (λ l. f l ≡ g l) ls
same_at f g [] e = tt
same_at f g (l ∷ ls) e =
    let first : f l ≡ g l = cc in
    let rest : map f ls ≡ map g ls = cc in
    (first, same_at f g ls rest)

empty_push : {X : Type 0} {A : Type 0} (xs : List X) (x : X) → xs ++ x ∷ [] ≡ [] → A
empty_push xs x e = let long = length_push xs x in let none : length (xs ++ x ∷ []) ≡ 0 = ap length e in absurd (omega (arith, long, none))

-- one epoch more
module _ (run : CutTrace) (in_range : All IsInRange run.trace) (at_locations : AreLocated run.query.points)
    (old new : SourceLabels) (cut next : CutLabels) (p : Piece) (rest : List Piece) (sinks all : List SinkLabel) where
  up_to_next : (s : ℕ) (cs : List ℕ) (later : List Summary) → Rise s cs → AreSummaries run.query run.trace s cs later → ArePieces later cut.asked (rest ++ p ∷ [])
      → ((l : Loc) → has loc_cmp l cut.asked ≡ true → had old cut l ≡ origins (policy_of run.query) run.trace s l)
      → map (row_by old) sinks ++ rows_from run.query run.trace s cs ≡ rows_as_written run.query run.trace
      → IsJoined old cut p sinks new next all → IsUpTo run new next rest all
  up_to_next s cs [] up a h o r j = empty_push rest p h.1
  up_to_next s [] (e ∷ es) up a h o r j = absurd a
  up_to_next s (c ∷ cs) (e ∷ es) up a h o r j =
      let q = run.query in
      let trace = run.trace in
      let steps = recursion_from_All IsInRange trace in_range in
      let points = recursion_from_All (λ (x : InnerSink). IsLocation x.loc) q.points at_locations in
      let same = same_from_push rest h.0 p h.1 h.2 in
      let piece : IsPiece e cut.asked p = subst (IsPiece e cut.asked) (sym same.1) h.3 in
      let are : ArePieces es p.requests rest = subst (λ (ps : List Piece). ArePieces es p.requests ps) (sym same.0) (subst (λ (x : Piece). ArePieces es x.requests h.0) (sym same.1) h.4) in
      let before = had old cut in
      let known = epoch_known q trace s before c e a.0 up.0 points p.requests (located q trace steps points c cs es p.requests rest a.1 are)
      (all_had (λ l. before l ≡ origins (policy_of q) trace s l) (wanted e p.requests) (λ l k. o l (piece.wants l ∙ k))) in
      record {
        in_range = in_range;
        located = at_locations;
        time = c;
        cuts = cs;
        later = es;
        up = up.1;
        summaries = a.1;
        are = subst (λ (ls : List Loc). ArePieces es ls rest) (sym j.asked) are;
        origins_are = λ l k.
            let asked : has loc_cmp l p.requests ≡ true = sym (ap (has loc_cmp l) j.asked) ∙ k in
            j.ends l asked
            ∙ ap (λ (x : Summary). resolved before (x.ends l)) piece.summary
            ∙ at_had (λ l. resolved before (e.ends l) ≡ origins (policy_of q) trace c l) p.requests l (same_at (λ l. resolved before (e.ends l)) (origins (policy_of q) trace c) p.requests known.1) asked;
        rows = ap (λ (rs : List Row). rs ++ rows_from q trace c cs) (j.rows ∙ ap (λ (rs : List Row). map (row_by old) sinks ++ rs) (ap (λ (x : Summary). rows_of x before) piece.summary ∙ known.0))
            ∙ append_assoc (map (row_by old) sinks) (map (row q trace) (sinks_of_epoch q trace s (c - s))) (rows_from q trace c cs)
            ∙ r;
      }

pub joined_next : (run : CutTrace) (old new : SourceLabels) (cut next : CutLabels) (p : Piece) (pieces rest : List Piece) (sinks all : List SinkLabel)
    → pieces ≡ rest ++ p ∷ [] → IsUpTo run old cut pieces sinks → IsJoined old cut p sinks new next all → IsUpTo run new next rest all
joined_next run old new cut next p pieces rest sinks all is u j =
    up_to_next run u.in_range u.located old new cut next p rest sinks all
    u.time u.cuts u.later u.up u.summaries (subst (ArePieces u.later cut.asked) is u.are) u.origins_are u.rows j

-- no epoch is left
none_left : (q : Query) (trace : List StepSeen) (s : ℕ) (cs : List ℕ) (later : List Summary) (asked : List Loc) → AreSummaries q trace s cs later → ArePieces later asked [] → rows_from q trace s cs ≡ []
none_left q trace s [] later asked a h = refl
none_left q trace s (c ∷ cs) [] asked a h = absurd a
none_left q trace s (c ∷ cs) (e ∷ es) asked a h = empty_push h.0 h.1 (sym h.2)

pub joined_whole : (run : CutTrace) (labels : SourceLabels) (cut : CutLabels) (pieces : List Piece) (sinks : List SinkLabel) → pieces ≡ [] → IsUpTo run labels cut pieces sinks
    → map (row_by labels) sinks ≡ rows_as_written run.query run.trace
joined_whole run labels cut pieces sinks none u =
    let left = none_left run.query run.trace u.time u.cuts u.later cut.asked u.summaries (subst (ArePieces u.later cut.asked) none u.are) in
    sym (append-nil (map (row_by labels) sinks)) ∙ sym (ap (λ (rs : List Row). map (row_by labels) sinks ++ rs) left) ∙ u.rows
