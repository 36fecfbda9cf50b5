-- What is read so far, and what the definition gives for the rest, is what it gives for all.
use Rattle.std.proofs.Common.{◌≡◌, ℕ, ◌+◌, ◌<◌, ◌≤◌, List, [], ◌∷◌, ◌++◌, length, refl, ap, sym, subst, ◌∙◌, Bool, true, false, Bor, arith}
use Rattle.std.specs.Prelude.{Option, Some, None, Err, map, is_some, ◌||◌, ◌&&◌, MatchOption, IfSome}
use Rattle.std.specs.List.{flat_map}
use Rattle.std.proofs.lemmas.List.{append_assoc, append-nil}
use Rattle.std.proofs.lemmas.List.Folds.{list_any-append}
use Rattle.lists.specs.Sets.{set_of}
use Rattle.flow_model.specs.declared.InnerSink.{InnerSink}
use Rattle.flow_model.specs.Orders.{inner_cmp}
use Rattle.report_model.specs.declared.QueryKind.{QueryKind}
use Rattle.report_model.specs.declared.QueryKind.TheVariants.{NoRule}
use Rattle.report_model.specs.Query.{Choice, Query, AreLocated, chooses, is_channel, is_within}
use Rattle.report_model.specs.Grammar.{lines, read_line, read_lines, first_fault, or_later, rule_in, sources_in, sinks_in, points_in, rule_among, query, unless, query_of}
use Rattle.report_model.proofs.Located.{lines_located}
use Rattle.query_lang.specs.declared.draft.Draft.{Draft}
use Rattle.report_model.specs.declared.FaultInQuery.{FaultInQuery}
use Rattle.no_memory.specs.declared.Fault.{Fault}
use Rattle.no_memory.specs.declared.Fault.TheVariants.{At, NoMemory}
use Rattle.no_memory.specs.Faults.{IsCausedBy}
use Rattle.query_lang.specs.Choices.{SameChoices}
use Rattle.query_lang.specs.Drafts.{TakesUp, IsFaultIn, IsFinished, IsUnfinished, choices_in, rule_with}
use Rattle.query_lang.specs.Answers.{StandsFor, IsTold}

-- ---- unions of choices

pub chooses-append : (xs ys : List Choice) (c o : ℕ) → chooses (xs ++ ys) c o ≡ (chooses xs c o || chooses ys c o)
chooses-append xs ys c o = list_any-append (λ (x : Choice). is_channel x.channel c && is_within x.offsets o) xs ys

same_with : (xs ys zs : List Choice) → SameChoices xs ys → SameChoices (xs ++ zs) (ys ++ zs)
same_with xs ys zs h c o = chooses-append xs zs c o ∙ ap (λ (b : Bool). b || chooses zs c o) (h c o) ∙ sym (chooses-append ys zs c o)

-- ---- a draft, and the lines that are left

abbrev pub lines_left : Option (Bor (List ℕ)) → List (List ℕ)
lines_left None = []
lines_left (Some text) = lines text.now

abbrev pub size_left : Option (Bor (List ℕ)) → ℕ
size_left None = 0
size_left (Some text) = length text.now + 1

-- the draft with the lines that are left says what the text does
pub record IsPartOf (text : List ℕ) (number : ℕ) (draft : Draft) (left : List (List ℕ)) : Type 0 where
  pub fault : first_fault (number + 1) (is_some draft.rule) (map read_line left) ≡ first_fault 1 false (read_lines text)
  pub rule : rule_with draft.rule (map read_line left) ≡ rule_among (read_lines text)
  pub sources : SameChoices (choices_in draft.sources ++ flat_map sources_in (map read_line left)) (flat_map sources_in (read_lines text))
  pub sinks : SameChoices (choices_in draft.sinks ++ flat_map sinks_in (map read_line left)) (flat_map sinks_in (read_lines text))
  pub points : draft.points.items ++ flat_map points_in (map read_line left) ≡ flat_map points_in (read_lines text)

pub nothing_read : (text : List ℕ) (draft : Draft) → draft.rule ≡ None → choices_in draft.sources ≡ [] → choices_in draft.sinks ≡ [] → draft.points.items ≡ [] → IsPartOf text 0 draft (lines text)
nothing_read text draft r a b n = record {
  fault = rw r refl;
  rule = rw r refl;
  sources = λ c o. rw a refl;
  sinks = λ c o. rw b refl;
  points = rw n refl;
}

-- what was chosen by a line, and by the lines after it
pub chosen_more : (old new line rest all : List Choice) → SameChoices new (old ++ line) → SameChoices (old ++ (line ++ rest)) all → SameChoices (new ++ rest) all
chosen_more old new line rest all h k c o =
    same_with new (old ++ line) rest h c o ∙ ap (λ (xs : List Choice). chooses xs c o) (append_assoc old line rest) ∙ k c o

pub one_more_line : (text : List ℕ) (number : ℕ) (old new : Draft) (line : List ℕ) (rest : List (List ℕ)) → IsPartOf text number old (line ∷ rest) → TakesUp old (read_line line) new → IsPartOf text (number + 1) new rest
one_more_line text number old new line rest p t = record {
  fault = rw t.after_rule (sym (ap (λ (f : Option QueryKind). or_later (number + 1) f (first_fault (number + 1 + 1) (is_some old.rule || is_some (rule_in (read_line line))) (map read_line rest))) t.clean) ∙ p.fault);
  rule = sym (t.rule (map read_line rest)) ∙ p.rule;
  sources = chosen_more _ _ _ _ _ t.sources p.sources;
  sinks = chosen_more _ _ _ _ _ t.sinks p.sinks;
  points = ap (λ (xs : List InnerSink). xs ++ flat_map points_in (map read_line rest)) t.points ∙ append_assoc old.points.items (points_in (read_line line)) (flat_map points_in (map read_line rest)) ∙ p.points;
}

told_of : (text : List ℕ) (n : ℕ) (kind : QueryKind) → first_fault 1 false (read_lines text) ≡ Some (n, kind) → query text ≡ Err (n, kind)
told_of text n kind e = ap (λ (f : Option (ℕ × QueryKind)). unless f (query_of (read_lines text))) e

pub faulty_line : (text : List ℕ) (number : ℕ) (draft : Draft) (line : List ℕ) (rest : List (List ℕ)) (fault : Fault FaultInQuery) → IsPartOf text number draft (line ∷ rest)
    → IsCausedBy (IsFaultIn (number + 1) draft (read_line line)) fault → IsCausedBy (IsTold text) fault
faulty_line text number draft line rest (At at) p f =
    told_of text at.line at.kind (sym p.fault ∙ ap (λ (g : Option QueryKind). or_later (number + 1) g (first_fault (number + 1 + 1) (is_some draft.rule || is_some (rule_in (read_line line))) (map read_line rest))) f.1 ∙ ap (λ (n : ℕ). Some (n, at.kind)) (sym f.0))
faulty_line text number draft line rest (NoMemory no_memory) p f = tt

pub no_rule_told : (text : List ℕ) (number : ℕ) (draft : Draft) (fault : Fault FaultInQuery) → IsPartOf text number draft [] → IsCausedBy (IsUnfinished draft) fault → IsCausedBy (IsTold text) fault
no_rule_told text number draft (At at) p f =
    let none : is_some draft.rule ≡ false = rw f.0 refl in
    let end : first_fault (number + 1) (is_some draft.rule) [] ≡ Some (0, NoRule) = rw none refl in
    told_of text at.line at.kind (sym p.fault ∙ end ∙ rw (f.1, f.2) refl)
no_rule_told text number draft (NoMemory no_memory) p f = tt

pub all_read : (text : List ℕ) (number : ℕ) (draft : Draft) (q : Query) → IsPartOf text number draft [] → IsFinished draft q → StandsFor text q
all_read text number draft q p f =
    let some : is_some draft.rule ≡ true = rw f.rule refl in
    let end : first_fault (number + 1) (is_some draft.rule) [] ≡ None = rw some refl in
    let rule : rule_with draft.rule [] ≡ q.rule = rw f.rule refl in
    record {
      written = query_of (read_lines text);
      stands = ap (λ (g : Option (ℕ × QueryKind)). unless g (query_of (read_lines text))) (sym p.fault ∙ end);
      alike = record {
        rule = sym rule ∙ p.rule;
        sources = λ c o. f.alike.sources c o ∙ ap (λ (xs : List Choice). chooses xs c o) (sym (append-nil (choices_in draft.sources))) ∙ p.sources c o;
        sinks = λ c o. f.alike.sinks c o ∙ ap (λ (xs : List Choice). chooses xs c o) (sym (append-nil (choices_in draft.sinks))) ∙ p.sinks c o;
        points = f.alike.points ∙ ap (set_of inner_cmp) (sym (append-nil draft.points.items) ∙ p.points);
      };
    }

pub all_located : (text : List ℕ) (number : ℕ) (draft : Draft) → IsPartOf text number draft [] → AreLocated draft.points.items
all_located text number draft p = subst AreLocated (sym p.points ∙ append-nil draft.points.items) (lines_located text)

-- ---- a line that is split off

pub lines_split : (text line : List ℕ) (after : Option (Bor (List ℕ))) → MatchOption after (lines text ≡ line ∷ []) (λ b. lines text ≡ line ∷ lines b.now) → lines text ≡ line ∷ lines_left after
lines_split text line None e = e
lines_split text line (Some b) e = e

pub less_left : (n : ℕ) (after : Option (Bor (List ℕ))) → IfSome after (λ b. length b.now < n) → size_left after ≤ n
less_left n None h = omega arith
less_left n (Some b) h = omega arith
