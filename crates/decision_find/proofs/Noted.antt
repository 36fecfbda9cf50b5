-- The decisions that are noted, one location after another.
use Rattle.std.proofs.Common.{◌≡◌, List, ◌++◌, map, ap, sym, ◌∙◌, subst, append_assoc}
use Rattle.std.specs.List.{filter}
use Rattle.std.proofs.lemmas.List.{map-append}
use Rattle.std.proofs.lemmas.List.Elements.{filter-append}
use Rattle.flow_model.specs.declared.Loc.{Loc}
use Rattle.flow_model.specs.declared.SourceByte.{SourceByte}
use Rattle.taint_shadow.specs.declared.places.Places.{Places}
use Rattle.taint_shadow.specs.Steps.{AreStanding, Holds}
use Rattle.taint_shadow.proofs.Meaning.{keeps_then, holds_kept}
use Rattle.decision_find.specs.Decisions.{Decision, is_some_byte}
use Rattle.decision_find.specs.declared.looks.Look.{Look}
use Rattle.decision_find.specs.declared.tracking.DecisionTracking.{DecisionTracking}
use Rattle.source_labels.specs.Words.{label_words}
use Rattle.decision_find.specs.Looks.{decision_of, listed}
use Rattle.decision_find.specs.Groups.{AreGroups}
use Rattle.decision_find.specs.Following.{Notes}

pub listed-append : (look : Look) (f : Loc → List SourceByte) (ls ms : List Loc) → listed look f (ls ++ ms) ≡ listed look f ls ++ listed look f ms
listed-append look f ls ms =
    ap (filter (λ d. is_some_byte d.sources)) (map-append (decision_of look f) ls ms)
    ∙ filter-append (λ d. is_some_byte d.sources) (map (decision_of look f) ls) (map (decision_of look f) ms)

-- some locations, and then some more
pub noted_then : (look : Look) (ls ms : List Loc) (a b c : DecisionTracking) → AreStanding label_words a.labels a.places → Notes look ls a b → Notes look ms b c → Notes look (ls ++ ms) a c
noted_then look ls ms a b c standing first second = record {
  keeps = keeps_then label_words a.labels b.labels c.labels first.keeps second.keeps;
  rest = second.rest ∙ ap (λ (t : DecisionTracking). record t { labels = c.labels; groups = c.groups }) first.rest;
  groups = λ f ds holds h.
      let same : b.places ≡ a.places = ap (λ (t : DecisionTracking). t.places) first.rest in
      let later = subst (λ (p : Places). Holds label_words b.labels p f) (sym same) (holds_kept label_words a.labels b.labels a.places f first.keeps standing holds) in
      let both = second.groups f (ds ++ listed look f ls) later (first.groups f ds holds h) in
      subst (λ (xs : List Decision). AreGroups c.labels xs c.groups) (append_assoc ds (listed look f ls) (listed look f ms) ∙ ap (λ (xs : List Decision). ds ++ xs) (sym (listed-append look f ls ms))) both;
}
