-- What was gathered of several queries, once none is left.
use Rattle.std.proofs.Common.{◌≡◌, ℕ, ◌+◌, ◌<◌, ◌≤◌, List, ◌++◌, length, drop, get_or, ap, sym, ◌∙◌}
use Rattle.std.specs.List.{flat_map}
use Rattle.std.proofs.lemmas.List.{append-nil, append_assoc, drop_more}
use Rattle.std.proofs.lemmas.List.Concat.{flat_map-cons}
use Rattle.std.proofs.Math.ListN.{drop_of_length-le}
use Rattle.lists.specs.Sets.{set_of}
use Rattle.flow_model.specs.declared.Rule.{Rule}
use Rattle.flow_model.specs.declared.InnerSink.{InnerSink}
use Rattle.flow_model.specs.Orders.{inner_cmp}
use Rattle.report_model.specs.Query.{Choice, Query, Alike, chooses}
use Rattle.report_model.specs.Together.{together, first_rule}
use Rattle.query_lang.specs.declared.chosen.Selection.{Selection}
use Rattle.query_lang.specs.Choices.{SameChoices}
use Rattle.query_lang.specs.Drafts.{choices_in, query_by}
use Rattle.query_lang.proofs.ParseLemmas.{chosen_more}

-- ---- one query more

-- of the queries that are left, the first and those after it
from_here : {X : Type 0} (f : Query → List X) (qs : List Query) (i : ℕ) (q : Query) → i < length qs → q ≡ get_or qs i q → flat_map f (drop i qs) ≡ f q ++ flat_map f (drop (i + 1) qs)
from_here f qs i q below is = rw (drop_more qs i q below, ← is) (flat_map-cons f q (drop (i + 1) qs))

pub chosen_on : (f : Query → List Choice) (qs : List Query) (i : ℕ) (q : Query) (before after : List Choice) → i < length qs → q ≡ get_or qs i q
    → SameChoices after (before ++ f q) → SameChoices (before ++ flat_map f (drop i qs)) (flat_map f qs) → SameChoices (after ++ flat_map f (drop (i + 1) qs)) (flat_map f qs)
chosen_on f qs i q before after below is added so_far =
    chosen_more before after (f q) (flat_map f (drop (i + 1) qs)) (flat_map f qs) added (λ c o. rw (from_here f qs i q below is) at (so_far c o))

pub points_on : (qs : List Query) (i : ℕ) (q : Query) (before after : List InnerSink) → i < length qs → q ≡ get_or qs i q
    → after ≡ before ++ q.points → before ++ flat_map (λ p. p.points) (drop i qs) ≡ flat_map (λ p. p.points) qs → after ++ flat_map (λ p. p.points) (drop (i + 1) qs) ≡ flat_map (λ p. p.points) qs
points_on qs i q before after below is added so_far = rw (added, append_assoc) (rw (from_here (λ (p : Query). p.points) qs i q below is) at so_far)

-- ---- no query is left

-- with nothing after it, what was gathered is all
none_left : {X : Type 0} (f : Query → List X) (xs : List X) (qs : List Query) (i : ℕ) → length qs ≤ i → xs ++ flat_map f (drop i qs) ≡ xs
none_left f xs qs i done = ap (λ (rest : List Query). xs ++ flat_map f rest) (drop_of_length-le qs done) ∙ append-nil xs

pub all_gathered : (qs : List Query) (i : ℕ) (rule : Rule) (sources sinks : Selection) (points : List InnerSink) (q : Query)
    → length qs ≤ i → rule ≡ first_rule qs
    → SameChoices (choices_in sources ++ flat_map (λ p. p.sources) (drop i qs)) (flat_map (λ p. p.sources) qs)
    → SameChoices (choices_in sinks ++ flat_map (λ p. p.sinks) (drop i qs)) (flat_map (λ p. p.sinks) qs)
    → points ++ flat_map (λ p. p.points) (drop i qs) ≡ flat_map (λ p. p.points) qs
    → Alike q (query_by rule sources sinks points) → Alike q (together qs)
all_gathered qs i rule sources sinks points q done first from to at a = record {
  rule = a.rule ∙ first;
  sources = λ c o. a.sources c o ∙ ap (λ (xs : List Choice). chooses xs c o) (sym (none_left (λ p. p.sources) (choices_in sources) qs i done)) ∙ from c o;
  sinks = λ c o. a.sinks c o ∙ ap (λ (xs : List Choice). chooses xs c o) (sym (none_left (λ p. p.sinks) (choices_in sinks) qs i done)) ∙ to c o;
  points = a.points ∙ ap (set_of inner_cmp) (sym (none_left (λ p. p.points) points qs i done) ∙ at);
}
