-- Which bytes choices choose.
use Rattle.std.proofs.Common.{◌≡◌, ℕ, List, [], ◌∷◌, refl, ap, sym, ◌∙◌, Bool, true, false}
use Rattle.std.specs.Prelude.{map, ◌||◌, ◌&&◌}
use Rattle.std.specs.List.{list_any}
use Rattle.report_model.specs.Query.{chooses, is_channel, is_within}
use Rattle.query_lang.specs.declared.choice.Span.{Span}
use Rattle.query_lang.specs.Choices.{choices_of, span_choice, SameChoices}
use Rattle.query_lang.specs.Spans.{span_has, SameBytes}

or_nothing : (a b : Bool) → (a || b) ≡ ((a || false) || b)
or_nothing true b = refl
or_nothing false b = refl

pub spans_choose : (spans : List Span) (c o : ℕ) → chooses (map span_choice spans) c o ≡ list_any (span_has c o) spans
spans_choose [] c o = refl
spans_choose (s ∷ spans) c o =
    or_nothing (is_channel (span_choice s).channel c && is_within (span_choice s).offsets o) (chooses (map span_choice spans) c o) ∙ ap (λ (b : Bool). span_has c o s || b) (spans_choose spans c o)

pub chosen_is : (all : Bool) (spans : List Span) (c o : ℕ) → chooses (choices_of all spans) c o ≡ (all || list_any (span_has c o) spans)
chosen_is true spans c o = refl
chosen_is false spans c o = spans_choose spans c o

pub same_choices : (all : Bool) (xs ys : List Span) → SameBytes xs ys → SameChoices (choices_of all xs) (choices_of all ys)
same_choices all xs ys h c o = chosen_is all xs c o ∙ ap (λ (b : Bool). all || b) (h c o) ∙ sym (chosen_is all ys c o)
