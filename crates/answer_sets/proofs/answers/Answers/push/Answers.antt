use Rattle.std.proofs.Common.{List, [], ◌∷◌, ◌++◌, ap, ◌∙◌, arith}
use Rattle.flow_model.specs.declared.SourceByte.{SourceByte}
use Rattle.answer_sets.proofs.Kept.{set_noted, answer_noted, answers_grown}
use Rattle.answer_sets.proofs.answers.Answers.push.Goals as goal

pub invariant_of-self-in_err-push-3 : goal.invariant_of-self-in_err-push-3
invariant_of-self-in_err-push-3 c =
    set_noted (λ set. set.items) c.self.inside.sets.items c.push-2.new.self.items c.args.set c.in_ok-push-2.ensures.items c.self.inside.numbers.items c.self.invariant
    c.push-3.new.self.items c.in_err-push-3.ensures.items

pub invariant_of-self-2 : goal.invariant_of-self-2
invariant_of-self-2 c =
    answer_noted (λ set. set.items) c.self.inside.sets.items c.push-2.new.self.items c.args.set c.in_ok-push-2.ensures.items c.self.inside.numbers.items c.self.invariant
    c.len-number.result c.push-3.new.self.items (omega (arith, c.len-number.ensures, c.self.inside.sets.ok)) c.in_ok-push-3.ensures.items c.requires

pub returns : goal.returns
returns c =
    answers_grown (λ set. set.items) c.self.inside.sets.items c.push-2.new.self.items c.args.set c.in_ok-push-2.ensures.items c.self.inside.numbers.items c.self.invariant
    c.len-number.result c.push-3.new.self.items (omega (arith, c.len-number.ensures, c.self.inside.sets.ok)) c.in_ok-push-3.ensures.items
    ∙ ap (λ (sets : List (List SourceByte)). sets ++ c.args.set.items ∷ []) c.self.view_is
