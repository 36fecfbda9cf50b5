use Rattle.std.proofs.Common.{◌≡◌, ◌++◌, ◌||◌, [], ap, ◌∙◌, List}
use Rattle.std.proofs.lemmas.Result.{on_ok_weaker}
use Rattle.flow_model.specs.declared.SourceByte.{SourceByte}
use Rattle.flow_model.specs.Orders.{source_cmp}
use Rattle.lists.specs.Sets.{has}
use Rattle.answer_sets.proofs.Members.{ascends_by, compared}
use Rattle.answer_sets.proofs.Gathering.{waiting_more, none_waits}
use Rattle.answer_sets.proofs.resolving.Gathered.add.Goals as goal

pub merge-requires : goal.merge-requires
merge-requires c = rw c.deref.ensures.value (ascends_by _ c.ascend.ensures.ascending)

pub returns : goal.returns
returns c =
    let merged = c.self.inside.merged.items in
    let waiting = c.self.inside.waiting.items in
    let set = c.deref.result.now in
    let all = c.replace-waiting.result.items in
    let is : all ≡ waiting ++ c.args.bytes.now = ap (λ v. v.items) c.replace-waiting.ensures.value ∙ c.in_ok-extend_from_slice.ensures.items in
    let none = c.replace-waiting.new.dest.items in
    let emptied : none ≡ [] = ap (λ v. v.items) c.replace-waiting.ensures.after ∙ c.new.ensures.items in
    let members : (x : SourceByte) → has compared x set ≡ has compared x all = λ x. ap (has compared x) c.deref.ensures.value ∙ c.ascend.ensures.members x in
    let more : ((b : SourceByte) → has source_cmp b c.merge.new.self ≡ (has source_cmp b (merged ++ none) || has source_cmp b set))
    → (b : SourceByte) → has source_cmp b c.merge.new.self ≡ (has source_cmp b (merged ++ waiting) || has source_cmp b c.args.bytes.now)
    = λ h b. h b ∙ none_waits merged none all set emptied members b ∙ ap (λ (xs : List SourceByte). has source_cmp b (merged ++ xs)) is ∙ waiting_more merged waiting c.args.bytes.now b in
    rw (← c.self.view_is) (on_ok_weaker _ more c.merge.ensures)
