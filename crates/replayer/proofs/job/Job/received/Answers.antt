use Rattle.std.proofs.Common.{◌≡◌, ◌+◌, ◌≤◌, List, length, take, arith, ap, ◌∙◌, subst}
use Rattle.std.proofs.lemmas.List.{take_all}
use Rattle.log_model.specs.declared.CallRecord.{CallRecord}
use Rattle.log_model.specs.Moved.{received, received_by}
use Rattle.replay_model.proofs.Received.{none_received}
use Rattle.replayer.specs.Jobs.{Job, IsJob}
use Rattle.replayer.proofs.Summaries.{next_within, received_small}
use Rattle.replayer.proofs.job.Job.received.Goals as goal

pub overflow_add-count : goal.overflow_add-count
overflow_add-count c =
    let job : IsJob c.args.self.now = subst IsJob c.self.view_is c.self.invariant.is_job in
    let items : c.records-call-items.result.now ≡ c.args.self.now.log.records = c.records-call-items.ensures ∙ ap (λ (j : Job). j.log.records) c.self.view_is in
    let next = next_within (received_by c.args.channel) c.records-call-items.result.now c.loop-call.call-index c.call-item.result c.loop-call-test.true c.call-item.is in
    let here = subst (λ (rs : List CallRecord). length (received c.args.channel (take c.loop-call.call-index rs)) + length (received_by c.args.channel c.call-item.result) ≤ length (received c.args.channel rs)) items next in
    omega (arith, here, c.loop-call.invariant, c.received_on-count.ensures, received_small c.args.self.now c.args.channel job)

pub overflow_cast-result : goal.overflow_cast-result
overflow_cast-result c =
    let job : IsJob c.args.self.now = subst IsJob c.self.view_is c.self.invariant.is_job in
    let items : c.records-call-items.result.now ≡ c.args.self.now.log.records = c.records-call-items.ensures ∙ ap (λ (j : Job). j.log.records) c.self.view_is in
    let all : take c.loop-call.call-index c.args.self.now.log.records ≡ c.args.self.now.log.records = take_all c.loop-call.call-index c.args.self.now.log.records (omega (arith, c.loop-call-test.false, ap length items)) in
    omega (arith, c.loop-call.invariant, ap (λ (rs : List CallRecord). length (received c.args.channel rs)) all, received_small c.args.self.now c.args.channel job)

pub returns-clause-none : goal.returns-clause-none
returns-clause-none c above =
    let job : IsJob c.args.self.now = subst IsJob c.self.view_is c.self.invariant.is_job in
    let items : c.records-call-items.result.now ≡ c.args.self.now.log.records = c.records-call-items.ensures ∙ ap (λ (j : Job). j.log.records) c.self.view_is in
    let all : take c.loop-call.call-index c.args.self.now.log.records ≡ c.args.self.now.log.records = take_all c.loop-call.call-index c.args.self.now.log.records (omega (arith, c.loop-call-test.false, ap length items)) in
    let none = none_received c.args.self.now.start c.args.self.now.log job.form job.agrees c.args.channel above in
    omega (arith, c.loop-call.invariant, ap (λ (rs : List CallRecord). length (received c.args.channel rs)) all, ap length none)
