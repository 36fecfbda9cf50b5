use Rattle.std.proofs.Common.{◌≡◌, ◌+◌, ◌++◌, [], ◌∷◌, List, ap, sym, ◌∙◌, subst, get_or, drop, append_assoc, arith}
use Rattle.std.proofs.lemmas.List.{drop_all, drop_more}
use Rattle.lists.specs.Sets.{Ascends, has}
use Rattle.flow_model.specs.Orders.{source_cmp}
use Rattle.source_runs.specs.declared.runs.SourceRun.{SourceRun}
use Rattle.source_runs.specs.Runs.{all_bytes, AreLongest}
use Rattle.source_runs.proofs.Joined.{joined_from, joined_all, next_joined, next_apart, joined_all_members, joined_all_ascends, joined_all_longest}
use Rattle.source_runs.proofs.joining.join_neighbours.Goals as goal
use Rattle.source_runs.proofs.joining.join_neighbours.Goals.{In_ok-push-2, then-touches, else-touches+in_ok-push}

abbrev none : SourceRun
none = record { channel = 0; first = 0; last = 0 }

pub loop-run-init : goal.loop-run-init
loop-run-init c =
    ap (λ (rs : List SourceRun). rs ++ joined_from c.in-Some.first.now c.in-Some.more.now) c.requires
    ∙ ap joined_all (sym c.in-Some.ensures.cases.0)

pub loop-run-preserved : goal.loop-run-preserved
loop-run-preserved c =
    let more = c.in-Some.more.now in
    let index = c.loop-run.run-index in
    let joined = c.loop-run.joined.items in
    let current = c.loop-run.current in
    let run = get_or more index none in
    let rest = drop (index + 1) more in
    let before : joined ++ joined_from current (run ∷ rest) ≡ joined_all c.args.runs.now =
    ap (λ (rs : List SourceRun). joined ++ joined_from current rs) (sym (drop_more more index none c.loop-run-test.true)) ∙ c.loop-run.invariant in
    elim c.if-touches.branch [
      | then-touches w ↦
          rw (w.joined-is, w.current-is)
          (ap (λ (r : SourceRun). joined ++ joined_from r rest) w.hull-current.ensures
          ∙ ap (λ (rs : List SourceRun). joined ++ rs) (sym (next_joined current run rest (sym c.touches.ensures ∙ w.if-touches.true))) ∙ before)
      | else-touches+in_ok-push w ↦
          rw (w.joined-is, w.current-is)
          (ap (λ (rs : List SourceRun). rs ++ joined_from run rest) w.in_ok-push.ensures.items ∙ append_assoc joined (current ∷ []) (joined_from run rest)
          ∙ ap (λ (rs : List SourceRun). joined ++ rs) (sym (next_apart current run rest (sym c.touches.ensures ∙ w.if-touches.false))) ∙ before)
    ]

-- with the last run pushed, all are joined
all_joined : (c : In_ok-push-2) → c.push-2.new.self.items ≡ joined_all c.args.runs.now
all_joined c =
    let joined = c.loop-run.joined.items in
    let current = c.loop-run.current in
    c.in_ok-push-2.ensures.items
    ∙ ap (λ (rs : List SourceRun). joined ++ joined_from current rs) (sym (drop_all c.loop-run.run-index c.in-Some.more.now (omega (arith, c.loop-run-test.false))))
    ∙ c.loop-run.invariant

pub returns-clause-members : goal.returns-clause-members
returns-clause-members c b = ap (λ (rs : List SourceRun). has source_cmp b (all_bytes rs)) (all_joined c) ∙ joined_all_members c.args.runs.now b

pub returns-clause-ascending : goal.returns-clause-ascending
returns-clause-ascending c rising =
    subst (λ (rs : List SourceRun). Ascends source_cmp (all_bytes rs)) (sym (all_joined c)) (joined_all_ascends c.args.runs.now rising)

pub returns-clause-longest : goal.returns-clause-longest
returns-clause-longest c rising = subst AreLongest (sym (all_joined c)) (joined_all_longest c.args.runs.now rising)
