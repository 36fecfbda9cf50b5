use Rattle.std.proofs.Common.{◌≡◌, ◌≤◌, ◌<◌, ℕ, Vec, length, map, take, get_or, reverse}
use Rattle.std.specs.declared.alloc.Global.{Global}
use Rattle.run_output.specs.Stack.{calls_after, stack_text}
use Rattle.run_output.proofs.stacks.texts_at.Given as goal

-- the texts so far, and a cursor that is past none of the times to come
abbrev pub invariant-loop-time : goal.invariant-loop-time
invariant-loop-time l = record {
  same_job : l.cursor.job ≡ l.job;
  ahead : (k : ℕ) → l.time-index ≤ k → k < length l.times → l.cursor.time ≤ get_or l.times k 0;
  calls : reverse l.calls.items ≡ calls_after l.job.start l.job.log l.cursor.time;
  texts : map (λ (text : Vec ℕ Global). text.items) l.texts.items ≡ map (stack_text l.job.start l.job.log) (take l.time-index l.times);
}
