-- What is true of nodes that turns led on: who is broken stays broken, who is done stays done, and the count of events
-- doesn't fall.
use Rattle.std.proofs.Common.{◌≡◌, ◌⊎◌, inl, inr, ℕ, ◌-◌, ◌^◌, ◌<◌, ◌≤◌, List, [], ◌∷◌, refl, ap, sym, ◌∙◌, Bool, true, false, arith}
use Rattle.std.specs.Prelude.{Option}
use Rattle.std.proofs.lemmas.Bool.{cases_lt}
use Rattle.lists.proofs.Tests.{true-false}
use Rattle.flow_model.specs.declared.Message.{Message}
use Rattle.sink_collect.specs.Pairs.{capped}
use Rattle.stream_model.specs.Passes.{Asking as AskingState, Answering as AnsweringState}
use Rattle.stream_model.proofs.Passing.{begun_whole}
use Rattle.stream_model.proofs.Moves.{whole_asking_before}
use Rattle.run_board.specs.declared.task.Turn.{Turn}
use Rattle.run_board.specs.declared.task.Turn.TheVariants as turn
use Rattle.backward_pass.specs.Backward.{knows, state}
use Rattle.forward_pass.specs.Forward.{known_by, fore_state}
use Rattle.epoch_node.specs.declared.stage.Phase.{Phase}
use Rattle.epoch_node.specs.declared.stage.Phase.TheVariants as phase
use Rattle.epoch_node.specs.Cores.{CoreSetup, StageView, Fresh, Asking, Answering, Done, Between, phase_of, whole_at}
use Rattle.epoch_node.specs.Events.{settled_by, answered_by, Steps, counted, one_more}
use Rattle.epoch_node.specs.Nodes.{NodeView, Progress, progress_of, HasEvents, HasMoved, IsLedFrom, BrokenStays, DoneStays}

-- ---- what events keep

-- a core that is whole after an event was whole before it
whole_before : (i : CoreSetup) (s next : StageView) (got sent got' sent' : Option (List Message)) (answer : Turn) → Steps i s got sent next got' sent' answer → whole_at next ≡ true → whole_at s ≡ true
whole_before i (Fresh t) next got sent got' sent' answer x w = refl
whole_before i (Asking v) next got sent got' sent' answer x w =
    whole_asking_before v.first (knows v) x.happens.links (state v got sent) (ap (λ (a : AskingState). a.is_whole) (sym x.happens.is) ∙ by x.back.over (ap whole_at (sym x.is) ∙ w)) where
      by : (over : Bool) → whole_at (settled_by over i x.back) ≡ true → x.back.whole ≡ true
      by true w = w
      by false w = w
whole_before i (Answering f) next got sent got' sent' answer x w =
    begun_whole (known_by f) f.asked (x.happens.links ∷ []) (fore_state f got sent) (ap (λ (a : AnsweringState). a.is_whole) (sym x.happens.is) ∙ by x.fore.over (ap whole_at (sym x.is) ∙ w)) where
      by : (over : Bool) → whole_at (answered_by over x.fore) ≡ true → x.fore.whole ≡ true
      by true w = w
      by false w = w
whole_before i (Done f) next got sent got' sent' answer x w = ap whole_at (sym x.is) ∙ w
whole_before i Between next got sent got' sent' answer x w = absurd x

whole_at_first : (old new : Progress) (between : List Progress) → HasEvents old between new → whole_at new.core.stage ≡ true → whole_at old.core.stage ≡ true
whole_at_first old new [] h w = ap (λ (p : Progress). whole_at p.core.stage) (sym h) ∙ w
whole_at_first old new (next ∷ later) h w =
    whole_before old.core.setup old.core.stage next.core.stage _ _ _ _ h.0.answer h.0.event.steps (whole_at_first next new later h.1 w)

pub broken_stays : BrokenStays
broken_stays new old led broken = by (whole_at new.core.stage) refl where
  by : (whole : Bool) → whole_at new.core.stage ≡ whole → whole_at new.core.stage ≡ false
  by true w = true-false (sym (whole_at_first (progress_of old) (progress_of new) led.came.0 led.came.1 w) ∙ broken)
  by false w = w

-- a core that is done stays as it is
done_after : (i : CoreSetup) (s next : StageView) (got sent got' sent' : Option (List Message)) (answer : Turn) → Steps i s got sent next got' sent' answer → phase_of s ≡ phase.Done → phase_of next ≡ phase.Done
done_after i (Done f) next got sent got' sent' answer x d = ap phase_of x.is
done_after i Between next got sent got' sent' answer x d = absurd x
done_after i s next got sent got' sent' answer x d = cc

done_at_last : (old new : Progress) (between : List Progress) → HasEvents old between new → phase_of old.core.stage ≡ phase.Done → phase_of new.core.stage ≡ phase.Done
done_at_last old new [] h d = ap (λ (p : Progress). phase_of p.core.stage) h ∙ d
done_at_last old new (next ∷ later) h d =
    done_at_last next new later h.1 (done_after old.core.setup old.core.stage next.core.stage _ _ _ _ h.0.answer h.0.event.steps d)

pub done_stays : DoneStays
done_stays new old led done = done_at_last (progress_of old) (progress_of new) led.came.0 led.came.1 done

-- ---- how many events moved

counted_on : (answer : Turn) (p : Phase) (events : ℕ) → capped events ≤ counted answer p events
counted_on turn.Done phase.Fresh events = omega arith
counted_on answer p events = omega arith

counts_on : (old new : Progress) (between : List Progress) → HasEvents old between new → capped old.core.events ≤ new.core.events
counts_on old new [] h = let same : new.core.events ≡ old.core.events = ap (λ (p : Progress). p.core.events) h in omega (arith, same)
counts_on old new (next ∷ later) h =
    let one = counted_on h.0.answer (phase_of old.core.stage) old.core.events in
    omega (arith, one, h.0.event.count, counts_on next new later h.1)

-- no event takes from the count
pub led_counts : (new old : NodeView) → IsLedFrom new old → capped old.core.events ≤ new.core.events
led_counts new old led = counts_on (progress_of old) (progress_of new) led.came.0 led.came.1

-- what moved before or later has moved
pub moved_then : (a b c : NodeView) → HasMoved b a → IsLedFrom c b → HasMoved c a
moved_then a b c m led = λ less. let before = m less in omega (arith, less, before, led_counts c b led)

pub then_moved : (a b c : NodeView) → IsLedFrom b a → IsLedFrom c b → HasMoved c b → HasMoved c a
then_moved a b c f g m = λ less. by (cases_lt b.core.events (2 ^ 64 - 1)) less where
  by : (b.core.events < 2 ^ 64 - 1) ⊎ (2 ^ 64 - 1 ≤ b.core.events) → a.core.events < 2 ^ 64 - 1 → a.core.events < c.core.events
  by (inl h) less = let after = m h in omega (arith, less, after, led_counts b a f)
  by (inr h) less = omega (arith, less, h, led_counts c b g)

pub moved_one : (a b c : NodeView) → IsLedFrom b a → c.core.events ≡ one_more b.core.events → HasMoved c a
moved_one a b c led e = λ less. omega (arith, less, e, led_counts b a led)
