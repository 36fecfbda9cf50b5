-- Rounds of a line.
use Rattle.std.proofs.Common.{◌≡◌, ◌⊎◌, inl, inr, ℕ, zero, suc, ◌<◌, ◌≤◌, List, [], ◌∷◌, length, refl, ap, sym, ◌∙◌, Bool, true, false, arith}
use Rattle.std.specs.Prelude.{Option, Some, None, is_none}
use Rattle.std.proofs.lemmas.Bool.{cases_lt}
use Rattle.lists.proofs.Tests.{true-false}
use Rattle.flow_model.specs.declared.Message.TheVariants.{End}
use Rattle.epoch_cut.specs.Numbered.{NumberedEpoch}
use Rattle.stream_model.specs.Schedules.{Phase, NodeState, moves_at, is_done}
use Rattle.stream_model.proofs.NeverStill.{AllDone, Moves, goes_on}
use Rattle.epoch_node.specs.declared.stage.Phase.TheVariants as phase
use Rattle.epoch_node.specs.Cores.{CoreSetup, StageView, Fresh, Asking, Answering, Done, Between, CoreView, phase_of}
use Rattle.epoch_node.specs.Keeping.{AtStage}
use Rattle.epoch_layout.specs.Layouts.{epochs_of}
use Rattle.jet_core.specs.declared.joints.Joint.{Joint}
use Rattle.jet_core.specs.Joints.{Link, got_on, sent_on, traffic_between}
use Rattle.jet_core.specs.Turns.{TurnsAt}
use Rattle.jet_core.specs.Lines.{Plan, AreDone, AllStand, IsLineOf}
use Rattle.jet_core.specs.Streams.{AreParts}
use Rattle.jet_core.specs.Left.{phase_in, row_left, states, work_left}
use Rattle.jet_core.proofs.Parts.{IsSource}
use Rattle.jet_core.proofs.Standing.{turn_stands}
use Rattle.jet_core.proofs.Neighbours.{ComesBefore, nodes_hold}
use Rattle.jet_core.proofs.Turned.{IsAnswered, LineTurned, turned}

-- ---- one event

pub line_on : (p : Plan) (place : ℕ) (cs : List CoreView) (js : List Joint) (cs' : List CoreView) (js' : List Joint) → IsLineOf p cs js → TurnsAt place cs js cs' js' → IsLineOf p cs' js'
line_on p place cs js cs' js' h t = record {
  cutting = h.cutting;
  located = h.located;
  holds_some = h.holds_some;
  stand = (turn_stands p place true (epochs_of p.run) cs js cs' js' h.stand t).0;
}

-- before the first core there are no links
comes_first : (p : Plan) (es : List NumberedEpoch) (cs : List CoreView) (js : List Joint) → AllStand p true es cs js → ComesBefore p.capacity true None js
comes_first p [] [] (j ∷ js) s = refl
comes_first p (e ∷ es) (c ∷ cs) (j ∷ js) s = refl
comes_first p es cs js s = absurd s

answered_first : (p : Plan) (es : List NumberedEpoch) (c : CoreView) (cs : List CoreView) (js : List Joint) → AllStand p true es (c ∷ cs) js → IsAnswered (End true ∷ []) js
answered_first p (e ∷ es) c cs (j ∷ i ∷ js) s = by j.answer (s.0.keeps.links.answers_got ∙ ap (λ (g : CoreSetup). g.first) s.0.setup) where
  by : (link : Link) → is_none (got_on link) ≡ true → IsSource (End true ∷ []) (sent_on link)
  by None n = refl
  by (Some l) n = true-false (sym n)
answered_first p es c cs js s = absurd s

pub parts_on : (p : Plan) (place : ℕ) (cs : List CoreView) (js : List Joint) (cs' : List CoreView) (js' : List Joint) → IsLineOf p cs js → AreParts cs js → TurnsAt place cs js cs' js'
    → LineTurned p.capacity place true (End true ∷ []) None cs js cs' js'
parts_on p place [] js cs' js' h a t = absurd t
parts_on p place (c ∷ cs) js cs' js' h a t =
    turned p place true (epochs_of p.run) (End true ∷ []) None (c ∷ cs) js cs' js' h.stand a (answered_first p (epochs_of p.run) c cs js h.stand) (comes_first p (epochs_of p.run) (c ∷ cs) js h.stand) t

-- ---- a round, so far

-- less is left than at its beginning, or all is as it was, and none of the cores before this place could move
abbrev pub IsLess : ℕ → ℕ → List CoreView → List Joint → List CoreView → List Joint → Type 0
IsLess capacity place cs js cs' js' =
    (work_left cs' js' < work_left cs js)
    ⊎ ((states cs' js' ≡ states cs js) × ((k : ℕ) → k < place → moves_at capacity k None (states cs js) ≡ false))

pub record RoundTo (p : Plan) (place : ℕ) (cs : List CoreView) (js : List Joint) (cs' : List CoreView) (js' : List Joint) : Type 0 where
  pub parts : AreParts cs' js'
  pub less : IsLess p.capacity place cs js cs' js'

pub round_starts : (p : Plan) (cs : List CoreView) (js : List Joint) → AreParts cs js → RoundTo p 0 cs js cs js
round_starts p cs js a = record { parts = a; less = inr (refl, λ k b. absurd (omega (arith, b))) }

pub round_on : (p : Plan) (place : ℕ) (cs : List CoreView) (js : List Joint) (cs' : List CoreView) (js' : List Joint) (cs'' : List CoreView) (js'' : List Joint)
    → IsLineOf p cs' js' → RoundTo p place cs js cs' js' → TurnsAt place cs' js' cs'' js'' → RoundTo p (suc place) cs js cs'' js''
round_on p place cs js cs' js' cs'' js'' h r t = let l = parts_on p place cs' js' cs'' js'' h r.parts t in record { parts = l.parts; less = by r.less l.progress } where
  next : (states cs' js' ≡ states cs js) → ((k : ℕ) → k < place → moves_at p.capacity k None (states cs js) ≡ false) → moves_at p.capacity place None (states cs' js') ≡ false
      → (k : ℕ) → k < suc place → moves_at p.capacity k None (states cs js) ≡ false
  next same none here k b = on (cases_lt k place) where
    on : (k < place) ⊎ (place ≤ k) → moves_at p.capacity k None (states cs js) ≡ false
    on (inl less) = none k less
    on (inr past) =
        let e : k ≡ place = omega (arith, past, b) in
        ap (λ k. moves_at p.capacity k None (states cs js)) e ∙ ap (moves_at p.capacity place None) (sym same) ∙ here

  by : IsLess p.capacity place cs js cs' js' → (work_left cs'' js'' < work_left cs' js') ⊎ ((states cs'' js'' ≡ states cs' js') × (moves_at p.capacity place None (states cs' js') ≡ false))
      → IsLess p.capacity (suc place) cs js cs'' js''
  by (inl a) (inl b) = inl (omega (arith, a, b))
  by (inl a) (inr b) = inl (let same : work_left cs'' js'' ≡ work_left cs' js' = ap (row_left true (End true ∷ [])) b.0 in omega (arith, a, same))
  by (inr a) (inl b) = inl (let same : work_left cs' js' ≡ work_left cs js = ap (row_left true (End true ∷ [])) a.0 in omega (arith, b, same))
  by (inr a) (inr b) = inr (b.0 ∙ a.0, next a.0 a.1 b.1)

-- ---- after a round

-- only nodes that are there move
beyond : (capacity k : ℕ) (previous : Option Phase) (ns : List NodeState) → length ns ≤ k → moves_at capacity k previous ns ≡ false
beyond capacity k previous [] h = refl
beyond capacity zero previous (n ∷ ns) h = absurd (omega (arith, h))
beyond capacity (suc k) previous (n ∷ ns) h = beyond capacity k (Some n.phase) ns (omega (arith, h))

states_count : (p : Plan) (first : Bool) (es : List NumberedEpoch) (cs : List CoreView) (js : List Joint) → AllStand p first es cs js → length (states cs js) ≡ length cs
states_count p first es [] js s = refl
states_count p first (e ∷ es) (c ∷ cs) (j ∷ i ∷ js) s = ap suc (states_count p false es cs (i ∷ js) s.1)
states_count p first es cs js s = absurd s

done_core : (g : CoreSetup) (j i : Joint) (s : StageView) → AtStage g s (traffic_between j i) → is_done (phase_in s (traffic_between j i)) ≡ true → phase_of s ≡ phase.Done
done_core g j i (Fresh t) at d = true-false (sym d)
done_core g j i (Asking v) at d = true-false (sym d)
done_core g j i (Answering f) at d = true-false (sym d ∙ at.1)
done_core g j i (Done f) at d = refl
done_core g j i Between at d = absurd at

done_cores : (p : Plan) (first : Bool) (es : List NumberedEpoch) (cs : List CoreView) (js : List Joint) → AllStand p first es cs js → AllDone (states cs js) → AreDone cs
done_cores p first es [] js s d = tt
done_cores p first (e ∷ es) (c ∷ cs) (j ∷ i ∷ js) s d = (done_core c.setup j i c.stage s.0.keeps.stage d.0, done_cores p false es cs (i ∷ js) s.1 d.1)
done_cores p first es cs js s d = absurd s

-- while not all are done, less is left
pub round_less : (p : Plan) (cs : List CoreView) (js : List Joint) (cs' : List CoreView) (js' : List Joint) → IsLineOf p cs js → RoundTo p (length cs) cs js cs' js' → (AreDone cs → ⊥) → work_left cs' js' < work_left cs js
round_less p cs js cs' js' h r not_done = by r.less where
  none_moves : ((k : ℕ) → k < length cs → moves_at p.capacity k None (states cs js) ≡ false) → Moves p.capacity None (states cs js) → ⊥
  none_moves none m = on (cases_lt m.0 (length cs)) where
    on : (m.0 < length cs) ⊎ (length cs ≤ m.0) → ⊥
    on (inl less) = true-false (sym m.1 ∙ none m.0 less)
    on (inr far) = let count = states_count p true (epochs_of p.run) cs js h.stand in true-false (sym m.1 ∙ beyond p.capacity m.0 None (states cs js) (omega (arith, far, count)))

  still : ((k : ℕ) → k < length cs → moves_at p.capacity k None (states cs js) ≡ false) → AllDone (states cs js) ⊎ Moves p.capacity None (states cs js) → ⊥
  still none (inl all) = not_done (done_cores p true (epochs_of p.run) cs js h.stand all)
  still none (inr m) = none_moves none m

  by : IsLess p.capacity (length cs) cs js cs' js' → work_left cs' js' < work_left cs js
  by (inl less) = less
  by (inr same) =
      absurd (still same.1 (goes_on p.capacity h.holds_some (states cs js) (nodes_hold p true None (epochs_of p.run) cs js h.stand (comes_first p (epochs_of p.run) cs js h.stand) tt)))
