-- What the turns of several nodes come to.
use Rattle.std.proofs.Common.{inl, inr, ◌≡◌, List, [], ◌∷◌, ◌++◌, length, reverse, subst, subst₂, sym, ap, ◌∙◌, append_assoc, append-nil}
use Rattle.std.specs.Prelude.{All}
use Rattle.std.specs.List.{AllZip}
use Rattle.std.proofs.lemmas.List.{reverse-append, reverse-reverse}
use Rattle.std.proofs.lemmas.List.Elements.{All-nil, All-push, AllZip-push, length_all_zip}
use Rattle.run_board.specs.declared.task.Turn.{Turn}
use Rattle.run_board.specs.declared.task.Turn.TheVariants.{Moved, NotYet, Done}
use Rattle.run_board.specs.Turns.{AnswersEnded}
use Rattle.epoch_node.specs.Cores.{phase_of}
use Rattle.epoch_node.specs.Events.{WhenMoved, WhenNotYet}
use Rattle.epoch_node.specs.Nodes.{NodeView, Progress, HasMoved, IsLedFrom, HasWaited, IsDone}
use Rattle.epoch_node.proofs.Led.{moved_then, then_moved}
use Rattle.epoch_turns.specs.Answers.{together, after_both}
use Rattle.epoch_turns.specs.Groups.{SomeMoved, HasRested, all_led_trans}
use Rattle.epoch_turns.proofs.Lists.{all_front, all_last, all_reverse, all_back, all_zip_reverse, AnyZip, any_before, any_last, any_reverse, any_in_zip}

-- one turn more
pub together_ended : (others one : Turn) (ns : List NodeView) (n : NodeView)
    → AnswersEnded others (All IsDone ns) → AnswersEnded one (IsDone n) → AnswersEnded (together others one) (All IsDone (ns ++ n ∷ []))
together_ended Moved one ns n h k = λ all. h (all_front IsDone ns (n ∷ []) all)
together_ended NotYet Moved ns n h k = λ all. h (all_front IsDone ns (n ∷ []) all)
together_ended Done Done ns n h k = All-push IsDone ns n h k
together_ended Done one ns n h k = λ all. k (all_last IsDone ns n all)
together_ended others one ns n h k = λ all. h (all_front IsDone ns (n ∷ []) all)

-- the answer of two sweeps says what the second left
pub both_ended : (first second : Turn) (ended : Type 0) → AnswersEnded second ended → AnswersEnded (after_both first second) ended
both_ended Moved Moved ended h = h
both_ended first second ended h = h

-- whether all are done is the same from the last to the first
pub ended_reverse : (answer : Turn) (ns : List NodeView) → AnswersEnded answer (All IsDone ns) → AnswersEnded answer (All IsDone (reverse ns))
ended_reverse Done ns h = all_reverse IsDone ns h
ended_reverse answer ns h = λ all. h (all_back IsDone ns all)

-- ---- turns in which no node moved

abbrev pub UnlessMoved : Turn → Type 0 → Type 0
UnlessMoved Moved P = Unit {0}
UnlessMoved NotYet P = P
UnlessMoved Done P = P

-- what a node's turn says of it
pub rested : (turn : Turn) (new old : NodeView) → AnswersEnded turn (IsDone new) → WhenNotYet turn (HasWaited new old) → UnlessMoved turn (HasRested new old)
rested Moved new old d w = tt
rested NotYet new old d w = inr w.still
rested Done new old d w = inl d

together_rested : (others one : Turn) (new old : List NodeView) (n o : NodeView) → UnlessMoved others (AllZip HasRested new old) → UnlessMoved one (HasRested n o)
    → UnlessMoved (together others one) (AllZip HasRested (new ++ n ∷ []) (old ++ o ∷ []))
together_rested Moved one new old n o h k = tt
together_rested NotYet Moved new old n o h k = tt
together_rested Done Moved new old n o h k = tt
together_rested others one new old n o h k = AllZip-push HasRested new old n o h k

rest_trans : (a b c : NodeView) → HasRested b a → HasRested c b → HasRested c a
rest_trans a b c f (inl d) = inl d
rest_trans a b c (inl d) (inr s) = inl (ap (λ (p : Progress). phase_of p.core.stage) s ∙ d)
rest_trans a b c (inr r) (inr s) = inr (s ∙ r)

all_rest_trans : (xs ys zs : List NodeView) → AllZip HasRested ys xs → AllZip HasRested zs ys → AllZip HasRested zs xs
all_rest_trans [] [] [] f g = tt
all_rest_trans [] [] (z ∷ zs) f g = g
all_rest_trans (x ∷ xs) (y ∷ ys) [] f g = g
all_rest_trans (x ∷ xs) (y ∷ ys) (z ∷ zs) f g = (rest_trans x y z f.0 g.0, all_rest_trans xs ys zs f.1 g.1)
all_rest_trans xs ys zs f g = absurd f

rest_both : (old between new : List NodeView) → AllZip HasRested between old → AllZip HasRested new (reverse between) → AllZip HasRested (reverse new) old
rest_both old between new up down =
    all_rest_trans old between (reverse new) up
    (subst (AllZip HasRested (reverse new)) (reverse-reverse between) (all_zip_reverse HasRested new (reverse between) down))

-- no node moved in two sweeps
pub both_rested : (first second : Turn) (old between new : List NodeView) → UnlessMoved first (AllZip HasRested between old) → UnlessMoved second (AllZip HasRested new (reverse between))
    → WhenNotYet (after_both first second) (AllZip HasRested (reverse new) old)
both_rested Moved Moved old between new h k = tt
both_rested NotYet NotYet old between new h k = rest_both old between new h k
both_rested Done NotYet old between new h k = rest_both old between new h k
both_rested first second old between new h k = tt

-- ---- turns in which some node moved

together_moved : (others one : Turn) (new old : List NodeView) (n o : NodeView) → length new ≡ length old → WhenMoved others (AnyZip HasMoved new old) → WhenMoved one (HasMoved n o)
    → WhenMoved (together others one) (AnyZip HasMoved (new ++ n ∷ []) (old ++ o ∷ []))
together_moved Moved one new old n o e h k = any_before HasMoved new old n o h
together_moved NotYet Moved new old n o e h k = any_last HasMoved new old n o e k
together_moved Done Moved new old n o e h k = any_last HasMoved new old n o e k
together_moved others one new old n o e h k = tt

moved_up : (xs ys zs : List NodeView) → AnyZip HasMoved ys xs → AllZip IsLedFrom zs ys → AnyZip HasMoved zs xs
moved_up (x ∷ xs) (y ∷ ys) (z ∷ zs) (inl m) l = inl (moved_then x y z m l.0)
moved_up (x ∷ xs) (y ∷ ys) (z ∷ zs) (inr m) l = inr (moved_up xs ys zs m l.1)
moved_up (x ∷ xs) (y ∷ ys) [] m l = absurd l
moved_up [] (y ∷ ys) zs m l = absurd m
moved_up xs [] zs m l = absurd m

moved_down : (xs ys zs : List NodeView) → AllZip IsLedFrom ys xs → AllZip IsLedFrom zs ys → AnyZip HasMoved zs ys → AnyZip HasMoved zs xs
moved_down (x ∷ xs) (y ∷ ys) (z ∷ zs) k l (inl m) = inl (then_moved x y z k.0 l.0 m)
moved_down (x ∷ xs) (y ∷ ys) (z ∷ zs) k l (inr m) = inr (moved_down xs ys zs k.1 l.1 m)
moved_down [] (y ∷ ys) (z ∷ zs) k l m = absurd k
moved_down xs ys [] k l m = absurd m
moved_down xs [] (z ∷ zs) k l m = absurd m

-- the nodes after a sweep up, and then one down
pub led_both : (old between new : List NodeView) → AllZip IsLedFrom between old → AllZip IsLedFrom new (reverse between) → AllZip IsLedFrom (reverse new) old
led_both old between new up down =
    all_led_trans old between (reverse new) up
    (subst (AllZip IsLedFrom (reverse new)) (reverse-reverse between) (all_zip_reverse IsLedFrom new (reverse between) down))

-- some node moved in two sweeps
pub both_moved : (first second : Turn) (old between new : List NodeView) → AllZip IsLedFrom between old → AllZip IsLedFrom new (reverse between)
    → WhenMoved first (AnyZip HasMoved between old) → WhenMoved second (AnyZip HasMoved new (reverse between)) → WhenMoved (after_both first second) (SomeMoved (reverse new) old)
both_moved first second old between new up down = by first second where
  back : AllZip IsLedFrom (reverse new) between
  back = subst (AllZip IsLedFrom (reverse new)) (reverse-reverse between) (all_zip_reverse IsLedFrom new (reverse between) down)

  in_first : AnyZip HasMoved between old → SomeMoved (reverse new) old
  in_first h = any_in_zip HasMoved (reverse new) old (moved_up old between (reverse new) h back)

  in_second : AnyZip HasMoved new (reverse between) → SomeMoved (reverse new) old
  in_second h =
      let later = subst (AnyZip HasMoved (reverse new)) (reverse-reverse between) (any_reverse HasMoved new (reverse between) (length_all_zip IsLedFrom new (reverse between) down) h) in
      any_in_zip HasMoved (reverse new) old (moved_down old between (reverse new) up back later)

  by : (first second : Turn) → WhenMoved first (AnyZip HasMoved between old) → WhenMoved second (AnyZip HasMoved new (reverse between)) → WhenMoved (after_both first second) (SomeMoved (reverse new) old)
  by Moved Done h k = tt
  by Moved second h k = in_first h
  by NotYet Moved h k = in_second k
  by Done Moved h k = in_second k
  by first second h k = tt

-- ---- a sweep over nodes

-- `onto` are those that had their turn, the last of them on top; the others are on the stack `from`
pub record IsSweep (nodes from onto : List NodeView) (answer : Turn) : Type 0 where
  pub starts : List NodeView
  pub split : starts ++ reverse from ≡ nodes
  pub led : AllZip IsLedFrom onto starts
  pub ended : AnswersEnded answer (All IsDone onto)
  pub moved : WhenMoved answer (AnyZip HasMoved onto starts)
  pub rested : UnlessMoved answer (AllZip HasRested onto starts)

-- no node had its turn
pub sweep_begins : (nodes from onto : List NodeView) → reverse from ≡ nodes → onto ≡ [] → IsSweep nodes from onto Done
sweep_begins nodes from onto e none = record {
  starts = [];
  split = e;
  led = subst (λ ns. AllZip IsLedFrom ns []) (sym none) tt;
  ended = subst (All IsDone) (sym none) (All-nil IsDone);
  moved = tt;
  rested = subst (λ ns. AllZip HasRested ns []) (sym none) tt;
}

-- the node on top has its turn
pub sweep_on : (nodes from onto : List NodeView) (answer turn : Turn) (rest onto' : List NodeView) (answer' : Turn) (old new : NodeView) → IsSweep nodes from onto answer
    → from ≡ rest ++ old ∷ [] → IsLedFrom new old → AnswersEnded turn (IsDone new) → WhenMoved turn (HasMoved new old) → WhenNotYet turn (HasWaited new old) → onto' ≡ onto ++ new ∷ [] → answer' ≡ together answer turn → IsSweep nodes rest onto' answer'
sweep_on nodes from onto answer turn rest onto' answer' old new s e led ended moved waited onto_is answer_is = record {
  starts = s.starts ++ old ∷ [];
  split = append_assoc s.starts (old ∷ []) (reverse rest) ∙ ap (λ ns. s.starts ++ ns) (sym (reverse-append rest (old ∷ [])) ∙ ap reverse (sym e)) ∙ s.split;
  led = subst (λ ns. AllZip IsLedFrom ns (s.starts ++ old ∷ [])) (sym onto_is) (AllZip-push IsLedFrom onto s.starts new old s.led led);
  ended = subst₂ (λ (a : Turn) (ns : List NodeView). AnswersEnded a (All IsDone ns)) (sym answer_is) (sym onto_is) (together_ended answer turn onto new s.ended ended);
  moved =
      subst₂ (λ (a : Turn) (ns : List NodeView). WhenMoved a (AnyZip HasMoved ns (s.starts ++ old ∷ []))) (sym answer_is) (sym onto_is)
      (together_moved answer turn onto s.starts new old (length_all_zip IsLedFrom onto s.starts s.led) s.moved moved);
  rested =
      subst₂ (λ (a : Turn) (ns : List NodeView). UnlessMoved a (AllZip HasRested ns (s.starts ++ old ∷ []))) (sym answer_is) (sym onto_is)
      (together_rested answer turn onto s.starts new old s.rested (rested turn new old ended waited));
}

-- all had their turn
pub sweep_ends : (nodes from onto : List NodeView) (answer : Turn) → IsSweep nodes from onto answer → from ≡ [] → AllZip IsLedFrom onto nodes
sweep_ends nodes from onto answer s none = subst (AllZip IsLedFrom onto) (sym (append-nil s.starts) ∙ ap (λ ns. s.starts ++ reverse ns) (sym none) ∙ s.split) s.led

pub sweep_rests : (nodes from onto : List NodeView) (answer : Turn) → IsSweep nodes from onto answer → from ≡ [] → UnlessMoved answer (AllZip HasRested onto nodes)
sweep_rests nodes from onto answer s none =
    subst (λ ns. UnlessMoved answer (AllZip HasRested onto ns)) (sym (append-nil s.starts) ∙ ap (λ ns. s.starts ++ reverse ns) (sym none) ∙ s.split) s.rested

pub sweep_moves : (nodes from onto : List NodeView) (answer : Turn) → IsSweep nodes from onto answer → from ≡ [] → WhenMoved answer (AnyZip HasMoved onto nodes)
sweep_moves nodes from onto answer s none =
    subst (λ ns. WhenMoved answer (AnyZip HasMoved onto ns)) (sym (append-nil s.starts) ∙ ap (λ ns. s.starts ++ reverse ns) (sym none) ∙ s.split) s.moved
