-- Nodes that are led from a layout: each has its epoch, neighbours are joined, and there is no link outside.
use Rattle.std.proofs.Common.{◌≡◌, ℕ, ◌+◌, Some, None, List, [], ◌∷◌, ◌++◌, length, refl, sym, ◌∙◌, subst, arith, Bool, true, false}
use Rattle.std.specs.Prelude.{Option, option_map, is_none}
use Rattle.std.specs.List.{AllZip}
use Rattle.atomic_table.specs.Seated.{TableId}
use Rattle.flow_model.specs.declared.Message.{Message}
use Rattle.epoch_cut.specs.Numbered.{NumberedEpoch}
use Rattle.epoch_link.specs.Link.{EndView}
use Rattle.epoch_link.specs.Ends.{Producing, Consuming, producer_end, consumer_end, new_producer, new_consumer}
use Rattle.epoch_node.specs.Cores.{CoreSetup}
use Rattle.epoch_node.specs.Nodes.{NodeView, IsLedFrom, IsEndLater, IsInletLater, IsOutletLater}
use Rattle.epoch_layout.specs.Layouts.{CutRun, epochs_of, setup_at, Links, before_end, after_end, node_between, laid_out, IsRunOf}
use Rattle.epoch_layout.specs.Lines.{IsOneLink}

-- ---- the same ends, later

module _ {E : Type 0} (end : E → EndView Message) where
  stays : (new old : Option E) → IsEndLater end new old → is_none new ≡ is_none old
  stays None None h = refl
  stays (Some new) (Some old) h = refl
  stays new old h = absurd h

stays_inlet : (new old : Option (Consuming Message)) → IsInletLater new old → is_none new ≡ is_none old
stays_inlet new old h = stays consumer_end new old h

stays_outlet : (new old : Option (Producing Message)) → IsOutletLater new old → is_none new ≡ is_none old
stays_outlet new old h = stays producer_end new old h

none_mapped : {A B C : Type 0} (f : B → C) (g : A → B) (o : Option A) → is_none (option_map f (option_map g o)) ≡ is_none o
none_mapped f g None = refl
none_mapped f g (Some x) = refl

mates : (capacity : ℕ) (l : TableId) (p : Option (Producing Message)) (c : Option (Consuming Message)) → IsOutletLater p (Some (new_producer l capacity)) → IsInletLater c (Some (new_consumer l capacity)) → IsOneLink p c
mates capacity l (Some p) (Some c) a b = a.0 ∙ sym b.0
mates capacity l None c a b = absurd a
mates capacity l (Some p) None a b = absurd b

-- ---- a line

-- the node is that of the epoch, and has links where it has neighbours
pub record StandsAt (i : CoreSetup) (n : NodeView) : Type 0 where
  pub setup : n.core.setup ≡ i
  pub ask_in : is_none n.ends.ask_in ≡ i.last
  pub ask_out : is_none n.ends.ask_out ≡ i.first
  pub answer_in : is_none n.ends.answer_in ≡ i.first
  pub answer_out : is_none n.ends.answer_out ≡ i.last

-- two links join the nodes n and m
pub record AreJoined (n m : NodeView) : Type 0 where
  pub ask : IsOneLink m.ends.ask_out n.ends.ask_in
  pub answer : IsOneLink n.ends.answer_out m.ends.answer_in

module _ (run : CutRun) where
  -- the nodes of these epochs, one by one, each joined to the next
  abbrev pub IsLine : Bool → List NumberedEpoch → List NodeView → Type 0
  IsLine first [] [] = Unit {0}
  IsLine first [] (n ∷ ns) = ⊥
  IsLine first (e ∷ es) [] = ⊥
  IsLine first (e ∷ es) (n ∷ []) = StandsAt (setup_at run e first true) n × (es ≡ [])
  IsLine first (e ∷ es) (n ∷ m ∷ ns) = StandsAt (setup_at run e first false) n × AreJoined n m × IsLine false es (m ∷ ns)

  -- a later part of it is one
  pub record IsPart (ns : List NodeView) : Type 0 where
    pub first : Bool
    pub epochs : List NumberedEpoch
    pub line : IsLine first epochs ns

  pub part : (first : Bool) (es : List NumberedEpoch) (front ns : List NodeView) → IsLine first es (front ++ ns) → IsPart ns
  part first es [] ns h = record { first = first; epochs = es; line = h }
  part first [] (f ∷ front) ns h = absurd h
  part first (e ∷ es) (f ∷ []) [] h = record { first = false; epochs = []; line = tt }
  part first (e ∷ es) (f ∷ []) (n ∷ ns) h = record { first = false; epochs = es; line = h.2 }
  part first (e ∷ es) (f ∷ g ∷ front) ns h = part false es (g ∷ front) ns h.2

  module _ (capacity : ℕ) where
    stands : (e : NumberedEpoch) (b a : Option Links) (n : NodeView) → IsLedFrom n (node_between capacity run e b a) → StandsAt (setup_at run e (is_none b) (is_none a)) n
    stands e b a n h = record {
      setup = h.setup;
      ask_in = stays_inlet n.ends.ask_in _ h.ends.ask_in ∙ none_mapped (λ x. x.ask_in) (after_end capacity) a;
      ask_out = stays_outlet n.ends.ask_out _ h.ends.ask_out ∙ none_mapped (λ x. x.ask_out) (before_end capacity) b;
      answer_in = stays_inlet n.ends.answer_in _ h.ends.answer_in ∙ none_mapped (λ x. x.answer_in) (before_end capacity) b;
      answer_out = stays_outlet n.ends.answer_out _ h.ends.answer_out ∙ none_mapped (λ x. x.answer_out) (after_end capacity) a;
    }

    joined : (e f : NumberedEpoch) (b a : Option Links) (l : Links) (n m : NodeView) → IsLedFrom n (node_between capacity run e b (Some l)) → IsLedFrom m (node_between capacity run f (Some l) a) → AreJoined n m
    joined e f b a l n m h k = record {
      ask = mates capacity l.ask m.ends.ask_out n.ends.ask_in k.ends.ask_out h.ends.ask_in;
      answer = mates capacity l.answer n.ends.answer_out m.ends.answer_in h.ends.answer_out k.ends.answer_in;
    }

    line_laid : (b : Option Links) (es : List NumberedEpoch) (ls : List Links) (nodes : List NodeView) → length ls + 1 ≡ length es
        → AllZip IsLedFrom nodes (laid_out capacity run b es ls) → IsLine (is_none b) es nodes
    line_laid b (e ∷ []) [] [] c h = absurd h
    line_laid b (e ∷ []) [] (n ∷ []) c h = (stands e b None n h.0, refl)
    line_laid b (e ∷ []) [] (n ∷ m ∷ ns) c h = absurd h.1
    line_laid b (e ∷ f ∷ es) (l ∷ ls) [] c h = absurd h
    line_laid b (e ∷ f ∷ es) (l ∷ []) (n ∷ []) c h = absurd h.1
    line_laid b (e ∷ f ∷ es) (l ∷ k ∷ ls) (n ∷ []) c h = absurd h.1
    line_laid b (e ∷ f ∷ es) (l ∷ []) (n ∷ m ∷ ns) c h = (stands e b (Some l) n h.0, joined e f b None l n m h.0 h.1.0, line_laid (Some l) (f ∷ es) [] (m ∷ ns) (omega (arith, c)) h.1)
    line_laid b (e ∷ f ∷ es) (l ∷ k ∷ ls) (n ∷ m ∷ ns) c h = (stands e b (Some l) n h.0, joined e f b (Some k) l n m h.0 h.1.0, line_laid (Some l) (f ∷ es) (k ∷ ls) (m ∷ ns) (omega (arith, c)) h.1)
    line_laid b es ls nodes c h = absurd (omega (arith, c))

  pub run_line : (nodes : List NodeView) → IsRunOf run nodes → IsLine true (epochs_of run) nodes
  run_line nodes r =
      line_laid r.capacity None (epochs_of run) r.laid.links nodes r.laid.count
      (subst (AllZip IsLedFrom nodes) r.laid.are r.led)
