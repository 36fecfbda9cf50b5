-- One step of `collect`, which takes the nodes from the last to the first.
use Rattle.std.proofs.Common.{◌≡◌, ℕ, ◌+◌, ◌^◌, ◌-◌, Some, None, List, [], ◌∷◌, ◌++◌, map, length, refl, sym, ap, ◌∙◌, append_assoc, subst, arith, Bool, true, false}
use Rattle.std.specs.Prelude.{Option, option_map, is_none, All, min}
use Rattle.std.proofs.lemmas.List.{nil_from_length}
use Rattle.std.proofs.lemmas.List.Elements.{All-head, All-tail}
use Rattle.flow_model.specs.declared.Message.{Message}
use Rattle.report_model.specs.Rows.{Row}
use Rattle.epoch_cut.specs.Numbered.{NumberedEpoch}
use Rattle.sink_collect.specs.Pairs.{capped}
use Rattle.epoch_link.specs.Ends.{Producing, Consuming}
use Rattle.epoch_node.specs.Cores.{CoreSetup, asked_at}
use Rattle.epoch_node.specs.Keeping.{HasDone, HasCounted}
use Rattle.epoch_node.specs.Events.{IsMore}
use Rattle.epoch_node.specs.Nodes.{NodeView, traffic_of}
use Rattle.epoch_layout.specs.Layouts.{CutRun, setup_at}
use Rattle.epoch_layout.specs.Lines.{IsOneLink, HasDelivered}
use Rattle.epoch_layout.specs.DoneLines.{DoneNode, IsPlaced, GotWasSent, IsDoneLine}
use Rattle.epoch_layout.proofs.Lines.{StandsAt, AreJoined, IsLine, IsPart}

-- a node that is done and not broken, and its rows
pub record Finished : Type 0 where
  pub view : NodeView
  pub rows : List Row
  pub done : HasDone view.core.setup (traffic_of view.ends) (asked_at view.core.stage) rows
  pub counted : HasCounted view.core.setup (traffic_of view.ends) (asked_at view.core.stage) rows view.core.events

abbrev pub views : List Finished → List NodeView
views fs = map (λ f. f.view) fs

-- but for its ends
abbrev pub node_of : Finished → DoneNode
node_of f = record {
  setup = f.view.core.setup;
  traffic = traffic_of f.view.ends;
  asked = asked_at f.view.core.stage;
  rows = f.rows;
  events = f.view.core.events;
  done = f.done;
  counted = f.counted;
}

abbrev pub nodes : List Finished → List DoneNode
nodes fs = map node_of fs

-- the ends that the first of these has towards the previous node
abbrev pub Faces : List Finished → Option (Producing Message) → Option (Consuming Message) → Type 0
Faces [] ask_out answer_in = (ask_out ≡ None) × (answer_in ≡ None)
Faces (d ∷ ds) ask_out answer_in = (ask_out ≡ d.view.ends.ask_out) × (answer_in ≡ d.view.ends.answer_in)

-- the links between these are closed
abbrev pub AreClosed : List Finished → Type 0
AreClosed [] = Unit {0}
AreClosed (a ∷ []) = Unit {0}
AreClosed (a ∷ b ∷ ds) = HasDelivered b.view.ends.ask_out a.view.ends.ask_in × HasDelivered a.view.ends.answer_out b.view.ends.answer_in × AreClosed (b ∷ ds)

pub popped : (all items rest done : List NodeView) (n : NodeView) → all ≡ items ++ done → items ≡ rest ++ n ∷ [] → all ≡ rest ++ n ∷ done
popped all items rest done n split e = split ∙ ap (λ i. i ++ done) e ∙ append_assoc rest (n ∷ []) done

pub all_at : (P : NodeView → Type 0) (front : List NodeView) (n : NodeView) (ns : List NodeView) → All P (front ++ n ∷ ns) → P n
all_at P [] n ns h = All-head P n ns h
all_at P (f ∷ front) n ns h = all_at P front n ns (All-tail P f (front ++ n ∷ ns) h)

pub all_done : (all items done : List NodeView) → all ≡ items ++ done → length items ≡ 0 → all ≡ done
all_done all items done e z = e ∙ ap (λ i. i ++ done) (nil_from_length items z)

no_outlet_link : (p : Option (Producing Message)) → is_none p ≡ true → IsOneLink p None
no_outlet_link None h = tt
no_outlet_link (Some p) h = cc

no_inlet_link : (c : Option (Consuming Message)) → is_none c ≡ true → IsOneLink None c
no_inlet_link None h = tt
no_inlet_link (Some c) h = cc

module _ (run : CutRun) where
  -- the links after a node are those before the next one
  pub links_are : (n : NodeView) (done : List Finished) (ask_out : Option (Producing Message)) (answer_in : Option (Consuming Message)) → IsPart run (n ∷ views done) → Faces done ask_out answer_in
      → IsOneLink ask_out n.ends.ask_in × IsOneLink n.ends.answer_out answer_in
  links_are n done ask_out answer_in p f = by p.first p.epochs done p.line f where
    by : (first : Bool) (es : List NumberedEpoch) (done : List Finished) → IsLine run first es (n ∷ views done) → Faces done ask_out answer_in
        → IsOneLink ask_out n.ends.ask_in × IsOneLink n.ends.answer_out answer_in
    by first [] done line f = absurd line
    by first (e ∷ es) [] line f = (
      subst (λ o. IsOneLink o n.ends.ask_in) (sym f.0) (no_inlet_link n.ends.ask_in line.0.ask_in),
      subst (λ o. IsOneLink n.ends.answer_out o) (sym f.1) (no_outlet_link n.ends.answer_out line.0.answer_out),
    )
    by first (e ∷ es) (d ∷ ds) line f = (
      subst (λ o. IsOneLink o n.ends.ask_in) (sym f.0) line.1.ask,
      subst (λ o. IsOneLink n.ends.answer_out o) (sym f.1) line.1.answer,
    )

-- one node more
pub one_more : (f : Finished) (done : List Finished) (ask_out : Option (Producing Message)) (answer_in : Option (Consuming Message)) → Faces done ask_out answer_in
    → AreClosed done → HasDelivered ask_out f.view.ends.ask_in → HasDelivered f.view.ends.answer_out answer_in → AreClosed (f ∷ done)
one_more f [] ask_out answer_in faces c asks answers = tt
one_more f (d ∷ ds) ask_out answer_in faces c asks answers = (
  subst (λ o. HasDelivered o f.view.ends.ask_in) faces.0 asks,
  subst (λ o. HasDelivered f.view.ends.answer_out o) faces.1 answers,
  c,
)

-- ---- all of them

-- the two ends of a link that is closed
delivered : (p : Option (Producing Message)) (c : Option (Consuming Message)) → IsOneLink p c → HasDelivered p c → IsMore (option_map (λ (x : Consuming Message). x.got) c) (option_map (λ (x : Producing Message). x.sent) p)
delivered None None one d = tt
delivered (Some p) (Some c) one d = d
delivered p c one d = absurd one

got_was_sent : (a b : Finished) → AreJoined a.view b.view → HasDelivered b.view.ends.ask_out a.view.ends.ask_in → HasDelivered a.view.ends.answer_out b.view.ends.answer_in → GotWasSent (node_of a) (node_of b)
got_was_sent a b j asks answers = record {
  asks = delivered b.view.ends.ask_out a.view.ends.ask_in j.ask asks;
  answers = delivered a.view.ends.answer_out b.view.ends.answer_in j.answer answers;
}

mapped_none : {A B : Type 0} (f : A → B) (o : Option A) → is_none (option_map f o) ≡ is_none o
mapped_none f None = refl
mapped_none f (Some x) = refl

placed : (i : CoreSetup) (f : Finished) → StandsAt i f.view → IsPlaced i (node_of f)
placed i f s = record {
  setup = s.setup;
  links = record {
    asks_got = mapped_none (λ (c : Consuming Message). c.got) f.view.ends.ask_in ∙ s.ask_in;
    asks_sent = mapped_none (λ (p : Producing Message). p.sent) f.view.ends.ask_out ∙ s.ask_out;
    answers_got = mapped_none (λ (c : Consuming Message). c.got) f.view.ends.answer_in ∙ s.answer_in;
    answers_sent = mapped_none (λ (p : Producing Message). p.sent) f.view.ends.answer_out ∙ s.answer_out;
  };
}

pub done_line : (run : CutRun) (first : Bool) (es : List NumberedEpoch) (fs : List Finished) → IsLine run first es (views fs) → AreClosed fs → IsDoneLine run first es (nodes fs)
done_line run first [] [] line c = tt
done_line run first (e ∷ es) (f ∷ []) line c = (placed (setup_at run e first true) f line.0, line.1)
done_line run first (e ∷ es) (f ∷ g ∷ fs) line c = (placed (setup_at run e first false) f line.0, got_was_sent f g line.1 c.0 c.1, done_line run false es (g ∷ fs) line.2 c.2)
done_line run first es fs line c = absurd line

-- the count of one node more
pub capped_more : (events moved sum added total all : ℕ) → events ≡ capped sum → added ≡ moved → total ≡ min (events + added) (2 ^ 64 - 1) → all ≡ moved + sum → total ≡ capped all
capped_more events moved sum added total all e a t s = omega (arith, e, a, t, s)
