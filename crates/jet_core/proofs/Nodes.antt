-- Cores that are done, as nodes that are done.
use Rattle.std.proofs.Common.{◌≡◌, ◌+◌, List, [], ◌∷◌, ◌++◌, refl, ap, sym, subst₂, ◌∙◌, Bool, true, false, append-nil, append_assoc, arith, rules}
use Rattle.std.specs.List.{flat_map, sum_by}
use Rattle.std.proofs.lemmas.List.Sums.{sum_by-cons, sum_by-append}
use Rattle.std.specs.Prelude.{Some, None}
use Rattle.epoch_cut.specs.Numbered.{NumberedEpoch}
use Rattle.epoch_node.specs.Cores.{CoreSetup, CoreView}
use Rattle.epoch_node.specs.Keeping.{Traffic, HasLinks, KeepsCore}
use Rattle.epoch_node.specs.Events.{IsMore}
use Rattle.epoch_layout.specs.Layouts.{setup_at}
use Rattle.epoch_layout.specs.DoneLines.{DoneNode, IsPlaced, GotWasSent, IsDoneLine}
use Rattle.jet_core.specs.declared.joints.Joint.{Joint}
use Rattle.jet_core.specs.Joints.{Link, got_on, sent_on, traffic_between}
use Rattle.jet_core.specs.Lines.{Plan, IsLinkOf, StandsBetween, AllStand}

-- the node of a core between its links
pub record IsNodeOf (n : DoneNode) (c : CoreView) (j i : Joint) : Type 0 where
  pub setup : n.setup ≡ c.setup
  pub traffic : n.traffic ≡ traffic_between j i

abbrev pub AreNodesOf : List DoneNode → List CoreView → List Joint → Type 0
AreNodesOf [] [] js = Unit {0}
AreNodesOf (n ∷ ns) (c ∷ cs) (j ∷ i ∷ js) = IsNodeOf n c j i × AreNodesOf ns cs (i ∷ js)
AreNodesOf ns cs js = ⊥

-- the next core of a line
pub record IsNext (ns : List DoneNode) (cs : List CoreView) (c : CoreView) (js : List Joint) : Type 0 where
  pub traffic : Traffic
  pub keeps : KeepsCore c traffic
  pub push : (n : DoneNode) → n.setup ≡ c.setup → n.traffic ≡ traffic → AreNodesOf (ns ++ n ∷ []) (cs ++ c ∷ []) js

module _ (p : Plan) where
  pub next_core : (first : Bool) (es : List NumberedEpoch) (ns : List DoneNode) (cs : List CoreView) (c : CoreView) (rest : List CoreView) (js : List Joint) → AllStand p first es (cs ++ c ∷ rest) js → AreNodesOf ns cs js
      → IsNext ns cs c js
  next_core first [] ns [] c rest js s a = absurd s
  next_core first (e ∷ es) (n ∷ ns) [] c rest js s a = absurd a
  next_core first (e ∷ es) [] (d ∷ cs) c rest js s a = absurd a
  next_core first (e ∷ es) [] [] c rest (j ∷ i ∷ js) s a = record { traffic = traffic_between j i; keeps = s.0.keeps; push = λ n g t. (record { setup = g; traffic = t }, tt) }
  next_core first (e ∷ es) (n ∷ ns) (d ∷ cs) c rest (j ∷ i ∷ js) s a =
      let r = next_core false es ns cs c rest (i ∷ js) s.1 a.1 in
      record { traffic = r.traffic; keeps = r.keeps; push = λ m g t. (a.0, r.push m g t) }
  next_core first es ns cs c rest js s a = absurd s

  more_sent : (link : Link) → IsLinkOf p.capacity link → IsMore (got_on link) (sent_on link)
  more_sent None h = tt
  more_sent (Some l) h = (h.1.held, sym h.1.in_order)

  placed : (g : CoreSetup) (n : DoneNode) (c : CoreView) (j i : Joint) → StandsBetween p.capacity g c j i → IsNodeOf n c j i → IsPlaced g n
  placed g n c j i s a = record { setup = a.setup ∙ s.setup; links = subst₂ HasLinks s.setup (sym a.traffic) s.keeps.links }

  traffic_on_joint : (n m : DoneNode) (c d : CoreView) (j i k : Joint) (g : CoreSetup) → StandsBetween p.capacity g c j i → IsNodeOf n c j i → IsNodeOf m d i k → GotWasSent n m
  traffic_on_joint n m c d j i k g s a b = record {
    asks = subst₂ (λ (v w : Traffic). IsMore v.asks_got w.asks_sent) (sym a.traffic) (sym b.traffic) (more_sent i.ask s.ask);
    answers = subst₂ (λ (v w : Traffic). IsMore w.answers_got v.answers_sent) (sym a.traffic) (sym b.traffic) (more_sent i.answer s.answer);
  }

  pub done_line : (first : Bool) (es : List NumberedEpoch) (ns : List DoneNode) (cs : List CoreView) (js : List Joint) → AllStand p first es cs js → AreNodesOf ns cs js → IsDoneLine p.run first es ns
  done_line first [] [] [] js s a = tt
  done_line first (e ∷ []) (n ∷ []) (c ∷ []) (j ∷ i ∷ js) s a = (placed (setup_at p.run e first true) n c j i s.0 a.0, refl)
  done_line first (e ∷ f ∷ es) (n ∷ m ∷ ns) (c ∷ d ∷ cs) (j ∷ i ∷ k ∷ js) s a = (
    placed (setup_at p.run e first false) n c j i s.0 a.0,
    traffic_on_joint n m c d j i k (setup_at p.run e first false) s.0 a.0 a.1.0,
    done_line false (f ∷ es) (m ∷ ns) (d ∷ cs) (i ∷ k ∷ js) s.1 a.1,
  )
  done_line first es ns cs js s a = absurd (search rules)

-- ---- one node more

pub rows_push : (ns : List DoneNode) (n : DoneNode) → flat_map (λ (m : DoneNode). m.rows) (ns ++ n ∷ []) ≡ flat_map (λ (m : DoneNode). m.rows) ns ++ n.rows
rows_push [] n = append-nil n.rows
rows_push (m ∷ ns) n = ap (λ rs. m.rows ++ rs) (rows_push ns n) ∙ sym (append_assoc m.rows (flat_map (λ (m : DoneNode). m.rows) ns) n.rows)

pub events_push : (ns : List DoneNode) (n : DoneNode) → sum_by (λ (m : DoneNode). m.events) (ns ++ n ∷ []) ≡ n.events + sum_by (λ (m : DoneNode). m.events) ns
events_push ns n = omega (arith, sum_by-append (λ (m : DoneNode). m.events) ns (n ∷ []), sum_by-cons (λ (m : DoneNode). m.events) n [])
