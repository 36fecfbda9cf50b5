use Rattle.std.proofs.Common.{◌≡◌, ℕ, suc, ◌+◌, List, [], ◌∷◌, ◌++◌, map, length, length-append, append_assoc, append-nil, true, ap, ap₂, sym, subst, subst₂, ◌∙◌, arith}
use Rattle.std.proofs.lemmas.List.{length-map, map_push, nil_from_length}
use Rattle.std.specs.Vec.Iter.{into_iter_items}
use Rattle.epoch_node.specs.Cores.{CoreView, core_of}
use Rattle.epoch_layout.specs.Layouts.{epochs_of}
use Rattle.jet_core.specs.Turns.{KeepsAt}
use Rattle.jet_core.specs.Lines.{IsLineOf}
use Rattle.jet_core.proofs.Placing.{turns_count, keeps_next, turns_next}
use Rattle.jet_core.proofs.Standing.{keeps_at, joints_count}
use Rattle.jet_core.proofs.Beginning.{laid_out_stands, IsBeginning, beginning, begins_at, all_begun}
use Rattle.jet_core.proofs.Going.{line_on, RoundTo, round_starts, round_on, round_less}
use Rattle.jet_core.proofs.rounds.round.Goals as goal

pub loop-core-init : goal.loop-core-init
loop-core-init g c =
    let cs : List CoreView = map (core_of {G = g.row.G.Denot}) c.args.line.cores.items in
    let js = c.args.line.joints.items in
    let none = c.in_ok-turned.ensures.items in
    let same : map (core_of {G = g.row.G.Denot}) c.in_ok-turned.turned.items ++ map (core_of {G = g.row.G.Denot}) (into_iter_items c.into_iter-core-iterator.result) ≡ cs =
    ap₂ (λ xs ys. map (core_of {G = g.row.G.Denot}) xs ++ map (core_of {G = g.row.G.Denot}) ys) none c.into_iter-core-iterator.ensures.into_iter_gives.0 in
    record {
      count = ap length same;
      line = λ p h. subst (λ (ds : List CoreView). IsLineOf p ds js) (sym same) h;
      begins = λ p l. subst₂ (λ (n : ℕ) (ds : List CoreView). IsBeginning n ds js) (sym (ap length none)) (sym same) (beginning p cs js l);
      so_far = λ p h a. subst₂ (λ (n : ℕ) (ds : List CoreView). RoundTo p n cs js ds js) (sym (ap length none)) (sym same) (round_starts p cs js a);
    }

pub turn_at-requires-clause-inside : goal.turn_at-requires-clause-inside
turn_at-requires-clause-inside g c κs within =
    let i = c.loop-core.invariant in
    let joints = c.loop-core.joints.items in
    let front : List CoreView = map (core_of {G = g.row.G.Denot}) c.loop-core.turned.items in
    let core : CoreView = core_of {G = g.row.G.Denot} c.in-Some.core in
    let rest : List CoreView = map (core_of {G = g.row.G.Denot}) (into_iter_items c.next.new.self) in
    let now : front ++ map (core_of {G = g.row.G.Denot}) (into_iter_items c.loop-core.core-iterator) ≡ front ++ core ∷ rest = ap (λ xs. front ++ map (core_of {G = g.row.G.Denot}) xs) c.in-Some.ensures.steps.0 in
    let plan = c.requires.0 in
    let line = subst (λ (ds : List CoreView). IsLineOf plan ds joints) now (i.line plan c.requires.1) in
    let long = length-append front (core ∷ rest) in
    let count = joints_count plan true (epochs_of plan.run) (front ++ core ∷ rest) joints line.stand in
    let items = length-map c.loop-core.turned.items (core_of {G = g.row.G.Denot}) in
    omega (arith, count, long, items, c.len-in-loop-core.ensures, c.loop-core.turned.ok.0)

pub turn_at-requires-clause-keeps : goal.turn_at-requires-clause-keeps
turn_at-requires-clause-keeps g c κs within =
    let i = c.loop-core.invariant in
    let joints = c.loop-core.joints.items in
    let front : List CoreView = map (core_of {G = g.row.G.Denot}) c.loop-core.turned.items in
    let core : CoreView = core_of {G = g.row.G.Denot} c.in-Some.core in
    let rest : List CoreView = map (core_of {G = g.row.G.Denot}) (into_iter_items c.next.new.self) in
    let now : front ++ map (core_of {G = g.row.G.Denot}) (into_iter_items c.loop-core.core-iterator) ≡ front ++ core ∷ rest = ap (λ xs. front ++ map (core_of {G = g.row.G.Denot}) xs) c.in-Some.ensures.steps.0 in
    let plan = c.requires.0 in
    let line = subst (λ (ds : List CoreView). IsLineOf plan ds joints) now (i.line plan c.requires.1) in
    let long = length-append front (core ∷ rest) in
    let place : c.len-in-loop-core.result ≡ length front = c.len-in-loop-core.ensures ∙ c.loop-core.turned.ok.0 ∙ sym (length-map c.loop-core.turned.items (core_of {G = g.row.G.Denot})) in
    keeps_next front rest core c.len-in-loop-core.result place joints (keeps_at plan (length front) true (epochs_of plan.run) (front ++ core ∷ rest) joints line.stand (omega (arith, long)))

pub loop-core-preserved : goal.loop-core-preserved
loop-core-preserved g c =
    let cs : List CoreView = map (core_of {G = g.row.G.Denot}) c.args.line.cores.items in
    let js = c.args.line.joints.items in
    let i = c.loop-core.invariant in
    let joints = c.loop-core.joints.items in
    let front : List CoreView = map (core_of {G = g.row.G.Denot}) c.loop-core.turned.items in
    let core : CoreView = core_of {G = g.row.G.Denot} c.in-Some.core in
    let rest : List CoreView = map (core_of {G = g.row.G.Denot}) (into_iter_items c.next.new.self) in
    let now : front ++ map (core_of {G = g.row.G.Denot}) (into_iter_items c.loop-core.core-iterator) ≡ front ++ core ∷ rest = ap (λ xs. front ++ map (core_of {G = g.row.G.Denot}) xs) c.in-Some.ensures.steps.0 in
    let plan = c.requires.0 in
    let line = subst (λ (ds : List CoreView). IsLineOf plan ds joints) now (i.line plan c.requires.1) in
    let long = length-append front (core ∷ rest) in
    let place : c.len-in-loop-core.result ≡ length front = c.len-in-loop-core.ensures ∙ c.loop-core.turned.ok.0 ∙ sym (length-map c.loop-core.turned.items (core_of {G = g.row.G.Denot})) in
    let keeps : KeepsAt (length front) (front ++ core ∷ rest) joints = keeps_at plan (length front) true (epochs_of plan.run) (front ++ core ∷ rest) joints line.stand (omega (arith, long)) in
    let next : CoreView = core_of {G = g.row.G.Denot} c.turn_at.new.core in
    let joints' = c.turn_at.new.joints.items in
    let t = turns_next front rest core c.len-in-loop-core.result place joints keeps next joints' c.turn_at.ensures in
    let later : map (core_of {G = g.row.G.Denot}) c.push.new.self.items ++ rest ≡ front ++ next ∷ rest =
    ap (λ (ds : List CoreView). ds ++ rest) (ap (map (core_of {G = g.row.G.Denot})) c.in_ok-push.ensures.items ∙ map_push (core_of {G = g.row.G.Denot}) c.loop-core.turned.items c.turn_at.new.core) ∙ append_assoc front (next ∷ []) rest in
    let items = length-map c.loop-core.turned.items (core_of {G = g.row.G.Denot}) in
    let more : length c.push.new.self.items ≡ length c.loop-core.turned.items + 1 = ap length c.in_ok-push.ensures.items ∙ length-append c.loop-core.turned.items (c.turn_at.new.core ∷ []) in
    let one_more : suc (length front) ≡ length c.push.new.self.items = omega (arith, items, more) in
    let turned = turns_count (length front) _ _ _ _ t in
    let was = ap length now in
    let is = ap length later in
    record {
      count = omega (arith, i.count, turned, was, is);
      line = λ p h.
          subst (λ (ds : List CoreView). IsLineOf p ds joints') (sym later)
          (line_on p (length front) (front ++ core ∷ rest) joints (front ++ next ∷ rest) joints' (subst (λ (ds : List CoreView). IsLineOf p ds joints) now (i.line p h)) t);
      begins = λ p l.
          subst₂ (λ (n : ℕ) (ds : List CoreView). IsBeginning n ds joints') one_more (sym later)
          (begins_at (length front) (front ++ core ∷ rest) joints (front ++ next ∷ rest) joints' (subst₂ (λ (n : ℕ) (ds : List CoreView). IsBeginning n ds joints) (sym items) now (i.begins p l)) t);
      so_far = λ p h a.
          subst₂ (λ (n : ℕ) (ds : List CoreView). RoundTo p n cs js ds joints') one_more (sym later)
          (round_on p (length front) cs js (front ++ core ∷ rest) joints (front ++ next ∷ rest) joints' (subst (λ (ds : List CoreView). IsLineOf p ds joints) now (i.line p h))
          (subst₂ (λ (n : ℕ) (ds : List CoreView). RoundTo p n cs js ds joints) (sym items) now (i.so_far p h a)) t);
    }

pub returns : goal.returns
returns g c =
    let cs : List CoreView = map (core_of {G = g.row.G.Denot}) c.args.line.cores.items in
    let js = c.args.line.joints.items in
    let i = c.loop-core.invariant in
    let joints = c.loop-core.joints.items in
    let turned : List CoreView = map (core_of {G = g.row.G.Denot}) c.loop-core.turned.items in
    let none : length (into_iter_items c.loop-core.core-iterator) ≡ 0 = omega (arith, c.in-None.ensures.steps.0, c.loop-core.core-iterator.rest.ok) in
    let same : turned ++ map (core_of {G =
    g.row.G.Denot}) (into_iter_items c.loop-core.core-iterator) ≡ turned = ap (λ xs. turned ++ map (core_of
    {G = g.row.G.Denot}) xs) (nil_from_length (into_iter_items c.loop-core.core-iterator) none) ∙ append-nil turned in
    let items = length-map c.loop-core.turned.items (core_of {G = g.row.G.Denot}) in
    let is = ap length same in
    let all : length c.loop-core.turned.items ≡ length cs = omega (arith, items, is, i.count) in
    record {
      line = λ p h.
          subst (λ (ds : List CoreView). IsLineOf p ds joints) same (i.line p h);
      begun = λ p l.
          all_begun p turned joints (subst (λ (ds : List CoreView). IsLineOf p ds joints) same (i.line p (laid_out_stands p cs js l)))
          (subst₂ (λ (n : ℕ) (ds : List CoreView). IsBeginning n ds joints) (sym items) same (i.begins p l));
      parts = λ p h a.
          (subst (λ (ds : List CoreView). RoundTo p (length c.loop-core.turned.items) cs js ds joints) same (i.so_far p h a)).parts;
      less = λ p h a not_done.
          round_less p cs js turned joints h (subst₂ (λ (n : ℕ) (ds : List CoreView). RoundTo p n cs js ds joints) all same (i.so_far p h a)) not_done;
    }
