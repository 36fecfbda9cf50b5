use Rattle.std.proofs.Common.{◌≡◌, [], ◌∷◌, ◌++◌, List, map, drop, length, refl, ap, ap₂, sym, ◌∙◌, subst, append_assoc, append-nil, true, arith}
use Rattle.std.proofs.lemmas.List.{map_push, nil_from_length}
use Rattle.std.specs.Prelude.{IfOk}
use Rattle.std.specs.List.{sum_by}
use Rattle.std.specs.Vec.Iter.{into_iter_items}
use Rattle.flow_model.specs.declared.Loc.{Loc}
use Rattle.report_model.specs.Rows.{Row}
use Rattle.epoch_node.specs.Cores.{core_of}
use Rattle.epoch_node.specs.Keeping.{HasDone, HasCounted}
use Rattle.epoch_layout.specs.Layouts.{epochs_of}
use Rattle.epoch_layout.specs.DoneLines.{DoneNode}
use Rattle.epoch_layout.proofs.Whole.{done_lines_come}
use Rattle.epoch_layout.proofs.Popping.{capped_more}
use Rattle.jet_core.specs.Lines.{AreDone, AllStand}
use Rattle.jet_core.proofs.Doing.{done_each}
use Rattle.jet_core.proofs.Nodes.{AreNodesOf, next_core, done_line, rows_push, events_push}
use Rattle.jet_core.proofs.collecting.collect.Goals as goal

pub loop-core-init : goal.loop-core-init
loop-core-init g c = record {
  front = [];
  done = [];
  split = ap (map (core_of {G = g.row.G.Denot})) c.into_iter-core-iterator.ensures.into_iter_gives.0;
  are = tt;
  sets = c.from_vec-sets.ensures ∙ c.new.ensures.items;
  asked = c.new-asked.ensures.items;
  events = refl;
}

pub into_result-requires : goal.into_result-requires
into_result-requires g c =
    let i = c.loop-core.invariant in
    let rest = into_iter_items c.next.new.self in
    let split = ap (λ cs. i.front ++ map (core_of {G = g.row.G.Denot}) cs) (sym c.in-Some.ensures.steps.0) ∙ i.split in
    done_each i.front (map (core_of {G = g.row.G.Denot}) rest) (core_of c.in-Some.core) (subst AreDone (sym split) c.requires.done)

pub loop-core-preserved : goal.loop-core-preserved
loop-core-preserved g c =
    let i = c.loop-core.invariant in
    let core = core_of {G = g.row.G.Denot} c.in-Some.core in
    let rest = map (core_of {G = g.row.G.Denot}) (into_iter_items c.next.new.self) in
    let plan = c.requires.line.0 in
    let split = ap (λ cs. i.front ++ map (core_of {G = g.row.G.Denot}) cs) (sym c.in-Some.ensures.steps.0) ∙ i.split in
    let next = next_core plan true (epochs_of plan.run) i.done i.front core rest c.args.line.joints.items (subst (λ cs. AllStand plan true (epochs_of plan.run) cs c.args.line.joints.items) (sym split) c.requires.line.1.stand) i.are in
    let has = subst (λ r. IfOk r (λ rows. HasDone core.setup next.traffic c.in_ok-own.requests rows)) c.in-Ok.is (c.in_ok-own.ensures.done next.traffic next.keeps) in
    let counted = subst (λ r. IfOk r (λ rows. HasCounted core.setup next.traffic c.in_ok-own.requests rows c.in_ok-own.moved)) c.in-Ok.is (c.in_ok-own.ensures.counted next.traffic next.keeps) in
    let n : DoneNode = record { setup = core.setup; traffic = next.traffic; asked = c.in_ok-own.requests; rows = c.in-Ok.own; events = c.in_ok-own.moved; done = has; counted = counted } in
    record {
      front = i.front ++ core ∷ [];
      done = i.done ++ n ∷ [];
      split = append_assoc i.front (core ∷ []) rest ∙ split;
      are = next.push n refl refl;
      sets = c.in_ok-append.ensures ∙ ap (λ (xs : List Row). xs ++ n.rows) i.sets ∙ sym (rows_push i.done n);
      asked = c.in_ok-push.ensures.items ∙ ap (λ (ls : List (List Loc)). ls ++ n.asked ∷ []) i.asked ∙ sym (map_push (λ (m : DoneNode). m.asked) i.done n);
      events = capped_more c.loop-core.events n.events (sum_by (λ (m : DoneNode). m.events) i.done) n.events _ _ i.events refl c.saturating_add-events.ensures (events_push i.done n);
    }

pub returns : goal.returns
returns g c = λ plan l.
    let i = c.loop-core.invariant in
    let none : length (into_iter_items c.loop-core.core-iterator) ≡ 0 = omega (arith, c.in-None.ensures.steps.0, c.loop-core.core-iterator.rest.ok) in
    let all =
    sym (append-nil i.front) ∙ ap (λ cs. i.front ++ map (core_of {G = g.row.G.Denot}) cs)
    (sym (nil_from_length (into_iter_items c.loop-core.core-iterator) none)) ∙ i.split in
    let line = done_line plan true (epochs_of plan.run) i.done _ c.args.line.joints.items l.stand (subst (λ cs. AreNodesOf i.done cs c.args.line.joints.items) all i.are) in
    let come = done_lines_come plan.run i.done l.cutting l.located line in
    record {
      rows = i.sets ∙ come.rows;
      crossed = c.without_first-crossed.ensures ∙ ap (λ (ls : List (List Loc)). drop 1 ls) i.asked ∙ come.crossed_are;
      events = i.events ∙ come.events;
    }
