use Rattle.std.proofs.Common.{List, [], ◌∷◌, ◌++◌, map, drop, reverse, refl, ap, sym, ◌∙◌, subst, arith, true, append-nil}
use Rattle.std.specs.Prelude.{All}
use Rattle.std.specs.List.{flat_map, sum_by}
use Rattle.std.proofs.lemmas.List.{reverse-reverse}
use Rattle.std.proofs.lemmas.List.Folds.{flat_map-map}
use Rattle.std.proofs.lemmas.List.Sums.{sum_by-cons}
use Rattle.std.proofs.lemmas.Grind.{reverse_onto}
use Rattle.flow_model.specs.declared.Loc.{Loc}
use Rattle.report_model.specs.Rows.{Row}
use Rattle.epoch_node.specs.Cores.{asked_at}
use Rattle.epoch_node.specs.Nodes.{IsDone}
use Rattle.epoch_layout.specs.Layouts.{epochs_of}
use Rattle.epoch_layout.specs.DoneLines.{DoneNode}
use Rattle.epoch_layout.proofs.Lines.{IsLine, run_line, part}
use Rattle.epoch_layout.proofs.Whole.{done_lines_come}
use Rattle.epoch_layout.proofs.Popping.{Finished, views, node_of, nodes, popped, all_at, all_done, links_are, one_more, done_line, capped_more}
use Rattle.epoch_layout.proofs.collecting.collect.Goals as goal

pub loop-node-init : goal.loop-node-init
loop-node-init g c =
    let new = c.in_ok-gathering.ensures in
    record {
      done = [];
      split = sym (append-nil c.args.nodes.items);
      faces = (new.ask_out, new.answer_in);
      closed = tt;
      sets = new.sets;
      asked = new.asked;
      events = new.events;
    }

pub take-requires : goal.take-requires
take-requires g c =
    let i = c.loop-node.invariant in
    let n = c.in-Some.node in
    let rest = c.pop.new.self.items in
    let e = popped c.args.nodes.items c.loop-node.nodes.items rest (views i.done) n i.split c.in-Some.ensures.items in
    let run = c.requires.led.0 in
    let p = part run _ (epochs_of run) rest (n ∷ views i.done) (subst (IsLine run _ (epochs_of run)) e (run_line run c.args.nodes.items c.requires.led.1)) in
    record {
      done = all_at IsDone rest n (views i.done) (subst (All IsDone) e c.requires.done);
      ask = (links_are run n i.done c.loop-node.gathering.ask_out c.loop-node.gathering.answer_in p i.faces).0;
      answer = (links_are run n i.done c.loop-node.gathering.ask_out c.loop-node.gathering.answer_in p i.faces).1;
    }

pub loop-node-preserved : goal.loop-node-preserved
loop-node-preserved g c =
    let i = c.loop-node.invariant in
    let n = c.in-Some.node in
    let rest = c.pop.new.self.items in
    let taken = c.in_ok-take.ensures in
    let f : Finished = record { view = n; rows = taken.rows; done = taken.done; counted = taken.counted } in
    record {
      done = f ∷ i.done;
      split = popped c.args.nodes.items c.loop-node.nodes.items rest (views i.done) n i.split c.in-Some.ensures.items;
      faces = (taken.ask_out, taken.answer_in);
      closed = one_more f i.done c.loop-node.gathering.ask_out c.loop-node.gathering.answer_in i.faces i.closed taken.asks taken.answers;
      sets = taken.sets ∙ ap (λ (rs : List (List Row)). rs ++ taken.rows ∷ []) i.sets ∙ sym (reverse_onto (map (λ (d : DoneNode). d.rows) (nodes i.done)) taken.rows []);
      asked = taken.asked ∙ ap (λ (ls : List (List Loc)). ls ++ asked_at n.core.stage ∷ []) i.asked ∙ sym (reverse_onto (map (λ (d : DoneNode). d.asked) (nodes i.done)) (asked_at n.core.stage) []);
      events = capped_more c.loop-node.gathering.events n.core.events (sum_by (λ (d : DoneNode). d.events) (nodes i.done)) _ _ _ i.events refl taken.events (sum_by-cons (λ (d : DoneNode). d.events) (node_of f) (nodes i.done));
    }

pub returns : goal.returns
returns g c = λ run r.
    let i = c.loop-node.invariant in
    let all = all_done c.args.nodes.items c.loop-node.nodes.items (views i.done) i.split (omega (arith, c.in_default.ensures.cases.0, c.loop-node.nodes.ok)) in
    let line = subst (IsLine run _ (epochs_of run)) all (run_line run c.args.nodes.items r) in
    let come = done_lines_come run (nodes i.done) r.laid.cutting r.laid.located (done_line run true (epochs_of run) i.done line i.closed) in
    record {
      rows = c.in_ok-sets.ensures
          ∙ ap (λ (rs : List (List Row)). flat_map (λ rows. rows) (reverse rs)) i.sets
          ∙ ap (λ (rs : List (List Row)). flat_map (λ rows. rows) rs) (reverse-reverse (map (λ (d : DoneNode). d.rows) (nodes i.done)))
          ∙ flat_map-map (λ rows. rows) (λ (d : DoneNode). d.rows) (nodes i.done)
          ∙ come.rows;
      crossed = c.back_to_front-crossed.ensures
          ∙ ap (λ (ls : List (List Loc)). drop 1 (reverse ls)) i.asked
          ∙ ap (λ (ls : List (List Loc)). drop 1 ls) (reverse-reverse (map (λ (d : DoneNode). d.asked) (nodes i.done)))
          ∙ come.crossed_are;
      events = i.events ∙ come.events;
    }
