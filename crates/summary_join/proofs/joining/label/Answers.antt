use Rattle.std.proofs.Common.{◌∙◌, arith}
use Rattle.std.proofs.lemmas.List.{nil_from_length}
use Rattle.summary_join.proofs.UpTo.{joined_next, joined_whole}
use Rattle.summary_join.proofs.joining.label.Goals as goal

pub loop-piece-preserved : goal.loop-piece-preserved
loop-piece-preserved c =
    let l = c.loop-piece in
    let j = c.in_ok-cut.ensures.joined in
    record {
      cut_stands = j.ends_stand;
      sinks_stand = j.sinks_stand;
      up_to = λ run h.
          joined_next run l.labels c.join_epoch.new.labels l.cut c.in_ok-cut.cut c.in-Some.piece l.pieces.items c.pop.new.self.items l.sinks.items c.join_epoch.new.sinks.items
          c.in-Some.ensures.items (l.invariant.up_to run h) j;
    }

pub returns : goal.returns
returns c = λ run h.
    let l = c.loop-piece in
    c.new.ensures
    ∙ joined_whole run l.labels l.cut l.pieces.items l.sinks.items (nil_from_length l.pieces.items (omega (arith, c.in_default.ensures.cases.0, l.pieces.ok))) (l.invariant.up_to run h)
