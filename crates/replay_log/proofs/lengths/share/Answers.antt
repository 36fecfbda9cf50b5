use Rattle.std.proofs.Common.{ap, subst, arith}
use Rattle.log_model.specs.Logs.{IsRecord, share}
use Rattle.replay_log.proofs.Shares.{share_inside, share_outside, share_written}
use Rattle.replay_log.proofs.lengths.share.Goals as goal
use Rattle.replay_log.proofs.lengths.share.Goals.{then-args-inputs, else-args-inputs}

pub returns-after-args-inputs : goal.returns-after-args-inputs
returns-after-args-inputs c =
    let is = subst IsRecord c.in-Read.is c.requires in
    let same = ap (share c.args.inputs) c.in-Read.is in
    elim c.if-args-inputs.branch [
      | then-args-inputs w ↦ omega (arith, c.fixed_length.ensures, w.kept-is, w.len-kept.ensures, same, share_inside c.args.inputs c.in-Read.at _ _ _ is w.if-args-inputs.true)
      | else-args-inputs w ↦ omega (arith, c.fixed_length.ensures, w.kept-is, same, share_outside c.args.inputs c.in-Read.at _ _ _ is w.if-args-inputs.false)
    ]

pub returns-in-Write : goal.returns-in-Write
returns-in-Write c =
    let is = subst IsRecord c.in-Write.is c.requires in
    omega (arith, c.fixed_length-in-Write.ensures, c.len.ensures, ap (share c.args.inputs) c.in-Write.is, share_written c.args.inputs c.in-Write.at _ _ _ is)
