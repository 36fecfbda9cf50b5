use Rattle.std.proofs.Common.{ap, ◌∙◌, arith}
use Rattle.run_travel.specs.Looks.{looking}
use Rattle.run_travel.proofs.Rows.{made_row}
use Rattle.run_travel.proofs.search.stop_after_row.Goals as goal

pub run_plain-requires : goal.run_plain-requires
run_plain-requires c = λ k late early. c.plain_until-until.ensures.plain k late early

pub returns : goal.returns
returns c =
    made_row c.args.points.now c.args.aim c.args.cursor.now c.make_step-met.new.cursor c.run_plain.new.self c.plain_until-until.result c.after-looking.result c.run_plain.new.follower
    (record {
      below = omega arith;
      moved = c.make_step-met.ensures.moved;
      was_is = c.after-looking.ensures ∙ ap (looking c.args.points.now c.args.aim) c.make_step-met.ensures.met;
      plain = c.plain_until-until.ensures;
      same_job = c.run_plain.ensures.job;
      within = c.run_plain.ensures.within;
      told = c.run_plain.ensures.told;
    })
    c.time-time.result c.pc-pc.result c.met-met.result c.stop_after.result
    (record { time_is = c.time-time.ensures; pc_is = c.pc-pc.ensures; met_is = c.met-met.ensures })
    c.stop_after.ensures
