use Rattle.std.proofs.Common.{arith}
use Rattle.run_travel.proofs.Rows.{made_back, some_made}
use Rattle.run_travel.proofs.search.stop_in_row.Goals as goal

pub run_plain-requires : goal.run_plain-requires
run_plain-requires c = λ k late early. let least = c.min-until.ensures in c.plain_until-plain.ensures.plain k late (omega (arith, early, least))

pub last_met-requires : goal.last_met-requires
last_met-requires c =
    some_made c.args.points.now c.args.cursor.now c.run_plain.new.self c.after-looking.result c.run_plain.new.follower c.after-looking.ensures c.run_plain.ensures.told
    c.time-time.result c.met-met.result c.time-time.ensures c.met-met.ensures

pub returns : goal.returns
returns c =
    made_back c.args.points.now c.args.cursor.now c.run_plain.new.self c.min-until.result c.args.most c.after-looking.result c.run_plain.new.follower
    (record {
      was_is = c.after-looking.ensures;
      from = omega arith;
      no_more = omega (arith, c.min-until.ensures);
      same_job = c.run_plain.ensures.job;
      within = c.run_plain.ensures.within;
      told = c.run_plain.ensures.told;
    })
    c.time-time.result c.met-met.result c.last_met.result c.time-time.ensures c.met-met.ensures c.last_met.ensures
