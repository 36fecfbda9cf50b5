use Rattle.std.proofs.Common.{sym, subst}
use Rattle.flow_model.specs.Flow.{lane, nothing}
use Rattle.flow_rule.specs.Shuffles.{shuffled_lanes}
use Rattle.taint_shadow.specs.Labels.{MakesLabel, nothing_label}
use Rattle.taint_shadow.specs.Lanes.{clean, shuffled}
use Rattle.taint_shadow.specs.Places.{origin_lanes}
use Rattle.taint_shadow.proofs.Meaning.{alike_at, keeps_itself, lane_here, lane_made, origins_at}
use Rattle.taint_shadow.proofs.Flows.{shuffled_made, shuffled_here}
use Rattle.taint_shadow.proofs.Targets.{register_turned}
use Rattle.taint_shadow.proofs.shapes.turn_by_shape.Goals as goal

pub returns-in-Move : goal.returns-in-Move
returns-in-Move g c =
    let words = g.A.Labels.words in
    let a = c.args.labels.now in
    let p = c.args.places.now in
    let rs = c.in-Move.rs in
    let registers = rw c.in-Move.is at c.requires.registers in
    rw c.in-Move.is
    (register_turned words a a p c.copy_lanes.new.self c.requires.standing (keeps_itself words a) c.in-Move.rd (lane rs) (origin_lanes p rs)
    (λ i h. lane_made words g.met.A.Labels.laws a p c.requires.standing rs i _ registers.1 h (origins_at p rs i h))
    (λ i h. lane_here rs i registers.1 h) c.copy_lanes.ensures)

pub returns-in-Shuffled : goal.returns-in-Shuffled
returns-in-Shuffled g c =
    let words = g.A.Labels.words in
    let a = c.args.labels.now in
    let p = c.args.places.now in
    let rs = c.in-Shuffled.rs in
    let shuffle = c.in-Shuffled.shuffle in
    let registers = rw c.in-Shuffled.is at c.requires.registers in
    let few = rw c.in-Shuffled.is at c.requires.sizes in
    rw c.in-Shuffled.is
    (register_turned words a a p c.shuffle_lanes.new.self c.requires.standing (keeps_itself words a) c.in-Shuffled.rd (shuffled_lanes shuffle rs) (shuffled (origin_lanes p rs) shuffle)
    (shuffled_made words g.met.A.Labels.laws a p c.requires.standing shuffle rs registers.1 few)
    (λ i h. shuffled_here shuffle rs i registers.1 few) c.shuffle_lanes.ensures)

pub mix-requires-clause-registers : goal.mix-requires-clause-registers
mix-requires-clause-registers g c = rw c.in-Mixed.is at c.requires.registers

pub mix-requires-clause-standing : goal.mix-requires-clause-standing
mix-requires-clause-standing g c = c.requires.standing

pub load_anywhere-requires-clause-registers : goal.load_anywhere-requires-clause-registers
load_anywhere-requires-clause-registers g c = rw c.in-Load.is at c.requires.registers

pub load_anywhere-requires-clause-size : goal.load_anywhere-requires-clause-size
load_anywhere-requires-clause-size g c = rw c.in-Load.is at c.requires.sizes

pub load_anywhere-requires-clause-standing : goal.load_anywhere-requires-clause-standing
load_anywhere-requires-clause-standing g c = c.requires.standing

pub store_by_base-requires-clause-registers : goal.store_by_base-requires-clause-registers
store_by_base-requires-clause-registers g c = rw c.in-Store.is at c.requires.registers

pub store_by_base-requires-clause-size : goal.store_by_base-requires-clause-size
store_by_base-requires-clause-size g c = rw c.in-Store.is at c.requires.sizes

pub store_by_base-requires-clause-standing : goal.store_by_base-requires-clause-standing
store_by_base-requires-clause-standing g c = c.requires.standing

pub returns-in-Mixed : goal.returns-in-Mixed
returns-in-Mixed g c = rw c.in-Mixed.is c.mix.ensures

pub returns-in-Load : goal.returns-in-Load
returns-in-Load g c = rw c.in-Load.is c.load_anywhere.ensures

pub returns-in-Store : goal.returns-in-Store
returns-in-Store g c = rw c.in-Store.is c.store_by_base.ensures

-- nothing flows
pub returns-in-Nothing : goal.returns-in-Nothing
returns-in-Nothing g c =
    rw c.in-Nothing.is
    (record { holds = λ f h. record { at = λ l i. h.at l i }; standing = c.requires.standing; keeps = keeps_itself g.A.Labels.words c.args.labels.now })

pub returns-in-Clear : goal.returns-in-Clear
returns-in-Clear g c =
    let words = g.A.Labels.words in
    let a = c.args.labels.now in
    rw c.in-Clear.is
    (register_turned words a a c.args.places.now c.clear.new.self c.requires.standing (keeps_itself words a) c.in-Clear.rd nothing clean
    (λ i h. subst (MakesLabel words a words.nothing) (sym (alike_at nothing_label i h)) (g.met.A.Labels.laws.of_nothing a))
    (λ i h. tt) c.clear.ensures)
