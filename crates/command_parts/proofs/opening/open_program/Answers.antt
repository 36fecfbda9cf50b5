use Rattle.std.proofs.Common.{ap, subst, Ok, Err, ℕ, List}
use Rattle.std.proofs.lemmas.Result.{err_from_is_err_and}
use Rattle.jet_model.specs.Contents.{file_at, program_in}
use Rattle.jet_model.proofs.Files.{program_in-image}
use Rattle.command_parts.specs.Outcome.{IsWork}
use Rattle.command_parts.specs.Views.{program_of}
use Rattle.command_parts.proofs.Read.{no_program}
use Rattle.command_parts.proofs.Composing.{outcome_of-stops, outcome_of-work}
use Rattle.command_parts.proofs.opening.open_program.Goals as goal

pub returns-in_err-bytes-clause-outcome : goal.returns-in_err-bytes-clause-outcome
returns-in_err-bytes-clause-outcome g c =
    let p = err_from_is_err_and c.from_residual.result c.from_residual.ensures.1 in
    rw (p.1, p.2)
    (outcome_of-stops (λ file. file_at file c.args.name.now) (λ bytes file. program_in bytes) (g.S.Store.shown c.args.store.now) (g.S.Store.shown c.read_file.new.store) _ c.in_err-bytes.ensures.outcome)

pub returns-in_err-program-clause-outcome : goal.returns-in_err-program-clause-outcome
returns-in_err-program-clause-outcome g c =
    let bytes : List ℕ = c.in_ok-bytes.bytes.items in
    let p = err_from_is_err_and c.from_residual-in_err-program.result c.from_residual-in_err-program.ensures.1 in
    rw p.1
    (outcome_of-work (λ file. file_at file c.args.name.now) program_in bytes (g.S.Store.shown c.args.store.now) (g.S.Store.shown c.read_file.new.store) c.in_ok-bytes.ensures.outcome (Err p.0)
    (no_program bytes c.in_err-program.field-0.0 p.0 c.in_err-program.ensures.fault p.2))

pub returns-clause-outcome : goal.returns-clause-outcome
returns-clause-outcome g c =
    let bytes : List ℕ = c.in_ok-bytes.bytes.items in
    let program = c.in_ok-program.program in
    outcome_of-work (λ file. file_at file c.args.name.now) program_in bytes (g.S.Store.shown c.args.store.now) (g.S.Store.shown c.read_file.new.store) c.in_ok-bytes.ensures.outcome (Ok (program_of program))
    (subst (λ (t : List ℕ). IsWork (program_in t) (Ok (program_of program))) (ap (λ v. v.items) c.in_ok-program.ensures.file) (program_in-image program.bytes.items program.image program.loads))
