use Rattle.std.proofs.Common.{◌≡◌, ap₂, sym, subst, List, Option, Some, None, IfOk, IfSome, option_map, option_and_then}
use Rattle.std.specs.Box.{box_value}
use Rattle.clap.specs.Words.{Row, Text, rows_of, found_of}
use Rattle.clap.specs.declared.parser.matches.ArgMatches.TheViews.{out-ArgMatches, out-SubCommand}
use Rattle.jet_words.specs.Commands.{command_by, plain_command}
use Rattle.jet_words.specs.Numbers.{HasNumbers}
use Rattle.jet_words.proofs.read.command_by_subcommand.Goals as goal

-- the subcommand's name and rows are these
its_own : {B : Type 0} (name_of : B → Text) (its_rows : B → List Row) (o : Option B) (name : Text) (rows : List Row)
    → Some name ≡ option_map name_of o → Some rows ≡ option_map (λ (p : Text × List Row). p.1) (option_map (λ b. (name_of b, its_rows b)) o)
    → option_map {U = Text × List Row} (λ b. (name_of b, its_rows b)) o ≡ Some (name, rows)
its_own name_of its_rows None name rows e f = cc
its_own name_of its_rows (Some b) name rows e f =
    let n : name_of b ≡ name = cc in
    let r : its_rows b ≡ rows = cc in
    ap₂ (λ (x : Text) (xs : List Row). Some (x, xs)) n r

pub command_by_name-requires : goal.command_by_name-requires
command_by_name-requires c =
    let own =
    its_own (λ b. (out-SubCommand (box_value b)).name.now) (λ b. rows_of (found_of (out-SubCommand (box_value b)).matches))
    (out-ArgMatches c.args.matches.now).subcommand c.in-Some.name.now (rows_of (found_of c.in-Some.matches.now)) c.in-Some.ensures.name c.in-Some.ensures.rows in
    subst (λ (o : Option (Text × List Row)). IfSome o HasNumbers) own c.requires

pub returns-in-Some : goal.returns-in-Some
returns-in-Some c =
    let own =
    its_own (λ b. (out-SubCommand (box_value b)).name.now) (λ b. rows_of (found_of (out-SubCommand (box_value b)).matches))
    (out-ArgMatches c.args.matches.now).subcommand c.in-Some.name.now (rows_of (found_of c.in-Some.matches.now)) c.in-Some.ensures.name c.in-Some.ensures.rows in
    subst (λ (o : Option (Text × List Row)). IfOk c.command_by_name.result (λ d. option_map plain_command d ≡ option_and_then command_by o)) (sym own) c.command_by_name.ensures
