use Rattle.std.proofs.Common.{◌≡◌, ap, subst, map, string_bytes, true, false, List, IfOk, IfErr, OnOk}
use Rattle.clap.specs.Words.{App, Text, takes, subcommand_of, subcommand_rows_of}
use Rattle.clap_command.specs.Plain.{is_plain_command}
use Rattle.no_memory.specs.Faults.{IsCausedBy}
use Rattle.jet_words.proofs.read.parse_words.Goals as goal

pub parse-requires : goal.parse-requires
parse-requires c = ap is_plain_command c.in_ok-line.ensures.app

pub returns : goal.returns
returns c =
    let words : List Text = map string_bytes c.args.words.now in
    record {
      taken = subst (λ (a : App). OnOk c.parse.result (takes a words ≡ true)) c.in_ok-line.ensures.app c.parse.ensures.taken;
      usage = subst (λ (a : App). IfErr c.parse.result (IsCausedBy (λ _. takes a words ≡ false))) c.in_ok-line.ensures.app c.parse.ensures.usage;
      subcommand = subst (λ (a : App). IfOk c.parse.result (λ m. subcommand_rows_of m ≡ subcommand_of a words)) c.in_ok-line.ensures.app c.parse.ensures.subcommand;
    }
