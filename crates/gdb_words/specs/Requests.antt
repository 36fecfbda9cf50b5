-- What the words of the program `jet-gdb` stand for.
use Rattle.std.specs.Prelude.{ℕ, List, Option, Some, None, codes, if◌then◌else◌}
use Rattle.clap.specs.Words.{App, Row, Text, matches_of, new_app, takes, with_rule}
use Rattle.clap_command.specs.Arguments.{positional, number_or}
use Rattle.clap_command.specs.Values.{value_of, number_of}
use Rattle.gdb_words.specs.declared.request.Request.{Request}

-- jet-gdb PROG LOG [T]
abbrev pub gdb_app : App
gdb_app =
    with_rule (with_rule (with_rule (new_app (codes "jet-gdb")) (positional (codes "PROG"))) (positional (codes "LOG")))
    (number_or (codes "T") 0 1099511627776 (codes "0"))

-- a run that is to be debugged, by the names of its files, and the time at which that begins
pub record RequestOf : Type 0 where
  pub program : Text
  pub log : Text
  pub time : ℕ

-- by the values of the arguments
abbrev pub request_by : List Row → RequestOf
request_by rows = record {
  program = value_of (codes "PROG") rows;
  log = value_of (codes "LOG") rows;
  time = number_of (codes "T") rows;
}

-- what the words stand for, of which the first is the program's name, if they stand for anything
unfoldable pub request_of : List Text → Option RequestOf
request_of words = if takes gdb_app words then Some (request_by (matches_of gdb_app words)) else None

abbrev pub plain_request : Request → RequestOf
plain_request r = record { program = r.program.now; log = r.log.now; time = r.time }
