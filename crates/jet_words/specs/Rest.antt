-- The last of the other commands, as `other_by` has them. No meaning of words rests on it.
use Rattle.std.specs.Prelude.{List, Option, Some, None, codes, if◌then◌else◌}
use Rattle.std.specs.Str.{bytes_eq}
use Rattle.clap.specs.Words.{Row, Text}
use Rattle.jet_words.specs.Commands.{CommandOf, convert_of, core_of, queries_of, bench_of}

abbrev pub rest_by : Text → List Row → Option CommandOf
rest_by name rows =
    if bytes_eq name (codes "convert") then Some (convert_of rows)
    else (if bytes_eq name (codes "core") then Some (core_of rows)
    else (if bytes_eq name (codes "queries") then Some (queries_of rows)
    else (if bytes_eq name (codes "bench") then Some (bench_of rows) else None)))
