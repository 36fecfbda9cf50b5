-- What the code rests on where it reads numbers. No meaning of words rests on it.
use Rattle.std.specs.Prelude.{◌≡◌, true, List, IsSome, codes}
use Rattle.std.specs.Str.{bytes_eq}
use Rattle.clap.specs.Words.{Row, Text}
use Rattle.clap_command.specs.Numbers.{IsNumber, IsLongNumber, AreLongNumbers, IsOptionalNumber}
use Rattle.jet_words.specs.Commands.{listing_by}

-- the numbers of the pipeline can be read
abbrev pub HasPipelineNumbers : List Row → Type 0
HasPipelineNumbers rows =
    IsOptionalNumber (codes "epoch") rows × IsNumber (codes "workers") rows × IsOptionalNumber (codes "link") rows

-- each number of the subcommand can be read
abbrev pub HasNumbers : Text × List Row → Type 0
HasNumbers (name, rows) =
    (IsSome (listing_by name) → HasPipelineNumbers rows)
    × (bytes_eq name (codes "input") ≡ true → IsNumber (codes "C") rows)
    × (bytes_eq name (codes "output") ≡ true → IsNumber (codes "C") rows)
    × (bytes_eq name (codes "stack") ≡ true → AreLongNumbers (codes "T") rows)
    × (bytes_eq name (codes "page") ≡ true → HasPipelineNumbers rows)
    × (bytes_eq name (codes "record") ≡ true → IsNumber (codes "pages") rows × IsNumber (codes "piece") rows × IsLongNumber (codes "steps") rows)
    × (bytes_eq name (codes "core") ≡ true → IsLongNumber (codes "T") rows)
    × (bytes_eq name (codes "queries") ≡ true → HasPipelineNumbers rows)
    × (bytes_eq name (codes "bench") ≡ true →
    IsLongNumber (codes "SEED") rows × IsLongNumber (codes "STEPS") rows × HasPipelineNumbers rows)
