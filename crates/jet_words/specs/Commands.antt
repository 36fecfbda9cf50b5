-- What the words of a command line stand for.
use Rattle.std.specs.Prelude.{◌≤◌, ⊤, ℕ, List, map, length, Option, Some, None, IfSome, codes, option_and_then, if◌then◌else◌}
use Rattle.std.specs.List.{All}
use Rattle.std.specs.Str.{bytes_eq}
use Rattle.clap.specs.Words.{Row, Text, takes, subcommand_of}
use Rattle.clap_command.specs.Values.{value_of, values_of, number_of, numbers_of, optional_number_of}
use Rattle.jet_words.specs.CommandLine.{jet_app}
use Rattle.jet_words.specs.declared.command.Listing.{Listing}
use Rattle.jet_words.specs.declared.command.Listing.TheVariants.{BySink, BySource, ByPath, ByRange}
use Rattle.jet_words.specs.declared.command.Product.{Product}
use Rattle.jet_words.specs.declared.command.Product.TheVariants.{Numbers, Calls, Input, Output}
use Rattle.jet_words.specs.declared.command.Pipeline.{Pipeline}
use Rattle.jet_words.specs.declared.command.Command.{Command}
use Rattle.jet_words.specs.declared.command.Command.TheVariants.{Analysis, Product as Made, Stacks, Decisions, Page, Record, Convert, Core, Queries, Bench}

-- a command; files are told by their names
pub data CommandOf : Type 0 where
  -- what is told of the rows of a query
  AnalysisOf : (listing : Listing) (program log query : Text) (pipeline : Pipeline) → CommandOf
  -- what is made of a recorded run
  ProductOf : (product : Product) (program log : Text) → CommandOf
  -- the calls in progress at these times of a run
  StacksOf : (program log : Text) (times : List ℕ) → CommandOf
  -- where a source byte of a query could turn a run
  DecisionsOf : (program log query : Text) → CommandOf
  -- the page of a query, written into a file
  PageOf : (program log query page : Text) (pipeline : Pipeline) → CommandOf
  -- the log of a run over these input files, with so many pages of memory, at most `piece` bytes to a read, and cut off after
  -- `steps` steps
  RecordOf : (program log : Text) (inputs : List Text) (pages piece steps : ℕ) → CommandOf
  -- the log, written anew into another file
  ConvertOf : (program log new : Text) → CommandOf
  -- the state after so many steps, written into a core file
  CoreOf : (program log : Text) (time : ℕ) (core : Text) → CommandOf
  -- the reports of several queries
  QueriesOf : (program log : Text) (queries : List Text) (pipeline : Pipeline) → CommandOf
  -- the numbers of the workload's run by this seed, cut off after `steps` steps
  BenchOf : (seed steps : ℕ) (pipeline : Pipeline) → CommandOf

-- ---- the command of each subcommand, by the values of its arguments

abbrev pub pipeline_of : List Row → Pipeline
pipeline_of rows = record {
  epoch = optional_number_of (codes "epoch") rows;
  workers = number_of (codes "workers") rows;
  link = optional_number_of (codes "link") rows;
}

abbrev pub analysis_of : Listing → List Row → CommandOf
analysis_of listing rows =
    AnalysisOf listing (value_of (codes "PROG") rows) (value_of (codes "LOG") rows) (value_of (codes "QUERY") rows) (pipeline_of rows)

abbrev pub product_of : Product → List Row → CommandOf
product_of product rows = ProductOf product (value_of (codes "PROG") rows) (value_of (codes "LOG") rows)

abbrev pub stacks_of : List Row → CommandOf
stacks_of rows = StacksOf (value_of (codes "PROG") rows) (value_of (codes "LOG") rows) (numbers_of (codes "T") rows)

abbrev pub decisions_of : List Row → CommandOf
decisions_of rows = DecisionsOf (value_of (codes "PROG") rows) (value_of (codes "LOG") rows) (value_of (codes "QUERY") rows)

abbrev pub page_of : List Row → CommandOf
page_of rows = PageOf (value_of (codes "PROG") rows) (value_of (codes "LOG") rows) (value_of (codes "QUERY") rows)
    (value_of (codes "PAGE") rows) (pipeline_of rows)

abbrev pub record_of : List Row → CommandOf
record_of rows = RecordOf (value_of (codes "PROG") rows) (value_of (codes "LOG") rows) (values_of (codes "IN") rows)
    (number_of (codes "pages") rows) (number_of (codes "piece") rows) (number_of (codes "steps") rows)

abbrev pub convert_of : List Row → CommandOf
convert_of rows = ConvertOf (value_of (codes "PROG") rows) (value_of (codes "LOG") rows) (value_of (codes "NEW") rows)

abbrev pub core_of : List Row → CommandOf
core_of rows = CoreOf (value_of (codes "PROG") rows) (value_of (codes "LOG") rows) (number_of (codes "T") rows)
    (value_of (codes "FILE") rows)

abbrev pub queries_of : List Row → CommandOf
queries_of rows = QueriesOf (value_of (codes "PROG") rows) (value_of (codes "LOG") rows) (values_of (codes "QUERY") rows)
    (pipeline_of rows)

abbrev pub bench_of : List Row → CommandOf
bench_of rows = BenchOf (number_of (codes "SEED") rows) (number_of (codes "STEPS") rows) (pipeline_of rows)

-- what the subcommand of this name tells of the rows of a query, if it is of these
abbrev pub listing_by : Text → Option Listing
listing_by name =
    if bytes_eq name (codes "query") then Some BySink
    else (if bytes_eq name (codes "influence") then Some BySource
    else (if bytes_eq name (codes "path") then Some ByPath
    else (if bytes_eq name (codes "show") then Some ByRange else None)))

-- what it makes of a run, if it is of those that do
abbrev pub product_by : Text → List Row → Option Product
product_by name rows =
    if bytes_eq name (codes "replay") then Some Numbers
    else (if bytes_eq name (codes "calls") then Some Calls
    else (if bytes_eq name (codes "input") then Some (Input (number_of (codes "C") rows))
    else (if bytes_eq name (codes "output") then Some (Output (number_of (codes "C") rows)) else None)))

-- the command of any other
abbrev pub other_by : Text → List Row → Option CommandOf
other_by name rows =
    if bytes_eq name (codes "stack") then Some (stacks_of rows)
    else (if bytes_eq name (codes "decisions") then Some (decisions_of rows)
    else (if bytes_eq name (codes "page") then Some (page_of rows)
    else (if bytes_eq name (codes "record") then Some (record_of rows)
    else (if bytes_eq name (codes "convert") then Some (convert_of rows)
    else (if bytes_eq name (codes "core") then Some (core_of rows)
    else (if bytes_eq name (codes "queries") then Some (queries_of rows)
    else (if bytes_eq name (codes "bench") then Some (bench_of rows) else None)))))))

-- an analysis, else a product, else another command
abbrev pub first_of : List Row → Option Listing → Option Product → Option CommandOf → Option CommandOf
first_of rows (Some listing) product other = Some (analysis_of listing rows)
first_of rows None (Some product) other = Some (product_of product rows)
first_of rows None None other = other

-- the command of a subcommand, by its name and the values of its arguments
abbrev pub command_by : Text × List Row → Option CommandOf
command_by (name, rows) = first_of rows (listing_by name) (product_by name rows) (other_by name rows)

-- the command that words stand for; none where the command line doesn't take them. The first word is the program's name
unfoldable pub command_of : List Text → Option CommandOf
command_of words = if takes jet_app words then option_and_then command_by (subcommand_of jet_app words) else None

-- ---- the command that was read

abbrev pub plain_command : Command → CommandOf
plain_command (Analysis listing program log query pipeline) = AnalysisOf listing program.now log.now query.now pipeline
plain_command (Made product program log) = ProductOf product program.now log.now
plain_command (Stacks program log times) = StacksOf program.now log.now times.items
plain_command (Decisions program log query) = DecisionsOf program.now log.now query.now
plain_command (Page program log query page pipeline) = PageOf program.now log.now query.now page.now pipeline
plain_command (Record program log inputs pages piece steps) = RecordOf program.now log.now (map (λ s. s.now) inputs.items) pages piece steps
plain_command (Convert program log new) = ConvertOf program.now log.now new.now
plain_command (Core program log time core) = CoreOf program.now log.now time core.now
plain_command (Queries program log queries pipeline) =
    QueriesOf program.now log.now (map (λ s. s.now) queries.items) pipeline
plain_command (Bench seed steps pipeline) = BenchOf seed steps pipeline

-- the numbers of the options lie in the ranges of the command line
abbrev pub IsPipeline : Pipeline → Type 0
IsPipeline p =
    IfSome p.epoch (λ n. (1 ≤ n) × (n ≤ 1099511627776)) × (1 ≤ p.workers) × (p.workers ≤ 64)
    × IfSome p.link (λ n. (1 ≤ n) × (n ≤ 65536))

-- the channel does
abbrev pub IsProduct : Product → Type 0
IsProduct Numbers = ⊤
IsProduct Calls = ⊤
IsProduct (Input channel) = channel ≤ 15
IsProduct (Output channel) = channel ≤ 15

-- the numbers of the command do
abbrev pub IsInRange : CommandOf → Type 0
IsInRange (AnalysisOf listing program log query pipeline) = IsPipeline pipeline
IsInRange (ProductOf product program log) = IsProduct product
IsInRange (StacksOf program log times) = (1 ≤ length times) × (length times ≤ 4096) × All (λ t. t ≤ 1099511627776) times
IsInRange (DecisionsOf program log query) = ⊤
IsInRange (PageOf program log query page pipeline) = IsPipeline pipeline
IsInRange (RecordOf program log inputs pages piece steps) =
    (length inputs ≤ 16) × (1 ≤ pages) × (pages ≤ 4096) × (1 ≤ piece) × (piece ≤ 16777216) × (1 ≤ steps) × (steps ≤ 1099511627776)
IsInRange (ConvertOf program log new) = ⊤
IsInRange (CoreOf program log time core) = time ≤ 1099511627776
IsInRange (QueriesOf program log queries pipeline) = (1 ≤ length queries) × (length queries ≤ 16) × IsPipeline pipeline
IsInRange (BenchOf seed steps pipeline) =
    (seed ≤ 18446744073709551615) × (1 ≤ steps) × (steps ≤ 2000000) × IsPipeline pipeline
