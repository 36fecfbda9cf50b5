-- What it means that a text is what files come to, each in one piece.
use Rattle.std.specs.Prelude.{◌≡◌, ◌≤◌, ◌^◌, ℕ, List, length, map, Option, Some, None, IfSome, Ok}
use Rattle.std.specs.List.{AllByRecursion}
use Rattle.isa.specs.Machine.{State}
use Rattle.log_model.specs.declared.Version.TheVariants.{Two}
use Rattle.log_model.specs.Logs.{Log, steps, log_text, IsLog, IsTextOf}
use Rattle.log_model.specs.Reading.{log_of}
use Rattle.report_model.specs.Query.{Query}
use Rattle.report_model.specs.Grammar.{query}
use Rattle.report_model.specs.Together.{first_other_rule}
use Rattle.replay_model.specs.Fits.{Fits}
use Rattle.record_model.specs.Recorded.{IsRecorded}
use Rattle.epoch_model.specs.ByLength.{epoch_count}
use Rattle.jet_model.specs.Contents.{Contents, Names}
use Rattle.jet_model.specs.Answer.{Limits}
use Rattle.jet_model.specs.Report.{over_trace, reports_of}

-- the two named files are a program, and a text of a log that fits it
pub record IsRunOf (file : Contents) (program_name log_name : List ℕ) (program : List ℕ) (log : Log) : Type 0 where
  pub bytes : List ℕ
  pub program_file : file program_name ≡ Some program
  pub log_file : file log_name ≡ Some bytes
  pub is_log : IsLog log
  pub is_text : IsTextOf log bytes
  pub fits : Fits program log

-- the text is what the query of the three named files gives over the run of the other two: a program, and a log that fits it
pub record IsGivenByQuery (given : Query → State → Log → List ℕ) (file : Contents) (names : Names) (text : List ℕ) : Type 0 where
  pub program : List ℕ
  pub log : Log
  pub run : IsRunOf file names.program names.log program log
  pub query_text : List ℕ
  pub the_query : Query
  pub query_file : file names.query ≡ Some query_text
  pub is_query : query query_text ≡ Ok the_query
  pub gives : text ≡ given the_query run.fits.start log

-- the text is the reports of several queries, which have one rule
pub record AreReportsOf (file : Contents) (program_name log_name : List ℕ) (query_names : List (List ℕ)) (text : List ℕ) : Type 0 where
  pub program : List ℕ
  pub log : Log
  pub run : IsRunOf file program_name log_name program log
  pub query_texts : List (List ℕ)
  pub the_queries : List Query
  pub query_files : map file query_names ≡ map Some query_texts
  pub are_queries : map query query_texts ≡ map Ok the_queries
  pub one_rule : first_other_rule the_queries ≡ None
  pub gives : text ≡ over_trace (reports_of the_queries) run.fits.start log

-- the text is what is made of the run of the two named files: a program, and a log that fits it
pub record IsGivenBy (file : Contents) (program_name log_name : List ℕ) (given : State → Log → List ℕ) (text : List ℕ) : Type 0 where
  pub program : List ℕ
  pub log : Log
  pub run : IsRunOf file program_name log_name program log
  pub gives : text ≡ given run.fits.start log

-- the text is the log of the two named files in version 2, of at most 2 ^ 26 bytes, and it is read as the same log: so the run
-- is the same, and fits
pub record IsConversionOf (file : Contents) (program_name log_name : List ℕ) (text : List ℕ) : Type 0 where
  pub given : IsGivenBy file program_name log_name (λ start. log_text Two) text
  pub short : length text ≤ 2 ^ 26
  pub same : log_of text ≡ Ok given.log

-- the text is the log of the run of the named program over the contents of the named inputs, where the clock gave these
-- answers. It has at most 2 ^ 26 bytes, and it is read as that log
pub record IsRecordingOf (file : Contents) (program_name : List ℕ) (input_names : List (List ℕ)) (limits : Limits) (answers text : List ℕ) : Type 0 where
  pub program : List ℕ
  pub inputs : List (List ℕ)
  pub log : Log
  pub program_file : file program_name ≡ Some program
  pub input_files : map file input_names ≡ map Some inputs
  pub recorded : IsRecorded (record { program = program; pages = limits.pages; inputs = inputs; piece = limits.piece; steps = limits.steps }) answers log
  pub gives : text ≡ log_text Two log
  pub short : length text ≤ 2 ^ 26
  pub same : log_of text ≡ Ok log

-- ---- the limits of a file's length, and of epochs

-- a file has at most 2 ^ 26 bytes
abbrev pub IsShort : Option (List ℕ) → Type 0
IsShort None = Unit {0}
IsShort (Some bytes) = length bytes ≤ 2 ^ 26

-- each of the three named files
pub record AreShort (file : Contents) (names : Names) : Type 0 where
  pub program : IsShort (file names.program)
  pub log : IsShort (file names.log)
  pub query : IsShort (file names.query)

-- each of these files
abbrev pub AreAllShort : Contents → List (List ℕ) → Type 0
AreAllShort file names = AllByRecursion (λ name. IsShort (file name)) names

-- the log's run has at most 4096 epochs of this length
abbrev pub HasFewEpochs : ℕ → Log → Type 0
HasFewEpochs epoch log = epoch_count (steps log) epoch ≤ 4096

-- the same of the length that the words tell, if they tell one
abbrev pub HasFewIfTold : Option ℕ → Log → Type 0
HasFewIfTold told log = IfSome told (λ epoch. HasFewEpochs epoch log)
