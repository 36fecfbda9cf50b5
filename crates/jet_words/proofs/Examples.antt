-- Lines of words, and the command that each stands for. The words of a line stand between single spaces.
use Rattle.std.proofs.Common.{◌≡◌, refl, true, ℕ, Bool, false, List, [], ◌∷◌, map, Some, None, is_none, codes, nat_eq}
use Rattle.std.specs.List.{list_all}
use Rattle.std.specs.Str.{chars}
use Rattle.clap.specs.Words.{Text}
use Rattle.clap.specs.Walk.{walked, bundle_met}
use Rattle.clap.specs.Takes.{walk_passes, flags_pass}
use Rattle.jet_words.specs.declared.command.Pipeline.{Pipeline}
use Rattle.jet_words.specs.declared.command.Listing.TheVariants.{BySink, BySource, ByPath, ByRange}
use Rattle.jet_words.specs.declared.command.Product.TheVariants.{Numbers, Calls, Input, Output}
use Rattle.jet_words.specs.Commands.{CommandOf, command_of, AnalysisOf, ProductOf, StacksOf, DecisionsOf, PageOf, RecordOf, ConvertOf, CoreOf, QueriesOf, BenchOf}

abbrev before_word : Bool → ℕ → List Text → List Text
before_word true c words = [] ∷ words
before_word false c [] = (c ∷ []) ∷ []
before_word false c (word ∷ words) = (c ∷ word) ∷ words

abbrev words_of : Text → List Text
words_of [] = [] ∷ []
words_of (c ∷ rest) = before_word (nat_eq c 32) c (words_of rest)

abbrev Line : Type 0
Line = Text × CommandOf

-- each line stands for its command
abbrev Stands : List Line → Type 0
Stands lines = map (λ line. command_of (words_of line.0)) lines ≡ map (λ line. Some line.1) lines

abbrev AreRefused : List Text → Type 0
AreRefused lines = list_all (λ line. is_none (command_of (words_of line))) lines ≡ true

no_words : command_of [] ≡ None
unfolding command_of walked walk_passes
no_words = refl

-- ---- no command

no_commands : AreRefused (
    codes "jet" ∷ codes "jet repeat a b" ∷ codes "jet Query a b c" ∷ codes "jet quer a b c"
    ∷ codes "jet help" ∷ codes "jet help query" ∷ codes "jet help query a b c" ∷ codes "jet --help" ∷ codes "jet --version"
    -- `--` before the command makes the command's name a value
    ∷ codes "jet -- query a b c" ∷ [])
unfolding command_of walked walk_passes
no_commands = refl

short_flags : AreRefused (codes "jet -h" ∷ codes "jet -V" ∷ codes "jet query -a b c" ∷ codes "jet record p l -p 1" ∷ codes "jet record p l --pages -0" ∷ [])
unfolding command_of walked walk_passes bundle_met flags_pass chars
short_flags = refl

-- ---- query

-- the options that aren't given
abbrev usual : Pipeline
usual = record { epoch = None; workers = 4; link = None }

abbrev query : Text → Text → Text → Text → Line
query line program log name = (line, AnalysisOf BySink program log name usual)

reports : Stands (
    query (codes "jet query a b c") (codes "a") (codes "b") (codes "c")
    -- the first word, the program's name, may be any
    ∷ query (codes " query query help é") (codes "query") (codes "help") (codes "é")
    ∷ query (codes "jet query query help query") (codes "query") (codes "help") (codes "query")
    ∷ query (codes "jet query a  c") (codes "a") [] (codes "c")
    ∷ query (codes "jet query a - c") (codes "a") (codes "-") (codes "c")
    -- `--` after the command is no name, but a second one is; a name that begins with a dash comes after it
    ∷ query (codes "jet query -- a b c") (codes "a") (codes "b") (codes "c")
    ∷ query (codes "jet query a -- b c") (codes "a") (codes "b") (codes "c")
    ∷ query (codes "jet query a b c --") (codes "a") (codes "b") (codes "c")
    ∷ query (codes "jet query -- -- b c") (codes "--") (codes "b") (codes "c")
    ∷ query (codes "jet query -- -a --help c") (codes "-a") (codes "--help") (codes "c") ∷ [])
unfolding command_of walked walk_passes
reports = refl

no_reports : AreRefused (
    codes "jet query a b" ∷ codes "jet query a b c d" ∷ codes "jet query --help a b c" ∷ codes "jet query a b --c" ∷ codes "jet query a b c --epoch" ∷ [])
unfolding command_of walked walk_passes
no_reports = refl

-- ---- the options of the commands that analyse a run

abbrev piped : Text → Pipeline → Line
piped line pipeline = (line, AnalysisOf BySink (codes "p") (codes "l") (codes "q") pipeline)

pipelines : Stands (
    piped (codes "jet query p l q --epoch 1") (record usual { epoch = Some 1 })
    ∷ piped (codes "jet query p l q --epoch 1099511627776") (record usual { epoch = Some 1099511627776 })
    ∷ piped (codes "jet query p l q --workers 1") (record usual { workers = 1 })
    ∷ piped (codes "jet query p l q --workers 64") (record usual { workers = 64 })
    ∷ piped (codes "jet query p l q --link 1") (record usual { link = Some 1 })
    ∷ piped (codes "jet query p l q --link 65536") (record usual { link = Some 65536 })
    ∷ piped (codes "jet query --link=3 p l --workers 2 q --epoch 5") (record { epoch = Some 5; workers = 2; link = Some 3 }) ∷ [])
unfolding command_of walked walk_passes
pipelines = refl

no_pipelines : AreRefused (
    codes "jet query p l q --epoch 0" ∷ codes "jet query p l q --epoch 1099511627777"
    ∷ codes "jet query p l q --workers 0" ∷ codes "jet query p l q --workers 65"
    ∷ codes "jet query p l q --link 0" ∷ codes "jet query p l q --link 65537"
    ∷ codes "jet query p l q --link 1 --link 1" ∷ codes "jet query p l q --workers a" ∷ codes "jet query p l --epoch 1"
    -- they are of no other commands
    ∷ codes "jet replay p l --epoch 1" ∷ codes "jet convert p l n --workers 1" ∷ codes "jet output p l 1 --link 1" ∷ [])
unfolding command_of walked walk_passes
no_pipelines = refl

-- ---- record

abbrev recorded : Text → List Text → ℕ → ℕ → ℕ → Line
recorded line inputs pages piece steps = (line, RecordOf (codes "p") (codes "l") inputs pages piece steps)

inputs : Stands (
    recorded (codes "jet record p l") [] 256 16777216 4294967295
    ∷ recorded (codes "jet record p l i") (codes "i" ∷ []) 256 16777216 4294967295
    ∷ recorded (codes "jet record p l i j") (codes "i" ∷ codes "j" ∷ []) 256 16777216 4294967295
    ∷ recorded (codes "jet record p l a b c d e f g h i j k l m n o p") (words_of (codes "a b c d e f g h i j k l m n o p")) 256 16777216 4294967295
    -- `--` is no input, and does not interrupt the list
    ∷ recorded (codes "jet record p l i -- j") (codes "i" ∷ codes "j" ∷ []) 256 16777216 4294967295
    ∷ recorded (codes "jet record p l -- --pages 1") (codes "--pages" ∷ codes "1" ∷ []) 256 16777216 4294967295 ∷ [])
unfolding command_of walked walk_passes
inputs = refl

options : Stands (
    recorded (codes "jet record p l i --pages 1") (codes "i" ∷ []) 1 16777216 4294967295
    ∷ recorded (codes "jet record p l --pages=1 i j") (codes "i" ∷ codes "j" ∷ []) 1 16777216 4294967295
    ∷ recorded (codes "jet record --steps 3 --pages 1 p l i --piece 2") (codes "i" ∷ []) 1 2 3
    ∷ recorded (codes "jet record p l --pages 4096") [] 4096 16777216 4294967295
    ∷ recorded (codes "jet record p l --piece 1") [] 256 1 4294967295
    ∷ recorded (codes "jet record p l --piece 16777216") [] 256 16777216 4294967295
    ∷ recorded (codes "jet record p l --steps 1") [] 256 16777216 1
    ∷ recorded (codes "jet record p l --steps 4294967295") [] 256 16777216 4294967295
    ∷ recorded (codes "jet record p l --steps 1099511627776") [] 256 16777216 1099511627776
    ∷ recorded (codes "jet record p l --pages +5") [] 5 16777216 4294967295
    ∷ recorded (codes "jet record p l --pages 007") [] 7 16777216 4294967295 ∷ [])
unfolding command_of walked walk_passes
options = refl

no_recordings : AreRefused (
    codes "jet record p" ∷ codes "jet record p l a b c d e f g h i j k l m n o p q"
    ∷ codes "jet record p l --pages 0" ∷ codes "jet record p l --pages 4097" ∷ codes "jet record p l --piece 0" ∷ codes "jet record p l --piece 16777217"
    ∷ codes "jet record p l --steps 0" ∷ codes "jet record p l --steps 1099511627777"
    ∷ codes "jet record p l --pages=-0" ∷ codes "jet record p l --pages 0x10" ∷ codes "jet record p l --pages " ∷ codes "jet record p l --pages"
    -- an option is given once, and does not interrupt the list
    ∷ codes "jet record p l --pages 1 --pages 1" ∷ codes "jet record p l i --pages 1 j" ∷ codes "jet record p l --page 1" ∷ codes "jet record p l --epoch 1" ∷ [])
unfolding command_of walked walk_passes
no_recordings = refl

-- ---- replay, calls, input and output

replays : Stands ((codes "jet replay p l", ProductOf Numbers (codes "p") (codes "l")) ∷ [])
unfolding command_of walked walk_passes
replays = refl

no_replays : AreRefused (codes "jet replay p" ∷ codes "jet replay p l i" ∷ codes "jet replay p l --pages 1" ∷ [])
unfolding command_of walked walk_passes
no_replays = refl

call_lists : Stands ((codes "jet calls p l", ProductOf Calls (codes "p") (codes "l")) ∷ [])
unfolding command_of walked walk_passes
call_lists = refl

no_call_lists : AreRefused (codes "jet calls p" ∷ codes "jet calls p l 1" ∷ codes "jet calls p l --epoch 1" ∷ codes "jet call p l" ∷ [])
unfolding command_of walked walk_passes
no_call_lists = refl

abbrev read_on : Text → ℕ → Line
read_on line channel = (line, ProductOf (Input channel) (codes "p") (codes "l"))

what_was_read : Stands (read_on (codes "jet input p l 0") 0 ∷ read_on (codes "jet input p l 15") 15 ∷ [])
unfolding command_of walked walk_passes
what_was_read = refl

nothing_read : AreRefused (codes "jet input p l" ∷ codes "jet input p l 16" ∷ codes "jet input p l 1 2" ∷ codes "jet input p l a" ∷ [])
unfolding command_of walked walk_passes
nothing_read = refl

abbrev written : Text → ℕ → Line
written line channel = (line, ProductOf (Output channel) (codes "p") (codes "l"))

outputs : Stands (
    written (codes "jet output p l 0") 0 ∷ written (codes "jet output p l 15") 15 ∷ written (codes "jet output p l +5") 5
    ∷ written (codes "jet output p l 007") 7 ∷ [])
unfolding command_of walked walk_passes
outputs = refl

no_outputs : AreRefused (
    codes "jet output p l" ∷ codes "jet output p l 16" ∷ codes "jet output p l 1 2" ∷ codes "jet output p l -- -0" ∷ codes "jet output p l a"
    ∷ codes "jet output p l 1 --steps 1" ∷ [])
unfolding command_of walked walk_passes
no_outputs = refl

-- ---- stack

abbrev standing : Text → List ℕ → Line
standing line times = (line, StacksOf (codes "p") (codes "l") times)

stacks : Stands (
    standing (codes "jet stack p l 0") (0 ∷ []) ∷ standing (codes "jet stack p l 1099511627776") (1099511627776 ∷ [])
    ∷ standing (codes "jet stack p l 4 9 0 4") (4 ∷ 9 ∷ 0 ∷ 4 ∷ [])
    ∷ standing (codes "jet stack p l +7 -- 007") (7 ∷ 7 ∷ []) ∷ [])
unfolding command_of walked walk_passes
stacks = refl

no_stacks : AreRefused (codes "jet stack p l" ∷ codes "jet stack p l 1099511627777" ∷ codes "jet stack p l 1 1099511627777" ∷ codes "jet stack p l a"
    ∷ codes "jet stack p l 1 a" ∷ codes "jet stack p l 1 --epoch 1" ∷ [])
unfolding command_of walked walk_passes
no_stacks = refl

-- ---- convert

abbrev converted : Text → Text → Text → Text → Line
converted line program log new = (line, ConvertOf program log new)

conversions : Stands (
    converted (codes "jet convert a b c") (codes "a") (codes "b") (codes "c")
    ∷ converted (codes "jet convert a b b") (codes "a") (codes "b") (codes "b")
    ∷ converted (codes "jet convert a -- b --c") (codes "a") (codes "b") (codes "--c") ∷ [])
unfolding command_of walked walk_passes
conversions = refl

no_conversions : AreRefused (
    codes "jet convert a b" ∷ codes "jet convert a b c d" ∷ codes "jet convert a b c --pages 1" ∷ codes "jet converts a b c" ∷ [])
unfolding command_of walked walk_passes
no_conversions = refl

-- ---- core

abbrev stopped : Text → ℕ → Text → Line
stopped line time core = (line, CoreOf (codes "p") (codes "l") time core)

cores : Stands (
    stopped (codes "jet core p l 0 c") 0 (codes "c") ∷ stopped (codes "jet core p l 1099511627776 c") 1099511627776 (codes "c")
    ∷ stopped (codes "jet core p l 7 -- --c") 7 (codes "--c") ∷ [])
unfolding command_of walked walk_passes
cores = refl

no_cores : AreRefused (codes "jet core p l 0" ∷ codes "jet core p l c" ∷ codes "jet core p l 1099511627777 c" ∷ codes "jet core p l a c"
    ∷ codes "jet core p l 0 c d" ∷ codes "jet core p l 0 c --epoch 1" ∷ [])
unfolding command_of walked walk_passes
no_cores = refl

-- ---- influence

abbrev turned : Text → Pipeline → Line
turned line pipeline = (line, AnalysisOf BySource (codes "p") (codes "l") (codes "q") pipeline)

influences : Stands (
    turned (codes "jet influence p l q") usual
    ∷ turned (codes "jet influence p l q --epoch 5 --workers 2 --link 3") (record { epoch = Some 5; workers = 2; link = Some 3 }) ∷ [])
unfolding command_of walked walk_passes
influences = refl

no_influences : AreRefused (codes "jet influence p l" ∷ codes "jet influence p l q r" ∷ codes "jet influence p l q --steps 1"
    ∷ codes "jet influence p l q --workers 65" ∷ [])
unfolding command_of walked walk_passes
no_influences = refl

-- ---- path

abbrev told : Text → Pipeline → Line
told line pipeline = (line, AnalysisOf ByPath (codes "p") (codes "l") (codes "q") pipeline)

paths : Stands (
    told (codes "jet path p l q") usual
    ∷ told (codes "jet path --epoch 5 p l q --workers 2 --link 3") (record { epoch = Some 5; workers = 2; link = Some 3 }) ∷ [])
unfolding command_of walked walk_passes
paths = refl

no_paths : AreRefused (codes "jet path p l" ∷ codes "jet path p l q r" ∷ codes "jet path p l q --steps 1"
    ∷ codes "jet path p l q --epoch 0" ∷ codes "jet paths p l q" ∷ [])
unfolding command_of walked walk_passes
no_paths = refl

-- ---- show

abbrev shown : Text → Pipeline → Line
shown line pipeline = (line, AnalysisOf ByRange (codes "p") (codes "l") (codes "q") pipeline)

reports_in_ranges : Stands (
    shown (codes "jet show p l q") usual
    ∷ shown (codes "jet show p l q --epoch 5 --link 3 --workers 2") (record { epoch = Some 5; workers = 2; link = Some 3 }) ∷ [])
unfolding command_of walked walk_passes
reports_in_ranges = refl

no_reports_in_ranges : AreRefused (codes "jet show p l" ∷ codes "jet show p l q r" ∷ codes "jet show p l q --steps 1"
    ∷ codes "jet show p l q --link 0" ∷ codes "jet shows p l q" ∷ [])
unfolding command_of walked walk_passes
no_reports_in_ranges = refl

-- ---- decisions

decisions : Stands ((codes "jet decisions p l q", DecisionsOf (codes "p") (codes "l") (codes "q")) ∷ [])
unfolding command_of walked walk_passes
decisions = refl

no_decisions : AreRefused (codes "jet decisions p l" ∷ codes "jet decisions p l q r" ∷ codes "jet decisions p l q --epoch 5"
    ∷ codes "jet decision p l q" ∷ [])
unfolding command_of walked walk_passes
no_decisions = refl

-- ---- page

abbrev page_made : Text → Text → Pipeline → Line
page_made line page pipeline = (line, PageOf (codes "p") (codes "l") (codes "q") page pipeline)

pages : Stands (
    page_made (codes "jet page p l q n") (codes "n") usual
    ∷ page_made (codes "jet page p l q q") (codes "q") usual
    ∷ page_made (codes "jet page p l -- q --n") (codes "--n") usual
    ∷ page_made (codes "jet page p l --epoch 5 q n --link 3 --workers 2") (codes "n") (record { epoch = Some 5; workers = 2; link = Some 3 }) ∷ [])
unfolding command_of walked walk_passes
pages = refl

no_pages : AreRefused (codes "jet page p l q" ∷ codes "jet page p l q n m" ∷ codes "jet page p l q n --steps 1"
    ∷ codes "jet page p l q n --workers 65" ∷ codes "jet pages p l q n" ∷ [])
unfolding command_of walked walk_passes
no_pages = refl

-- ---- queries

abbrev several : Text → List Text → Line
several line queries = (line, QueriesOf (codes "p") (codes "l") queries usual)

several_queries : Stands (
    several (codes "jet queries p l q") (codes "q" ∷ [])
    ∷ several (codes "jet queries p l q r q") (codes "q" ∷ codes "r" ∷ codes "q" ∷ [])
    ∷ several (codes "jet queries p l a b c d e f g h i j k l m n o p") (words_of (codes "a b c d e f g h i j k l m n o p"))
    ∷ several (codes "jet queries p l q -- --r") (codes "q" ∷ codes "--r" ∷ [])
    ∷ (
      codes "jet queries p l --epoch 5 q r --workers 2 --link 3",
      QueriesOf (codes "p") (codes "l") (codes "q" ∷ codes "r" ∷ []) (record { epoch = Some 5; workers = 2; link = Some 3 }),
    ) ∷ [])
unfolding command_of walked walk_passes
several_queries = refl

-- none, or seventeen
no_several_queries : AreRefused (
    codes "jet queries p l" ∷ codes "jet queries p l --" ∷ codes "jet queries p l a b c d e f g h i j k l m n o p q" ∷ codes "jet queries p"
    ∷ codes "jet queries p l q --steps 1"
    -- an option doesn't interrupt the list
    ∷ codes "jet queries p l q --epoch 5 r" ∷ codes "jet queries p l q --link 65537" ∷ [])
unfolding command_of walked walk_passes
no_several_queries = refl

-- ---- bench

abbrev made : Text → ℕ → ℕ → Pipeline → Line
made line seed steps pipeline = (line, BenchOf seed steps pipeline)

benches : Stands (
    made (codes "jet bench 1 30") 1 30 usual
    ∷ made (codes "jet bench 0 1") 0 1 usual
    ∷ made (codes "jet bench 18446744073709551615 2000000") 18446744073709551615 2000000 usual
    ∷ made (codes "jet bench 1 30 --epoch 15") 1 30 (record usual { epoch = Some 15 })
    ∷ made (codes "jet bench --link 3 1 --workers 2 30 --epoch 1048576") 1 30
    (record { epoch = Some 1048576; workers = 2; link = Some 3 }) ∷ [])
unfolding command_of walked walk_passes
benches = refl

no_benches : AreRefused (
    codes "jet bench" ∷ codes "jet bench 1" ∷ codes "jet bench 1 2 3" ∷ codes "jet bench 1 0" ∷ codes "jet bench 1 2000001"
    ∷ codes "jet bench 18446744073709551616 1" ∷ codes "jet bench a 1" ∷ codes "jet bench 1 a"
    ∷ codes "jet bench 1 30 --epoch 0" ∷ codes "jet bench 1 30 --steps 1" ∷ [])
unfolding command_of walked walk_passes
no_benches = refl
