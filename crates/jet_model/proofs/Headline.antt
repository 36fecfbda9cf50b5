-- A text is what files come to exactly where it is the text said in one piece. Crates above cite these lemmas.
use Rattle.std.proofs.Common.{◌≡◌, ◌∙◌, ap, sym, refl, subst, arith, ℕ, ◌≤◌, ◌^◌, List, Bool, true, false, length, Option, Some, None, Result, Ok, Err}
use Rattle.std.specs.Prelude.{if◌then◌else◌}
use Rattle.std.specs.Option.{ok_or}
use Rattle.std.specs.Str.{bytes_eq}
use Rattle.std.proofs.lemmas.Slice.Eq.{bytes_eq-Decides}
use Rattle.std.proofs.lemmas.Bool.{le-ltb}
use Rattle.isa.specs.Machine.{State}
use Rattle.elf_model.specs.declared.ImageKind.{ImageKind}
use Rattle.elf_model.specs.Image.{Image, image}
use Rattle.elf_model.specs.Window.{start_of}
use Rattle.log_model.specs.declared.Version.TheVariants.{Two}
use Rattle.log_model.specs.Logs.{Log, IsLog, steps, log_text}
use Rattle.log_model.specs.Reading.{log_of}
use Rattle.log_model.proofs.Reading.{reads_log}
use Rattle.flow_model.specs.declared.Rule.{Rule}
use Rattle.report_model.specs.Query.{Query}
use Rattle.report_model.specs.Together.{first_other_rule}
use Rattle.replay_model.specs.declared.Divergence.{Divergence}
use Rattle.replay_model.specs.Comparison.{divergence}
use Rattle.replay_model.specs.Fits.{Fits, beginning, start_in_image}
use Rattle.sha2.specs.Sha256.{sha256}
use Rattle.jet_refusal.specs.declared.refusal.Refusal.{Refusal}
use Rattle.jet_refusal.specs.declared.refusal.Refusal.TheVariants as refusal
use Rattle.jet_model.specs.Outcomes.{and_then}
use Rattle.jet_model.specs.Contents.{Contents, Names, Program, Run, program_at, query_at, queries_at, run_at, inputs_at}
use Rattle.jet_model.specs.Report.{over_trace, reports_of}
use Rattle.jet_model.specs.Answer.{digest_check, start_in, unless_diverged, fitting_start, told_check, cut_answer, analysed_answer, query_answer, unless_other_rule, rules_check, queries_answer, text_answer, run_answer, limited_text, convert_answer, Limits, Source, source_at, setting_of, IsCaptured, IsCaptureAnswer, IsRecordAnswer}
use Rattle.jet_model.specs.Headline.{IsRunOf, IsGivenByQuery, AreReportsOf, IsGivenBy, IsConversionOf, IsRecordingOf, IsShort, AreShort, AreAllShort, HasFewIfTold}
use Rattle.jet_model.proofs.AndThen.{ok-one, and_then-ok, and_then-is_ok, AndThen-ok, AndThen-is_ok, AndThen-one, ok_or-is_ok, within-is_ok}
use Rattle.replay_model.proofs.Received.{fitting_is_held}
use Rattle.epoch_model.specs.ByLength.{epoch_count}
use Rattle.record_model.specs.Counts.{capped}
use Rattle.record_model.specs.Recorded.{Setting, IsRecorded}
use Rattle.record_model.proofs.Unique.{one_recording}
use Rattle.jet_model.proofs.Files.{program_at-there, program_at-is_ok, log_at-there, log_at-is_ok, query_at-there, query_at-is_ok, queries_at-there, queries_at-is_ok, run_at-there, run_at-is_ok, inputs_at-there, inputs_at-is_ok}

abbrev ok_text : List ℕ → Result (List ℕ) Refusal
ok_text text = Ok text

ok_same : (a b : List ℕ) → ok_text a ≡ Ok b → a ≡ b
ok_same a b e = cc

-- ---- a log that fits its program

digest-is_ok : (program : List ℕ) (log : Log) (same : Unit {0}) → digest_check program log ≡ Ok same → log.digest ≡ sha256 program
digest-is_ok program log same h = by (bytes_eq log.digest (sha256 program)) refl h where
  by : (b : Bool) → bytes_eq log.digest (sha256 program) ≡ b → (if b then Ok tt else Err (refusal.Program log.digest (sha256 program))) ≡ Ok same → log.digest ≡ sha256 program
  by true e r = (bytes_eq-Decides log.digest (sha256 program)).0 e
  by false e r = cc

digest-same : (program : List ℕ) (log : Log) → log.digest ≡ sha256 program → digest_check program log ≡ Ok tt
digest-same program log e =
    ap (λ (b : Bool). if b then Ok tt else Err (refusal.Program log.digest (sha256 program))) ((bytes_eq-Decides log.digest (sha256 program)).1 e)

diverged-is_ok : (d : Option Divergence) (start other : State) → unless_diverged start d ≡ Ok other → (d ≡ None) × (start ≡ other)
diverged-is_ok None start other h = (refl, cc)
diverged-is_ok (Some d) start other h = cc

-- the run begins in this state, and fits
fits_from : (p : Program) (log : Log) (start : State) → image p.bytes ≡ Ok p.image → fitting_start p log ≡ Ok start → (f : Fits p.bytes log) × (f.start ≡ start)
fits_from p log start is_image h =
    let d = and_then-is_ok (digest_check p.bytes log) (λ same. and_then (start_in p.image log.pages) (λ s. unless_diverged s (divergence s log))) start h in
    let s = and_then-is_ok (start_in p.image log.pages) (λ s. unless_diverged s (divergence s log)) start d.2 in
    let a = diverged-is_ok (divergence s.0 log) s.0 start s.2 in
    let begins : beginning p.bytes log ≡ Some s.0 =
    ap (λ (r : Result Image ImageKind). start_in_image r log.pages) is_image ∙ ok_or-is_ok (start_of p.image log.pages) (refusal.Window log.pages) s.0 s.1 in
    (record { start = s.0; digest = digest-is_ok p.bytes log d.0 d.1; begins = begins; agrees = a.0 }, a.1)

-- a program of which a run begins is an image
pub record BeginsInImage (program : List ℕ) (pages : ℕ) (start : State) : Type 0 where
  pub im : Image
  pub is_image : image program ≡ Ok im
  pub begins : start_of im pages ≡ Some start

image_of_start : (r : Result Image ImageKind) (pages : ℕ) (start : State) → start_in_image r pages ≡ Some start → (im : Image) × (r ≡ Ok im) × (start_of im pages ≡ Some start)
image_of_start (Ok im) pages start e = (im, refl, e)
image_of_start (Err fault) pages start e = cc

begins_in_image : (program : List ℕ) (log : Log) (f : Fits program log) → BeginsInImage program log.pages f.start
begins_in_image program log f =
    let b = image_of_start (image program) log.pages f.start f.begins in
    record { im = b.0; is_image = b.1; begins = b.2 }

start_there : (im : Image) (pages : ℕ) (start : State) → start_of im pages ≡ Some start → start_in im pages ≡ Ok start
start_there im pages start e = ap (λ (o : Option State). ok_or o (refusal.Window pages)) e

fitting_start-fits : (program : List ℕ) (log : Log) (f : Fits program log) (im : Image) → start_of im log.pages ≡ Some f.start → fitting_start (record { bytes = program; image = im }) log ≡ Ok f.start
fitting_start-fits program log f im begins =
    and_then-ok (digest_check program log) (λ same. and_then (start_in im log.pages) (λ s. unless_diverged s (divergence s log))) tt (digest-same program log f.digest)
    ∙ and_then-ok (start_in im log.pages) (λ s. unless_diverged s (divergence s log)) f.start (start_there im log.pages f.start begins)
    ∙ ap (unless_diverged f.start) f.agrees

-- ---- a program and a log

-- the run of the two files, once they are read, and the state that it begins in
record IsFittingRun (file : Contents) (program_name log_name : List ℕ) (run : Run) (start : State) : Type 0 where
  the_run : IsRunOf file program_name log_name run.program.bytes run.log
  start_is : the_run.fits.start ≡ start

fitting_run : (file : Contents) (program_name log_name : List ℕ) (run : Run) (start : State) → run_at file program_name log_name ≡ Ok run → fitting_start run.program run.log ≡ Ok start
    → IsFittingRun file program_name log_name run start
fitting_run file program_name log_name run start h k =
    let files = run_at-is_ok file program_name log_name run h in
    let p = program_at-is_ok file program_name run.program files.program in
    let l = log_at-is_ok file log_name run.log files.log in
    let f = fits_from run.program run.log start p.is_image k in
    record {
      the_run = record { bytes = l.bytes; program_file = p.there; log_file = l.there; is_log = l.is_log; is_text = l.is_text; fits = f.0 };
      start_is = f.1;
    }

-- what the two files are read as
record IsReadAs (file : Contents) (program_name log_name : List ℕ) (log : Log) (start : State) : Type 0 where
  program : Program
  is_read : run_at file program_name log_name ≡ Ok (record { program = program; log = log })
  begins : fitting_start program log ≡ Ok start

read_run : (file : Contents) (program_name log_name program : List ℕ) (log : Log) → IsShort (file program_name) → IsShort (file log_name) → (r : IsRunOf file program_name log_name program log)
    → IsReadAs file program_name log_name log r.fits.start
read_run file program_name log_name program log short short_log r =
    let b = begins_in_image program log r.fits in
    record {
      program = record { bytes = program; image = b.im };
      is_read = run_at-there file program_name log_name (record { bytes = program; image = b.im }) log
          (program_at-there file program_name program b.im r.program_file short b.is_image) (log_at-there file log_name r.bytes log r.log_file short_log r.is_log r.is_text);
      begins = fitting_start-fits program log r.fits b.im b.begins;
    }

-- ---- a text that is made of a run

abbrev Text : Type 0
Text = State → Log → List ℕ

-- the run has few epochs
told-few : (told : Option ℕ) (log : Log) → HasFewIfTold told log → told_check told log ≡ Ok tt
told-few None log few = refl
told-few (Some epoch) log few =
    ap (λ (b : Bool). if b then Err (refusal.TooManyEpochs (epoch_count (steps log) epoch)) else Ok tt) (le-ltb 4096 (epoch_count (steps log) epoch) few)

-- the text is made where the log fits and its run has few epochs
analysed : (told : Option ℕ) (run : Run) (start : State) (given : Text) → fitting_start run.program run.log ≡ Ok start → HasFewIfTold told run.log
    → analysed_answer told run given ≡ Ok (given start run.log)
analysed told run start given e few =
    and_then-ok (fitting_start run.program run.log) (λ s. cut_answer told s run.log given) start e
    ∙ and_then-ok (told_check told run.log) (λ few. Ok (given start run.log)) tt (told-few told run.log few)

-- where it was made, the log fits
record IsAnalysed (run : Run) (given : Text) (text : List ℕ) : Type 0 where
  start : State
  begins : fitting_start run.program run.log ≡ Ok start
  gives : text ≡ given start run.log

analysed-is_ok : (told : Option ℕ) (run : Run) (given : Text) (text : List ℕ) → analysed_answer told run given ≡ Ok text → IsAnalysed run given text
analysed-is_ok told run given text h =
    let s = and_then-is_ok (fitting_start run.program run.log) (λ start. cut_answer told start run.log given) text h in
    let few = and_then-is_ok (told_check told run.log) (λ few. Ok (given s.0 run.log)) text s.2 in
    record { start = s.0; begins = s.1; gives = sym (ok_same _ _ few.2) }

-- ---- a query

pub answer-is_given : (given : Query → Text) (told : Option ℕ) (file : Contents) (names : Names) (text : List ℕ) → query_answer given told file names ≡ Ok text → IsGivenByQuery given file names text
answer-is_given given told file names text h =
    let r = and_then-is_ok (run_at file names.program names.log) (λ run. and_then (query_at file names.query) (λ q. analysed_answer told run (given q))) text h in
    let run = r.0 in
    let q = and_then-is_ok (query_at file names.query) (λ q. analysed_answer told run (given q)) text r.2 in
    let s = analysed-is_ok told run (given q.0) text q.2 in
    let found = fitting_run file names.program names.log run s.start r.1 s.begins in
    let found_query = query_at-is_ok file names.query q.0 q.1 in
    record {
      program = run.program.bytes;
      log = run.log;
      run = found.the_run;
      query_text = found_query.0;
      the_query = q.0;
      query_file = found_query.1;
      is_query = found_query.2;
      gives = s.gives ∙ ap (λ (start : State). given q.0 start run.log) (sym found.start_is);
    }

pub given-is_answer : (given : Query → Text) (told : Option ℕ) (file : Contents) (names : Names) (text : List ℕ) → AreShort file names → (g : IsGivenByQuery given file names text) → HasFewIfTold told g.log
    → query_answer given told file names ≡ Ok text
given-is_answer given told file names text short g few =
    let r = read_run file names.program names.log g.program g.log short.program short.log g.run in
    let run : Run = record { program = r.program; log = g.log } in
    and_then-ok (run_at file names.program names.log) (λ x. and_then (query_at file names.query) (λ q. analysed_answer told x (given q))) run r.is_read
    ∙ and_then-ok (query_at file names.query) (λ q. analysed_answer told run (given q)) g.the_query (query_at-there file names.query g.query_text g.the_query g.query_file short.query g.is_query)
    ∙ analysed told run g.run.fits.start (given g.the_query) r.begins few ∙ ap ok_text (sym g.gives)

-- ---- several queries

rules-is_ok : (o : Option (Rule × ℕ × Rule)) (same : Unit {0}) → unless_other_rule o ≡ Ok same → o ≡ None
rules-is_ok None same h = refl
rules-is_ok (Some x) same h = cc

pub reports-are_given : (told : Option ℕ) (file : Contents) (program log : List ℕ) (names : List (List ℕ)) (text : List ℕ) → queries_answer told file program log names ≡ Ok text → AreReportsOf file program log names text
reports-are_given told file program log names text h =
    let r = and_then-is_ok (run_at file program log) (λ run. and_then (queries_at file names) (λ qs. and_then (rules_check qs) (λ same. analysed_answer told run (over_trace (reports_of qs))))) text h in
    let run = r.0 in
    let q = and_then-is_ok (queries_at file names) (λ qs. and_then (rules_check qs) (λ same. analysed_answer told run (over_trace (reports_of qs)))) text r.2 in
    let one = and_then-is_ok (rules_check q.0) (λ same. analysed_answer told run (over_trace (reports_of q.0))) text q.2 in
    let s = analysed-is_ok told run (over_trace (reports_of q.0)) text one.2 in
    let found = fitting_run file program log run s.start r.1 s.begins in
    let found_queries = queries_at-is_ok file names q.0 q.1 in
    record {
      program = run.program.bytes;
      log = run.log;
      run = found.the_run;
      query_texts = found_queries.0;
      the_queries = q.0;
      query_files = found_queries.1.there;
      are_queries = found_queries.1.are_queries;
      one_rule = rules-is_ok (first_other_rule q.0) one.0 one.1;
      gives = s.gives ∙ ap (λ (start : State). over_trace (reports_of q.0) start run.log) (sym found.start_is);
    }

pub given-are_reports : (told : Option ℕ) (file : Contents) (program log : List ℕ) (names : List (List ℕ)) (text : List ℕ) → IsShort (file program) → IsShort (file log) → AreAllShort file names
    → (g : AreReportsOf file program log names text) → HasFewIfTold told g.log → queries_answer told file program log names ≡ Ok text
given-are_reports told file program log names text short short_log all g few =
    let r = read_run file program log g.program g.log short short_log g.run in
    let run : Run = record { program = r.program; log = g.log } in
    let qs = g.the_queries in
    and_then-ok (run_at file program log) (λ x. and_then (queries_at file names) (λ qs. and_then (rules_check qs) (λ same. analysed_answer told x (over_trace (reports_of qs))))) run r.is_read
    ∙ and_then-ok (queries_at file names) (λ qs. and_then (rules_check qs) (λ same. analysed_answer told run (over_trace (reports_of qs)))) qs
    (queries_at-there file names g.query_texts qs (record { there = g.query_files; are_queries = g.are_queries }) all)
    ∙ and_then-ok (rules_check qs) (λ same. analysed_answer told run (over_trace (reports_of qs))) tt (ap unless_other_rule g.one_rule)
    ∙ analysed told run g.run.fits.start (over_trace (reports_of qs)) r.begins few ∙ ap ok_text (sym g.gives)

-- ---- a run without a query

pub run_answer-is_given : (file : Contents) (program log : List ℕ) (given : Text) (text : List ℕ) → run_answer file program log given ≡ Ok text → IsGivenBy file program log given text
run_answer-is_given file program log given text h =
    let r = and_then-is_ok (run_at file program log) (λ run. text_answer run given) text h in
    let run = r.0 in
    let s = and_then-is_ok (fitting_start run.program run.log) (λ start. Ok (given start run.log)) text r.2 in
    let found = fitting_run file program log run s.0 r.1 s.1 in
    record {
      program = run.program.bytes;
      log = run.log;
      run = found.the_run;
      gives = sym (ok_same _ _ s.2) ∙ ap (λ (start : State). given start run.log) (sym found.start_is);
    }

pub given-is_run_answer : (file : Contents) (program log : List ℕ) (given : Text) (text : List ℕ) → IsShort (file program) → IsShort (file log) → IsGivenBy file program log given text
    → run_answer file program log given ≡ Ok text
given-is_run_answer file program log given text short short_log g =
    let r = read_run file program log g.program g.log short short_log g.run in
    and_then-ok (run_at file program log) (λ x. text_answer x given) _ r.is_read
    ∙ and_then-ok (fitting_start r.program g.log) (λ start. Ok (given start g.log)) g.run.fits.start r.begins ∙ ap ok_text (sym g.gives)

-- ---- a log that is written

pub limited-is_ok : (log : Log) (text : List ℕ) → ok_text text ≡ limited_text log → (text ≡ log_text Two log) × (length text ≤ 2 ^ 26)
limited-is_ok log text h =
    let size = length (log_text Two log) in
    let within = within-is_ok (2 ^ 26) size (refusal.LogTooLong (capped size)) (log_text Two log) text (sym h) in
    (sym within.0, subst (λ (t : List ℕ). length t ≤ 2 ^ 26) within.0 within.1)

pub limited-short : (log : Log) (text : List ℕ) → length text ≤ 2 ^ 26 → text ≡ log_text Two log → ok_text text ≡ limited_text log
limited-short log text short e =
    let fits : length (log_text Two log) ≤ 2 ^ 26 = subst (λ (t : List ℕ). length t ≤ 2 ^ 26) e short in
    ap ok_text e
    ∙ sym (ap (λ (b : Bool). if b then Err (refusal.LogTooLong (capped (length (log_text Two log)))) else ok_text (log_text Two log)) (le-ltb (2 ^ 26) (length (log_text Two log)) fits))

-- ---- conversions

-- a log that fits is read from its text in version 2
fitting-is_read : (log : Log) (program text : List ℕ) → IsLog log → Fits program log → text ≡ log_text Two log → length text ≤ 2 ^ 26 → log_of text ≡ Ok log
fitting-is_read log program text is_log fits e short =
    let size : length (log_text Two log) ≤ 2 ^ 27 = omega (arith, ap length e, short) in
    reads_log text log is_log (record { version = Two; held = fitting_is_held fits.start log is_log fits.agrees size; spelt = e })

pub given-is_conversion : (file : Contents) (program log text : List ℕ) → IsGivenBy file program log (λ start. log_text Two) text → length text ≤ 2 ^ 26 → IsConversionOf file program log text
given-is_conversion file program log text g short =
    record { given = g; short = short; same = fitting-is_read g.log g.program text g.run.is_log g.run.fits g.gives short }

pub convert-is_given : (file : Contents) (program log text : List ℕ) → convert_answer file program log ≡ Ok text → IsConversionOf file program log text
convert-is_given file program log text h =
    let r = and_then-is_ok (run_at file program log) (λ run. and_then (fitting_start run.program run.log) (λ start. limited_text run.log)) text h in
    let run = r.0 in
    let s = and_then-is_ok (fitting_start run.program run.log) (λ start. limited_text run.log) text r.2 in
    let found = fitting_run file program log run s.0 r.1 s.1 in
    let limited = limited-is_ok run.log text (sym s.2) in
    given-is_conversion file program log text (record { program = run.program.bytes; log = run.log; run = found.the_run; gives = limited.0 }) limited.1

pub given-is_convert : (file : Contents) (program log text : List ℕ) → IsShort (file program) → IsShort (file log) → length text ≤ 2 ^ 26 → IsGivenBy file program log (λ start. log_text Two) text
    → convert_answer file program log ≡ Ok text
given-is_convert file program log text short short_log fits g =
    let r = read_run file program log g.program g.log short short_log g.run in
    and_then-ok (run_at file program log) (λ run. and_then (fitting_start run.program run.log) (λ start. limited_text run.log)) _ r.is_read
    ∙ and_then-ok (fitting_start r.program g.log) (λ start. limited_text g.log) g.run.fits.start r.begins
    ∙ sym (limited-short g.log text fits g.gives)

-- ---- recordings

abbrev source_next : Program → List (List ℕ) → Result Source Refusal
source_next p inputs = Ok (record { program = p; inputs = inputs })

pub source_at-is_ok : (file : Contents) (program : List ℕ) (inputs : List (List ℕ)) (source : Source) → source_at file program inputs ≡ Ok source → (program_at file program ≡ Ok source.program) × (inputs_at file inputs ≡ Ok source.inputs)
source_at-is_ok file program inputs source h =
    let p = and_then-is_ok (program_at file program) (λ x. and_then (inputs_at file inputs) (λ contents. source_next x contents)) source h in
    let i = and_then-is_ok (inputs_at file inputs) (λ contents. source_next p.0 contents) source p.2 in
    subst (λ (s : Source). (program_at file program ≡ Ok s.program) × (inputs_at file inputs ≡ Ok s.inputs)) (ok-one (source_next p.0 i.0) (record { program = p.0; inputs = i.0 }) source refl i.2) (p.1, i.1)

pub record_answer-is_recording : (file : Contents) (program : List ℕ) (inputs : List (List ℕ)) (limits : Limits) (answers text : List ℕ)
    → IsRecordAnswer file program inputs limits answers (Ok text) → IsRecordingOf file program inputs limits answers text
record_answer-is_recording file program inputs limits answers text h =
    let s = AndThen-is_ok (source_at file program inputs) (λ source. IsCaptureAnswer source limits answers) text h in
    let source = s.0 in
    let c = AndThen-is_ok (start_in source.program.image limits.pages) (λ start. IsCaptured (setting_of source limits) answers) text s.2 in
    let captured = c.2 in
    let found = source_at-is_ok file program inputs source s.1 in
    let p = program_at-is_ok file program source.program found.0 in
    let limited = limited-is_ok captured.log text captured.text in
    record {
      program = source.program.bytes;
      inputs = source.inputs;
      log = captured.log;
      program_file = p.there;
      input_files = inputs_at-is_ok file inputs source.inputs found.1;
      recorded = captured.recorded;
      gives = limited.0;
      short = limited.1;
      same = fitting-is_read captured.log source.program.bytes text captured.recorded.is_log captured.recorded.fits limited.0 limited.1;
    }

pub recording-is_record_answer : (file : Contents) (program : List ℕ) (inputs : List (List ℕ)) (limits : Limits) (answers text : List ℕ) → IsShort (file program) → AreAllShort file inputs
    → IsRecordingOf file program inputs limits answers text → IsRecordAnswer file program inputs limits answers (Ok text)
recording-is_record_answer file program inputs limits answers text short all r =
    let b = begins_in_image r.program r.log r.recorded.fits in
    let p : Program = record { bytes = r.program; image = b.im } in
    let source : Source = record { program = p; inputs = r.inputs } in
    let begins : start_of b.im limits.pages ≡ Some r.recorded.fits.start = ap (λ (n : ℕ). start_of b.im n) (sym r.recorded.has_pages) ∙ b.begins in
    AndThen-ok (source_at file program inputs) (λ s. IsCaptureAnswer s limits answers) source (Ok text)
    (and_then-ok (program_at file program) (λ x. and_then (inputs_at file inputs) (λ contents. source_next x contents)) p (program_at-there file program r.program b.im r.program_file short b.is_image)
    ∙ and_then-ok (inputs_at file inputs) (λ contents. source_next p contents) r.inputs (inputs_at-there file inputs r.inputs r.input_files all))
    (AndThen-ok (start_in b.im limits.pages) (λ start. IsCaptured (setting_of source limits) answers) r.recorded.fits.start (Ok text) (start_there b.im limits.pages r.recorded.fits.start begins)
    (record { log = r.log; recorded = r.recorded; text = limited-short r.log text r.short r.gives }))

-- a log that is recorded is read from its text
pub recorded-is_read : (setting : Setting) (answers : List ℕ) (log : Log) → IsRecorded setting answers log → length (log_text Two log) ≤ 2 ^ 26 → log_of (log_text Two log) ≡ Ok log
recorded-is_read setting answers log r short = fitting-is_read log setting.program (log_text Two log) r.is_log r.fits refl short

pub one_record_answer : (file : Contents) (program : List ℕ) (inputs : List (List ℕ)) (limits : Limits) (answers : List ℕ) (a b : Result (List ℕ) Refusal)
    → IsRecordAnswer file program inputs limits answers a → IsRecordAnswer file program inputs limits answers b → a ≡ b
one_record_answer file program inputs limits answers a b =
    AndThen-one (source_at file program inputs) (λ source. IsCaptureAnswer source limits answers) a b (λ source.
    AndThen-one (start_in source.program.image limits.pages) (λ start. IsCaptured (setting_of source limits) answers) a b (λ start.
    λ g h. g.text ∙ ap limited_text (one_recording (setting_of source limits) answers g.log h.log g.recorded h.recorded) ∙ sym h.text))
