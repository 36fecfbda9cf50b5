-- What logs come to, and that there is at most one answer. Crates above cite these lemmas.
use Rattle.std.proofs.Common.{◌≡◌, ◌∙◌, sym, ap, ℕ, ◌≤◌, ◌<◌, ◌^◌, Bool, List, length, if◌then◌else◌, Option, Some, Result, Ok, Err}
use Rattle.std.proofs.lemmas.Bool.{lt-ltb, le-ltb}
use Rattle.isa.specs.Machine.{State}
use Rattle.log_model.specs.declared.Version.TheVariants.{Two}
use Rattle.log_model.specs.Logs.{Log, log_text, steps}
use Rattle.report_model.specs.Query.{Query, Alike}
use Rattle.replay_model.specs.Fits.{beginning}
use Rattle.replay_model.specs.Run.{trace}
use Rattle.record_model.specs.Counts.{capped}
use Rattle.record_model.proofs.Unique.{one_recording_by_zeros}
use Rattle.epoch_model.specs.ByLength.{epoch_count, cut_times}
use Rattle.jet_refusal.specs.declared.refusal.Refusal.{Refusal}
use Rattle.jet_refusal.specs.declared.refusal.Refusal.TheVariants as refusal
use Rattle.jet_model.specs.Outcomes.{and_then}
use Rattle.jet_model.specs.Report.{text_from}
use Rattle.jet_model.specs.Answer.{limited_text, epochs_check}
use Rattle.jet_model.proofs.AndThen.{and_then-is_ok}
use Rattle.order_gateway.specs.Guest.{guest_file}
use Rattle.order_gateway.specs.Workload.{workload, workload_query}
use Rattle.order_gateway.specs.Lines.{numbers_text, numbers_of, bench_text}
use Rattle.order_gateway.specs.Answer.{lines_of, bench_outcome, IsBenchAnswer, IsBenchOf}
use Rattle.order_gateway.proofs.SameNumbers.{same_numbers}

abbrev size_of : Log → ℕ
size_of log = length (log_text Two log)

abbrev text_if : Bool → Log → Result (List ℕ) Refusal
text_if long log = if long then Err (refusal.LogTooLong (capped (size_of log))) else Ok (log_text Two log)

abbrev few_if : Bool → ℕ → Result (Unit {0}) Refusal
few_if many count = if many then Err (refusal.TooManyEpochs count) else Ok tt

-- what a log that is short enough comes to
abbrev pub after_few : Log → ℕ → Result (Unit {0}) Refusal → Result (List ℕ) Refusal
after_few log epoch_length few = and_then few (λ fit. Ok (lines_of log epoch_length))

abbrev after_text : Log → ℕ → Result (List ℕ) Refusal → Result (List ℕ) Refusal
after_text log epoch_length text = and_then text (λ short. after_few log epoch_length (epochs_check epoch_length log))

pub short_log-outcome : (log : Log) (epoch_length : ℕ) → size_of log ≤ 2 ^ 26
    → bench_outcome log epoch_length ≡ after_few log epoch_length (epochs_check epoch_length log)
short_log-outcome log epoch_length short = ap (λ b. after_text log epoch_length (text_if b log)) (le-ltb (2 ^ 26) (size_of log) short)

pub long_log-outcome : (log : Log) (epoch_length : ℕ) → 2 ^ 26 < size_of log
    → bench_outcome log epoch_length ≡ Err (refusal.LogTooLong (capped (size_of log)))
long_log-outcome log epoch_length long = ap (λ b. after_text log epoch_length (text_if b log)) (lt-ltb (2 ^ 26) (size_of log) long)

pub many_epochs-outcome : (log : Log) (epoch_length : ℕ) → size_of log ≤ 2 ^ 26 → 4096 < epoch_count (steps log) epoch_length
    → bench_outcome log epoch_length ≡ Err (refusal.TooManyEpochs (epoch_count (steps log) epoch_length))
many_epochs-outcome log epoch_length short many =
    let count = epoch_count (steps log) epoch_length in
    short_log-outcome log epoch_length short ∙ ap (λ b. after_few log epoch_length (few_if b count)) (lt-ltb 4096 count many)

pub given-outcome : (log : Log) (epoch_length : ℕ) → size_of log ≤ 2 ^ 26 → epoch_count (steps log) epoch_length ≤ 4096
    → bench_outcome log epoch_length ≡ Ok (lines_of log epoch_length)
given-outcome log epoch_length short few =
    let count = epoch_count (steps log) epoch_length in
    short_log-outcome log epoch_length short ∙ ap (λ b. after_few log epoch_length (few_if b count)) (le-ltb 4096 count few)

-- the lines of any query that asks alike
pub same-lines : (log : Log) (epoch_length : ℕ) (start : State) → beginning guest_file log ≡ Some start → (q : Query) → Alike q workload_query
    → lines_of log epoch_length ≡ numbers_text (numbers_of q (cut_times (steps log) epoch_length) (trace start log))
same-lines log epoch_length start begins q alike =
    let cuts = cut_times (steps log) epoch_length in
    ap (λ (from : Option State). text_from from log (bench_text cuts)) begins
    ∙ ap numbers_text (sym (same_numbers q workload_query cuts (trace start log) alike))

pub lines-outcome : (log : Log) (epoch_length : ℕ) → size_of log ≤ 2 ^ 26 → epoch_count (steps log) epoch_length ≤ 4096
    → (start : State) → beginning guest_file log ≡ Some start → (q : Query) → Alike q workload_query
    → bench_outcome log epoch_length ≡ Ok (numbers_text (numbers_of q (cut_times (steps log) epoch_length) (trace start log)))
lines-outcome log epoch_length short few start begins q alike =
    given-outcome log epoch_length short few ∙ ap Ok (same-lines log epoch_length start begins q alike)

-- ---- answers

pub one_answer : (seed steps epoch_length : ℕ) (a b : Result (List ℕ) Refusal)
    → IsBenchAnswer seed steps epoch_length a → IsBenchAnswer seed steps epoch_length b → a ≡ b
one_answer seed steps epoch_length a b ia ib =
    ia.outcome
    ∙ ap (λ log. bench_outcome log epoch_length)
    (one_recording_by_zeros (workload seed steps) ia.is_log.asked ib.is_log.asked ia.log ib.log ia.is_log.recorded ib.is_log.recorded)
    ∙ sym ib.outcome

is_given : (log : Log) (epoch_length : ℕ) (text : List ℕ) → bench_outcome log epoch_length ≡ Ok text → text ≡ lines_of log epoch_length
is_given log epoch_length text e =
    let short = and_then-is_ok (limited_text log) (λ short. after_few log epoch_length (epochs_check epoch_length log)) text e in
    let few = and_then-is_ok (epochs_check epoch_length log) (λ fit. Ok (lines_of log epoch_length)) text short.2 in
    let same : Ok (lines_of log epoch_length) ≡ Ok text = few.2 in
    cc

pub answer-is_lines : (seed steps epoch_length : ℕ) (text : List ℕ) → IsBenchAnswer seed steps epoch_length (Ok text)
    → IsBenchOf seed steps epoch_length text
answer-is_lines seed steps epoch_length text is = record
    { log = is.log; is_log = is.is_log; gives = is_given is.log epoch_length text (sym is.outcome) }

pub lines-are_answer : (seed n epoch_length : ℕ) (text : List ℕ) (is : IsBenchOf seed n epoch_length text)
    → size_of is.log ≤ 2 ^ 26 → epoch_count (steps is.log) epoch_length ≤ 4096 → IsBenchAnswer seed n epoch_length (Ok text)
lines-are_answer seed n epoch_length text is short few = record
    { log = is.log; is_log = is.is_log; outcome = ap Ok is.gives ∙ sym (given-outcome is.log epoch_length short few) }
