-- What holds of the workload.
use Rattle.std.specs.Prelude.{◌≡◌, ℕ, ◌^◌, ◌<◌, ◌≤◌, List, length, Some, IsSome, Result, Ok, Err}
use Rattle.isa.specs.Machine.{State}
use Rattle.flow_model.specs.declared.StepSeen.{StepSeen}
use Rattle.elf_model.specs.Image.{image}
use Rattle.elf_model.specs.Window.{start_of}
use Rattle.log_model.specs.declared.Version.TheVariants.{Two}
use Rattle.log_model.specs.Logs.{Log, log_text, steps}
use Rattle.report_model.specs.Query.{Query, Alike}
use Rattle.report_model.specs.Grammar.{query}
use Rattle.guest_assembler.specs.ProgramFile.{HaveWords}
use Rattle.replay_model.specs.Fits.{beginning}
use Rattle.replay_model.specs.Run.{trace}
use Rattle.record_model.specs.Counts.{capped}
use Rattle.epoch_model.specs.ByLength.{epoch_count, cut_times}
use Rattle.jet_refusal.specs.declared.refusal.Refusal.{Refusal}
use Rattle.jet_refusal.specs.declared.refusal.Refusal.TheVariants as refusal
use Rattle.jet_model.specs.Headline.{HasFewEpochs}
use Rattle.order_gateway.specs.Guest.{guest, guest_file, guest_image}
use Rattle.order_gateway.specs.Workload.{query_text, workload_query}
use Rattle.order_gateway.specs.Lines.{numbers_text, numbers_of}
use Rattle.order_gateway.specs.Answer.{bench_outcome, IsBenchAnswer, IsBenchOf}

abbrev pub GuestHasWords : Type 0
GuestHasWords = HaveWords guest

abbrev pub GuestIsImage : Type 0
GuestIsImage = image guest_file ≡ Ok guest_image

abbrev pub WindowHoldsGuest : Type 0
WindowHoldsGuest = IsSome (start_of guest_image 4)

abbrev pub TextIsQuery : Type 0
TextIsQuery = query query_text ≡ Ok workload_query

-- alike queries have the same numbers
abbrev pub AlikeHaveSameNumbers : Type 0
AlikeHaveSameNumbers = (q p : Query) (cuts : List ℕ) (trace : List StepSeen)
    → Alike q p → numbers_of q cuts trace ≡ numbers_of p cuts trace

-- ---- what a log comes to

-- its limit, where its text has more bytes than that
abbrev pub LongLogIsRefused : Type 0
LongLogIsRefused = (log : Log) (epoch_length : ℕ) → 2 ^ 26 < length (log_text Two log)
    → bench_outcome log epoch_length ≡ Err (refusal.LogTooLong (capped (length (log_text Two log))))

-- else that of the epochs, where there are more than 4096
abbrev pub ManyEpochsAreRefused : Type 0
ManyEpochsAreRefused = (log : Log) (epoch_length : ℕ)
    → length (log_text Two log) ≤ 2 ^ 26 → 4096 < epoch_count (steps log) epoch_length
    → bench_outcome log epoch_length ≡ Err (refusal.TooManyEpochs (epoch_count (steps log) epoch_length))

-- and else the lines, of any query that asks alike
abbrev pub LinesAreGiven : Type 0
LinesAreGiven = (log : Log) (epoch_length : ℕ)
    → length (log_text Two log) ≤ 2 ^ 26 → epoch_count (steps log) epoch_length ≤ 4096
    → (start : State) → beginning guest_file log ≡ Some start → (q : Query) → Alike q workload_query
    → bench_outcome log epoch_length ≡ Ok (numbers_text (numbers_of q (cut_times (steps log) epoch_length) (trace start log)))

-- there is an answer, whatever the seed and the length of epochs
abbrev pub HasAnswer : Type 0
HasAnswer = (seed steps epoch_length : ℕ) → steps ≤ 2 ^ 40
    → (answer : Result (List ℕ) Refusal) × IsBenchAnswer seed steps epoch_length answer

-- two answers are the same
abbrev pub HasOneAnswer : Type 0
HasOneAnswer = (seed steps epoch_length : ℕ) (a b : Result (List ℕ) Refusal)
    → IsBenchAnswer seed steps epoch_length a → IsBenchAnswer seed steps epoch_length b → a ≡ b

-- a text that is the answer is the lines of the run
abbrev pub AnswerIsLines : Type 0
AnswerIsLines = (seed steps epoch_length : ℕ) (text : List ℕ)
    → IsBenchAnswer seed steps epoch_length (Ok text) → IsBenchOf seed steps epoch_length text

-- and the lines of a run that is within the limits are the answer
abbrev pub LinesAreAnswer : Type 0
LinesAreAnswer = (seed steps epoch_length : ℕ) (text : List ℕ) (is : IsBenchOf seed steps epoch_length text)
    → length (log_text Two is.log) ≤ 2 ^ 26 → HasFewEpochs epoch_length is.log
    → IsBenchAnswer seed steps epoch_length (Ok text)
