-- Bytes are a text of one log, bytes with a fault are no log's text, and bytes have one fault: both are read by one
-- function.
-- Crates above cite these lemmas.
use Rattle.std.proofs.Common.{◌≡◌, ℕ, ◌⊎◌, inl, inr, List, Result, Ok, Err, refl, sym, ap, ◌∙◌}
use Rattle.log_model.specs.declared.Version.TheVariants.{Two}
use Rattle.log_model.specs.declared.LogKind.{LogKind}
use Rattle.log_model.specs.Logs.{Log, IsLog, IsTextOf, log_text}
use Rattle.log_model.specs.Faults.{HasFault}
use Rattle.log_model.specs.Reading.{log_of}
use Rattle.log_model.specs.Laws.{ReadsLogs, ReadsFaults, WideLogsAreRead, HaveOneText, FaultyAreNoLogs, HaveOneFault, AreLogsOrFaulty}
use Rattle.log_model.proofs.Reading.{reads_log, reads_fault}
use Rattle.log_model.proofs.Soundness.{IsReadAs, log_of-sound, log_read, fault_read}

pub reads_logs : ReadsLogs
reads_logs bytes log fits = (log_read bytes log fits, λ (is, text). reads_log bytes log is text)

pub reads_faults : ReadsFaults
reads_faults bytes kind offset fits = (fault_read bytes kind offset fits, reads_fault bytes kind offset)

pub wide_logs_are_read : WideLogsAreRead
wide_logs_are_read log is held = reads_log (log_text Two log) log is record { version = Two; held = held; spelt = refl }

abbrev Reading : Type 0
Reading = Result Log (LogKind × ℕ)

same_log : (x y : Log) → (let r : Reading = Ok x in r) ≡ Ok y → x ≡ y
same_log x y h = cc

same_fault : (x y : LogKind × ℕ) → (let r : Reading = Err x in r) ≡ Err y → x ≡ y
same_fault x y h = cc

no_both : (log : Log) (fault : LogKind × ℕ) → Ok log ≡ Err fault → ⊥
no_both log fault h = cc

pub one_text : HaveOneText
one_text a b bytes p q e f = same_log a b (sym (reads_log bytes a p e) ∙ reads_log bytes b q f)

pub faulty_is_no_log : FaultyAreNoLogs
faulty_is_no_log bytes kind offset log fault is text = no_both log (kind, offset) (sym (reads_log bytes log is text) ∙ reads_fault bytes kind offset fault)

pub one_fault : HaveOneFault
one_fault bytes k j o p f g =
    let same = same_fault (k, o) (j, p) (sym (reads_fault bytes k o f) ∙ reads_fault bytes j p g) in
    (ap (λ (x : LogKind × ℕ). x.0) same, ap (λ (x : LogKind × ℕ). x.1) same)

is_one : (bytes : List ℕ) (r : Result Log (LogKind × ℕ)) → IsReadAs bytes r → ((log : Log) × IsLog log × IsTextOf log bytes) ⊎ ((kind : LogKind) × (offset : ℕ) × HasFault bytes kind offset)
is_one bytes (Ok log) h = inl (log, h.0, h.1)
is_one bytes (Err fault) h = inr (fault.0, fault.1, h)

pub log_or_faulty : AreLogsOrFaulty
log_or_faulty bytes fits = is_one bytes (log_of bytes) (log_of-sound bytes fits)
