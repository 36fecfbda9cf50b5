-- The header and what is after it are the log that the bytes are read as.
use Rattle.std.proofs.Common.{◌≡◌, ℕ, ◌+◌, ◌*◌, ◌^◌, ◌<◌, ◌≤◌, List, length, get_or, Ok, refl, ap, ◌∙◌}
use Rattle.std.specs.List.{sum_by}
use Rattle.log_model.specs.declared.Version.TheVariants.{Two}
use Rattle.log_model.specs.declared.CallRecord.{CallRecord}
use Rattle.log_model.specs.declared.RunEnd.{RunEnd}
use Rattle.log_model.specs.Reading.{map_ok, with_header, log_of}
use Rattle.log_model.specs.Logs.{IsLog, log_text, end_text, share}
use Rattle.log_model.proofs.Reading.{log_of-body}
use Rattle.log_model.proofs.Soundness.{log_read}
use Rattle.log_model.proofs.Words.{IsBytes-each}
use Rattle.log_model.proofs.Texts.{wide_length, wide_limit}
use Rattle.replay_log.specs.declared.header.Header.{Header}
use Rattle.log_model.specs.declared.FaultInLog.{FaultInLog}
use Rattle.no_memory.specs.declared.Fault.{Fault}
use Rattle.no_memory.specs.declared.Fault.TheVariants.{At, NoMemory}
use Rattle.no_memory.specs.Faults.{IsCausedBy}
use Rattle.replay_log.specs.Answers.{IsFaultOf}
use Rattle.replay_log.specs.Logs.{log_of_parts}
use Rattle.replay_log.specs.Header.{IsHeader, body}

pub whole_log : (bytes : List ℕ) (h : Header) (records : List CallRecord) (end : RunEnd) → IsHeader bytes h → body h.version bytes ≡ Ok (records, end) → log_of bytes ≡ Ok (log_of_parts h.pages h.inputs h.digest records end)
whole_log bytes h records end is e =
    log_of-body h.version bytes is.none is.version ∙ ap (map_ok (with_header bytes)) e
    ∙ rw (is.pages, is.inputs, is.digest) refl

pub whole_fault : (bytes : List ℕ) (h : Header) (fault : Fault FaultInLog) → IsHeader bytes h → IsCausedBy (IsFaultOf (body h.version bytes)) fault → IsCausedBy (IsFaultOf (log_of bytes)) fault
whole_fault bytes h (At at) is e = log_of-body h.version bytes is.none is.version ∙ ap (map_ok (with_header bytes)) e
whole_fault bytes h (NoMemory no_memory) is e = tt

-- the log of these parts is one, and its text of version 2 is short enough
pub record IsWholeLog (h : Header) (records : List CallRecord) (end : RunEnd) : Type 0 where
  pub form : IsLog (log_of_parts h.pages h.inputs h.digest records end)
  pub size : length (log_text Two (log_of_parts h.pages h.inputs h.digest records end)) ≡ 48 + 4 * h.inputs + sum_by (share h.inputs) records + length (end_text Two end)
  pub limit : length (log_text Two (log_of_parts h.pages h.inputs h.digest records end)) ≤ 2 ^ 27

pub whole_is : (bytes : List ℕ) (h : Header) (records : List CallRecord) (end : RunEnd) → ((i : ℕ) → get_or bytes i 0 < 2 ^ 8) → length bytes ≤ 2 ^ 26 → IsHeader bytes h → body h.version bytes ≡ Ok (records, end) → IsWholeLog h records end
whole_is bytes h records end small most is e =
    let log = log_of_parts h.pages h.inputs h.digest records end in
    let read = log_read bytes log (IsBytes-each bytes small) (whole_log bytes h records end is e) in
    record { form = read.0; size = wide_length log read.0; limit = wide_limit log bytes read.0 read.1 most }
