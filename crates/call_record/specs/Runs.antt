-- A whole run that was recorded.
use Rattle.std.specs.Prelude.{◌≡◌, ℕ, ◌+◌, ◌*◌, ◌≤◌, List, [], length, Option, None, replicate}
use Rattle.std.specs.List.{AllByRecursion}
use Rattle.isa.specs.Machine.{State}
use Rattle.log_model.specs.declared.CallRecord.{CallRecord}
use Rattle.log_model.specs.declared.RunEnd.{RunEnd}
use Rattle.log_model.specs.Logs.{Log, IsRecord, IsEnd, Rise, least_after, end_at}
use Rattle.replay_model.specs.Comparison.{divergence}
use Rattle.record_model.specs.Recorded.{AllReadNext, clock_values, EndsWithin}
use Rattle.outer_io.specs.Tells.{Tells, Gains}
use Rattle.call_record.specs.Sources.{contents}
use Rattle.call_record.specs.Tapes.{Holds}
use Rattle.call_record.specs.declared.source.Source.{Source}
use Rattle.call_record.specs.declared.tape.Tape.{Tape}
use Rattle.call_record.specs.declared.recorder.Recorder.{Recorder}

-- nothing was received and nothing recorded of a run with so many input channels
pub record IsFresh (inputs : ℕ) (r : Recorder) : Type 0 where
  pub counts : r.counts ≡ replicate 16 0
  pub records : r.tape.records.items ≡ []
  pub inputs_are : r.tape.inputs ≡ inputs
  pub size : r.tape.size ≡ 48 + 4 * inputs

-- these records and this end are those of the run that begins in this state, in every log that has them
pub record IsRunOf (start : State) (source : Source) (steps : ℕ) (end : RunEnd) (records : List CallRecord) : Type 0
  where
    pub form : AllByRecursion IsRecord records
    pub end_form : IsEnd end
    pub rise : Rise 0 records
    pub ends_after : least_after 0 records ≤ end_at end
    pub reads : AllReadNext (contents source.inputs.now) source.piece [] records
    pub ends : EndsWithin steps end
    pub agrees : (log : Log) → log.inputs ≡ length source.inputs.now → log.records ≡ records → log.end ≡ end
        → divergence start log ≡ None

-- the run was recorded to its end
pub record IsWhole (start : State) (source : Source) (steps : ℕ) (end : RunEnd) (tape : Tape)
    (told told_after : Option (List ℕ)) : Type 0 where
  pub records : List CallRecord
  pub run : IsRunOf start source steps end records
  pub holds : Holds tape records
  pub gained : Tells told told_after (Gains (clock_values records))
  pub inputs_are : tape.inputs ≡ length source.inputs.now
