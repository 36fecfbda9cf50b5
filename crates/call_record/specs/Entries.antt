-- The record of a call whose bytes are lent.
use Rattle.log_model.specs.declared.CallRecord.{CallRecord}
use Rattle.log_model.specs.declared.CallRecord.TheVariants as kept
use Rattle.call_record.specs.declared.entry.LentRecord.{LentRecord}
use Rattle.call_record.specs.declared.entry.LentRecord.TheVariants.{Read, Write, Clock, Other}

abbrev pub record_of : LentRecord → CallRecord
record_of (Read at args result bytes) = kept.Read at args result bytes.now
record_of (Write at args result bytes) = kept.Write at args result bytes.now
record_of (Clock at value) = kept.Clock at value
record_of (Other at number) = kept.Other at number
