-- The status and the line of each refusal.
use Rattle.std.specs.Prelude.{ℕ, List}
use Rattle.jet_refusal.specs.Lines.{err_line, usage_text, image_text, window_text, log_fault_text, program_text, divergence_text, query_text, query_of_text, rules_text, file_limit_text, log_limit_text, epochs_limit_text, read_fault_text, write_fault_text, memory_text}
use Rattle.jet_refusal.specs.declared.refusal.Refusal.{Refusal}
use Rattle.jet_refusal.specs.declared.refusal.Refusal.TheVariants as refusal

-- ---- the status that a command ends with

abbrev pub status_of : Refusal → ℕ
status_of refusal.Usage = 2
status_of (refusal.Image fault) = 3
status_of (refusal.Window pages) = 3
status_of (refusal.Log kind offset) = 4
status_of (refusal.Program kept seen) = 5
status_of (refusal.Diverged d) = 5
status_of (refusal.Query line kind) = 6
status_of (refusal.QueryOf file line kind) = 6
status_of refusal.ReadFault = 7
status_of refusal.WriteFault = 8
status_of refusal.TooLong = 9
status_of (refusal.LogTooLong size) = 9
status_of (refusal.TooManyEpochs count) = 9
status_of (refusal.NoMemory no_memory) = 10
status_of (refusal.Rules first index other) = 11

-- ---- the line on standard error

abbrev pub text_of : Refusal → List ℕ
text_of refusal.Usage = usage_text
text_of (refusal.Image fault) = image_text fault
text_of (refusal.Window pages) = window_text pages
text_of (refusal.Log kind offset) = log_fault_text kind offset
text_of (refusal.Program kept seen) = program_text kept seen
text_of (refusal.Diverged d) = divergence_text d
text_of (refusal.Query line kind) = query_text line kind
text_of (refusal.QueryOf file line kind) = query_of_text file line kind
text_of (refusal.Rules first index other) = rules_text first index other
text_of refusal.TooLong = file_limit_text
text_of (refusal.LogTooLong size) = log_limit_text size
text_of (refusal.TooManyEpochs count) = epochs_limit_text count
text_of refusal.ReadFault = read_fault_text
text_of refusal.WriteFault = write_fault_text
text_of (refusal.NoMemory no_memory) = memory_text

abbrev pub line_of : Refusal → List ℕ
line_of r = err_line (text_of r)
