-- The lines that commands print on standard error when they give up. Each is a text between `jet: ` and a line feed.
use Rattle.std.specs.Prelude.{ℕ, ℤ, List, [], ◌∷◌, ◌++◌, codes}
use Rattle.std.specs.Fmt.{decimal, signed_decimal}
use Rattle.hex.specs.Hex.{encode_lower}
use Rattle.elf_model.specs.declared.ImageKind.{ImageKind}
use Rattle.elf_model.specs.declared.ImageKind.TheVariants as image
use Rattle.log_model.specs.declared.LogKind.{LogKind}
use Rattle.log_model.specs.declared.LogKind.TheVariants as log
use Rattle.flow_model.specs.declared.Rule.{Rule}
use Rattle.flow_model.specs.declared.Rule.TheVariants as rule
use Rattle.report_model.specs.declared.QueryKind.{QueryKind}
use Rattle.report_model.specs.declared.QueryKind.TheVariants as query
use Rattle.replay_model.specs.declared.Field.{Field}
use Rattle.replay_model.specs.declared.Field.TheVariants as field
use Rattle.replay_model.specs.declared.Divergence.{Divergence}

-- the line of a text
abbrev pub err_line : List ℕ → List ℕ
err_line text = codes "jet: " ++ text ++ 0x0a ∷ []

-- ---- texts that say no more than what happened

abbrev pub usage_text : List ℕ
usage_text = codes "usage"

abbrev pub file_limit_text : List ℕ
file_limit_text = codes "limit file"

abbrev pub read_fault_text : List ℕ
read_fault_text = codes "read fault"

abbrev pub write_fault_text : List ℕ
write_fault_text = codes "write fault"

abbrev pub memory_text : List ℕ
memory_text = codes "memory"

-- ---- the program

-- the number and the name of the fault
abbrev pub image_text : ImageKind → List ℕ
image_text image.Short = codes "image 1 Short"
image_text image.Magic = codes "image 2 Magic"
image_text image.Class = codes "image 3 Class"
image_text image.Kind = codes "image 4 Kind"
image_text image.Machine = codes "image 5 Machine"
image_text image.Header = codes "image 6 Header"
image_text image.Dynamic = codes "image 7 Dynamic"
image_text image.Segment = codes "image 8 Segment"
image_text image.NoSegment = codes "image 9 NoSegment"
image_text image.Entry = codes "image 10 Entry"

-- a window of so many pages can't hold the image
abbrev pub window_text : ℕ → List ℕ
window_text pages = codes "window " ++ decimal pages

-- ---- the log

-- the number and the name of a fault
abbrev pub log_fault_name : LogKind → List ℕ
log_fault_name log.Magic = codes "1 Magic"
log_fault_name log.Header = codes "2 Header"
log_fault_name log.Short = codes "3 Short"
log_fault_name log.Tag = codes "4 Tag"
log_fault_name log.Order = codes "5 Order"
log_fault_name log.Result = codes "6 Result"
log_fault_name log.Trailing = codes "7 Trailing"
log_fault_name log.Bytes = codes "8 Bytes"

abbrev pub log_fault_text : LogKind → ℕ → List ℕ
log_fault_text kind offset = codes "log " ++ log_fault_name kind ++ codes " at " ++ decimal offset

-- the log of a run that is recorded would have so many bytes
abbrev pub log_limit_text : ℕ → List ℕ
log_limit_text size = codes "limit log " ++ decimal size

-- ---- the epochs

-- the run would be cut into so many epochs
abbrev pub epochs_limit_text : ℕ → List ℕ
epochs_limit_text count = codes "limit epochs " ++ decimal count

-- ---- the log and the program together

-- the digest that the log keeps and the program's, in lower-case hexadecimal digits
abbrev pub program_text : List ℕ → List ℕ → List ℕ
program_text kept seen = codes "program kept " ++ encode_lower kept ++ codes " seen " ++ encode_lower seen

abbrev pub field_text : Field → List ℕ
field_text field.Event = codes "event"
field_text field.A0 = codes "a0"
field_text field.A1 = codes "a1"
field_text field.A2 = codes "a2"
field_text field.Result = codes "result"
field_text (field.Byte i) = codes "byte " ++ decimal i
field_text field.Number = codes "number"
field_text field.Code = codes "code"
field_text field.Kind = codes "kind"
field_text field.Pc = codes "pc"

-- the step, and the field that differs
abbrev pub place_text : ℕ → Field → List ℕ
place_text step field = codes "diverged at " ++ decimal step ++ codes " " ++ field_text field

-- what the log keeps, and what the run shows
abbrev pub values_text : ℤ → ℤ → List ℕ
values_text kept seen = codes " kept " ++ signed_decimal kept ++ codes " seen " ++ signed_decimal seen

abbrev pub divergence_text : Divergence → List ℕ
divergence_text d = place_text d.step d.field ++ values_text d.kept d.seen

-- ---- the query

abbrev pub query_kind : QueryKind → List ℕ
query_kind query.BadByte = codes "BadByte"
query_kind query.Word = codes "Word"
query_kind query.Count = codes "Count"
query_kind query.Number = codes "Number"
query_kind query.Channel = codes "Channel"
query_kind query.Range = codes "Range"
query_kind query.SecondRule = codes "SecondRule"
query_kind query.NoRule = codes "NoRule"

-- the line of a query, and its fault
abbrev pub query_place_text : ℕ → QueryKind → List ℕ
query_place_text line kind = codes "line " ++ decimal line ++ codes " " ++ query_kind kind

abbrev pub query_text : ℕ → QueryKind → List ℕ
query_text line kind = codes "query " ++ query_place_text line kind

-- ---- several queries

-- the same of one of several query files
abbrev pub query_of_text : ℕ → ℕ → QueryKind → List ℕ
query_of_text file line kind = codes "query " ++ decimal file ++ codes " " ++ query_place_text line kind

-- as queries name it
abbrev pub rule_name : Rule → List ℕ
rule_name rule.Copy = codes "copy"
rule_name rule.Keep = codes "keep"
rule_name rule.Compute = codes "compute"
rule_name rule.Index = codes "index"

-- the first query's rule, and another query's place and rule, which is another one
abbrev pub rules_text : Rule → ℕ → Rule → List ℕ
rules_text first index other = codes "rules " ++ rule_name first ++ codes " " ++ decimal index ++ codes " " ++ rule_name other
