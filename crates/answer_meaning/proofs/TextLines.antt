-- The texts of commands, line by line: only the last line begins with `e`.
use Rattle.std.proofs.Common.{ℕ, ◌+◌, Bool, List, [], ◌∷◌, ◌++◌, length, refl, Option, Some, None}
use Rattle.std.specs.Prelude.{◌≡◌, ◌==◌, nat_le, false, true, codes}
use Rattle.isa.specs.Machine.{State}
use Rattle.isa.specs.declared.Instr.{Instr}
use Rattle.log_model.specs.declared.CallRecord.{CallRecord}
use Rattle.log_model.specs.declared.RunEnd.{RunEnd}
use Rattle.log_model.specs.declared.RunEnd.TheVariants.{Exit, Trap, Limit}
use Rattle.log_model.specs.Logs.{Log, steps}
use Rattle.flow_model.specs.declared.SourceByte.{SourceByte}
use Rattle.flow_model.specs.declared.SinkPoint.{SinkPoint}
use Rattle.flow_model.specs.declared.SinkPoint.TheVariants.{Out, At}
use Rattle.flow_model.specs.declared.Loc.TheVariants.{Mem}
use Rattle.report_model.specs.Rows.{Row}
use Rattle.report_model.specs.Text.{source_text, row_text, report_text}
use Rattle.report_model.specs.Influence.{Reach, sink_text, reach_text, influence_text}
use Rattle.replay_model.specs.Run.{start, moment_after}
use Rattle.replay_model.specs.Summary.{calls, bytes_read, bytes_written}
use Rattle.source_ranges.specs.Ranges.{ranges_of, range_text}
use Rattle.printed_names.specs.Lines.{lines_end}
use Rattle.range_report.specs.declared.RunKind.{RunKind}
use Rattle.range_report.specs.declared.RunKind.TheVariants.{Same, Changed, Shared}
use Rattle.range_report.specs.Runs.{output_rows, point_rows, rows_without, runs}
use Rattle.range_report.specs.Text.{first_of, sources_of, written_in, received_in, kind_of, kind_text, range_part, ranges_part, run_line, point_line, end_line as ranges_end, ranges_report}
use Rattle.path_find.specs.declared.writing.End.{End}
use Rattle.path_find.specs.declared.writing.Stop.{Stop}
use Rattle.path_find.specs.Text.{step_text, read_line, hop_line, hop_lines, end_word, end_line as sink_line, path_text}
use Rattle.decision_find.specs.declared.Place.{Place}
use Rattle.decision_find.specs.Decisions.{Decision}
use Rattle.decision_find.specs.Places.{places, decided_there, sources_of as sources_of_decisions}
use Rattle.decision_find.specs.Text.{mnemonic_text, place_line, decisions_text}
use Rattle.run_output.specs.declared.ways.Way.{Way}
use Rattle.run_output.specs.declared.ways.Way.TheVariants.{Received, Written}
use Rattle.run_output.specs.Summary.{number_line, end_line as numbers_end, summary_text}
use Rattle.run_output.specs.Lines.{Line, MovedLine, RefusedLine, ClockLine, OtherLine, word_of, extent_text, line_text}
use Rattle.run_output.specs.Calls.{lines, end_text, calls_text}
use Rattle.run_output.specs.Stack.{pc_line, pcs_text, calls_after, stack_within, stack_text}
use Rattle.run_output.specs.Stacks.{stack_part}
use Rattle.answer_meaning.proofs.TextReading.{AtStart, Inside, InLast, Over, Reads, nothing, ◌⨾◌, each}
use Rattle.answer_meaning.proofs.TextPieces.{no_feeds, plain, in_last, first, blank, feed, last_feed, number, number_first, number_last, signed_number, pc, pc_first, name, name_first, loc, point, point_first, span_first, range, quoted}
use Rattle.answer_meaning.proofs.TextInstructions.{mnemonic, instruction}

-- the last line begins with `e`, and no other
begins_last : Reads AtStart (0x65 ∷ []) InLast
begins_last = record { whole = λ later rest. refl }

end : Reads AtStart (codes "end ") InLast
end = begins_last ⨾ in_last (codes "nd ") refl

pub last : (n : ℕ) → Reads AtStart (lines_end n) Over
last n = end ⨾ number_last n ⨾ last_feed

-- ---- reports, and the influence of source bytes

row : (r : Row) → Reads AtStart (row_text r) AtStart
row r = point_first r.sink ⨾ each Inside source_text (λ b. blank ⨾ name b.channel b.offset) r.sources ⨾ feed

pub report : (rs : List Row) → Reads AtStart (report_text rs) Over
report rs = each AtStart row_text row rs ⨾ end ⨾ number_last (length rs) ⨾ last_feed

reach : (r : Reach) → Reads AtStart (reach_text r) AtStart
reach r = name_first r.source.channel r.source.offset ⨾ each Inside sink_text (λ s. blank ⨾ point s) r.sinks ⨾ feed

pub influence : (rs : List Reach) → Reads AtStart (influence_text rs) Over
influence rs = each AtStart reach_text reach rs ⨾ end ⨾ number_last (length rs) ⨾ last_feed

-- ---- reports in ranges

kind : (k : RunKind) → Reads Inside (kind_text k) Inside
kind Same = plain (codes "=") refl
kind Changed = plain (codes "~") refl
kind Shared = plain (codes "<") refl

ranges_with : (calls : List CallRecord) (bs : List SourceByte) → Reads Inside (ranges_part calls bs) Inside
ranges_with calls bs = each Inside (range_part calls) (λ r. blank ⨾ range r ⨾ blank ⨾ quoted (received_in calls r)) (ranges_of bs)

run : (calls : List CallRecord) (rs : List Row) → Reads AtStart (run_line calls rs) AtStart
run calls rs =
    span_first (first_of rs).channel (first_of rs).offset ((first_of rs).offset + length rs) ⨾ blank ⨾ quoted (written_in calls rs) ⨾ blank
    ⨾ kind (kind_of calls rs) ⨾ ranges_with calls (sources_of rs) ⨾ feed

inner : (calls : List CallRecord) (r : Row) → Reads AtStart (point_line calls r) AtStart
inner calls r = point_first r.sink ⨾ plain (codes " <") refl ⨾ ranges_with calls r.sources ⨾ feed

last_with : (n m : ℕ) → Reads AtStart (ranges_end n m) Over
last_with n m = end ⨾ number_last n ⨾ in_last (codes " ") refl ⨾ number_last m ⨾ last_feed

pub ranges : (log : Log) (rs : List Row) → Reads AtStart (ranges_report log rs) Over
ranges log rs =
    each AtStart (run_line log.records) (run log.records) (runs (output_rows rs)) ⨾ each AtStart (point_line log.records) (inner log.records) (point_rows rs)
    ⨾ last_with (length (runs (output_rows rs)) + length (point_rows rs)) (length (rows_without rs))

-- ---- paths

step : (number_of pc_of : ℕ) → Reads Inside (step_text number_of pc_of) Inside
step n p = blank ⨾ number n ⨾ blank ⨾ pc p ⨾ blank

read_first : (s : SourceByte) (a : Stop) → Reads AtStart (read_line s a) AtStart
read_first s a = first 0x72 (codes "ead") refl refl refl ⨾ step a.number a.pc ⨾ name s.channel s.offset ⨾ blank ⨾ loc a.loc ⨾ feed

hop : (a b : Stop) → Reads AtStart (hop_line a b) AtStart
hop a b =
    first 0x68 (codes "op") refl refl refl ⨾ step b.number b.pc ⨾ loc a.loc ⨾ blank ⨾ loc b.loc ⨾ blank ⨾ instruction b.instr ⨾ feed

hops : (stops : List Stop) → Reads AtStart (hop_lines stops) AtStart
hops [] = nothing AtStart
hops (a ∷ []) = nothing AtStart
hops (a ∷ b ∷ bs) = hop a b ⨾ hops (b ∷ bs)

word : (s : SinkPoint) → Reads AtStart (end_word s) Inside
word (Out b) = first 0x77 (codes "rite") refl refl refl
word (At p) = first 0x70 (codes "oint") refl refl refl

sink : (e : End) → Reads AtStart (sink_line e) AtStart
sink e = word e.name ⨾ step e.number e.pc ⨾ loc e.loc ⨾ blank ⨾ point e.name ⨾ feed

pub path : (s : SourceByte) (e : End) (stops : List Stop) → Reads AtStart (path_text s e stops) Over
path s e [] = last 0
path s e (a ∷ rest) = read_first s a ⨾ hops (a ∷ rest) ⨾ sink e ⨾ last (length (a ∷ rest) + 1)

-- ---- decisions

instr : (i : Option Instr) → Reads Inside (mnemonic_text i) Inside
instr (Some i) = mnemonic i
instr None = plain (codes ".word") refl

place : (p : Place) (ds : List Decision) → Reads AtStart (place_line p ds) AtStart
place p [] = nothing AtStart
place p (d ∷ ds) =
    (pc_first p.pc ⨾ blank ⨾ instr d.instr ⨾ blank ⨾ loc p.loc) ⨾ blank ⨾ number (length (d ∷ ds)) ⨾ blank ⨾ number d.time
    ⨾ each Inside (λ r. codes " " ++ range_text r) (λ r. blank ⨾ range r) (ranges_of (sources_of_decisions (d ∷ ds))) ⨾ feed

pub decisions : (ds : List Decision) → Reads AtStart (decisions_text ds) Over
decisions ds = each AtStart (λ p. place_line p (decided_there p ds)) (λ p. place p (decided_there p ds)) (places ds) ⨾ last (length (places ds))

-- ---- calls, the calls in progress, and a run's numbers

way : (w : Way) → Reads Inside (word_of w) Inside
way Received = plain (codes " read ") refl
way Written = plain (codes " write ") refl

extent : (count address : ℕ) → Reads Inside (extent_text count address) Inside
extent count address = blank ⨾ number count ⨾ blank ⨾ loc (Mem address)

call : (x : Line) → Reads AtStart (line_text x) AtStart
call (MovedLine w p) =
    number_first p.at ⨾ way w ⨾ name p.channel p.offset ⨾ extent (length p.bytes) p.address ⨾ blank ⨾ quoted p.bytes ⨾ feed
call (RefusedLine w r) = number_first r.at ⨾ way w ⨾ (number r.channel ⨾ blank ⨾ signed_number r.result) ⨾ extent r.asked r.address ⨾ feed
call (ClockLine at value) = number_first at ⨾ plain (codes " clock ") refl ⨾ number value ⨾ feed
call (OtherLine at kind) = number_first at ⨾ plain (codes " other ") refl ⨾ number kind ⨾ feed

run_end : (end : RunEnd) → Reads AtStart (end_text end) AtStart
run_end (Exit at status) = number_first at ⨾ plain (codes " exit ") refl ⨾ number status ⨾ feed
run_end (Trap at k p) = number_first at ⨾ plain (codes " trap ") refl ⨾ number k ⨾ blank ⨾ pc p ⨾ feed
run_end (Limit at) = number_first at ⨾ (plain (codes " limit") refl ⨾ feed)

pub calls_of : (log : Log) → Reads AtStart (calls_text log) Over
calls_of log = each AtStart line_text call (lines log) ⨾ run_end log.end ⨾ last (length (lines log) + 1)

pub stack : (pcs : List ℕ) → Reads AtStart (pcs_text pcs) Over
stack pcs = each AtStart pc_line (λ p. pc_first p ⨾ feed) pcs ⨾ last (length pcs)

-- a line feed as a text of its own
line_feed : Reads Inside (codes "\n") AtStart
line_feed = feed

text_feed : Reads InLast (codes "\n") Over
text_feed = last_feed

numbers_last : (end : RunEnd) → Reads AtStart (numbers_end end) Over
numbers_last (Exit at status) = (begins_last ⨾ in_last (codes "nd exit") refl) ⨾ in_last (codes " ") refl ⨾ number_last status ⨾ text_feed
numbers_last (Trap at k p) = (begins_last ⨾ in_last (codes "nd trap ") refl) ⨾ number_last k ⨾ in_last (codes " ") refl ⨾ number_last p ⨾ text_feed
numbers_last (Limit at) = begins_last ⨾ in_last (codes "nd limit") refl ⨾ text_feed

named : (c : ℕ) (text : List ℕ) → (c == 0x0a) ≡ false → (c == 0x65) ≡ false → no_feeds text ≡ true → (n : ℕ) → Reads AtStart (number_line (c ∷ text) n) AtStart
named c text e f g n = first c text e f g ⨾ blank ⨾ number n ⨾ line_feed

pub numbers : (log : Log) → Reads AtStart (summary_text log) Over
numbers log =
    named 0x73 (codes "teps") refl refl refl (steps log) ⨾ named 0x63 (codes "alls") refl refl refl (calls log) ⨾ named 0x72 (codes "ead") refl refl refl (bytes_read log)
    ⨾ named 0x77 (codes "ritten") refl refl refl (bytes_written log) ⨾ numbers_last log.end

-- ---- the calls in progress at several times

stack_of : (inside : Bool) (s : State) (log : Log) (t : ℕ) → Reads AtStart (stack_within inside s log t) Over
stack_of true s log t = stack ((moment_after t (start s log)).state.pc ∷ calls_after s log t)
stack_of false s log t = stack []

pub stack_alone : (s : State) (log : Log) (t : ℕ) → Reads AtStart (stack_text s log t) Over
stack_alone s log t = stack_of (nat_le t (steps log)) s log t

pub part : (s : State) (log : Log) (t : ℕ) → Reads AtStart (stack_part s log t) Over
part s log t = named 0x73 (codes "tack") refl refl refl t ⨾ stack_alone s log t
