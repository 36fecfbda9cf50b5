-- Worked examples of what three files come to, computed by the checker.
use Rattle.std.proofs.Common.{◌≡◌, ℕ, List, [], ◌∷◌, refl, Option, None, Result, Ok, Err}
use Rattle.std.specs.Prelude.{◌++◌, Some, codes, pos, if◌then◌else◌}
use Rattle.std.specs.Fmt.{digits}
use Rattle.std.specs.Str.{bytes_eq}
use Rattle.isa.specs.Machine.{State}
use Rattle.log_model.specs.declared.Version.TheVariants.{One}
use Rattle.log_model.specs.declared.RunEnd.TheVariants.{Exit, Limit}
use Rattle.log_model.specs.declared.LogKind.TheVariants as log
use Rattle.log_model.specs.Logs.{Log, log_text}
use Rattle.log_model.specs.Reading.{log_of, channels_of, body_of}
use Rattle.flow_model.specs.declared.Rule.TheVariants.{Copy, Compute}
use Rattle.report_model.specs.declared.QueryKind.TheVariants as query
use Rattle.report_model.specs.Query.{Query}
use Rattle.elf_model.specs.declared.ImageKind.TheVariants as image
use Rattle.replay_model.specs.declared.Field.TheVariants as field
use Rattle.sha2.specs.Sha256.{sha256, digest_bytes, hash_after, compress, rounds, first_words, schedule}
use Rattle.jet_refusal.specs.declared.refusal.Refusal.{Refusal}
use Rattle.jet_refusal.specs.declared.refusal.Refusal.TheVariants as refusal
use Rattle.jet_model.specs.Outcomes.{and_then}
use Rattle.jet_model.specs.Contents.{Contents, Names, program_in}
use Rattle.flow_model.specs.declared.Rule.TheVariants.{Copy, Keep, Compute, Index}
use Rattle.epoch_model.specs.ByLength.{cut_times, cut_times_from, shrinking_times}
use Rattle.jet_model.specs.Lengths.{epoch_length, cuts_by}
use Rattle.jet_model.specs.Answer.{start_in, epochs_check, told_check, query_answer, queries_answer, convert_answer}
use Rattle.jet_model.specs.Report.{over_trace, report_of}
use Rattle.jet_model.proofs.Guests.{copy_four, copy_four_log, add_words, add_words_log, a_read, a_write}
use Rattle.jet_model.proofs.Guests.{log_of as log_with}
use Rattle.jet_model.proofs.Reports.{of_lines}
use Rattle.jet_model.proofs.Divergences.{abcd}

abbrev names : Names
names = record { program = codes "program"; log = codes "log"; query = codes "query" }

-- three files of these names, and no others
abbrev three_files : List ℕ → List ℕ → List ℕ → Contents
three_files program log query name =
    if bytes_eq name (codes "program") then Some program else
    if bytes_eq name (codes "log") then Some log else
    if bytes_eq name (codes "query") then Some query else None

abbrev reported : Query → State → Log → List ℕ
reported q = over_trace (report_of q)

abbrev all_bytes : List ℕ
all_bytes = of_lines ("rule copy" ∷ "source all" ∷ "sink all" ∷ [])

abbrev Reports : Option ℕ → List ℕ → List ℕ → List ℕ → Result (List ℕ) Refusal → Type 0
Reports told program log query answer = query_answer reported told (three_files program log query) names ≡ answer

abbrev another_byte : Log
another_byte = log_with copy_four 1 1 (a_read 5 4 abcd ∷ a_write 8 (0x41 ∷ 0x42 ∷ 0x58 ∷ 0x44 ∷ []) ∷ []) (Exit 11 0)

answers :
    Reports None copy_four (log_text One copy_four_log) all_bytes (Ok (of_lines ("1:0 0:0" ∷ "1:1 0:1" ∷ "1:2 0:2" ∷ "1:3 0:3" ∷ "end 4" ∷ [])))
    -- the program is refused before the log
    × Reports None (codes "ELF") [] [] (Err (refusal.Image image.Short))
    × Reports None copy_four all_bytes [] (Err (refusal.Log log.Magic 0))
    -- the query is refused before the log is compared with the program
    × Reports None copy_four (log_text One add_words_log) (codes "rule copy x") (Err (refusal.Query 1 query.Count))
    × Reports None copy_four (log_text One add_words_log) all_bytes (Err (refusal.Program (sha256 add_words) (sha256 copy_four)))
    × Reports None copy_four (log_text One another_byte) all_bytes (Err (refusal.Diverged (record { step = 8; field = field.Byte 2; kept = pos 88; seen = pos 67 })))
unfolding digits log_of channels_of body_of sha256 digest_bytes hash_after compress rounds first_words schedule
answers = (refl, refl, refl, refl, refl, refl)

-- there are no files; and a window of no page holds no image
nothing_there : (query_answer reported None (λ name. None) names ≡ Err refusal.ReadFault) × (and_then (program_in copy_four) (λ program. start_in program.image 0) ≡ Err (refusal.Window 0))
nothing_there = (refl, refl)

-- ---- the limit of epochs

-- a log whose run ends after so many steps
abbrev of_steps : ℕ → Log
of_steps n = record copy_four_log { end = Limit n }

-- the last epoch may be shorter than the others, and a run of no step is one epoch
few_epochs : (epochs_check 1 (of_steps 4096) ≡ Ok tt) × (epochs_check 1048576 (of_steps 4294967296) ≡ Ok tt) × (epochs_check 1 (of_steps 0) ≡ Ok tt)
few_epochs = (refl, refl, refl)

many_epochs : (epochs_check 1 (of_steps 4097) ≡ Err (refusal.TooManyEpochs 4097)) × (epochs_check 1048576 (of_steps 4294967297) ≡ Err (refusal.TooManyEpochs 4097))
many_epochs = (refl, refl)

-- ---- the length of epochs

-- one that is told; one worker has one epoch, by either kind of rule
lengths :
    (epoch_length (Some 7) 4 2400000 ≡ 7) × (epoch_length None 1 2400000 ≡ 872728) × (cuts_by None Compute 1 2400000 ≡ 2400000 ∷ [])
    × (cuts_by None Copy 1 2400000 ≡ 2400000 ∷ []) × (epoch_length None 4 2400000 ≡ 417392) × (epoch_length None 4 1000000 ≡ 262144)
unfolding cut_times_from shrinking_times
lengths = (refl, refl, refl, refl, refl, refl)

-- four workers have one epoch each of a long run, the first of three lengths and the last of three quarters, and fewer of a shorter one
four_epochs :
    (cuts_by None Compute 4 2400000 ≡ 1252176 ∷ 1669568 ∷ 2086960 ∷ 2400000 ∷ []) × (cuts_by None Index 4 1000000 ≡ 786432 ∷ 1000000 ∷ [])
    × (cuts_by None Compute 4 600000 ≡ 600000 ∷ [])
unfolding cut_times_from
four_epochs = (refl, refl, refl)

-- where moves alone are followed, they have 10, 6, 3 lengths and 1, and fewer of a shorter run
shorter_epochs :
    (cuts_by None Copy 4 2400000 ≡ 1200000 ∷ 1920000 ∷ 2280000 ∷ 2400000 ∷ []) × (cuts_by None Keep 4 1000000 ≡ 600000 ∷ 900000 ∷ 1000000 ∷ [])
    × (cuts_by None Copy 4 600000 ≡ 450000 ∷ 600000 ∷ []) × (cuts_by None Copy 4 0 ≡ 0 ∷ [])
unfolding shrinking_times
shorter_epochs = (refl, refl, refl, refl)

-- the last is shorter where the steps are no multiple
rounded_up :
    (epoch_length None 4 2300001 ≡ 400004) × (cuts_by None Compute 4 2300001 ≡ 1200012 ∷ 1600016 ∷ 2000020 ∷ 2300001 ∷ [])
    × (cuts_by None Copy 4 2400001 ≡ 1200010 ∷ 1920016 ∷ 2280019 ∷ 2400001 ∷ [])
    × (cut_times 2000001 500001 ≡ 500001 ∷ 1000002 ∷ 1500003 ∷ 2000001 ∷ [])
unfolding cut_times cut_times_from shrinking_times
rounded_up = (refl, refl, refl, refl)

-- however long the run is, a told length alone makes too many
longest : (told_check None (of_steps 18446744073709551615) ≡ Ok tt) × (told_check (Some 1) (of_steps 4097) ≡ Err (refusal.TooManyEpochs 4097))
longest = (refl, refl)

-- ---- a log in version 2

-- the same log, whichever version it was kept in: the bytes are typed out
abbrev wide_copy_four : List ℕ
wide_copy_four =
    0x4a ∷ 0x45 ∷ 0x54 ∷ 0x4c ∷ 0x4f ∷ 0x47 ∷ 0x32 ∷ 0x0a ∷ [] ++ sha256 copy_four ++ 1 ∷ 0 ∷ 0 ∷ 0 ∷ 1 ∷ 0 ∷ 0 ∷ 0 ∷
    4 ∷ 0 ∷ 0 ∷ 0 ∷ 0x41 ∷ 0x42 ∷ 0x43 ∷ 0x44 ∷
    1 ∷ 5 ∷ 0 ∷ 0 ∷ 0 ∷ 0 ∷ 0 ∷ 0 ∷ 0 ∷ 0 ∷ 0 ∷ 0 ∷ 0 ∷ 0 ∷ 1 ∷ 1 ∷ 0 ∷ 4 ∷ 0 ∷ 0 ∷ 0 ∷ 4 ∷ 0 ∷ 0 ∷ 0 ∷
    2 ∷ 8 ∷ 0 ∷ 0 ∷ 0 ∷ 0 ∷ 0 ∷ 0 ∷ 0 ∷ 1 ∷ 0 ∷ 0 ∷ 0 ∷ 0 ∷ 1 ∷ 1 ∷ 0 ∷ 4 ∷ 0 ∷ 0 ∷ 0 ∷ 4 ∷ 0 ∷ 0 ∷ 0 ∷ 0x41 ∷ 0x42 ∷ 0x43 ∷ 0x44 ∷
    5 ∷ 11 ∷ 0 ∷ 0 ∷ 0 ∷ 0 ∷ 0 ∷ 0 ∷ 0 ∷ 0 ∷ 0 ∷ 0 ∷ 0 ∷ []

abbrev converted : List ℕ → Result (List ℕ) Refusal
converted log = convert_answer (three_files copy_four log []) (codes "program") (codes "log")

-- it is converted to these bytes, and they to themselves; the report is the same, and so it is with epochs of another length
conversions : (converted (log_text One copy_four_log) ≡ Ok wide_copy_four) × (converted wide_copy_four ≡ Ok wide_copy_four)
    × Reports (Some 5) copy_four wide_copy_four all_bytes (Ok (of_lines ("1:0 0:0" ∷ "1:1 0:1" ∷ "1:2 0:2" ∷ "1:3 0:3" ∷ "end 4" ∷ [])))
unfolding digits log_of channels_of body_of sha256 digest_bytes hash_after compress rounds first_words schedule
conversions = (refl, refl, refl)

-- ---- several queries

-- the query is one of two, by the names of their files
abbrev two_queries : List ℕ → List ℕ → Contents
two_queries one two name =
    if bytes_eq name (codes "one") then Some one else
    if bytes_eq name (codes "two") then Some two else three_files copy_four (log_text One copy_four_log) [] name

abbrev of_both : List ℕ → List ℕ → Result (List ℕ) Refusal
of_both one two = queries_answer None (two_queries one two) (codes "program") (codes "log") (codes "one" ∷ codes "two" ∷ [])

-- all are read before their rules are compared
faulty_queries : (of_both all_bytes (codes "rule compute") ≡ Err (refusal.Rules Copy 2 Compute)) × (of_both (codes "rule compute") (codes "sink 16") ≡ Err (refusal.QueryOf 2 1 query.Channel))
unfolding digits log_of channels_of body_of sha256 digest_bytes hash_after compress rounds first_words schedule
faulty_queries = (refl, refl)
