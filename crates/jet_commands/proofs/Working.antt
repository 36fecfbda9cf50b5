-- From what was found in files, and the work on it, to what the files come to.
use Rattle.std.proofs.Common.{◌≡◌, ◌∙◌, ap, ap₂, sym, refl, subst, append-nil, ℕ, ◌+◌, List, Bool, true, false, [], ◌∷◌, ◌++◌, Option, Some, None, Result, Ok, Err}
use Rattle.std.specs.Prelude.{codes, if◌then◌else◌, is_ok, IfOk, IfErr}
use Rattle.std.specs.Result.{IsErrAnd}
use Rattle.std.specs.List.{filter}
use Rattle.std.specs.Fmt.{decimal}
use Rattle.isa.specs.Machine.{State}
use Rattle.log_model.specs.Logs.{Log}
use Rattle.outer_io.specs.Faults.{Rose}
use Rattle.outer_io.specs.Tells.{Tells}
use Rattle.outer_io.specs.Files.{Text}
use Rattle.outer_io.specs.Shown.{StoreShown}
use Rattle.outer_io.specs.Reads.{Reads}
use Rattle.outer_io.proofs.TellsLemmas.{tells-map}
use Rattle.outer_io.proofs.ReadsLemmas.{reads-then, reads-stops, reads-less}
use Rattle.lists.specs.Sets.{set_of}
use Rattle.flow_model.specs.declared.Rule.{Rule}
use Rattle.flow_model.specs.declared.SourceByte.{SourceByte}
use Rattle.flow_model.specs.declared.StepSeen.{StepSeen}
use Rattle.flow_model.specs.Orders.{source_cmp}
use Rattle.report_model.specs.Query.{Query, Alike}
use Rattle.report_model.specs.Rows.{Row}
use Rattle.report_model.specs.Text.{report_text}
use Rattle.report_model.specs.Influence.{sources_of, chosen_sources, turned, influence_text}
use Rattle.report_model.specs.Together.{is_same_rule, other_rule, first_other_rule}
use Rattle.report_model.proofs.RowLemmas.{same_rows}
use Rattle.replay_model.specs.Run.{trace}
use Rattle.replayer.specs.Jobs.{Job, trace_of}
use Rattle.replayer.specs.Checks.{IsChecked}
use Rattle.jet_refusal.specs.declared.refusal.Refusal.{Refusal}
use Rattle.jet_refusal.specs.Faults.{IsOutOfMemory}
use Rattle.jet_refusal.proofs.Causes.{IsOwedTo-map, IsOwedTo-out_of_memory}
use Rattle.jet_model.specs.Outcomes.{and_then}
use Rattle.jet_model.specs.Contents.{Contents, Run, run_at}
use Rattle.jet_model.specs.Report.{over_trace, reports_from, reports_of}
use Rattle.jet_model.specs.Answer.{fitting_start, told_check, cut_answer, analysed_answer, unless_other_rule, rules_check}
use Rattle.jet_model.proofs.AndThen.{and_then-ok, and_then-err}
use Rattle.command_parts.specs.Outcome.{IsOutcomeOf, HeldBefore, IsOutcomeBy, IsWork, by_reading, seen_by}
use Rattle.jet_commands.specs.Outcome.{AskAlike, IsKeptFor}
use Rattle.jet_commands.specs.Targets.{Target}
use Rattle.jet_commands.specs.Obeying.{Gives, given_text, given_target}
use Rattle.jet_commands.specs.declared.delivery.Given.{Given}
use Rattle.jet_commands.proofs.Giving.{passes}
use Rattle.command_parts.proofs.Composing.{outcome_of-then, outcome_of-stops, outcome_by-stops, owed-map, work-then, work-stops}
use Rattle.jet_commands.proofs.Several.{kept-refused as refused-alike}
use Rattle.jet_words.specs.declared.command.Listing.{Listing}
use Rattle.jet_words.specs.declared.command.Listing.TheVariants.{BySink, BySource, ByPath, ByRange}
use Rattle.jet_commands.specs.Answers.{IsWorkOf, fits_and_is_cut, given_by, format_text, decisions_by, made_of, making_answer, IsGivenAlike, AreGivenAlike}
use Rattle.path_find.specs.FirstPair.{first_pair}
use Rattle.path_find.specs.Answer.{pair_report, path_report}
use Rattle.range_report.specs.Text.{ranges_report}
use Rattle.decision_find.specs.Decides.{deciding_rule}
use Rattle.decision_find.specs.Decisions.{decided}
use Rattle.decision_find.specs.Text.{decisions_text}
use Rattle.page_text.specs.Texts.{head, tail}
use Rattle.page_data.specs.PageLaws.{AlikeHaveSameData}
use Rattle.jet_commands.specs.declared.tellings.Format.{Format}
use Rattle.jet_commands.specs.declared.tellings.Format.TheVariants.{Listed, Page}
use Rattle.jet_commands.specs.declared.tellings.Making.{Making}
use Rattle.no_memory.specs.declared.Fault.{Fault}
use Rattle.no_memory.specs.Faults.{IsCausedBy}
use Rattle.replay_model.specs.declared.Misfit.{Misfit}
use Rattle.replayer.specs.Checks.{IsMisfit}
use Rattle.jet_refusal.specs.Faults.{misfit_refusal, IsRefusalOf}
use Rattle.command_parts.proofs.Fitting.{fitting_start-ok, misfit-stops}

-- the first calls gave a value, and what the work on it says is that of all
pub outcome_by-answer : {A B : Type 0} (R : Contents → Result A Refusal → Type 0) (Q : Result B Refusal → Type 0) (T : Contents → Result B Refusal → Type 0) (x : A) (f g : StoreShown)
    → ((file : Contents) (outcome : Result B Refusal) → R file (Ok x) → Q outcome → T file outcome)
    → IsOutcomeBy R f g (Ok x) → (outcome : Result B Refusal) → IsWorkOf Q outcome → IsOutcomeBy T f g outcome
outcome_by-answer R Q T x f g step first (Ok y) work =
    (first.0, tells-map f.files g.files (HeldBefore (λ file. R file (Ok x))) (HeldBefore (λ file. T file (Ok y))) (λ o n d. record { held = step o.file (Ok y) d.held work }) first.1)
outcome_by-answer R Q T x f g step first (Err r) work =
    IsOwedTo-map (by_reading (Q (Err r)) ⊥) (by_reading (Tells f.files g.files (HeldBefore (λ file. T file (Err r)))) (Rose f.faults g.faults))
    (λ p. p) (λ q. tells-map f.files g.files (HeldBefore (λ file. R file (Ok x))) (HeldBefore (λ file. T file (Err r))) (λ o n d. record { held = step o.file (Err r) d.held q }) first.1)
    (λ p. absurd p) (λ p. p) r work

-- ---- a query that was read

kept_alike : {A B : Type 0} (alike : A → A → Type 0) (kept : A) (next : A → Result B Refusal) (outcome : Result B Refusal) (written : Result A Refusal) → IsKeptFor alike (Ok kept) written
    → ((q : A) → alike kept q → next q ≡ outcome) → and_then written next ≡ outcome
kept_alike alike kept next outcome (Ok q) h same = same q h
kept_alike alike kept next outcome (Err r) h same = absurd h

-- what files come to that name a run, and then what is read, of which something is kept that is alike
module _ {A : Type 0} (alike : A → A → Type 0) (read : Contents → Result A Refusal) (next : Run → A → Result (List ℕ) Refusal) (program log : List ℕ) (more : List Text) (target : Target) where
  abbrev Told : StoreShown → StoreShown → Result Given Refusal → Type 0
  Told f h result = Gives (λ file answer. and_then (run_at file program log) (λ run. and_then (read file) (next run)) ≡ answer) (program ∷ log ∷ more) target f h result

  abbrev IsKept : Contents → Result A Refusal → Type 0
  IsKept file kept = IsKeptFor alike kept (read file)

  -- the run is refused
  pub run-stops : (f g : StoreShown) (result : Result Given Refusal) (r : Refusal) → IsErrAnd result (λ e. e ≡ r) → IsOutcomeOf (λ file. run_at file program log) f g (Err r) → Reads (program ∷ log ∷ []) false f g
      → Told f g result
  run-stops f g result r is first reads =
      passes result r is (outcome_of-stops (λ file. run_at file program log) (λ run file. and_then (read file) (next run)) f g r first) (reads-stops more reads)

  module _ (run : Run) (f g h : StoreShown) (first : IsOutcomeOf (λ file. run_at file program log) f g (Ok run)) (reads : Reads (program ∷ log ∷ []) true f g) where
    abbrev IsNext : Contents → Result (List ℕ) Refusal → Type 0
    IsNext file answer = and_then (read file) (next run) ≡ answer

    after_run : {all : Bool} → Reads more all g h → (outcome : Result (List ℕ) Refusal) → IsOutcomeBy IsNext g h outcome
        → IsOutcomeOf (λ file. and_then (run_at file program log) (λ x. and_then (read file) (next x))) f h outcome
    after_run after = outcome_of-then (λ file. run_at file program log) (λ x file. and_then (read file) (next x)) run f g h first reads after

    -- what is read after it is refused
    pub kept-stops : {all : Bool} (result : Result Given Refusal) (r : Refusal) → IsErrAnd result (λ e. e ≡ r) → IsOutcomeBy IsKept g h (Err r) → Reads more all g h → Told f h result
    kept-stops result r is second after =
        passes result r is
        (after_run after (Err r) (outcome_by-stops IsKept IsNext g h r (λ file e. and_then-err (read file) (next run) r (refused-alike alike r (read file) e)) second))
        (subst (λ (names : List Text). Reads names false f h) (append-nil (program ∷ log ∷ more)) (reads-stops [] (reads-then reads after)))

    -- the work on what is kept is that on all that is alike
    pub kept-gives : (kept : A) (result : Result Given Refusal) → IsOutcomeBy IsKept g h (Ok kept) → Reads more true g h
        → IsWorkOf (λ answer. (q : A) → alike kept q → next run q ≡ answer) (seen_by given_text result) → IfOk result (λ given. given_target given ≡ target) → Told f h result
    kept-gives kept result second after work goes = record {
      answer = after_run after (seen_by given_text result)
          (outcome_by-answer IsKept (λ answer. (q : A) → alike kept q → next run q ≡ answer) IsNext kept g h
          (λ file outcome h same. kept_alike alike kept (next run) outcome (read file) h same) second (seen_by given_text result) work);
      goes = goes;
      reads = reads-less (is_ok result) (reads-then reads after);
    }

-- ---- work over a run

fitting : (run : Run) (job : Job) → IsChecked run.program.bytes run.program.image run.log job → fitting_start run.program run.log ≡ Ok job.start
fitting run job checked = fitting_start-ok run.program run.log job.start checked.digest checked.start checked.agrees

-- the log doesn't fit
pub misfit-cut : (told : Option ℕ) (run : Run) (fault : Fault Misfit) (r : Refusal) → IsCausedBy (IsMisfit run.program.bytes run.program.image run.log) fault
    → IsRefusalOf (λ misfit given. given ≡ misfit_refusal misfit) fault r → IsWork (fits_and_is_cut told run) (Err r)
misfit-cut told run fault r is gives = work-stops (fitting_start run.program run.log) (λ start. told_check told run.log) r (misfit-stops run.program run.log fault r is gives)

-- the log fits, but there are too many epochs
pub cutting-stops : (told : Option ℕ) (run : Run) (job : Job) (r : Refusal) → IsChecked run.program.bytes run.program.image run.log job → IsWork (told_check told run.log) (Err r)
    → IsWork (fits_and_is_cut told run) (Err r)
cutting-stops told run job r checked =
    owed-map (told_check told run.log ≡ Err r) (fits_and_is_cut told run ≡ Err r)
    (λ e. and_then-ok (fitting_start run.program run.log) (λ start. told_check told run.log) job.start (fitting run job checked) ∙ e) r

-- a text that is made of the run
analysed-gives : (told : Option ℕ) (run : Run) (given : State → Log → List ℕ) (job : Job) (text : List ℕ) → IsChecked run.program.bytes run.program.image run.log job → told_check told run.log ≡ Ok tt
    → text ≡ given job.start job.log → analysed_answer told run given ≡ Ok text
analysed-gives told run given job text checked few is =
    and_then-ok (fitting_start run.program run.log) (λ start. cut_answer told start run.log given) job.start (fitting run job checked)
    ∙ and_then-ok (told_check told run.log) (λ few. Ok (given job.start run.log)) tt few
    ∙ ap (λ (l : Log). Ok (given job.start l)) (sym checked.same_log) ∙ ap Ok (sym is)

both_stop : {A B : Type 0} (fits : Result A Refusal) (check : Result (Unit {0}) Refusal) (next : A → B) (r : Refusal) → and_then fits (λ x. check) ≡ Err r
    → and_then fits (λ x. and_then check (λ few. Ok (next x))) ≡ Err r
both_stop (Ok x) (Ok few) next r e = cc
both_stop (Ok x) (Err s) next r e = cc
both_stop (Err s) check next r e = cc

analysed-stops : (told : Option ℕ) (run : Run) (given : State → Log → List ℕ) (r : Refusal) → fits_and_is_cut told run ≡ Err r → analysed_answer told run given ≡ Err r
analysed-stops told run given r = both_stop (fitting_start run.program run.log) (told_check told run.log) (λ start. given start run.log) r

-- ---- the listing of a query

same_sources : (q p : Query) (steps : List StepSeen) → Alike q p → chosen_sources q steps ≡ chosen_sources p steps
same_sources q p steps a = λ i. set_of source_cmp (filter (λ b. a.sources b.channel b.offset i) (sources_of steps))

same_path : (q p : Query) (start : State) (log : Log) → Alike q p → path_report start log q ≡ path_report start log p
same_path q p start log a =
    ap₂ (λ (rule : Rule) (rs : List Row). pair_report (record { start = start; log = log }) rule (first_pair rs)) a.rule (same_rows q p (trace start log) a)

same_listing : (listing : Listing) (q p : Query) (start : State) (log : Log) → Alike q p → given_by listing q start log ≡ given_by listing p start log
same_listing BySink q p start log a = ap report_text (same_rows q p (trace start log) a)
same_listing BySource q p start log a =
    ap₂ (λ (rs : List Row) (bs : List SourceByte). influence_text (turned rs bs)) (same_rows q p (trace start log) a) (same_sources q p (trace start log) a)
same_listing ByPath q p start log a = same_path q p start log a
same_listing ByRange q p start log a = ap (ranges_report log) (same_rows q p (trace start log) a)

-- and of a page
pub same_format : AlikeHaveSameData → (format : Format) (q p : Query) (start : State) (log : Log) → Alike q p → format_text format q start log ≡ format_text format p start log
same_format same_data (Listed listing) q p start log a = same_listing listing q p start log a
same_format same_data (Page name) q p start log a = ap (λ (data_of : List ℕ). head ++ data_of ++ tail) (same_data q p start log a)

pub same_decisions : (q p : Query) (start : State) (log : Log) → Alike q p → decisions_by q start log ≡ decisions_by p start log
same_decisions q p start log a = λ i. decisions_text (decided (record { rule = deciding_rule (a.rule i); introduces = λ b. a.sources b.channel b.offset i }) start log)

-- what queries give that ask alike is the same
abbrev IsSame : (Query → State → Log → List ℕ) → Type 0
IsSame given = (q p : Query) (start : State) (log : Log) → Alike q p → given q start log ≡ given p start log

-- a log that doesn't fit, or too many epochs
pub given-stops : (given : Query → State → Log → List ℕ) (told : Option ℕ) (run : Run) (kept : Query) (r : Refusal) → IsWork (fits_and_is_cut told run) (Err r)
    → IsWorkOf (IsGivenAlike given told run kept) (Err r)
given-stops given told run kept r = owed-map (fits_and_is_cut told run ≡ Err r) (IsGivenAlike given told run kept (Err r)) (λ e q alike. analysed-stops told run (given q) r e) r

-- what one query gives is what every query gives that asks alike
pub given-gives : (given : Query → State → Log → List ℕ) (told : Option ℕ) (run : Run) (kept : Query) (job : Job) (text : List ℕ) → IsSame given → IsChecked run.program.bytes run.program.image run.log job
    → told_check told run.log ≡ Ok tt → text ≡ given kept job.start job.log → IsGivenAlike given told run kept (Ok text)
given-gives given told run kept job text same checked few is q alike =
    analysed-gives told run (given q) job text checked few (is ∙ same kept q job.start job.log alike)

-- ---- several queries

same_rules : (rule : Rule) (n : ℕ) (kept qs : List Query) → AskAlike kept qs → other_rule rule n kept ≡ other_rule rule n qs
same_rules rule n [] [] h = refl
same_rules rule n [] (q ∷ qs) h = absurd h
same_rules rule n (k ∷ ks) [] h = absurd h
same_rules rule n (k ∷ ks) (q ∷ qs) h =
    ap₂ (λ (r : Rule) (rest : Option (Rule × ℕ × Rule)). if is_same_rule rule r then rest else Some (rule, n, r)) h.0.rule (same_rules rule (n + 1) ks qs h.1)

same_first_rules : (kept qs : List Query) → AskAlike kept qs → first_other_rule kept ≡ first_other_rule qs
same_first_rules [] [] h = refl
same_first_rules [] (q ∷ qs) h = absurd h
same_first_rules (k ∷ ks) [] h = absurd h
same_first_rules (k ∷ ks) (q ∷ qs) h = ap (λ (r : Rule). other_rule r 2 ks) h.0.rule ∙ same_rules q.rule 2 ks qs h.1

same_check : (kept qs : List Query) → AskAlike kept qs → rules_check kept ≡ rules_check qs
same_check kept qs h = ap unless_other_rule (same_first_rules kept qs h)

same_reports : (n : ℕ) (kept qs : List Query) (steps : List StepSeen) → AskAlike kept qs → reports_from n kept steps ≡ reports_from n qs steps
same_reports n [] [] steps h = refl
same_reports n [] (q ∷ qs) steps h = absurd h
same_reports n (k ∷ ks) [] steps h = absurd h
same_reports n (k ∷ ks) (q ∷ qs) steps h =
    ap₂ (λ (rs : List Row) (rest : List ℕ). codes "query " ++ decimal n ++ 0x0a ∷ [] ++ report_text rs ++ rest) (same_rows k q steps h.0) (same_reports (n + 1) ks qs steps h.1)

-- the rules differ
pub rules-stop : (told : Option ℕ) (run : Run) (kept : List Query) (r : Refusal) → IsWork (rules_check kept) (Err r) → IsWorkOf (AreGivenAlike told run kept) (Err r)
rules-stop told run kept r =
    owed-map (rules_check kept ≡ Err r) (AreGivenAlike told run kept (Err r))
    (λ e qs alike. and_then-err (rules_check qs) (λ same. analysed_answer told run (over_trace (reports_of qs))) r (sym (same_check kept qs alike) ∙ e)) r

one_rule-check : (kept qs : List Query) → AskAlike kept qs → first_other_rule kept ≡ None → rules_check qs ≡ Ok tt
one_rule-check kept qs alike e = sym (same_check kept qs alike) ∙ ap unless_other_rule e

-- a log that doesn't fit, or too many epochs
pub reports-stop : (told : Option ℕ) (run : Run) (kept : List Query) (r : Refusal) → first_other_rule kept ≡ None → IsWork (fits_and_is_cut told run) (Err r)
    → IsWorkOf (AreGivenAlike told run kept) (Err r)
reports-stop told run kept r one =
    owed-map (fits_and_is_cut told run ≡ Err r) (AreGivenAlike told run kept (Err r))
    (λ e qs alike. and_then-ok (rules_check qs) (λ same. analysed_answer told run (over_trace (reports_of qs))) tt (one_rule-check kept qs alike one) ∙ analysed-stops told run (over_trace (reports_of qs)) r e) r

pub reports-come : (told : Option ℕ) (run : Run) (kept : List Query) (job : Job) (result : Result Given Refusal) → first_other_rule kept ≡ None → IsChecked run.program.bytes run.program.image run.log job
    → told_check told run.log ≡ Ok tt → IfOk result (λ given. given_text given ≡ reports_of kept (trace_of job)) → IfErr result IsOutOfMemory → IsWorkOf (AreGivenAlike told run kept) (seen_by given_text result)
reports-come told run kept job (Ok given) one checked few is out = λ qs alike.
    and_then-ok (rules_check qs) (λ same. analysed_answer told run (over_trace (reports_of qs))) tt (one_rule-check kept qs alike one)
    ∙ analysed-gives told run (over_trace (reports_of qs)) job (given_text given) checked few (is ∙ same_reports 1 kept qs (trace_of job) alike)
reports-come told run kept job (Err r) one checked few is out = IsOwedTo-out_of_memory (by_reading (AreGivenAlike told run kept (Err r)) ⊥) r out

-- ---- what is made of a run without a query

pub making-gives : (making : Making) (run : Run) (job : Job) (outcome : Result (List ℕ) Refusal) → IsChecked run.program.bytes run.program.image run.log job
    → IsWork (made_of making job.start job.log) outcome → IsWork (making_answer making run) outcome
making-gives making run job outcome checked work =
    work-then (fitting_start run.program run.log) (λ start. made_of making start run.log) job.start (fitting run job checked) outcome
    (subst (λ (log : Log). IsWork (made_of making job.start log) outcome) checked.same_log work)
