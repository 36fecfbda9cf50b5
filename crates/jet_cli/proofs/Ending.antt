-- From how a command ended to its status.
use Rattle.std.proofs.Common.{◌≡◌, ◌∙◌, ap, sym, subst, arith, ℕ, ◌≤◌, ◌⊎◌, inl, inr, List, Option, Some, None, IsSome, Result, Ok, Err, IfErr, OnOk}
use Rattle.std.proofs.lemmas.List.{append_cancel_left}
use Rattle.outer_io.specs.Tells.{Tells, Gains}
use Rattle.outer_io.specs.Files.{Files}
use Rattle.outer_io.proofs.TellsLemmas.{tells-map}
use Rattle.jet_words.specs.Commands.{CommandOf, AnalysisOf, ProductOf, StacksOf, DecisionsOf, PageOf, RecordOf, ConvertOf, CoreOf, QueriesOf, BenchOf}
use Rattle.jet_refusal.specs.declared.refusal.Refusal.{Refusal}
use Rattle.jet_refusal.specs.Refusals.{status_of, line_of}
use Rattle.jet_refusal.proofs.Causes.{IsOwedTo-map}
use Rattle.jet_model.specs.Contents.{Contents}
use Rattle.jet_model.specs.Answer.{IsRecordAnswer}
use Rattle.jet_model.proofs.Headline.{answer-is_given, given-is_answer, reports-are_given, given-are_reports, run_answer-is_given, given-is_run_answer, convert-is_given, given-is_convert, record_answer-is_recording, recording-is_record_answer, one_record_answer}
use Rattle.page_data.specs.Page.{page_report}
use Rattle.order_gateway.proofs.Outcomes.{one_answer as one_bench_answer, answer-is_lines, lines-are_answer}
use Rattle.command_parts.specs.Outcome.{HeldBefore}
use Rattle.jet_commands.specs.Targets.{Target, ToOutput, ToFile}
use Rattle.jet_commands.specs.Plans.{IsAnswer, target_of}
use Rattle.jet_commands.specs.Answers.{given_by, decisions_by, made_by, stacks_by, core_by, named, limits_of, workload_length}
use Rattle.outer_io.specs.Outside.{Change, IfTold, IsUndisturbed}
use Rattle.jet_commands.specs.Writing.{FailsToWrite}
use Rattle.command_parts.specs.Saying.{status_after}
use Rattle.jet_commands.specs.Ending.{IsText, WritesWhole, WritesPart, Ends, IsUnasked, causes_of}
use Rattle.jet_cli.specs.Statuses.{IsWanted, IsDone, IsDoneInPart, IsRefused, IsHeard, IsDecided, AreWithinLimits, IsComplete}
use Rattle.command_parts.proofs.Statuses.{status_of-range, of_any_cause, of_write_fault}

-- ---- what the files come to, and what the words want

-- one list of answers was gained, where they are told
same_gain : (heard heard_after : Option (List ℕ)) (xs ys : List ℕ) → IsSome heard_after → Tells heard heard_after (Gains xs) → Tells heard heard_after (Gains ys) → xs ≡ ys
same_gain heard None xs ys told p q = cc
same_gain None (Some new) xs ys told p q = absurd p
same_gain (Some old) (Some new) xs ys told p q = append_cancel_left old xs ys (sym p ∙ q)

module _ (change : Change) (file : Contents) where
  abbrev Answers : CommandOf → Result (List ℕ) Refusal → Type 0
  Answers command = IsAnswer command change.before.heard change.after.heard file

  one_answer : (command : CommandOf) (a b : Result (List ℕ) Refusal) → IsHeard command change → Answers command a → Answers command b → a ≡ b
  one_answer (AnalysisOf listing program log query pipeline) a b told p q = sym p ∙ q
  one_answer (DecisionsOf program log query) a b told p q = sym p ∙ q
  one_answer (PageOf program log query page pipeline) a b told p q = sym p ∙ q
  one_answer (RecordOf program log inputs pages piece steps) a b told p q =
      let limits = limits_of pages piece steps in
      one_record_answer file program inputs limits q.answers a b
      (subst (λ (xs : List ℕ). IsRecordAnswer file program inputs limits xs a) (same_gain change.before.heard change.after.heard p.answers q.answers told p.gained q.gained) p.holds) q.holds
  one_answer (ProductOf product program log) a b told p q = sym p ∙ q
  one_answer (StacksOf program log times) a b told p q = sym p ∙ q
  one_answer (ConvertOf program log new) a b told p q = sym p ∙ q
  one_answer (CoreOf program log time core) a b told p q = sym p ∙ q
  one_answer (QueriesOf program log queries pipeline) a b told p q = sym p ∙ q
  one_answer (BenchOf seed steps pipeline) a b told p q = one_bench_answer seed steps (workload_length pipeline) a b p q

  wanted : (command : CommandOf) (text : List ℕ) → Answers command (Ok text) → IsWanted command change file text
  wanted (AnalysisOf listing program log query pipeline) text h = answer-is_given (given_by listing) pipeline.epoch file (named program log query) text h
  wanted (DecisionsOf program log query) text h = answer-is_given decisions_by None file (named program log query) text h
  wanted (PageOf program log query page pipeline) text h = answer-is_given page_report pipeline.epoch file (named program log query) text h
  wanted (RecordOf program log inputs pages piece steps) text h =
      record { answers = h.answers; gained = h.gained; holds = record_answer-is_recording file program inputs (limits_of pages piece steps) h.answers text h.holds }
  wanted (ProductOf product program log) text h = run_answer-is_given file program log (made_by product) text h
  wanted (StacksOf program log times) text h = run_answer-is_given file program log (stacks_by times) text h
  wanted (ConvertOf program log new) text h = convert-is_given file program log text h
  wanted (CoreOf program log time core) text h = run_answer-is_given file program log (core_by time) text h
  wanted (QueriesOf program log queries pipeline) text h = reports-are_given pipeline.epoch file program log queries text h
  wanted (BenchOf seed steps pipeline) text h = answer-is_lines seed steps (workload_length pipeline) text h

  answered : (command : CommandOf) (text : List ℕ) (is : IsWanted command change file text) → AreWithinLimits command change file text is → Answers command (Ok text)
  answered (AnalysisOf listing program log query pipeline) text h within = given-is_answer (given_by listing) pipeline.epoch file (named program log query) text within.0 h within.1
  answered (DecisionsOf program log query) text h within = given-is_answer decisions_by None file (named program log query) text within h tt
  answered (PageOf program log query page pipeline) text h within = given-is_answer page_report pipeline.epoch file (named program log query) text within.0 h within.1
  answered (RecordOf program log inputs pages piece steps) text h within =
      record { answers = h.answers; gained = h.gained; holds = recording-is_record_answer file program inputs (limits_of pages piece steps) h.answers text within.0 within.1 h.holds }
  answered (ProductOf product program log) text h within = given-is_run_answer file program log (made_by product) text within.0 within.1 h
  answered (StacksOf program log times) text h within = given-is_run_answer file program log (stacks_by times) text within.0 within.1 h
  answered (ConvertOf program log new) text h within = given-is_convert file program log text within.0 within.1 h.short h.given
  answered (CoreOf program log time core) text h within = given-is_run_answer file program log (core_by time) text within.0 within.1 h
  answered (QueriesOf program log queries pipeline) text h within = given-are_reports pipeline.epoch file program log queries text within.0 within.1 within.2 h within.3
  answered (BenchOf seed steps pipeline) text h within = lines-are_answer seed steps (workload_length pipeline) text h within.0 within.1

-- ---- 0, and 8

whole : (command : CommandOf) (change : Change) → IfTold change (WritesWhole command change (IsText command change)) → IfTold change (WritesWhole command change (IsWanted command change))
whole command change = tells-map change.before.store.files change.after.store.files (WritesWhole command change (IsText command change)) (WritesWhole command change (IsWanted command change))
    (λ x y w. record { text = w.text; is_wanted = wanted change x.file command w.text w.is_wanted; delivered = w.delivered })

in_part : (command : CommandOf) (change : Change) → IfTold change (WritesPart command change (IsText command change)) → IfTold change (WritesPart command change (IsWanted command change))
in_part command change = tells-map change.before.store.files change.after.store.files (WritesPart command change (IsText command change)) (WritesPart command change (IsWanted command change))
    (λ x y w. record { text = w.text; is_wanted = wanted change x.file command w.text w.is_wanted; delivered = w.delivered })

no_zero : (r : Refusal) → status_of r ≡ 0 → ⊥
no_zero r e = let range = status_of-range r in omega (arith, e, range.0)

pub done : (command : Option CommandOf) (change : Change) (r : Result (Unit {0}) Refusal) → Ends command change r → status_after r ≡ 0 → IsDone command change
done None change (Ok x) h e = absurd h
done (Some command) change (Ok x) h e = (h.0, whole command change h.1)
done command change (Err r) h e = absurd (no_zero r e)

-- what holds of a command that was done
pub where_done : (P : Type 0) (r : Result (Unit {0}) Refusal) → OnOk r P → status_after r ≡ 0 → P
where_done P (Ok x) p e = p
where_done P (Err r) p e = absurd (no_zero r e)

pub part : (command : Option CommandOf) (change : Change) (r : Result (Unit {0}) Refusal) → Ends command change r → status_after r ≡ 8 → IsDoneInPart command change
part command change (Ok x) h e = let f : ⊥ = omega (arith, e) in absurd f
part command change (Err r) h e = of_write_fault (IsDoneInPart command change) (causes_of command change r) r e (by command) h where
  by : (o : Option CommandOf) → (causes_of o change r).write → IsDoneInPart o change
  by None w = absurd w
  by (Some asked) w = in_part asked change w.1

pub refused : (command : Option CommandOf) (change : Change) (says : List ℕ → Type 0) (r : Result (Unit {0}) Refusal) (status : ℕ) → status ≡ status_after r
    → Ends command change r → IfErr r (λ e. says (line_of e)) → IfErr r (IsUnasked change.before.heard change.after.heard) → 2 ≤ status → IsRefused status command says change
refused command change says (Ok x) status e h said unasked most = let f : ⊥ = omega (arith, e, most) in absurd f
refused command change says (Err r) status e h said unasked most = record { refusal = r; status_is = e; line_is = said; has_cause = h; unasked = unasked }

-- ---- where the outside doesn't fail

-- what holds of the files told before and after
while_told : (a b : Option Files) (told : Files) (R : Files → Files → Type 0) → a ≡ Some told → IsSome b → Tells a b R → (n : Files) × R told n
while_told a None told R e some h = cc
while_told None (Some n) told R e some h = absurd h
while_told (Some o) (Some n) told R e some h = let same : o ≡ told = cc in (n, subst (λ (s : Files). R s n) same h)

no_fault : (target : Target) (change : Change) → IsUndisturbed change → FailsToWrite target change.before.store change.after.store change.before.output change.after.output → ⊥
no_fault ToOutput change u rose = omega (arith, rose u.output_room, u.output_faults)
no_fault (ToFile name) change u rose = omega (arith, rose u.store_room, u.store_faults)

module _ (command : CommandOf) (change : Change) (u : IsUndisturbed change) (told : IsHeard command change) (answer : Result (List ℕ) Refusal)
    (is : IsAnswer command change.before.heard change.after.heard u.told.file answer) where
  by_files : (outcome : Result (List ℕ) Refusal) → IfTold change (HeldBefore (λ file. IsAnswer command change.before.heard change.after.heard file outcome)) → status_after outcome ≡ status_after answer
  by_files outcome found =
      let end = while_told change.before.store.files change.after.store.files u.told (HeldBefore (λ file. IsAnswer command change.before.heard change.after.heard file outcome)) u.tells u.still_tells found in
      ap status_after (one_answer change u.told.file command outcome answer told end.1.held is)

  by_text : IfTold change (WritesWhole command change (IsText command change)) → 0 ≡ status_after answer
  by_text written =
      let end = while_told change.before.store.files change.after.store.files u.told (WritesWhole command change (IsText command change)) u.tells u.still_tells written in
      ap status_after (one_answer change u.told.file command (Ok end.1.text) answer told end.1.is_wanted is)

  pub decided-some : (r : Result (Unit {0}) Refusal) → Ends (Some command) change r → (status_after r ≡ status_after answer) ⊎ (status_after r ≡ 10)
  decided-some (Ok x) h = inl (by_text h.1)
  decided-some (Err r) h =
      let Goal : Type 0 = (status_of r ≡ status_after answer) ⊎ (status_of r ≡ 10) in
      of_any_cause Goal r (λ e. inr e)
      (IsOwedTo-map (causes_of (Some command) change r) (record { usage = Goal; files = Goal; read = Goal; write = Goal }) (λ p. absurd p)
      (λ found. inl (by_files (Err r) found))
      (λ rose. let f : ⊥ = omega (arith, rose u.store_room, u.store_faults) in absurd f)
      (λ failed. absurd (no_fault (target_of command) change u failed.0)) r h)

-- the same of a number that is the status
by_status : (m n k : ℕ) → m ≡ n → (n ≡ k) ⊎ (n ≡ 10) → (m ≡ k) ⊎ (m ≡ 10)
by_status m n k e (inl z) = inl (e ∙ z)
by_status m n k e (inr z) = inr (e ∙ z)

pub decided : (command : Option CommandOf) (change : Change) (r : Result (Unit {0}) Refusal) (status : ℕ) → status ≡ status_after r → Ends command change r → IsDecided status command change
decided None change r status e h = tt
decided (Some command) change r status e h = λ u told answer is. by_status status (status_after r) (status_after answer) e (decided-some command change u told answer is r h)

pub complete : (command : Option CommandOf) (change : Change) (r : Result (Unit {0}) Refusal) (status : ℕ) → status ≡ status_after r → Ends command change r → IsComplete status command change
complete None change r status e h = tt
complete (Some command) change r status e h = λ u told text is within.
    by_status status (status_after r) 0 e (decided-some command change u told (Ok text) (answered change u.told.file command text is within) r h)
