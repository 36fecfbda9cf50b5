-- How the call ends.
use Rattle.std.proofs.Common.{◌≡◌, ◌≤◌, ◌⊎◌, ap, sym, refl, subst, arith, ℕ, List, [], Bool, false, Option, Some, None, IsSome, inl, inr, Result, Ok, Err}
use Rattle.std.specs.Prelude.{is_ok, nat_eq, IfErr, OnOk}
use Rattle.std.proofs.lemmas.Bool.Decides.{nat_tests}
use Rattle.outer_io.specs.Faults.{Rose}
use Rattle.outer_io.specs.Files.{Files, Text}
use Rattle.outer_io.specs.Shown.{StoreShown}
use Rattle.outer_io.specs.Reads.{Reads}
use Rattle.outer_io.specs.Tells.{Tells}
use Rattle.outer_io.proofs.ReadsLemmas.{reads-none, reads-stops}
use Rattle.outer_wire.specs.Talks.{IsWholeTalk}
use Rattle.no_memory.specs.declared.NoMemory.{NoMemory as OutOfMemory}
use Rattle.replayer.specs.Jobs.{Job}
use Rattle.jet_refusal.specs.declared.refusal.Refusal.{Refusal}
use Rattle.jet_refusal.specs.declared.refusal.Refusal.TheVariants as refusal
use Rattle.jet_refusal.specs.Refusals.{status_of, line_of}
use Rattle.jet_refusal.proofs.Causes.{IsOwedTo-map}
use Rattle.command_parts.specs.Outcome.{HeldBefore}
use Rattle.command_parts.specs.Saying.{status_after}
use Rattle.command_parts.proofs.Statuses.{status_of-range, of_any_cause}
use Rattle.gdb_words.specs.Requests.{RequestOf}
use Rattle.gdb_server.specs.Serving.{Change, Ends, EndsIn, Serves, Obeys, IsDone, IsRefused, IsUndisturbed, IsDecided, TalksOf, TalksOfRun, FailsToRead, causes_of, job_at, names_in}

module _ (request : Option RequestOf) (change : Change) (is_silent : Type 0) where
  -- the words stand for this
  pub obeyed : (asked : RequestOf) (r : Result (Unit {0}) Refusal) → request ≡ Some asked → Serves asked change is_silent r → Obeys request change is_silent r
  obeyed asked r e s = subst (λ (o : Option RequestOf). Obeys o change is_silent r) (sym e) (record { ends = s.ends; so_far = s.so_far; reads = s.reads })

  -- or for nothing
  pub no_request : request ≡ None → is_silent → change.store_after ≡ change.store → Obeys request change is_silent (Err refusal.Usage)
  no_request e silent same =
      subst (λ (o : Option RequestOf). Obeys o change is_silent (Err refusal.Usage)) (sym e)
      (record { ends = silent; so_far = silent; reads = subst (λ (s : StoreShown). Reads [] false change.store s) (sym same) (reads-stops [] (reads-none change.store)) })

-- memory ran out before anything was opened
pub not_begun : (request : Option RequestOf) (change : Change) (is_silent : Type 0) (no_memory : OutOfMemory) → is_silent → change.store_after ≡ change.store
    → Obeys request change is_silent (Err (refusal.NoMemory no_memory))
not_begun None change is_silent no_memory silent same = record {
  ends = tt;
  so_far = silent;
  reads = subst (λ (s : StoreShown). Reads [] false change.store s) (sym same) (reads-stops [] (reads-none change.store));
}
not_begun (Some asked) change is_silent no_memory silent same = record {
  ends = tt;
  so_far = inl silent;
  reads = subst (λ (s : StoreShown). Reads (names_in (Some asked)) false change.store s) (sym same) (reads-stops (names_in (Some asked)) (reads-none change.store));
}

-- ---- by the status

no_zero : (r : Refusal) → status_of r ≡ 0 → ⊥
no_zero r e = let range = status_of-range r in omega (arith, e, range.0)

pub done : (request : Option RequestOf) (change : Change) (is_silent : Type 0) (r : Result (Unit {0}) Refusal) → EndsIn request change is_silent r → status_after r ≡ 0 → IsDone request change
done None change is_silent (Ok x) h e = absurd h
done (Some asked) change is_silent (Ok x) h e = h
done request change is_silent (Err r) h e = absurd (no_zero r e)

pub where_done : (P : Type 0) (r : Result (Unit {0}) Refusal) → OnOk r P → status_after r ≡ 0 → P
where_done P (Ok x) p e = p
where_done P (Err r) p e = absurd (no_zero r e)

pub refused : (request : Option RequestOf) (change : Change) (is_silent : Type 0) (says : List ℕ → Type 0) (r : Result (Unit {0}) Refusal) (status : ℕ) → status ≡ status_after r
    → EndsIn request change is_silent r → IfErr r (λ e. says (line_of e)) → 2 ≤ status → IsRefused status request says change is_silent
refused request change is_silent says (Ok x) status e h said most = let f : ⊥ = omega (arith, e, most) in absurd f
refused None change is_silent says (Err r) status e h said most = record { refusal = r; status_is = e; line_is = said; has_cause = h }
refused (Some asked) change is_silent says (Err r) status e h said most = record { refusal = r; status_is = e; line_is = said; has_cause = h }

not_zero : (n : ℕ) → 2 ≤ n → nat_eq n 0 ≡ false
not_zero n h = grind (arith, nat_tests)

pub reads_by : (names : List Text) (f g : StoreShown) (r : Result (Unit {0}) Refusal) (status : ℕ) → status ≡ status_after r → Reads names (is_ok r) f g → Reads names (nat_eq status 0) f g
reads_by names f g (Ok x) status e reads = subst (λ (n : ℕ). Reads names (nat_eq n 0) f g) (sym e) reads
reads_by names f g (Err r) status e reads =
    subst (λ (b : Bool). Reads names b f g) (sym (not_zero status (subst (λ (n : ℕ). 2 ≤ n) (sym e) (status_of-range r).0))) reads

-- ---- where the store and the wire don't fail

-- what holds of the files that were told, and still are
of_told : (a b : Option Files) (told : Files) (R : Files → Files → Type 0) (P : Files → Type 0) → ((x y : Files) → R x y → P x)
    → a ≡ Some told → IsSome b → Tells a b R → P told
of_told a None told R P f e some h = cc
of_told None (Some y) told R P f e some h = absurd h
of_told (Some x) (Some y) told R P f e some h = let same : x ≡ told = cc in subst P same (f x y h)

-- there is no talk without a run
a_run : (time : ℕ) (change : Change) (job : Result Job Refusal) → TalksOf IsWholeTalk time change job → 0 ≡ status_after job
a_run time change (Ok job) talks = refl
a_run time change (Err r) talks = absurd talks

module _ (request : RequestOf) (change : Change) (u : IsUndisturbed change) where
  abbrev Decided : ℕ → Type 0
  Decided status = (status ≡ status_after (job_at request u.told.file)) ⊎ (status ≡ 10)

  by_files : (status : ℕ) (R : Files → Files → Type 0) → ((x y : Files) → R x y → status ≡ status_after (job_at request x.file))
      → Tells change.store.files change.store_after.files R → Decided status
  by_files status R f told =
      inl (of_told change.store.files change.store_after.files u.told R (λ files. status ≡ status_after (job_at request files.file)) f u.tells u.still_tells told)

  no_read : (is_silent : Type 0) → FailsToRead request change is_silent → ⊥
  no_read is_silent (inl rose) = omega (arith, rose.0 u.store_room, u.store_faults)
  no_read is_silent (inr rose) = omega (arith, rose.0 u.wire_room, u.wire_faults)

  no_write : Rose change.wire.faults change.wire_after.faults → ⊥
  no_write rose = omega (arith, rose u.wire_room, u.wire_faults)

  decided-some : (is_silent : Type 0) (r : Result (Unit {0}) Refusal) → Ends request change is_silent r → Decided (status_after r)
  decided-some is_silent (Ok x) h =
      by_files 0 (TalksOfRun IsWholeTalk request change) (λ x y t. a_run request.time change (job_at request x.file) t.talks) h.talked
  decided-some is_silent (Err r) h =
      let Goal : Type 0 = Decided (status_of r) in
      of_any_cause Goal r (λ e. inr e)
      (IsOwedTo-map (causes_of (Some request) change is_silent r) (record { usage = Goal; files = Goal; read = Goal; write = Goal }) (λ p. absurd p)
      (λ found. by_files (status_of r) (HeldBefore (λ file. job_at request file ≡ Err r)) (λ x y before. ap status_after (sym before.held)) found.0)
      (λ failed. absurd (no_read is_silent failed)) (λ failed. absurd (no_write failed.0)) r h)

pub decided : (request : Option RequestOf) (change : Change) (is_silent : Type 0) (r : Result (Unit {0}) Refusal) (status : ℕ) → status ≡ status_after r
    → EndsIn request change is_silent r → IsDecided status request change
decided None change is_silent r status e h = tt
decided (Some request) change is_silent r status e h = λ u. subst (Decided request change u) (sym e) (decided-some request change u is_silent r h)
