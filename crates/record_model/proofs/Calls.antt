-- The record that a call gets is lawful, has the ranges of a log and reads on; and each record that does is this one.
-- Crates above cite these lemmas.
use Rattle.std.proofs.Common.{◌≡◌, ℕ, ◌+◌, ◌^◌, ◌<◌, ◌≤◌, ◌⊎◌, inl, inr, Bool, true, false, List, [], ◌∷◌, ◌++◌, length, get_or, take, drop, ℤ, pos, negsuc, None, refl, arith, ap, sym, ◌∙◌, subst, length-take, length-drop}
use Rattle.std.specs.Prelude.{◌==◌, nat_lt, not, if◌then◌else◌, ◌≤ℤ◌, IsTrue, slice_index}
use Rattle.std.specs.List.{AllByRecursion}
use Rattle.std.proofs.lemmas.Int.{ints}
use Rattle.std.proofs.lemmas.Bool.{cases_lt, eqb-true}
use Rattle.std.proofs.lemmas.List.{nil_from_length}
use Rattle.isa.specs.declared.CallKind.{CallKind}
use Rattle.isa.specs.declared.CallKind.TheVariants as kind
use Rattle.isa.specs.Machine.{State, reg, in_window, bytes_at}
use Rattle.isa.specs.Calls.{channel_of, length_of, refusal_of}
use Rattle.log_model.specs.declared.CallRecord.{CallRecord}
use Rattle.log_model.specs.declared.CallRecord.TheVariants.{Read, Write, Clock, Other}
use Rattle.log_model.specs.Logs.{IsBytes, IsRecord, IsRefusal, IsTransfer, at_of, moved_length}
use Rattle.log_model.specs.Moved.{received}
use Rattle.replay_model.specs.declared.Field.TheVariants as field
use Rattle.replay_model.specs.Comparison.{Compared, compared, first_different, CallOf, fields, arguments, arguments_of, allowed, bytes_compared, IsLawful}
use Rattle.replay_model.specs.Comparison.{result as result_compared}
use Rattle.replay_model.proofs.Agreement.{IsSame, all_agree, none_differs, kind_by}
use Rattle.replay_model.proofs.Transfers.{SameArguments, same_arguments, write_held, length_held, unrefused}
use Rattle.record_model.specs.Recorded.{ReadsNext, IsFrontOf, part_of, input_of, clock_values}
use Rattle.record_model.specs.Calls.{result_of, bytes_of, read_record, write_record, record_at}

-- ---- comparisons

same_bytes : (i : ℕ) (bytes : List ℕ) → AllByRecursion IsSame (bytes_compared i bytes bytes)
same_bytes i [] = tt
same_bytes i (b ∷ bs) = (refl, same_bytes (i + 1) bs)

-- ---- the refusal

-- a refusal, or none
abbrev pub CanBe : ℤ → Type 0
CanBe refused = IsRefusal refused ⊎ (refused ≡ pos 0)

refusal_by : (known none held : Bool)
    → CanBe (if not known then negsuc 8 else if none then pos 0 else if held then pos 0 else negsuc 13)
refusal_by false none held = inl (inl refl)
refusal_by true true held = inr refl
refusal_by true false true = inr refl
refusal_by true false false = inl (inr refl)

pub can_be : (s : State) (channels : ℕ) → CanBe (refusal_of s channels (arguments_of s))
can_be s channels = refusal_by (nat_lt (reg s 10) channels) (reg s 12 == 0) (in_window s (reg s 11) (reg s 12))

refused_is : (n : ℕ) → CanBe (negsuc n) → IsRefusal (negsuc n)
refused_is n (inl h) = h
refused_is n (inr e) = cc

pub none_is : (n : ℕ) → CanBe (pos n) → pos n ≡ pos 0
none_is n (inl (inl e)) = cc
none_is n (inl (inr e)) = cc
none_is n (inr e) = e

-- a call that isn't refused has its buffer in the window
pub unrefused_held : (s : State) (channels : ℕ) → refusal_of s channels (arguments_of s) ≡ pos 0
    → (reg s 12 ≡ 0) ⊎ IsTrue (in_window s (reg s 11) (reg s 12))
unrefused_held s channels e = elim (unrefused (nat_lt (reg s 10) channels) (reg s 12 == 0) (in_window s (reg s 11) (reg s 12)) 0 e).1 [
  | inl none ↦ inl (eqb-true (reg s 12) 0 none)
  | inr held ↦ inr held
]

-- and a write moves as many bytes as it asks for
pub write_whole : (s : State) (channels : ℕ) → refusal_of s channels (arguments_of s) ≡ pos 0
    → length (bytes_at s (reg s 11) (reg s 12)) ≡ reg s 12
write_whole s channels e = length_held s (reg s 11) (reg s 12) (unrefused_held s channels e)

-- ---- the parts of an input

-- no more than is asked for, and no more than there is
pub part_few : (inputs : List (List ℕ)) (piece offset : ℕ) (args : List ℕ)
    → length (part_of inputs piece offset args) ≤ length_of args
part_few inputs piece offset args = omega (arith, length-take {A = ℕ})

pub part_within : (inputs : List (List ℕ)) (piece offset : ℕ) (args : List ℕ)
    → offset ≤ length (input_of inputs (channel_of args))
    → offset + length (part_of inputs piece offset args) ≤ length (input_of inputs (channel_of args))
part_within inputs piece offset args h = omega (arith, length-take {A = ℕ}, length-drop {A = ℕ})

-- a transfer moves no more than the whole
pub bytes_few : (refused : ℤ) (whole : List ℕ) → length (bytes_of refused whole) ≤ length whole
bytes_few (negsuc n) whole = omega arith
bytes_few (pos n) whole = omega arith

-- ---- the ranges of a log

-- the arguments are words, the bytes are bytes, and their number fits
pub record Moves (s : State) (refused : ℤ) (whole : List ℕ) : Type 0 where
  pub words : AllByRecursion (λ n. n < 2 ^ 32) (arguments_of s)
  pub are_bytes : IsBytes (bytes_of refused whole)
  pub small : length whole < 2 ^ 31

transfer_form : (s : State) (refused : ℤ) (whole : List ℕ) → Moves s refused whole
    → IsTransfer (arguments_of s) (result_of refused whole) (bytes_of refused whole)
transfer_form s (negsuc n) whole m = record
    { three = refl; words = m.words; fits = omega (arith, ints); whole = refl; are_bytes = m.are_bytes }
transfer_form s (pos n) whole m =
    let small = m.small in record { three = refl; words = m.words; fits = omega (arith, ints); whole = refl; are_bytes = m.are_bytes }

read_range : (refused : ℤ) (whole : List ℕ) (most : ℕ) → CanBe refused → length whole ≤ most
    → IsRefusal (result_of refused whole) ⊎ ((pos 0 ≤ℤ result_of refused whole) × (result_of refused whole ≤ℤ pos most))
read_range (negsuc n) whole most can few = inl (refused_is n can)
read_range (pos n) whole most can few = inr (omega (arith, ints), omega (arith, ints))

pub read_form : (t : ℕ) (s : State) (channels : ℕ) (part : List ℕ) → t < 2 ^ 40 → length part ≤ reg s 12
    → Moves s (refusal_of s channels (arguments_of s)) part → IsRecord (read_record t s channels part)
read_form t s channels part early few m =
    let refused : ℤ = refusal_of s channels (arguments_of s) in
    (early, transfer_form s refused part m, read_range refused part (reg s 12) (can_be s channels) few)

write_range : (refused : ℤ) (whole : List ℕ) (most : ℕ) → CanBe refused → (refused ≡ pos 0 → length whole ≡ most)
    → IsRefusal (result_of refused whole) ⊎ (result_of refused whole ≡ pos most)
write_range (negsuc n) whole most can all = inl (refused_is n can)
write_range (pos n) whole most can all = inr (ap pos (all (none_is n can)))

pub write_form : (t : ℕ) (s : State) → t < 2 ^ 40
    → Moves s (refusal_of s 16 (arguments_of s)) (bytes_at s (reg s 11) (reg s 12)) → IsRecord (write_record t s)
write_form t s early m =
    let refused : ℤ = refusal_of s 16 (arguments_of s) in
    let whole : List ℕ = bytes_at s (reg s 11) (reg s 12) in
    (early, transfer_form s refused whole m, write_range refused whole (reg s 12) (can_be s 16) (write_whole s 16))

-- ---- lawful

allowed_is : (refused : ℤ) (whole : List ℕ) (n : ℕ)
    → result_of refused whole ≡ allowed refused (result_of refused whole) n
allowed_is (negsuc k) whole n = refl
allowed_is (pos k) whole n = refl

transfer_lawful : (s : State) (refused : ℤ) (whole : List ℕ) (n : ℕ) (rest : List Compared) → AllByRecursion IsSame rest
    → first_different (arguments s (arguments_of s) ++ result_compared (result_of refused whole) (allowed refused (result_of refused whole) n) ∷ rest) ≡ None
transfer_lawful s refused whole n rest same =
    let result = result_compared (result_of refused whole) (allowed refused (result_of refused whole) n) in
    none_differs (arguments s (arguments_of s) ++ result ∷ rest) (refl, (refl, (refl, (allowed_is refused whole n, same))))

pub read_lawful : (t : ℕ) (s : State) (channels : ℕ) (part : List ℕ) → IsLawful s channels (read_record t s channels part)
read_lawful t s channels part = transfer_lawful s (refusal_of s channels (arguments_of s)) part 0 [] tt

write_bytes : (s : State) (refused : ℤ) → CanBe refused → (refused ≡ pos 0 → length (bytes_at s (reg s 11) (reg s 12)) ≡ reg s 12)
    → AllByRecursion IsSame (bytes_compared 0 (bytes_of refused (bytes_at s (reg s 11) (reg s 12)))
    (bytes_at s (reg s 11) (length (bytes_of refused (bytes_at s (reg s 11) (reg s 12))))))
write_bytes s (negsuc n) can all = tt
write_bytes s (pos n) can all =
    let whole : List ℕ = bytes_at s (reg s 11) (reg s 12) in
    subst (λ (k : ℕ). AllByRecursion IsSame (bytes_compared 0 whole (bytes_at s (reg s 11) k))) (sym (all (none_is n can))) (same_bytes 0 whole)

write_lawful : (t : ℕ) (s : State) (inputs : ℕ) → IsLawful s inputs (write_record t s)
write_lawful t s inputs =
    let refused : ℤ = refusal_of s 16 (arguments_of s) in
    let whole : List ℕ = bytes_at s (reg s 11) (reg s 12) in
    transfer_lawful s refused whole (reg s 12)
    (bytes_compared 0 (bytes_of refused whole) (bytes_at s (reg s 11) (length (bytes_of refused whole))))
    (write_bytes s refused (can_be s 16) (write_whole s 16))

other_lawful : (t : ℕ) (s : State) (inputs : ℕ) → IsLawful s inputs (Other t (reg s 17))
other_lawful t s inputs = none_differs (compared field.Number (reg s 17) (reg s 17) ∷ []) (refl, tt)

-- ---- what is known of the record

module _ (inputs : List (List ℕ)) (piece : ℕ) where
  -- the record of a call that comes after these calls
  abbrev pub next_record : List CallRecord → List ℕ → ℕ → State → CallKind → CallRecord
  next_record before answers t s k = record_at inputs piece (length (received (reg s 10) before)) answers t s k

  -- what is known of a record at its time, after other calls
  pub record IsHere (before : List CallRecord) (t : ℕ) (s : State) (r : CallRecord) : Type 0 where
    pub time : at_of r ≡ t
    pub form : IsRecord r
    pub lawful : IsLawful s (length inputs) r
    pub reads : ReadsNext inputs piece before r

  read_next : (before : List CallRecord) (t : ℕ) (args : List ℕ) (refused : ℤ) (part : List ℕ) → part ≡ part_of inputs piece (length (received (channel_of args) before)) args
      → ReadsNext inputs piece before (Read t args (result_of refused part) (bytes_of refused part))
  read_next before t args (negsuc n) part e = tt
  read_next before t args (pos n) part e = e

  -- the record of a call is one
  pub next_here : (before : List CallRecord) (answers : List ℕ) (t : ℕ) (s : State) (k : CallKind) → IsRecord (next_record before answers t s k)
      → IsHere before t s (next_record before answers t s k)
  next_here before answers t s kind.Read form =
      let args = arguments_of s in
      let part : List ℕ = part_of inputs piece (length (received (reg s 10) before)) args in
      record { time = refl; form = form; lawful = read_lawful t s (length inputs) part; reads = read_next before t args (refusal_of s (length inputs) args) part refl }
  next_here before answers t s kind.Write form = record { time = refl; form = form; lawful = write_lawful t s (length inputs); reads = tt }
  next_here before answers t s kind.Clock form = record { time = refl; form = form; lawful = refl; reads = tt }
  next_here before answers t s k form = record { time = refl; form = form; lawful = other_lawful t s (length inputs); reads = tt }

-- ---- each such record is this one

-- the arguments are those in the registers
arguments_are : (s : State) (args : List ℕ) → length args ≡ 3 → SameArguments s args → args ≡ arguments_of s
arguments_are s (a ∷ b ∷ c ∷ []) e same = cc
arguments_are s args e same = absurd (omega arith)

-- what a transfer got, where the call allows its result and bytes that aren't refused are these
got_is : (refused kept : ℤ) (bytes whole : List ℕ) (n : ℕ) → length bytes ≡ moved_length kept
    → kept ≡ allowed refused kept n → ((k : ℕ) → kept ≡ pos k → bytes ≡ whole)
    → (kept ≡ result_of refused whole) × (bytes ≡ bytes_of refused whole)
got_is (negsuc j) kept bytes whole n size e h = (e, nil_from_length bytes (size ∙ ap moved_length e))
got_is (pos j) (pos k) bytes whole n size e h = let same = h k refl in (ap pos (sym size ∙ ap length same), same)
got_is (pos j) (negsuc k) bytes whole n size e h = (cc, cc)

bytes_equal : (i : ℕ) (bs cs : List ℕ) → length bs ≡ length cs → AllByRecursion IsSame (bytes_compared i bs cs) → bs ≡ cs
bytes_equal i [] [] e same = refl
bytes_equal i (b ∷ bs) (c ∷ cs) e same =
    let first : pos b ≡ pos c = same.0 in let rest = bytes_equal (i + 1) bs cs (omega arith) same.1 in cc
bytes_equal i bs cs e same = absurd (omega arith)

-- the bytes of a write are those in memory
written_is : (s : State) (channels at : ℕ) (args : List ℕ) (kept : ℤ) (bytes : List ℕ) → IsRecord (Write at args kept bytes)
    → IsLawful s channels (Write at args kept bytes) → bytes ≡ bytes_at s (reg s 11) (length bytes)
written_is s channels at args kept bytes form lawful =
    let compares = bytes_compared 0 bytes (bytes_at s (reg s 11) (length bytes)) in
    let held : (length bytes ≡ 0) ⊎ IsTrue (in_window s (reg s 11) (length bytes)) = elim (cases_lt 0 (length bytes)) [
      | inl some ↦ inr (write_held s channels at args kept bytes compares form lawful some).held
      | inr none ↦ inl (omega arith)
    ] in
    let agree = all_agree (fields s channels (CallOf (Write at args kept bytes))) lawful in
    bytes_equal 0 bytes (bytes_at s (reg s 11) (length bytes)) (sym (length_held s (reg s 11) (length bytes) held)) agree.1.1.1.1

-- a write that isn't refused moves all that was asked for
all_moved : (s : State) (at : ℕ) (args : List ℕ) (kept : ℤ) (bytes : List ℕ) (n : ℕ)
    → IsRecord (Write at args kept bytes) → args ≡ arguments_of s → kept ≡ pos n → length bytes ≡ reg s 12
all_moved s at args kept bytes n form same e = by form.2
  where
    by : IsRefusal kept ⊎ (kept ≡ pos (get_or args 2 0)) → length bytes ≡ reg s 12
    by (inl (inl r)) = cc
    by (inl (inr r)) = cc
    by (inr all) = form.1.whole ∙ ap moved_length all ∙ ap (λ (w : List ℕ). get_or w 2 0) same

-- the first of a list that is not empty, and the rest
front_head : (value : ℕ) (more answers : List ℕ) → IsFrontOf (value ∷ more) answers → (value ≡ slice_index answers 0) × IsFrontOf more (drop 1 answers)
front_head value more [] front = cc
front_head value more (a ∷ others) front = let first : value ≡ a = cc in let rest : take (length more) others ≡ more = cc in (first, rest)

-- the answers of the clock that are left after a call
abbrev pub answers_after : List ℕ → CallKind → List ℕ
answers_after answers kind.Clock = drop 1 answers
answers_after answers k = answers

module _ (inputs : List (List ℕ)) (piece : ℕ) (answers : List ℕ) (before : List CallRecord) (t : ℕ) (s : State) where
  read_is : (at : ℕ) (args : List ℕ) (kept : ℤ) (bytes : List ℕ) → IsHere inputs piece before t s (Read at args kept bytes)
      → Read at args kept bytes ≡ next_record inputs piece before answers t s kind.Read
  read_is at args kept bytes here =
      let refused : ℤ = refusal_of s (length inputs) (arguments_of s) in
      let part : List ℕ → List ℕ = λ (w : List ℕ). part_of inputs piece (length (received (channel_of w) before)) w in
      let result = result_compared kept (allowed refused kept 0) in
      let same = arguments_are s args here.form.1.three (same_arguments s args (result ∷ []) here.lawful) in
      let agree = all_agree (arguments s args ++ result ∷ []) here.lawful in
      let got = got_is refused kept bytes (part (arguments_of s)) 0 here.form.1.whole agree.1.1.1.0
      (λ n e. let next = rw e at here.reads in next ∙ ap part same) in
      let time = here.time in
      cc (got.0, got.1)

  write_is : (at : ℕ) (args : List ℕ) (kept : ℤ) (bytes : List ℕ) → IsHere inputs piece before t s (Write at args kept bytes)
      → Write at args kept bytes ≡ next_record inputs piece before answers t s kind.Write
  write_is at args kept bytes here =
      let refused : ℤ = refusal_of s 16 (arguments_of s) in
      let whole : List ℕ = bytes_at s (reg s 11) (reg s 12) in
      let result = result_compared kept (allowed refused kept (reg s 12)) in
      let compares = result ∷ bytes_compared 0 bytes (bytes_at s (reg s 11) (length bytes)) in
      let same = arguments_are s args here.form.1.three (same_arguments s args compares here.lawful) in
      let agree = all_agree (arguments s args ++ compares) here.lawful in
      let there = written_is s (length inputs) at args kept bytes here.form here.lawful in
      let got = got_is refused kept bytes whole (reg s 12) here.form.1.whole agree.1.1.1.0
      (λ n e. there ∙ ap (bytes_at s (reg s 11)) (all_moved s at args kept bytes n here.form same e)) in
      let time = here.time in
      cc (got.0, got.1)

  -- the record is the one that its call gets
  abbrev pub IsTheOne : CallRecord → List CallRecord → Type 0
  IsTheOne r rs = (r ≡ next_record inputs piece before answers t s (kind_by r)) × IsFrontOf (clock_values rs) (answers_after answers (kind_by r))

  pub record_is : (r : CallRecord) (rs : List CallRecord) → IsHere inputs piece before t s r → IsFrontOf (clock_values (r ∷ rs)) answers → IsTheOne r rs
  record_is (Read at args kept bytes) rs here e = (read_is at args kept bytes here, e)
  record_is (Write at args kept bytes) rs here e = (write_is at args kept bytes here, e)
  record_is (Clock at value) rs here e =
      let parts = front_head value (clock_values rs) answers e in let time = here.time in (cc (parts.0), parts.1)
  record_is (Other at number) rs here e =
      let agree = all_agree (compared field.Number number (reg s 17) ∷ []) here.lawful in
      let same : pos number ≡ pos (reg s 17) = agree.0 in let time = here.time in (cc, e)
