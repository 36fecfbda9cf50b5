-- From the answer of a command's files, and the delivery of its text, to how the command is obeyed.
use Rattle.std.proofs.Common.{◌≡◌, ◌∙◌, sym, subst, refl, arith, ℕ, ◌≤◌, inl, inr, List, [], Option, Some, None, Result, Ok, Err, OnOk, OnErr, append-nil, true, ◌++◌}
use Rattle.std.specs.Prelude.{IsOk, IsErr}
use Rattle.std.proofs.lemmas.Result.{on_ok_weaker, on_err_weaker}
use Rattle.outer_io.specs.Faults.{Rose, HasCause}
use Rattle.outer_io.specs.Shown.{StoreShown, SinkShown}
use Rattle.outer_io.specs.Tells.{Tells, Gains, GainsPrefix}
use Rattle.outer_io.specs.Files.{Files, Text, KeepsFiles}
use Rattle.outer_io.specs.WriteFile.{PutsPart}
use Rattle.outer_io.proofs.TellsLemmas.{tells-then, tells-both, tells-same, tells-nothing, rose-earlier, tells-map, tells-gains, gains-prefix}
use Rattle.jet_words.specs.Commands.{CommandOf}
use Rattle.jet_refusal.specs.declared.refusal.Refusal.{Refusal}
use Rattle.jet_refusal.specs.declared.refusal.Refusal.TheVariants as refusal
use Rattle.jet_refusal.specs.Causes.{IsOwedTo}
use Rattle.jet_refusal.proofs.Causes.{IsOwedTo-map}
use Rattle.command_parts.specs.Outcome.{HeldBefore, IsOutcomeBy, by_reading}
use Rattle.jet_commands.specs.Targets.{Target, ToOutput, ToFile, written_in, OpensAll, OpensFirst, KeepsAll}
use Rattle.jet_commands.specs.Plans.{IsAnswer, target_of, plan_of, sources_of, target_in, files_of, IfUntimedIn}
use Rattle.outer_io.specs.Outside.{Change}
use Rattle.jet_commands.specs.Writing.{Delivers, DeliversPart, FailsToWrite}
use Rattle.jet_commands.specs.Obeying.{Delivery, given_text, given_target, IsGiven, Obeys}
use Rattle.jet_commands.specs.Ending.{IsText, WritesWhole, WritesPart, IsDelivered, causes_of, IsUnasked}
use Rattle.jet_commands.proofs.Giving.{keeps, keeps-then, if_file, untimed-always}
use Rattle.outer_io.specs.Reads.{Reads}
use Rattle.outer_io.proofs.ReadsLemmas.{keeps-none, reads-none, reads-stops}
use Rattle.jet_commands.specs.declared.delivery.Given.{Given}

on_ok : {T E P : Type 0} (r : Result T E) → (IsOk r → P) → OnOk r P
on_ok (Ok x) h = h refl
on_ok (Err e) h = tt

on_err : {T E P : Type 0} (r : Result T E) → (IsErr r → P) → OnErr r P
on_err (Ok x) h = tt
on_err (Err e) h = h refl

-- a text was written to the output
pub told : {T E : Type 0} (text : List ℕ) (f : StoreShown) (o n : SinkShown) (silent : Type 0) (r : Result T E) → HasCause o.faults n.faults r
    → OnOk r (Tells o.written n.written (Gains text)) → OnErr r (Tells o.written n.written (GainsPrefix text)) → Delivery ToOutput text f f o n silent r
told text f o n silent r cause whole part = record {
  whole = on_ok_weaker r (λ w. tells-same f.files (Delivers ToOutput o n text) (λ x. w)) whole;
  part = on_err_weaker r (λ w. tells-same f.files (DeliversPart ToOutput o n text) (λ x. w)) part;
  failed = on_err r cause.failed;
  keeps = keeps ToOutput f.files;
  opened = tells-nothing f.opened;
  aside = tt;
  later = omega arith;
  store = on_ok r (λ is. refl);
  output = on_ok r cause.stood;
}

-- words that stand for no command
pub no_command : (command : Option CommandOf) (change : Change) → command ≡ None → IsOwedTo (causes_of command change refusal.Usage) refusal.Usage
no_command command change none = subst (λ (o : Option CommandOf). IsOwedTo (causes_of o change refusal.Usage) refusal.Usage) (sym none) tt

delivers-earlier : (target : Target) (text : List ℕ) (o n : SinkShown) (x y z : Files) → Delivers target o n text y z → Delivers target o n text x z
delivers-earlier ToOutput text o n x y z d = d
delivers-earlier (ToFile name) text o n x y z d = d

puts-earlier : (name : Text) (text : List ℕ) (x y z : Files) → KeepsFiles x y → PutsPart name text y z → PutsPart name text x z
puts-earlier name text x y z keeps (inl p) = inl (p.0 ∙ keeps.writing, p.1 ∙ keeps.put)
puts-earlier name text x y z keeps (inr p) = inr p

part-earlier : (target : Target) (text : List ℕ) (o n : SinkShown) (x y z : Files) → KeepsFiles x y → DeliversPart target o n text y z → DeliversPart target o n text x z
part-earlier ToOutput text o n x y z keeps d = d
part-earlier (ToFile name) text o n x y z keeps d = puts-earlier name text x y z keeps d

fails-earlier : (target : Target) (f g h : StoreShown) (o n : SinkShown) → f.faults ≤ g.faults → g.faults ≤ h.faults → FailsToWrite target g h o n → FailsToWrite target f h o n
fails-earlier ToOutput f g h o n up down rose = rose
fails-earlier (ToFile name) f g h o n up down rose = rose-earlier f.faults g.faults h.faults up rose down

abbrev pub between : StoreShown → StoreShown → SinkShown → SinkShown → Option (List ℕ) → Option (List ℕ) → Change
between f h o n heard heard_after = record { before = record { store = f; output = o; heard = heard }; after = record { store = h; output = n; heard = heard_after } }

-- the store shows `f`, then `g` once the files were read, and `h` at the end; the output and the clock show one thing before and
-- one after
module _ (command : CommandOf) (f g h : StoreShown) (o n : SinkShown) (heard heard_after : Option (List ℕ)) where
  abbrev ours : Change
  ours = between f h o n heard heard_after

  -- the files are refused
  pub not_answered : (r : Refusal) → IsOutcomeBy (IsAnswer command heard heard_after) f h (Err r) → IsOwedTo (causes_of (Some command) ours r) r
  not_answered r = IsOwedTo-map (by_reading (Tells f.files h.files (HeldBefore (λ file. IsAnswer command heard heard_after file (Err r)))) (Rose f.faults h.faults))
      (causes_of (Some command) ours r) (λ p. p) (λ p. p) (λ p. p) (λ p. absurd p) r

  module _ (text : List ℕ) (answer : IsOutcomeBy (IsAnswer command heard heard_after) f g (Ok text)) (keeps : Tells f.files g.files KeepsFiles) where
    abbrev Read : Files → Files → Type 0
    Read x y = HeldBefore (λ file. IsAnswer command heard heard_after file (Ok text)) x y × KeepsFiles x y

    was_read : Tells f.files g.files Read
    was_read = tells-both f.files g.files (HeldBefore (λ file. IsAnswer command heard heard_after file (Ok text))) KeepsFiles answer.1 keeps

    -- the text was written
    pub delivered : h.faults ≡ g.faults → n.faults ≡ o.faults → Tells g.files h.files (Delivers (target_of command) o n text) → IsDelivered (Some command) ours
    delivered store output written = (
      record { store = store ∙ answer.0; output = output },
      tells-then f.files g.files h.files Read (Delivers (target_of command) o n text) (WritesWhole command ours (IsText command ours))
          (λ x y z p d. record { text = text; is_wanted = p.0.held; delivered = delivers-earlier (target_of command) text o n x y z d }) was_read written,
    )

    -- it was not written whole
    pub not_delivered : Tells g.files h.files (DeliversPart (target_of command) o n text) → FailsToWrite (target_of command) g h o n
        → f.faults ≤ g.faults → g.faults ≤ h.faults → IsOwedTo (causes_of (Some command) ours refusal.WriteFault) refusal.WriteFault
    not_delivered part failed up down = (
      fails-earlier (target_of command) f g h o n up down failed,
      tells-then f.files g.files h.files Read (DeliversPart (target_of command) o n text) (WritesPart command ours (IsText command ours))
          (λ x y z p d. record { text = text; is_wanted = p.0.held; delivered = part-earlier (target_of command) text o n x y z p.1 d }) was_read part,
    )

-- those that are read were, and then those that are written
opens-all : (read written : List Text) (f g h : StoreShown) → Reads read true f g → OpensAll written g h → OpensAll (read ++ written) f h
opens-all read written f g h p q = tells-gains f.opened g.opened h.opened read written p.opened q

-- where all were opened, the first of them were
opens-first : (names : List Text) (f h : StoreShown) → OpensAll names f h → OpensFirst names f h
opens-first names f h = tells-map f.opened h.opened (Gains names) (GainsPrefix names)
    (λ x y p. subst (λ (whole : List Text). GainsPrefix whole x y) (append-nil names) (gains-prefix names [] (names ++ []) refl x y p))

-- ---- the command was refused, and nothing is written

module _ (command : Option CommandOf) (f h : StoreShown) (o : SinkShown) (heard heard_after : Option (List ℕ)) (silent unread : Type 0) (is_silent : silent) (r : Refusal) where
  pub stopped : IsOwedTo (causes_of command (between f h o o heard heard_after) r) r → KeepsAll f h → OpensFirst (files_of command) f h → IfUntimedIn command unread
      → IsUnasked heard heard_after r → Obeys command (between f h o o heard heard_after) silent unread (Err r)
  stopped owed keep opened clock unasked = record {
    ends = owed;
    all = tt;
    opened = opened;
    keeps = keeps-then (target_in command) f.files h.files h.files keep (keeps (target_in command) h.files);
    untouched = λ unwritten. keep;
    silent = λ unwritten. is_silent;
    aside = if_file (target_in command) silent is_silent;
    clock = clock;
    unasked = unasked;
  }

untimed-in : (command : Option CommandOf) (unread : Type 0) → unread → IfUntimedIn command unread
untimed-in None unread p = p
untimed-in (Some command) unread p = untimed-always (plan_of command).is_timed unread p

-- and nothing was read
pub not_begun : (command : Option CommandOf) (f : StoreShown) (o : SinkShown) (heard : Option (List ℕ)) (silent unread : Type 0) (r : Refusal) → silent → unread
    → IsOwedTo (causes_of command (between f f o o heard heard) r) r → Obeys command (between f f o o heard heard) silent unread (Err r)
not_begun command f o heard silent unread r is_silent is_unread owed =
    stopped command f f o heard heard silent unread is_silent r owed (keeps-none f.files) ((reads-stops (files_of command) (reads-none f)).opened)
    (untimed-in command unread is_unread) (inr (tells-nothing heard))

-- ---- what was given was written

module _ (command : CommandOf) (f g h : StoreShown) (o n : SinkShown) (heard heard_after : Option (List ℕ)) (silent unread : Type 0) (given : Given)
    (is : IsGiven command f g heard heard_after unread (Ok given)) where
  abbrev Ended : Result (Unit {0}) Refusal → Type 0
  Ended outcome = Obeys (Some command) (between f h o n heard heard_after) silent unread outcome

  goes : {T E : Type 0} (r : Result T E) → Delivery (given_target given) (given_text given) g h o n silent r → Delivery (target_of command) (given_text given) g h o n silent r
  goes r d = subst (λ (target : Target). Delivery target (given_text given) g h o n silent r) is.gives.goes d

  all_opened : OpensAll (written_in (target_of command)) g h → OpensAll (files_of (Some command)) f h
  all_opened after = opens-all (sources_of command) (written_in (target_of command)) f g h is.gives.reads after

  pub written : {T E : Type 0} (x : T) → Delivery {T = T} {E = E} (given_target given) (given_text given) g h o n silent (Ok x) → Ended (Ok tt)
  written x told =
      let d = goes (Ok x) told in
      record {
        ends = delivered command f g h o n heard heard_after (given_text given) is.gives.answer is.gives.reads.keeps d.store d.output d.whole;
        all = all_opened d.opened;
        opened = opens-first (files_of (Some command)) f h (all_opened d.opened);
        keeps = keeps-then (target_of command) f.files g.files h.files is.gives.reads.keeps d.keeps;
        untouched = λ unwritten. absurd (unwritten.not_done refl);
        silent = λ unwritten. absurd (unwritten.not_done refl);
        aside = d.aside;
        clock = is.clock;
        unasked = tt;
      }

  pub not_written : {T E : Type 0} (e : E) → Delivery {T = T} {E = E} (given_target given) (given_text given) g h o n silent (Err e) → Ended (Err refusal.WriteFault)
  not_written e told =
      let d = goes (Err e) told in
      record {
        ends = not_delivered command f g h o n heard heard_after (given_text given) is.gives.answer is.gives.reads.keeps d.part d.failed is.gives.reads.later d.later;
        all = tt;
        opened = opens-first (files_of (Some command)) f h (all_opened d.opened);
        keeps = keeps-then (target_of command) f.files g.files h.files is.gives.reads.keeps d.keeps;
        untouched = λ unwritten. absurd (unwritten.not_failed refl);
        silent = λ unwritten. absurd (unwritten.not_failed refl);
        aside = d.aside;
        clock = is.clock;
        unasked = inl (inr (inl refl));
      }
