-- One byte more, by what the reader of frames tells.
use Rattle.std.proofs.Common.{◌≡◌, ◌∙◌, ap, sym, refl, ℕ, Bool, true, false, ◌||◌, List, [], ◌∷◌, ◌++◌, append-nil}
use Rattle.std.specs.Prelude.{Err}
use Rattle.std.specs.List.{list_any}
use Rattle.no_memory.specs.declared.Fault.TheVariants.{NoMemory}
use Rattle.no_memory.specs.declared.NoMemory.{NoMemory as OutOfMemory}
use Rattle.outer_io.proofs.TellsLemmas.{tells-same}
use Rattle.outer_wire.specs.Wires.{Passed, Came, WireShown}
use Rattle.replayer.specs.Jobs.{Job}
use Rattle.remote_frames.specs.Frames.{Heard, Packet, Bad, Again, heard}
use Rattle.remote_frames.specs.Reading.{FramerAt, begun, told as told_by}
use Rattle.remote_frames.specs.declared.framer.Framed.{Framed}
use Rattle.remote_frames.specs.declared.framer.Framed.TheVariants as framed
use Rattle.debug_model.specs.Sessions.{SessionAt}
use Rattle.debug_model.specs.Dialogues.{told, next, told_all, next_all, up_to_end, is_end, begun_at}
use Rattle.debug_session.specs.Sessions.{SessionOf}
use Rattle.outer_wire.specs.Talks.{Answers, GoesOn, Hears, left_by, Gained, IsTalkInPart, Talks}
use Rattle.debug_talk.specs.Debugging.{answers_of}
use Rattle.debug_talk.specs.Listening.{answers_from}

-- what is said where this is heard from now on
abbrev said_to : Job → SessionAt → List Heard → List ℕ
said_to job s hs = told_all job s (up_to_end hs)

abbrev said_then : Bool → Job → SessionAt → List Heard → List ℕ
said_then true job s hs = []
said_then false job s hs = said_to job s hs

abbrev ends_then : Bool → List Heard → Bool
ends_then true hs = true
ends_then false hs = list_any is_end hs

module _ (job : Job) (s : SessionAt) where
  one_end : (h : Heard) (more : List Heard) (end : Bool) → is_end h ≡ end
      → said_to job s (h ∷ more) ≡ (told job s h ++ []) ++ said_then end job (next job s h) more
  one_end h more true e = rw e (sym (append-nil (told job s h ++ [])))
  one_end h more false e = rw e (ap (λ (w : List ℕ). w ++ said_to job (next job s h) more) (sym (append-nil (told job s h))))

  one_said : (h : Heard) (more : List Heard) (over : Bool) → over ≡ (is_end h || false)
      → said_to job s (h ∷ more) ≡ (told job s h ++ []) ++ said_then over job (next job s h) more
  one_said h more over e = one_end h more over (by (is_end h) over e) where
    by : (a b : Bool) → b ≡ (a || false) → a ≡ b
    by true b f = sym f
    by false b f = sym f

  all_said : (f : Framed) (packet : List ℕ) (more : List Heard) (over : Bool) → over ≡ list_any is_end (told_by f packet)
      → said_to job s (told_by f packet ++ more) ≡ told_all job s (told_by f packet) ++ said_then over job (next_all job s (told_by f packet)) more
  all_said framed.Nothing packet more over e = rw e refl
  all_said framed.Packet packet more over e = one_said (Packet packet) more over e
  all_said framed.Bad packet more over e = one_said Bad more over e
  all_said framed.Again packet more over e = one_said Again more over e

one_ends : (h : Heard) (more : List Heard) (over : Bool) → over ≡ (is_end h || false) → list_any is_end (h ∷ more) ≡ ends_then over more
one_ends h more over e = by (is_end h) over e where
  by : (a b : Bool) → b ≡ (a || false) → (a || list_any is_end more) ≡ ends_then b more
  by true b f = rw f refl
  by false b f = rw f refl

all_end : (f : Framed) (packet : List ℕ) (more : List Heard) (over : Bool) → over ≡ list_any is_end (told_by f packet)
    → list_any is_end (told_by f packet ++ more) ≡ ends_then over more
all_end framed.Nothing packet more over e = rw e refl
all_end framed.Packet packet more over e = one_ends (Packet packet) more over e
all_end framed.Bad packet more over e = one_ends Bad more over e
all_end framed.Again packet more over e = one_ends Again more over e

says_left : (over : Bool) (f : FramerAt) (s : SessionOf) (after : List ℕ)
    → said_then over s.job s.at (heard (begun f ++ after)) ≡ (left_by over (answers_from f s)).says after
says_left true f s after = refl
says_left false f s after = refl

ends_left : (over : Bool) (f : FramerAt) (s : SessionOf) (after : List ℕ)
    → ends_then over (heard (begun f ++ after)) ≡ (left_by over (answers_from f s)).ends after
ends_left true f s after = refl
ends_left false f s after = refl

-- the session heard what the reader told of a byte
pub hears : (f g : FramerAt) (s t : SessionOf) (framed : Framed) (byte : ℕ) (over : Bool) (written written_after : List ℕ)
    → ((after : List ℕ) → heard (begun f ++ byte ∷ after) ≡ told_by framed g.packet ++ heard (begun g ++ after))
    → written_after ≡ written ++ told_all s.job s.at (told_by framed g.packet)
    → t ≡ record { job = s.job; at = next_all s.job s.at (told_by framed g.packet) }
    → over ≡ list_any is_end (told_by framed g.packet)
    → Hears (answers_from f s) (answers_from g t) byte over written written_after
hears f g s t framed byte over written written_after reads gains moved ended = record {
  said = told_all s.job s.at (told_by framed g.packet);
  gains = gains;
  goes_on = record {
    says = λ after. ap (said_to s.job s.at) (reads after) ∙ all_said s.job s.at framed g.packet (heard (begun g ++ after)) over ended
        ∙ ap (λ (w : List ℕ). told_all s.job s.at (told_by framed g.packet) ++ w)
        (ap (λ (u : SessionOf). said_then over u.job u.at (heard (begun g ++ after))) (sym moved) ∙ says_left over g t after);
    ends = λ after. ap (list_any is_end) (reads after) ∙ all_end framed g.packet (heard (begun g ++ after)) over ended ∙ ends_left over g t after;
  };
}

-- nothing is said in answer to nothing, and it ends nothing
pub silent : (f : FramerAt) (s : SessionOf) → heard (begun f) ≡ [] → (answers_from f s).says [] ≡ []
silent f s e = ap (λ (bytes : List ℕ). said_to s.job s.at (heard bytes)) (append-nil (begun f)) ∙ ap (said_to s.job s.at) e

pub goes_on : (f : FramerAt) (s : SessionOf) → heard (begun f) ≡ [] → (answers_from f s).ends [] ≡ false
goes_on f s e = ap (λ (bytes : List ℕ). list_any is_end (heard bytes)) (append-nil (begun f)) ∙ ap (list_any is_end) e

-- ---- from the beginning

-- who has read nothing yet, and whose session begins, says the dialogue
pub at_beginning : (f : FramerAt) (s : SessionOf) (job : Job) (t : ℕ) → begun f ≡ [] → s ≡ record { job = job; at = begun_at job t } → answers_from f s ≡ answers_of job t
at_beginning f s job t none e =
    ap (answers_from f) e
    ∙ ap (λ (front : List ℕ). record {
      says = λ (bytes : List ℕ). said_to job (begun_at job t) (heard (front ++ bytes));
      ends = λ (bytes : List ℕ). list_any is_end (heard (front ++ bytes));
    }) none

no_nil : (before after : List Passed) (y : Passed) → [] ≡ before ++ y ∷ after → ⊥
no_nil [] after y e = cc
no_nil (b ∷ before) after y e = cc

-- memory ran out before anything was heard
pub not_begun : (a : Answers) (w : WireShown) (no_memory : OutOfMemory) → Talks {T = Unit {0}} a w w (Err (NoMemory no_memory))
not_begun a w no_memory = record {
  told = tells-same w.history (Gained (IsTalkInPart a)) (λ x. record {
    passed = [];
    gains = sym (append-nil x);
    so = record { part = refl; in_turn = λ before after bytes e. absurd (no_nil before after (Came bytes) e) };
  });
  faults = refl;
}
