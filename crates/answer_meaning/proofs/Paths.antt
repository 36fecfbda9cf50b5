-- Each location of a path holds the byte.
use Rattle.std.proofs.Common.{◌≡◌, ℕ, zero, suc, ◌^◌, ◌<◌, Bool, true, false, List, [], ◌∷◌, length, refl, sym, subst, arith, get_or, Option, Some, None, IfSome, ◌+◌, ◌≤◌, ap, ◌∙◌, if◌then◌else◌}
use Rattle.std.specs.List.{AllByRecursion}
use Rattle.std.proofs.lemmas.List.Elements.{All-from_recursion, recursion_from_All, All-contains}
use Rattle.isa.specs.declared.Instr.{Instr}
use Rattle.isa.specs.Words.{instruction_of}
use Rattle.isa.specs.Encodings.{Fits}
use Rattle.isa.specs.Machine.{State, Fetched, fetch, fetch_if, decoded, in_window, little_endian, bytes_at}
use Rattle.isa.proofs.Window.{holds_by, wrap-lt}
use Rattle.rv_decode.proofs.Read.{HasWord, written_back}
use Rattle.log_model.specs.Logs.{Log, steps}
use Rattle.flow_model.specs.declared.StepSeen.{StepSeen}
use Rattle.replay_model.specs.Run.{Moment, advance, moment_after, start, step_of, steps_from, trace}
use Rattle.record_model.specs.States.{IsSound}
use Rattle.answer_meaning.specs.RunLaws.{IsRun, moment_at, IsCopied, NoOrigin, OneOrigin, CopiedContents, content_at, byte_received, under}
use Rattle.answer_meaning.proofs.Steps.{Does, Plain, Calls, does}
use Rattle.answer_meaning.proofs.Runs.{done_at, sound_at, all_sinks}
use Rattle.record_model.proofs.Sound.{bytes_length, window_bytes, FourBytes, bytes_word}
use Rattle.answer_meaning.specs.PathMeaning.{StepsFit, PathIsOfLocations, HasByte, PathHoldsByte, ToldPathHoldsByte}
use Rattle.path_find.specs.PathLaws.{PathIsLocated, OnePathIsPath}
use Rattle.std.specs.Prelude.{Contains, nat_le}
use Rattle.flow_model.specs.declared.Loc.{Loc}
use Rattle.flow_model.specs.declared.Rule.{Rule}
use Rattle.flow_model.specs.declared.SourceByte.{SourceByte}
use Rattle.flow_model.specs.Origins.{origins}
use Rattle.flow_model.specs.Ranges.{IsLocation}
use Rattle.answer_meaning.specs.StepLaws.{OnlyMoves}
use Rattle.path_find.specs.declared.Arrival.{Arrival}
use Rattle.path_find.specs.Paths.{IsPath, IsLatest}
use Rattle.path_find.proofs.Origins.{path_had, contains_had}
use Rattle.std.specs.Ordering.{is_eq}
use Rattle.std.proofs.lemmas.Bool.Decides.{nat_tests}
use Rattle.flow_model.specs.declared.SinkPoint.{SinkPoint}
use Rattle.flow_model.specs.declared.SinkPoint.TheVariants.{Out, At}
use Rattle.flow_model.specs.Orders.{point_cmp}
use Rattle.flow_model.proofs.Orders.{inner_total, inner_same}
use Rattle.lists.proofs.Algebra.{Contains-has}
use Rattle.lists.proofs.Lists.{all-weaken}
use Rattle.report_model.specs.Query.{Query, AreLocated, has_sink}
use Rattle.report_model.specs.Rows.{Sink, point_sink, chosen_sinks}
use Rattle.report_model.proofs.Members.{some-each-too, some-gives}
use Rattle.replay_model.proofs.Offsets.{length-steps_from}
use Rattle.path_find.specs.FirstPair.{written_from, sink_of}
use Rattle.path_find.proofs.Listed.{found_in, named, written_chosen, is_told}

-- ---- an instruction that is fetched

decoded_fits : (w : ℕ) → w < 2 ^ 32 → (i : Instr) (o : Option Instr) → instruction_of w ≡ o → decoded o ≡ Fetched i → Fits i
decoded_fits w small i None e f = cc
decoded_fits w small i (Some j) e f =
    let same : j ≡ i = cc in
    let has : HasWord w j = subst (λ (o : Option Instr). IfSome o (HasWord w)) e (written_back w small) in
    subst Fits same has.0

fetched_fits : (s : State) → IsSound s → (i : Instr) → fetch s ≡ Fetched i → Fits i
fetched_fits s sound i e = by (in_window s s.pc 4) refl e
  where
    word : ℕ
    word = little_endian (bytes_at s s.pc 4)

    by : (b : Bool) → in_window s s.pc 4 ≡ b → fetch_if s b ≡ Fetched i → Fits i
    by true inside e = decoded_fits word (bytes_word 4 FourBytes (bytes_at s s.pc 4) (bytes_length s s.pc 4 (holds_by s s.pc 4 inside)) (window_bytes s sound s.pc 4)) i (instruction_of word) refl e
    by false inside e = cc

-- ---- the steps of a run

step_fits : (log : Log) (s : State) (t : ℕ) → IsRun log s → t < steps log → Fits (step_of (moment_at s log t)).instr
step_fits log s t run h = by (does log.inputs m (done_at log s t run h))
  where
    m : Moment
    m = moment_at s log t

    by : Does log.inputs m → Fits (step_of m).instr
    by (Plain u x f se sa) = subst (λ (z : StepSeen). Fits z.instr) (sym se) (fetched_fits m.state (sound_at log s t run (omega arith)) x.instr x.is_fetched)
    by (Calls c f a se sa) = subst (λ (z : StepSeen). Fits z.instr) (sym se) tt

-- what is true of each moment's step
all_from : (Q : StepSeen → Type 0) (n : ℕ) (m : Moment) → ((k : ℕ) → k < n → Q (step_of (moment_after k m))) → AllByRecursion Q (steps_from n m)
all_from Q zero m h = tt
all_from Q (suc n) m h = (h 0 (omega arith), all_from Q n (advance m) (λ k below. h (suc k) (omega arith)))

pub steps_fit : StepsFit
steps_fit log s run = All-from_recursion (λ x. Fits x.instr) (trace s log) (all_from (λ x. Fits x.instr) (steps log) (start s log) (λ t h. step_fits log s t run h))

pub path_is_of_locations : PathIsLocated → PathIsOfLocations
path_is_of_locations located log s run rule b t l p here h = located rule b (trace s log) t l p (steps_fit log s run) here h

-- ---- paths

-- what is copied from b has its byte
from_byte : (log : Log) (v : ℕ) (bs : List SourceByte) (b : SourceByte) → IsCopied log v bs → Contains bs b → v ≡ byte_received log b
from_byte log v bs b (NoOrigin e) c = absurd (none (subst (λ (xs : List SourceByte). Contains xs b) e c)) where
  none : Contains [] b → ⊥
  none c = omega (arith, c.1)
from_byte log v bs b (OneOrigin x e is) c = is ∙ ap (byte_received log) (only (subst (λ (xs : List SourceByte). Contains xs b) e c)) where
  at : (k : ℕ) → k < 1 → get_or (x ∷ []) k b ≡ b → x ≡ b
  at zero h e = e
  at (suc k) h e = absurd (omega arith)

  only : Contains (x ∷ []) b → x ≡ b
  only c = at c.0 c.1 c.2

module _ (copied : CopiedContents) (log : Log) (s : State) (run : IsRun log s) (rule : Rule) (only : OnlyMoves rule) (b : SourceByte) where
  at_end : (t : ℕ) (l : Loc) (p : List Arrival) → t ≤ steps log → IsLocation l → IsPath rule b (trace s log) t l p → content_at s log t l ≡ byte_received log b
  at_end t l p inside here h =
      let policy = under rule (λ x. true) in
      let among = contains_had policy b refl (trace s log) t l (path_had policy b refl (trace s log) p t l h) in
      from_byte log (content_at s log t l) (origins policy (trace s log) t l) b (copied log s run rule only (λ x. true) t l inside here) among

  -- right after the latest arrival it is a path too
  latest : (t : ℕ) (l : Loc) (a : Arrival) → IsLatest rule (trace s log) t l a → IsLatest rule (trace s log) (a.number + 1) a.loc a
  latest t l a h = record { there = refl; before = omega arith; still = λ u low high. absurd (omega arith) }

  -- and the arrival was before the path's end
  at_arrival : (t : ℕ) (l : Loc) (a : Arrival) (rest : List Arrival) → IsPath rule b (trace s log) t l (a ∷ rest) → (a.number < t)
      × IsPath rule b (trace s log) (a.number + 1) a.loc (a ∷ rest)
  at_arrival t l a [] h = (h.0.before, (latest t l a h.0, h.1))
  at_arrival t l a (x ∷ xs) h = (h.0.before, (latest t l a h.0, h.1, h.2))

  each : (p : List Arrival) (t : ℕ) (l : Loc) → t ≤ steps log → AllByRecursion (λ a. IsLocation a.loc) p → IsPath rule b (trace s log) t l p → AllByRecursion (HasByte s log (byte_received log b)) p
  each [] t l inside here h = tt
  each (a ∷ []) t l inside here h = let there = at_arrival t l a [] h in (at_end (a.number + 1) a.loc (a ∷ []) (omega (arith, there.0)) here.0 there.1, tt)
  each (a ∷ x ∷ xs) t l inside here h =
      let there = at_arrival t l a (x ∷ xs) h in (
        at_end (a.number + 1) a.loc (a ∷ x ∷ xs) (omega (arith, there.0)) here.0 there.1,
        each (x ∷ xs) a.number x.loc (omega (arith, there.0)) here.1 h.2,
      )

pub path_holds_byte : CopiedContents → PathIsOfLocations → PathHoldsByte
path_holds_byte copied located log s run rule only b t l p inside here h = (
  at_end copied log s run rule only b t l p inside here h,
  All-from_recursion _ p (each copied log s run rule only b p t l inside (recursion_from_All _ p (located log s run rule b t l p here h)) h),
)

-- ---- paths that are told

-- the sink is at a location, at a time up to the end
record IsInside (log : Log) (x : Sink) : Type 0 where
  time : x.time ≤ steps log
  loc : IsLocation x.loc

module _ (log : Log) (s : State) (q : Query) (located : AreLocated q.points) where
  each_inside : AllByRecursion (IsInside log) (chosen_sinks q (trace s log))
  each_inside = all_sinks (IsInside log) q s log
      (all-weaken (λ p. IsLocation p.loc) (λ p. p.time ≤ steps log → IsInside log (point_sink p)) (λ p here inside. record { time = inside; loc = here }) q.points
      (recursion_from_All (λ p. IsLocation p.loc) q.points located))
      (λ t h call e w i g. record { time = omega arith; loc = wrap-lt (call.place + i) })

  sink_inside : (name : SinkPoint) (x : Sink) → has_sink q name ≡ true → sink_of (trace s log) name ≡ Some x → IsInside log x
  sink_inside (Out b) x chosen e =
      let found = found_in (λ z. is_eq (point_cmp (Out b) z.name)) (written_from 0 (trace s log)) x e in
      let among = written_chosen q b x (sym (named (Out b) x.name found.1)) chosen 0 (trace s log) found.0 in
      some-gives (λ z. (z ≡ x) × IsInside log z) (IsInside log x) (λ z h. subst (IsInside log) h.0 h.1) (chosen_sinks q (trace s log))
      (some-each-too (λ z. z ≡ x) (IsInside log) (chosen_sinks q (trace s log)) among each_inside)
  sink_inside (At p) x chosen e = by (nat_le p.time (length (trace s log))) refl e
    where
      here : IsLocation p.loc
      here = All-contains (λ z. IsLocation z.loc) q.points p located (Contains-has inner_total inner_same q.points p chosen)

      inside : nat_le p.time (length (trace s log)) ≡ true → p.time ≤ length (trace s log)
      inside le = grind (arith, nat_tests)

      by : (b : Bool) → nat_le p.time (length (trace s log)) ≡ b → (if b then Some (point_sink p) else None) ≡ Some x → IsInside log x
      by true le e =
          let same : point_sink p ≡ x = cc in
          let low = inside le in
          subst (IsInside log) same (record { time = omega (arith, low, length-steps_from (steps log) (start s log)); loc = here })
      by false le e = absurd cc

pub told_path_holds_byte : OnePathIsPath → PathHoldsByte → ToldPathHoldsByte
told_path_holds_byte is_path holds log s run q only located name b p e =
    let told = is_told q (trace s log) name b p e in
    let inside = sink_inside log s q located name p.sink told.chosen told.is_sink in
    holds log s run q.rule only b p.sink.time p.sink.loc p.arrivals inside.time inside.loc
    (is_path q.rule b (trace s log) p.sink.time p.sink.loc p.arrivals told.is_path)
