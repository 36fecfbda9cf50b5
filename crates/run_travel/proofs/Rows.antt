-- Rows of steps, forward and back.
use Rattle.std.proofs.Common.{◌≡◌, ℕ, suc, ◌+◌, ◌-◌, ◌<◌, ◌≤◌, max, Bool, true, false, ◌||◌, if◌then◌else◌, ◌⊎◌, inl, inr, Option, Some, None, is_some, find, refl, ap, sym, ◌∙◌, subst, arith}
use Rattle.std.specs.Bool.{then_some}
use Rattle.std.specs.Option.{option_map, option_or}
use Rattle.std.specs.List.{range_with_len}
use Rattle.std.proofs.lemmas.Bool.{true≢false, cases_order}
use Rattle.log_model.specs.Logs.{steps}
use Rattle.rv_decode.specs.Accesses.{access_of}
use Rattle.replayer.specs.Jobs.{Job}
use Rattle.replayer.specs.Nexts.{IsPlainUntil}
use Rattle.replayer.specs.Positions.{CursorAt}
use Rattle.replayer.specs.Told.{AreTold, NoneYet, OneMore}
use Rattle.run_travel.specs.declared.aim.Aim.{Aim}
use Rattle.run_travel.specs.declared.aim.Aim.TheVariants.{Points}
use Rattle.run_travel.specs.declared.search.Stop.{Stop}
use Rattle.run_travel.specs.declared.watch.Watch.{Watch}
use Rattle.run_travel.specs.Stops.{PointsAt, met_at, pc_at, is_break, is_point, is_reached, stops_after, stops_before}
use Rattle.run_travel.specs.Moves.{stop_on, time_after}
use Rattle.run_travel.specs.Searches.{stop_at, last_met, found_back, IsRowOn, IsRowBack}
use Rattle.run_travel.specs.Looks.{LookingAt, looking, met_by_access, Looks, IsWanted}
use Rattle.run_travel.proofs.Finding.{from_first}
use Rattle.run_travel.proofs.Stopping.{stops_here, last_more}
use Rattle.run_travel.proofs.Accessing.{met_plain}

-- plain steps end within the run
pub plain_within : (job : Job) (t until : ℕ) → IsPlainUntil job t until → t ≤ steps job.log → until ≤ steps job.log
plain_within job t until is low = by (cases_order t until) where
  by : (t ≡ until) ⊎ ((t < until) ⊎ (until < t)) → until ≤ steps job.log
  by (inl same) = omega (arith, same, low)
  by (inr (inl less)) = let last = (is.plain (until - 1) (omega (arith, less)) (omega (arith, less))).below in omega (arith, less, last)
  by (inr (inr more)) = omega (arith, more, low)

-- after a step that he looks at, from what he saw before, where no watchpoint was met
looked_on : (job : Job) (points : PointsAt) (aim : Aim) (t : ℕ) (was next : LookingAt) (met : Option Watch) → was ≡ looking points aim met → met ≡ None
    → (seen : Option Watch) → next ≡ looking was.points was.aim (option_or was.met seen) → next ≡ looking points aim seen
looked_on job points aim t was next met is none seen e =
    e ∙ ap (λ (l : LookingAt). looking l.points l.aim (option_or l.met seen)) is
    ∙ ap (λ (o : Option Watch). looking points aim (option_or o seen)) none

abbrev standing : Job → ℕ → CursorAt
standing job time = record { job = job; time = time }

abbrev pub stop_with : ℕ → Option Watch → Stop
stop_with step met = record { step = step; met = met }

-- ---- forward

-- steps were made from one time up to another: the run stops after none of them but maybe the last, which met this
record IsLookOn (job : Job) (points : PointsAt) (aim : Aim) (first t : ℕ) (l : LookingAt) : Type 0 where
  later : first < t
  ahead : stop_on job points aim first ≡ stop_on job points aim (t - 1)
  is : l ≡ looking points aim (met_at job points (t - 1))

not_stopped : (job : Job) (points : PointsAt) (aim : Aim) (t : ℕ) (l : LookingAt) → 0 < t → l ≡ looking points aim (met_at job points (t - 1))
    → IsWanted l (pc_at job t) → stops_after job points aim (t - 1) ≡ false
not_stopped job points aim t l some is wanted =
    let n : t - 1 + 1 ≡ t = omega (arith, some) in
    let pc = pc_at job t in
    let met : met_at job points (t - 1) ≡ None = ap (λ (l : LookingAt). l.met) (sym is) ∙ wanted.none_met in
    let apart : is_break points pc ≡ false = ap (λ (l : LookingAt). is_break l.points pc) (sym is) ∙ wanted.no_break in
    let inside : is_reached aim pc ≡ false = ap (λ (l : LookingAt). is_reached l.aim pc) (sym is) ∙ wanted.not_reached in
    ap (λ (k : ℕ). is_point points (met_at job points (t - 1)) (pc_at job k) || is_reached aim (pc_at job k)) n
    ∙ ap (λ (o : Option Watch). is_point points o pc || is_reached aim pc) met
    ∙ ap (λ (b : Bool). b || is_reached aim pc) apart
    ∙ inside

row_on : (job : Job) (points : PointsAt) (aim : Aim) (first begun : ℕ) (was : LookingAt) → IsLookOn job points aim first begun was
    → (t : ℕ) (now : LookingAt) → AreTold Looks IsWanted job begun was t now → t ≤ steps job.log → IsLookOn job points aim first t now
row_on job points aim first begun was h t now NoneYet within = h
row_on job points aim first begun was h t now (OneMore last l step next so_far wanted fits at does) within =
    let before = row_on job points aim first begun was h last l so_far (omega (arith, within)) in
    let low = before.later in
    let stays = not_stopped job points aim last l (omega (arith, low)) before.is wanted in
    let n : last - 1 + 1 ≡ last = omega (arith, low) in
    let m : suc last - 1 ≡ last = omega arith in
    let none : met_at job points (last - 1) ≡ None = ap (λ (l : LookingAt). l.met) (sym before.is) ∙ wanted.none_met in
    let seen = met_by_access l.points (access_of step.instr) step.place in
    let same : seen ≡ met_at job points last = ap (λ (l : LookingAt). met_by_access l.points (access_of step.instr) step.place) before.is ∙ sym (met_plain job points last step at) in
    record {
      later = omega (arith, low);
      ahead =
          before.ahead
          ∙ from_first (stops_after job points aim) (last - 1) (steps job.log) (omega (arith, within, low))
          ∙ ap (λ (b : Bool). if b then Some (last - 1) else stop_on job points aim (last - 1 + 1)) stays
          ∙ ap (stop_on job points aim) (n ∙ sym m);
      is =
          looked_on job points aim last l next (met_at job points (last - 1)) before.is none seen does
          ∙ ap (looking points aim) (same ∙ ap (met_at job points) (sym m));
    }

-- a step that met this, and plain steps in a row, of which a run is told
pub record IsMadeRow (points : PointsAt) (aim : Aim) (before middle after : CursorAt) (until : ℕ) (was now : LookingAt) : Type 0 where
  pub below : before.time < steps before.job.log
  pub moved : middle ≡ record { job = before.job; time = before.time + 1 }
  pub was_is : was ≡ looking points aim (met_at before.job points before.time)
  pub plain : IsPlainUntil middle.job middle.time until
  pub same_job : after.job ≡ middle.job
  pub within : after.time ≤ max until middle.time
  pub told : AreTold Looks IsWanted middle.job middle.time was after.time now

-- where the run stands after them, and what was seen of the last one
pub record IsSeen (after : CursorAt) (now : LookingAt) (time pc : ℕ) (met : Option Watch) : Type 0 where
  pub time_is : time ≡ after.time
  pub pc_is : pc ≡ pc_at after.job after.time
  pub met_is : met ≡ now.met

pub made_row : (points : PointsAt) (aim : Aim) (before middle after : CursorAt) (until : ℕ) (was now : LookingAt) → IsMadeRow points aim before middle after until was now
    → (time pc : ℕ) (met : Option Watch) (stop : Option Stop) → IsSeen after now time pc met
    → stop ≡ then_some (is_point points met pc || is_reached aim pc) (stop_with (time - 1) met) → IsRowOn points aim before after stop
made_row points aim before middle after until was now made time pc met stop seen e =
    let job = before.job in
    let t = before.time in
    let m : t ≡ t + 1 - 1 = omega arith in
    let begun : IsLookOn job points aim t (t + 1) was = record {
      later = omega arith;
      ahead = ap (stop_on job points aim) m;
      is = made.was_is ∙ ap (λ (k : ℕ). looking points aim (met_at job points k)) m;
    } in
    let told = subst (λ (k : CursorAt). AreTold Looks IsWanted k.job k.time was after.time now) made.moved made.told in
    let plain = subst (λ (k : CursorAt). IsPlainUntil k.job k.time until) made.moved made.plain in
    let within = subst (λ (k : CursorAt). after.time ≤ max until k.time) made.moved made.within in
    let all = plain_within job (t + 1) until plain (omega (arith, made.below)) in
    let bound : after.time ≤ steps job.log = omega (arith, within, all, made.below) in
    let look = row_on job points aim t (t + 1) was begun after.time now told bound in
    let n : after.time ≡ after.time - 1 + 1 = let low = look.later in omega (arith, low) in
    let same = made.same_job ∙ ap (λ (k : CursorAt). k.job) made.moved in
    record {
      same_job = same;
      later = look.later;
      within = bound;
      ahead = look.ahead;
      is =
          e
          ∙ ap (λ (k : ℕ). then_some (is_point points met pc || is_reached aim pc) (stop_with (k - 1) met)) seen.time_is
          ∙ ap (λ (k : ℕ). then_some (is_point points met k || is_reached aim k) (stop_with (after.time - 1) met)) seen.pc_is
          ∙ ap (λ (o : Option Watch). then_some (is_point points o (pc_at after.job after.time) || is_reached aim (pc_at after.job after.time)) (stop_with (after.time - 1) o)) seen.met_is
          ∙ ap (λ (j : Job). then_some (is_point points now.met (pc_at j after.time) || is_reached aim (pc_at j after.time)) (stop_with (after.time - 1) now.met)) same
          ∙ ap (λ (l : LookingAt). then_some (is_point points l.met (pc_at job after.time) || is_reached aim (pc_at job after.time)) (stop_with (after.time - 1) l.met)) look.is
          ∙ ap (λ (k : ℕ). then_some (is_point points (met_at job points (after.time - 1)) (pc_at job k) || is_reached aim (pc_at job k)) (stop_at job points (after.time - 1))) n;
    }

-- where a row is made at a place of a job, the run stops after its last step
pub row_stopped : (job : Job) (points : PointsAt) (aim : Aim) (t : ℕ) (after : CursorAt) (stop : Option Stop) → IsRowOn points aim (record { job = job; time = t }) after stop
    → is_some stop ≡ true → (stop_on job points aim t ≡ Some (after.time - 1)) × (stop ≡ Some (stop_at job points (after.time - 1)))
row_stopped job points aim t after stop row some = by (stops_after job points aim (after.time - 1)) refl row.is where
  by : (b : Bool) → stops_after job points aim (after.time - 1) ≡ b → stop ≡ then_some b (stop_at job points (after.time - 1))
      → (stop_on job points aim t ≡ Some (after.time - 1)) × (stop ≡ Some (stop_at job points (after.time - 1)))
  by true stops e = let low = row.later in let high = row.within in (row.ahead ∙ stops_here job points aim (after.time - 1) (omega (arith, low, high)) stops, e)
  by false stops e = absurd (true≢false (sym some ∙ ap (λ (o : Option Stop). is_some o) e))

-- or it is to go on
pub row_goes_on : (job : Job) (points : PointsAt) (aim : Aim) (t : ℕ) (after : CursorAt) (stop : Option Stop) → IsRowOn points aim (record { job = job; time = t }) after stop
    → is_some stop ≡ false → stop_on job points aim t ≡ stop_on job points aim after.time
row_goes_on job points aim t after stop row none = by (stops_after job points aim (after.time - 1)) refl row.is where
  by : (b : Bool) → stops_after job points aim (after.time - 1) ≡ b → stop ≡ then_some b (stop_at job points (after.time - 1))
      → stop_on job points aim t ≡ stop_on job points aim after.time
  by true stops e = absurd (true≢false (sym (ap (λ (o : Option Stop). is_some o) e) ∙ none))
  by false stops e =
      let low = row.later in
      let high = row.within in
      let n : after.time - 1 + 1 ≡ after.time = omega (arith, low) in
      row.ahead
      ∙ from_first (stops_after job points aim) (after.time - 1) (steps job.log) (omega (arith, low, high))
      ∙ ap (λ (b : Bool). if b then Some (after.time - 1) else stop_on job points aim (after.time - 1 + 1)) stops
      ∙ ap (stop_on job points aim) n

-- at the end of the run there is no stop
pub none_at_end : (job : Job) (points : PointsAt) (aim : Aim) (t : ℕ) → t ≡ steps job.log → stop_on job points aim t ≡ None
none_at_end job points aim t e = let none : steps job.log - t ≡ 0 = omega (arith, e) in ap (λ (n : ℕ). find (stops_after job points aim) (range_with_len t n)) none

-- ---- back

-- steps were made from one time up to another: a run that goes back stops before none of them but maybe the last
record IsLookBack (job : Job) (points : PointsAt) (first t : ℕ) (l : LookingAt) : Type 0 where
  met : Option Watch
  is : l ≡ looking points Points met
  later : first ≤ t
  some : is_some met ≡ true → first < t
  last : found_back job points t ≡ option_or (last_met t met) (found_back job points first)

row_back : (job : Job) (points : PointsAt) (first : ℕ) (was : LookingAt) → was ≡ looking points Points None
    → (t : ℕ) (now : LookingAt) → AreTold Looks IsWanted job first was t now → IsLookBack job points first t now
row_back job points first was h t now NoneYet = record {
  met = None;
  is = h;
  later = omega arith;
  some = λ e. absurd (true≢false (sym e));
  last = refl;
}
row_back job points first was h t now (OneMore time l step next so_far wanted fits at does) =
    let before = row_back job points first was h time l so_far in
    let none : before.met ≡ None = ap (λ (l : LookingAt). l.met) (sym before.is) ∙ wanted.none_met in
    let pc = pc_at job time in
    let apart : is_break points pc ≡ false = ap (λ (l : LookingAt). is_break l.points pc) (sym before.is) ∙ wanted.no_break in
    let met = met_at job points time in
    let seen = met_by_access l.points (access_of step.instr) step.place in
    let same : seen ≡ met = ap (λ (l : LookingAt). met_by_access l.points (access_of step.instr) step.place) before.is ∙ sym (met_plain job points time step at) in
    let low = before.later in
    let more : suc time ≡ time + 1 = omega arith in
    let m : time ≡ suc time - 1 = omega arith in
    record {
      met = met;
      is = looked_on job points Points time l next before.met before.is none seen does ∙ ap (looking points Points) same;
      later = omega (arith, low);
      some = λ e. omega (arith, low);
      last =
          ap (found_back job points) more
          ∙ last_more job points time
          ∙ ap (option_or (then_some (stops_before job points time) (stop_at job points time)))
          (before.last ∙ ap (λ (o : Option Watch). option_or (last_met time o) (found_back job points first)) none)
          ∙ ap (λ (b : Bool). option_or (then_some (is_some met || b) (stop_with time met)) (found_back job points first)) apart
          ∙ ap (λ (o : Option Stop). option_or o (found_back job points first)) (told time met)
          ∙ ap (λ (k : ℕ). option_or (option_map (λ (watch : Watch). stop_with k (Some watch)) met) (found_back job points first)) m;
    }
  where
    told : (k : ℕ) (met : Option Watch) → then_some (is_some met || false) (stop_with k met) ≡ option_map (λ (watch : Watch). stop_with k (Some watch)) met
    told k None = refl
    told k (Some w) = refl

pub record IsMadeBack (points : PointsAt) (before after : CursorAt) (until most : ℕ) (was now : LookingAt) : Type 0 where
  pub was_is : was ≡ looking points Points None
  pub from : before.time ≤ most
  pub no_more : until ≤ most
  pub same_job : after.job ≡ before.job
  pub within : after.time ≤ max until before.time
  pub told : AreTold Looks IsWanted before.job before.time was after.time now

pub some_made : (points : PointsAt) (before after : CursorAt) (was now : LookingAt) → was ≡ looking points Points None
    → AreTold Looks IsWanted before.job before.time was after.time now → (time : ℕ) (met : Option Watch) → time ≡ after.time → met ≡ now.met
    → is_some met ≡ true → 0 < time
some_made points before after was now was_is told time met time_is met_is some =
    let look = row_back before.job points before.time was was_is after.time now told in
    let later = look.some (sym (ap (λ (o : Option Watch). is_some o) (met_is ∙ ap (λ (l : LookingAt). l.met) look.is)) ∙ some) in
    omega (arith, later, time_is)

pub made_back : (points : PointsAt) (before after : CursorAt) (until most : ℕ) (was now : LookingAt) → IsMadeBack points before after until most was now
    → (time : ℕ) (met : Option Watch) (stop : Option Stop) → time ≡ after.time → met ≡ now.met → stop ≡ last_met time met → IsRowBack points most before after stop
made_back points before after until most was now made time met stop time_is met_is e =
    let look = row_back before.job points before.time was made.was_is after.time now made.told in
    record {
      same_job = made.same_job;
      later = look.later;
      within = let within = made.within in let from = made.from in let no_more = made.no_more in omega (arith, within, from, no_more);
      last =
          look.last
          ∙ ap (λ (o : Option Stop). option_or o (found_back before.job points before.time))
          (sym (e ∙ ap (λ (k : ℕ). last_met k met) time_is ∙ ap (last_met after.time) (met_is ∙ ap (λ (l : LookingAt). l.met) look.is)));
    }

-- the last stop of a row is kept in place of the last one so far
pub kept_row : (job : Job) (points : PointsAt) (most t : ℕ) (after : CursorAt) (stop found first : Option Stop) → IsRowBack points most (record { job = job; time = t }) after stop
    → found_back job points t ≡ option_or found first → found_back job points after.time ≡ option_or (option_or stop found) first
kept_row job points most t after stop found first row so_far = row.last ∙ ap (option_or stop) so_far ∙ by stop where
  by : (o : Option Stop) → option_or o (option_or found first) ≡ option_or (option_or o found) first
  by None = refl
  by (Some s) = refl

-- ---- a row at a place of a job

pub place_of : (job : Job) (k : CursorAt) → k.job ≡ job → k ≡ record { job = job; time = k.time }
place_of job k e = ap (λ (j : Job). standing j k.time) e

pub row_at : (job : Job) (points : PointsAt) (aim : Aim) (before after : CursorAt) (stop : Option Stop) → before.job ≡ job
    → IsRowOn points aim before after stop → IsRowOn points aim (record { job = job; time = before.time }) after stop
row_at job points aim before after stop e row = subst (λ (k : CursorAt). IsRowOn points aim k after stop) (place_of job before e) row

pub row_back_at : (job : Job) (points : PointsAt) (most : ℕ) (before after : CursorAt) (stop : Option Stop) → before.job ≡ job
    → IsRowBack points most before after stop → IsRowBack points most (record { job = job; time = before.time }) after stop
row_back_at job points most before after stop e row = subst (λ (k : CursorAt). IsRowBack points most k after stop) (place_of job before e) row

-- the place after the last step of a row
pub after_last : (job : Job) (t : ℕ) (after : CursorAt) → after.job ≡ job → t < after.time → after ≡ record { job = job; time = time_after job (Some (after.time - 1)) }
after_last job t after e low = let n : after.time ≡ after.time - 1 + 1 = omega (arith, low) in place_of job after e ∙ ap (standing job) n
