-- The steps at which a run stops, as the code finds them.
use Rattle.std.proofs.Common.{◌≡◌, ℕ, ◌+◌, ◌<◌, ◌≤◌, Bool, true, false, List, [], ◌∷◌, if◌then◌else◌, Option, Some, None, length, length-take, slice_get, refl, ap, sym, ◌∙◌, add-one, arith}
use Rattle.std.specs.Bool.{then_some}
use Rattle.std.specs.Option.{option_map, option_or}
use Rattle.std.proofs.lemmas.Option.{same_Some}
use Rattle.log_model.specs.Logs.{steps}
use Rattle.replayer.specs.Jobs.{Job}
use Rattle.replayer.specs.Positions.{CursorAt}
use Rattle.checkpoints.specs.Points.{beginnings}
use Rattle.run_travel.specs.declared.aim.Aim.{Aim}
use Rattle.run_travel.specs.declared.search.Stop.{Stop}
use Rattle.run_travel.specs.Stops.{PointsAt, stops_after, stops_before}
use Rattle.run_travel.specs.Moves.{stop_on, stop_back}
use Rattle.run_travel.specs.MoveLaws.{IsGreatest}
use Rattle.run_travel.specs.Searches.{stop_at, found_back, BeginsAtZero}
use Rattle.run_travel.proofs.Finding.{from_first, from_last, greatest}

pub stops_here : (job : Job) (points : PointsAt) (aim : Aim) (t : ℕ) → t < steps job.log → stops_after job points aim t ≡ true → stop_on job points aim t ≡ Some t
stops_here job points aim t h e =
    from_first (stops_after job points aim) t (steps job.log) h
    ∙ ap (λ (b : Bool). if b then Some t else stop_on job points aim (t + 1)) e

-- ---- one step more

-- the last stop before time t + 1 is step t, or else one before
pub last_more : (job : Job) (points : PointsAt) (t : ℕ)
    → found_back job points (t + 1) ≡ option_or (then_some (stops_before job points t) (stop_at job points t)) (found_back job points t)
last_more job points t =
    ap (found_back job points) (add-one t)
    ∙ ap (option_map (stop_at job points)) (from_last (stops_before job points) t)
    ∙ by (stops_before job points t)
  where
    by : (b : Bool) → option_map (stop_at job points) (if b then Some t else stop_back job points t) ≡ option_or (then_some b (stop_at job points t)) (found_back job points t)
    by true = refl
    by false = refl

-- where a cursor stands at time t, the run makes a step, and it is kept where it is a stop, in place of the last one so far
pub kept : (job : Job) (points : PointsAt) (t : ℕ) (before : CursorAt) (stop found first : Option Stop) → before ≡ record { job = job; time = t }
    → stop ≡ then_some (stops_before before.job points before.time) (stop_at before.job points before.time)
    → found_back job points t ≡ option_or found first → found_back job points (t + 1) ≡ option_or (option_or stop found) first
kept job points t before stop found first here is so_far =
    let stop_is = is ∙ ap (λ (k : CursorAt). then_some (stops_before k.job points k.time) (stop_at k.job points k.time)) here in
    last_more job points t
    ∙ ap (λ (o : Option Stop). option_or o (found_back job points t)) (sym stop_is)
    ∙ ap (option_or stop) so_far
    ∙ by stop
  where
    by : (o : Option Stop) → option_or o (option_or found first) ≡ option_or (option_or o found) first
    by None = refl
    by (Some s) = refl

-- what is found before a time is before it
pub found_before : (job : Job) (points : PointsAt) (t : ℕ) (stop : Stop) → Some stop ≡ found_back job points t → stop.step < t
found_before job points t stop e = by (stop_back job points t) e (greatest (stops_before job points) t) where
  by : (o : Option ℕ) → Some stop ≡ option_map (stop_at job points) o → IsGreatest (stops_before job points) 0 t o → stop.step < t
  by None e is = absurd cc
  by (Some n) e is = let same = ap (λ (s : Stop). s.step) (same_Some stop (stop_at job points n) e) in omega (arith, same, is.1)

-- ---- checkpoints

pub begins : (cuts times : List ℕ) (count : ℕ) → count ≡ length cuts → 1 ≤ count → times ≡ beginnings cuts → BeginsAtZero count times
begins [] times count c some e = absurd (omega arith)
begins (cut ∷ cuts) times count c some e = record {
  counted = omega (arith, c, ap length e, length-take (length (cut ∷ cuts)) (0 ∷ cut ∷ cuts));
  some = omega arith;
  first = ap (λ (ts : List ℕ). slice_get ts 0) e;
}
