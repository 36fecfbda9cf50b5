-- The points and the output bytes of a trace, apart.
use Rattle.std.proofs.Common.{◌≡◌, ℕ, ◌+◌, ◌==◌, ◌≤◌, Bool, true, false, ◌&&◌, List, [], ◌∷◌, ◌++◌, length, map, refl, ap, ap₂, sym, ◌∙◌, arith, cond}
use Rattle.std.specs.Prelude.{nat_le, max, if◌then◌else◌}
use Rattle.std.specs.List.{filter}
use Rattle.std.proofs.lemmas.Bool.Decides.{nat_tests}
use Rattle.flow_model.specs.declared.InnerSink.{InnerSink}
use Rattle.flow_model.specs.declared.StepSeen.{StepSeen}
use Rattle.report_model.specs.Query.{Query, has_sink}
use Rattle.report_model.specs.Rows.{Sink, sinks_of_step, sinks_from, points_at, point_sink, at_time}
use Rattle.report_model.proofs.Needed.{needed_by, needed_by-append}
use Rattle.run_beginning.specs.Need.{steps_for_points}

-- what the output bytes of a trace need, from a time on
abbrev pub chosen_of_step : Query → ℕ → StepSeen → List Sink
chosen_of_step q t s = filter (λ x. has_sink q x.name) (sinks_of_step t s.call)

abbrev pub bytes_need : Query → ℕ → List StepSeen → ℕ
bytes_need q t [] = 0
bytes_need q t (s ∷ ss) = max (needed_by (chosen_of_step q t s)) (bytes_need q (t + 1) ss)

-- a number between two others, and else 0
abbrev if_between : ℕ → ℕ → ℕ → ℕ
if_between low high n = if nat_le low n && nat_le n high then n else 0

-- the greatest time of the points between two times
abbrev between : ℕ → ℕ → List InnerSink → ℕ
between low high [] = 0
between low high (p ∷ ps) = max (if_between low high p.time) (between low high ps)

-- ---- the points of one time

one_time : (t n : ℕ) (b : Bool) → (n == t) ≡ b → (nat_le t n && nat_le n t) ≡ b
one_time t n true e = grind (arith, nat_tests)
one_time t n false e = grind (arith, nat_tests)

at_one : (t : ℕ) (ps : List InnerSink) → needed_by (map point_sink (at_time t ps)) ≡ between t t ps
at_one t [] = refl
at_one t (p ∷ ps) = by (p.time == t) refl (at_one t ps) where
  by : (b : Bool) → (p.time == t) ≡ b → needed_by (map point_sink (at_time t ps)) ≡ between t t ps
      → needed_by (map point_sink (cond b (p ∷ at_time t ps) (at_time t ps))) ≡ between t t (p ∷ ps)
  by true e rest = ap (λ (n : ℕ). max p.time n) rest ∙ ap (λ (b : Bool). max (if b then p.time else 0) (between t t ps)) (sym (one_time t p.time true e))
  by false e rest =
      let none : needed_by (map point_sink (at_time t ps)) ≡ max 0 (between t t ps) = omega (arith, rest) in
      none ∙ ap (λ (b : Bool). max (if b then p.time else 0) (between t t ps)) (sym (one_time t p.time false e))

-- ---- the points from a time on

one_apart : (t high n : ℕ) → t ≤ high → max (if_between t t n) (if_between (t + 1) high n) ≡ if_between t high n
one_apart t high n h = grind (arith, nat_tests)

apart : (t high : ℕ) (ps : List InnerSink) → t ≤ high → max (between t t ps) (between (t + 1) high ps) ≡ between t high ps
apart t high [] h = refl
apart t high (p ∷ ps) h = omega (arith, one_apart t high p.time h, apart t high ps h)

pub sinks_need : (q : Query) (t : ℕ) (ss : List StepSeen) → needed_by (sinks_from q t ss) ≡ max (between t (t + length ss) q.points) (bytes_need q t ss)
sinks_need q t [] =
    let high : t ≡ t + length {A = StepSeen} [] = omega arith in
    let here : needed_by (points_at q t) ≡ between t (t + length {A = StepSeen} []) q.points = at_one t q.points ∙ ap (λ (n : ℕ). between t n q.points) high in
    omega (arith, here)
sinks_need q t (s ∷ ss) =
    let high : t + 1 + length ss ≡ t + length (s ∷ ss) = omega arith in
    let parts = needed_by-append (points_at q t ++ chosen_of_step q t s) (sinks_from q (t + 1) ss) in
    let first = needed_by-append (points_at q t) (chosen_of_step q t s) in
    let later = sinks_need q (t + 1) ss in
    let same : between (t + 1) (t + 1 + length ss) q.points ≡ between (t + 1) (t + length (s ∷ ss)) q.points = ap (λ (n : ℕ). between (t + 1) n q.points) high in
    omega (arith, parts, first, later, same, at_one t q.points, apart t (t + length (s ∷ ss)) q.points (omega arith))

one_inside : (high n : ℕ) → if_between 0 high n ≡ (if nat_le n high then n else 0)
one_inside high n = grind (arith, nat_tests)

inside : (high : ℕ) (ps : List InnerSink) → between 0 high ps ≡ steps_for_points high ps
inside high [] = refl
inside high (p ∷ ps) = ap₂ (λ (m n : ℕ). max m n) (one_inside high p.time) (inside high ps)

-- the sinks of a whole trace
pub all_need : (q : Query) (n : ℕ) (ss : List StepSeen) → length ss ≡ n → needed_by (sinks_from q 0 ss) ≡ max (steps_for_points n q.points) (bytes_need q 0 ss)
all_need q n ss e =
    let high : 0 + length ss ≡ n = omega (arith, e) in
    sinks_need q 0 ss ∙ ap (λ (k : ℕ). max k (bytes_need q 0 ss)) (ap (λ (k : ℕ). between 0 k q.points) high ∙ inside n q.points)
