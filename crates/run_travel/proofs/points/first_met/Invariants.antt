use Rattle.std.proofs.Common.{◌≡◌, drop, find}
use Rattle.run_travel.specs.Looks.{meets_bytes}
use Rattle.run_travel.proofs.points.first_met.Given as goal

-- the first is none of those so far
abbrev pub invariant-loop-watch : goal.invariant-loop-watch
invariant-loop-watch l = find (meets_bytes l.written l.read) l.watches ≡ find (meets_bytes l.written l.read) (drop l.watch-index l.watches)
