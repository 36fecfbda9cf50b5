-- What one who looks at plain steps in a row sees of each, and which he wants.
use Rattle.std.specs.Prelude.{◌≡◌, ℕ, Bool, false, Option, None}
use Rattle.std.specs.List.{find}
use Rattle.std.specs.Option.{option_or}
use Rattle.isa.specs.declared.Instr.{Instr}
use Rattle.rv_decode.specs.Accesses.{Access, access_of}
use Rattle.checkpoints.specs.Touched.{size_stored}
use Rattle.run_travel.specs.declared.access.Span.{Span}
use Rattle.run_travel.specs.declared.aim.Aim.{Aim}
use Rattle.run_travel.specs.declared.watch.Watch.{Watch}
use Rattle.run_travel.specs.Accesses.{size_loaded}
use Rattle.run_travel.specs.Stops.{PointsAt, looks_at, is_looked_for, is_break, is_reached}

-- the points and the aim of a move, and the watchpoint that the last step met
pub record LookingAt : Type 0 where
  pub points : PointsAt
  pub aim : Aim
  pub met : Option Watch

abbrev pub looking : PointsAt → Aim → Option Watch → LookingAt
looking points aim met = record { points = points; aim = aim; met = met }

-- a step that writes and reads these bytes does what a watchpoint looks for
abbrev pub meets_bytes : (written read : Span) → Watch → Bool
meets_bytes written read w = is_looked_for w.kind (looks_at w written) (looks_at w read)

abbrev pub span : ℕ → ℕ → Span
span place size = record { place = place; size = size }

-- the watchpoint that a plain step meets, by what it does with memory at a place
abbrev pub met_by_access : PointsAt → Access → ℕ → Option Watch
met_by_access points a place = find (meets_bytes (span place (size_stored a)) (span place (size_loaded a))) points.watches

-- he keeps the watchpoint that a step meets, unless he has one
abbrev pub looked : LookingAt → Access → ℕ → LookingAt
looked was a place = looking was.points was.aim (option_or was.met (met_by_access was.points a place))

abbrev pub Looks : LookingAt → Instr → ℕ → LookingAt → Type 0
Looks was instr place next = next ≡ looked was (access_of instr) place

-- he wants a step that begins at a pc where the move doesn't stop, unless the last one met a watchpoint
pub record IsWanted (l : LookingAt) (pc : ℕ) : Type 0 where
  pub none_met : l.met ≡ None
  pub no_break : is_break l.points pc ≡ false
  pub not_reached : is_reached l.aim pc ≡ false
