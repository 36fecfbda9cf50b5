-- What a wire gains where a text is sent.
use Rattle.std.specs.Prelude.{◌≡◌, ℕ, List, ◌++◌, map}
use Rattle.outer_io.specs.Tells.{IsPrefix}
use Rattle.outer_wire.specs.Wires.{Passed, Went, went}

-- these bytes went, in some pieces, and none came
pub record Sends (bytes : List ℕ) (old new : List Passed) : Type 0 where
  pub pieces : List (List ℕ)
  pub gains : new ≡ old ++ map Went pieces
  pub whole : went (map Went pieces) ≡ bytes

-- the first of these bytes went, in some pieces, and none came
pub record SendsPrefix (bytes : List ℕ) (old new : List Passed) : Type 0 where
  pub part : List ℕ
  pub is_prefix : IsPrefix part bytes
  pub sends : Sends part old new
