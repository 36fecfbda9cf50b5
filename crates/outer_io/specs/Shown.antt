-- What the outside shows.
use Rattle.std.specs.Prelude.{ℕ, List, Option}
use Rattle.outer_io.specs.Files.{Files, Text}

-- what a store shows
pub record StoreShown : Type 0 where
  -- its files, if it tells them: the content of each, and what is being read and written
  pub files : Option Files
  -- the names handed to `begin_read` and `create` so far, if it tells them
  pub opened : Option (List Text)
  -- how often it failed
  pub faults : ℕ

-- what a sink shows
pub record SinkShown : Type 0 where
  -- what was written so far, if it tells it
  pub written : Option (List ℕ)
  -- how often it failed
  pub faults : ℕ
