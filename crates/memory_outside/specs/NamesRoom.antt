-- The room that is kept for names.
use Rattle.std.specs.Prelude.{◌≡◌, ◌≤◌, sum, length, vec_capacity}
use Rattle.memory_outside.specs.declared.names.OpenedNames.TheInside.{Inside}

pub record IsRoomy (a : Inside) : Type 0 where
  pub whole : sum a.lengths.items ≡ length a.bytes.items
  pub few_bytes : length a.bytes.items ≤ 16384
  pub few_names : length a.lengths.items ≤ 256
  pub bytes : 16384 ≤ vec_capacity a.bytes
  pub lengths : 256 ≤ vec_capacity a.lengths
