-- The inputs of a run.
use Rattle.std.specs.Prelude.{ℕ, ◌^◌, ◌≤◌, List, length, map}
use Rattle.std.specs.Global.{Vec}
use Rattle.record_model.specs.Recorded.{input_of}
use Rattle.call_record.specs.declared.source.Source.{Source}

abbrev pub contents : List (Vec ℕ) → List (List ℕ)
contents inputs = map (λ (v : Vec ℕ). v.items) inputs

-- at most 16 inputs, each of at most 2^26 bytes
pub record IsSource (source : Source) : Type 0 where
  pub few : length source.inputs.now ≤ 16
  pub short : (c : ℕ) → length (input_of (contents source.inputs.now) c) ≤ 2 ^ 26
