-- Source bytes whose names differ in one digit.
use Rattle.std.specs.Prelude.{◌≡◌, ◌+◌, ◌%◌}
use Rattle.flow_model.specs.declared.SourceByte.{SourceByte}

-- the second byte is the next on the channel, and its offset doesn't end in 0
pub record IsNextDigit (last next : SourceByte) : Type 0 where
  pub channel : next.channel ≡ last.channel
  pub offset : next.offset ≡ last.offset + 1
  pub digit : next.offset % 10 ≡ 0 → ⊥
