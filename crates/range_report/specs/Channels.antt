-- Bytes by channel, in a table.
use Rattle.std.specs.Prelude.{◌≡◌, ℕ, ◌<◌, List, [], length, get_or}
use Rattle.log_model.specs.declared.CallRecord.{CallRecord}

-- a table has for each channel that a byte can number what these calls moved on it
pub record IsTable (moved : ℕ → List CallRecord → List ℕ) (calls : List CallRecord) (table : List (List ℕ)) : Type 0 where
  pub long : length table ≡ 256
  pub each : (channel : ℕ) → channel < 256 → get_or table channel [] ≡ moved channel calls
