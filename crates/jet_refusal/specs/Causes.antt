-- What a refusal is owed to.
use Rattle.jet_refusal.specs.declared.refusal.Refusal.{Refusal}
use Rattle.jet_refusal.specs.declared.refusal.Refusal.TheVariants as refusal

-- what holds where the words are no command, where the files are refused for what they hold, where a file could not be read, and
-- where the text could not be written
pub record Causes : Type 1 where
  pub usage : Type 0
  pub files : Type 0
  pub read : Type 0
  pub write : Type 0

-- the one of these that the refusal is owed to. Out of memory says nothing
abbrev pub IsOwedTo : Causes → Refusal → Type 0
IsOwedTo causes refusal.Usage = causes.usage
IsOwedTo causes (refusal.Image fault) = causes.files
IsOwedTo causes (refusal.Window pages) = causes.files
IsOwedTo causes (refusal.Log kind offset) = causes.files
IsOwedTo causes (refusal.Program kept seen) = causes.files
IsOwedTo causes (refusal.Diverged d) = causes.files
IsOwedTo causes (refusal.Query line kind) = causes.files
IsOwedTo causes (refusal.QueryOf file line kind) = causes.files
IsOwedTo causes (refusal.Rules first index other) = causes.files
IsOwedTo causes refusal.TooLong = causes.files
IsOwedTo causes (refusal.LogTooLong size) = causes.files
IsOwedTo causes (refusal.TooManyEpochs count) = causes.files
IsOwedTo causes refusal.ReadFault = causes.read
IsOwedTo causes refusal.WriteFault = causes.write
IsOwedTo causes (refusal.NoMemory no_memory) = Unit {0}
