-- What the parts of reading give: the header, the channels, and what is after them.
use Rattle.std.specs.Prelude.{◌≡◌, ℕ, ◌≤◌, List, false, length, take, drop, Some, None, Result}
use Rattle.lists.specs.Fields.{word_at}
use Rattle.log_model.specs.declared.Version.{Version}
use Rattle.log_model.specs.declared.Version.TheVariants.{One, Two}
use Rattle.log_model.specs.declared.LogKind.{LogKind}
use Rattle.log_model.specs.Faults.{version_of, header_fault, channel_count, channel_length, is_channel_cut}
use Rattle.log_model.specs.Reading.{Body, Channels, channels_of, body_in}
use Rattle.replay_log.specs.declared.header.Header.{Header}

-- the header of the bytes, which has no fault
pub record IsHeader (bytes : List ℕ) (header : Header) : Type 0 where
  pub none : header_fault bytes ≡ None
  pub version : version_of bytes ≡ Some header.version
  pub whole : 48 ≤ length bytes
  pub digest : header.digest ≡ take 32 (drop 8 bytes)
  pub pages : header.pages ≡ word_at bytes 40
  pub inputs : header.inputs ≡ word_at bytes 44

-- the channel at the front, which is whole, and the bytes after it
pub record IsFrontChannel (rest channel after : List ℕ) : Type 0 where
  pub whole : is_channel_cut rest ≡ false
  pub channel_is : channel ≡ take (word_at rest 0) (drop 4 rest)
  pub after_is : after ≡ drop (channel_length rest) rest

-- how many channels follow a header with so many inputs
abbrev pub count_of : Version → ℕ → ℕ
count_of One inputs = 0
count_of Two inputs = inputs

-- the channels that are after the header, and the bytes after them, or the first fault there
abbrev pub channels : Version → List ℕ → Result Channels (LogKind × ℕ)
channels version bytes = channels_of (channel_count version bytes) 48 (drop 48 bytes)

-- the calls and the end that are after the header, or the first fault there
abbrev pub body : Version → List ℕ → Result Body (LogKind × ℕ)
body version bytes = body_in (Some version) bytes
