-- What the answers of capturing a run say.
use Rattle.std.specs.Prelude.{◌≡◌, ℕ, ◌^◌, ◌<◌, List, [], length, Option, None}
use Rattle.std.specs.Global.{Vec}
use Rattle.elf_model.specs.Image.{Image}
use Rattle.elf_model.specs.Window.{start_of}
use Rattle.log_model.specs.declared.Version.TheVariants.{Two}
use Rattle.log_model.specs.Logs.{Log, log_text}
use Rattle.record_model.specs.Counts.{capped}
use Rattle.record_model.specs.Recorded.{Setting, IsRecorded}
use Rattle.outer_io.specs.Tells.{Tells, Gains}
use Rattle.call_record.specs.Sources.{contents}
use Rattle.record_model.specs.declared.Unrecorded.{Unrecorded}
use Rattle.record_model.specs.declared.Unrecorded.TheVariants.{Window, LogTooLong}

-- the setting that the arguments of a capture say
abbrev pub setting_of : List ℕ → ℕ → List (Vec ℕ) → ℕ → ℕ → Setting
setting_of program pages inputs piece steps = record
    { program = program; pages = pages; inputs = contents inputs; piece = piece; steps = steps }

-- the log is that of the run, with the answers that the clock gave
pub record IsCaptured (s : Setting) (told told_after : Option (List ℕ)) (log : Log) : Type 0 where
  pub answers : List ℕ
  pub gained : Tells told told_after (Gains answers)
  pub recorded : IsRecorded s answers log

-- the log of the run has this many bytes as far as they are counted, more than a recorded log may have
pub record IsTooLong (s : Setting) (told told_after : Option (List ℕ)) (size : ℕ) : Type 0 where
  pub log : Log
  pub captured : IsCaptured s told told_after log
  pub size_is : size ≡ capped (length (log_text Two log))
  pub over : 2 ^ 26 < size

-- a window that can't hold the image, where the clock isn't read; or a log that is too long
abbrev pub IsCause : Setting → Image → Option (List ℕ) → Option (List ℕ) → Unrecorded → Type 0
IsCause s im told told_after (Window window) = (window.pages ≡ s.pages) × (start_of im s.pages ≡ None) × Tells told told_after (Gains [])
IsCause s im told told_after (LogTooLong size) = IsTooLong s told told_after size
