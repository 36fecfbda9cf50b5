use Rattle.std.proofs.Common.{◌≡◌, drop}
use Rattle.memory_outside.specs.Held.{entries_of, content_of}
use Rattle.memory_outside.proofs.files.content.Given as goal

-- no file so far has this name
abbrev pub invariant-loop-file : goal.invariant-loop-file
invariant-loop-file l = content_of (entries_of (drop l.file-index l.files)) l.name ≡ content_of (entries_of l.files) l.name
