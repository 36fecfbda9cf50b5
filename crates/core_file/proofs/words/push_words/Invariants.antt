use Rattle.std.proofs.Common.{◌≡◌, ◌++◌, take}
use Rattle.core_file.specs.Headers.{words}
use Rattle.core_file.proofs.words.push_words.Given as goal

-- the fields so far
abbrev pub invariant-loop-field : goal.invariant-loop-field
invariant-loop-field l = l.file.items ≡ l.fn.file.items ++ words (take l.field-index l.fields)
