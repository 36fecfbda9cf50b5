use Rattle.std.proofs.Common.{◌≡◌, ◌++◌, take}
use Rattle.std.specs.Prelude.{codes}
use Rattle.std.specs.List.{flat_map}
use Rattle.printed_names.specs.Quoted.{quoted_byte}
use Rattle.printed_names.proofs.quoted.push_quoted.Given as goal

-- the quotation mark, and the bytes so far
abbrev pub invariant-loop-byte : goal.invariant-loop-byte
invariant-loop-byte l = l.out.items ≡ l.fn.out.items ++ codes "\"" ++ flat_map quoted_byte (take l.byte-index l.shown)
