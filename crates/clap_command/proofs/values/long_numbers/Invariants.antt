use Rattle.std.proofs.Common.{◌≡◌, ℕ, List, map, take, Bor}
use Rattle.clap_command.specs.Values.{number_in}
use Rattle.clap_command.proofs.values.long_numbers.Given as goal

-- the numbers so far
abbrev pub invariant-loop-numeral : goal.invariant-loop-numeral
invariant-loop-numeral l = l.numbers.items ≡ map (λ (s : Bor (List ℕ)). number_in s.now) (take l.numeral-index l.numerals)
