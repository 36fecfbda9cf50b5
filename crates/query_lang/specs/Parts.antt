-- The parts into which a line is cut, one word at a time, and numbers in words.
use Rattle.std.specs.Prelude.{ℕ, nat_lt, nat_le, Bool, ◌&&◌, List, length, take, drop, not}
use Rattle.std.specs.List.{position_or_len}
use Rattle.std.specs.Str.{all_ascii_digits}
use Rattle.std.specs.Str.Parse.{digits_value}
use Rattle.report_model.specs.Grammar.{is_blank}

-- the text from its first byte that is no blank
abbrev pub from_word : List ℕ → List ℕ
from_word text = drop (position_or_len (λ b. not (is_blank b)) text) text

-- what stands before the first blank
abbrev pub first_word : List ℕ → List ℕ
first_word text = take (position_or_len is_blank text) text

-- the first blank, and what stands after it
abbrev pub after_word : List ℕ → List ℕ
after_word text = drop (position_or_len is_blank text) text

-- 1 to n decimal digits, that write m at most
abbrev pub is_written_within : ℕ → ℕ → List ℕ → Bool
is_written_within n m word = nat_lt 0 (length word) && nat_le (length word) n && all_ascii_digits word && nat_le (digits_value 10 word) m
