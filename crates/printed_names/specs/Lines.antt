-- The last line of a text.
use Rattle.std.specs.Prelude.{ℕ, List, [], ◌∷◌, ◌++◌, codes}
use Rattle.std.specs.Fmt.{decimal}

-- `end N`, N the number of the lines before it: a text that was cut off is known by it
abbrev pub lines_end : ℕ → List ℕ
lines_end n = codes "end " ++ decimal n ++ 0x0a ∷ []
