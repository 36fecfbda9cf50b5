-- Room in the text of rows.
use Rattle.std.specs.Prelude.{◌≤◌, ℕ, List, length}

-- a push, which adds fewer than 320 bytes, has room behind these: there are 1024
abbrev pub HasRoom : List ℕ → Type 0
HasRoom text = length text ≤ 704
