-- Which files may be replaced.
use Rattle.std.specs.Prelude.{◌≡◌, ◌⊎◌, ℕ, List, []}
use Rattle.outer_io.specs.Tells.{IsPrefix}
use Rattle.outer_io.specs.declared.replacing.FileKind.{FileKind}
use Rattle.outer_io.specs.declared.replacing.FileKind.TheVariants.{Missing, Regular, Unreadable, Other, Unknown}

-- with this mark a name may be written of which this is known: it is that of no regular file, or the file is empty, or begins with
-- the mark
abbrev pub IsReplaceable : FileKind → List ℕ → Type 0
IsReplaceable Missing mark = Unit {0}
IsReplaceable (Regular front) mark = (front.now ≡ []) ⊎ IsPrefix mark front.now
IsReplaceable Unreadable mark = ⊥
IsReplaceable Other mark = Unit {0}
IsReplaceable Unknown mark = ⊥
