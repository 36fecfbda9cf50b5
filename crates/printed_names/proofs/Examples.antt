-- Worked examples, computed by the checker.
use Rattle.std.proofs.Common.{◌≡◌, ◌∷◌, [], refl}
use Rattle.std.specs.Prelude.{codes}
use Rattle.hex.specs.Hex.{encode_with}
use Rattle.printed_names.specs.Quoted.{quoted_text}

nothing-quoted : quoted_text [] ≡ codes "\"\""
nothing-quoted = refl

word-quoted : quoted_text (codes "C00027 ~") ≡ codes "\"C00027 ~\""
word-quoted = refl

-- a quotation mark, a backslash, a line feed, and the bytes beside the plain ones
others-quoted : quoted_text (0x22 ∷ 0x5c ∷ 10 ∷ 0x1f ∷ 0x7f ∷ 0xab ∷ []) ≡ codes "\"\\x22\\x5c\\x0a\\x1f\\x7f\\xab\""
unfolding encode_with
others-quoted = refl

-- 24 bytes are shown whole, and of 25 the first 24
whole-quoted : quoted_text (codes "abcdefghijklmnopqrstuvwx") ≡ codes "\"abcdefghijklmnopqrstuvwx\""
whole-quoted = refl

long-quoted : quoted_text (codes "abcdefghijklmnopqrstuvwxy") ≡ codes "\"abcdefghijklmnopqrstuvwx\".."
long-quoted = refl
