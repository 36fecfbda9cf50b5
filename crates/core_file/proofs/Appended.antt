-- Parts that go to the end of some bytes, one after another.
use Rattle.std.proofs.Common.{◌≡◌, ℕ, List, ◌++◌}
use Rattle.lists.proofs.Lists.{append-twice}

pub seven : (old a b c d e f g : List ℕ) {one two three four five six seven : List ℕ}
    → one ≡ old ++ a → two ≡ one ++ b → three ≡ two ++ c → four ≡ three ++ d → five ≡ four ++ e → six ≡ five ++ f → seven ≡ six ++ g
    → seven ≡ old ++ (a ++ b ++ c ++ d ++ e ++ f ++ g)
seven old a b c d e f g {one} {two} {three} {four} {five} {six} {seven} p q r s t u v =
    let to_b = append-twice old a b one two p q in
    let to_c = append-twice old (a ++ b) c two three to_b r in
    let to_d = append-twice old (a ++ b ++ c) d three four to_c s in
    let to_e = append-twice old (a ++ b ++ c ++ d) e four five to_d t in
    let to_f = append-twice old (a ++ b ++ c ++ d ++ e) f five six to_e u in
    append-twice old (a ++ b ++ c ++ d ++ e ++ f) g six seven to_f v
