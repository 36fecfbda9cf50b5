-- The texts of times, each at the place of its time.
use Rattle.std.proofs.Common.{◌≡◌, ◌+◌, ◌<◌, ℕ, List, [], ◌∷◌, ◌++◌, take, Vec, length, map, get_or, ap, sym, ◌∙◌, arith}
use Rattle.std.specs.declared.alloc.Global.{Global}
use Rattle.std.proofs.lemmas.List.{get_or-map, map_more, map_push}

-- the text at the place of a time is that of the time
pub found : (times : List ℕ) (texts : List (Vec ℕ Global)) (text_of : ℕ → List ℕ) (place time : ℕ) (own : Vec ℕ Global)
    → map (λ (text : Vec ℕ Global). text.items) texts ≡ map text_of times → length texts ≡ length times → place < length times → get_or times place 0 ≡ time
    → own ≡ get_or texts place own → own.items ≡ text_of time
found times texts text_of place time own e same below there is =
    let items = λ (text : Vec ℕ Global). text.items in
    let within : place < length texts = omega (arith, same) in
    ap items is ∙ sym (get_or-map items texts place own [] within) ∙ ap (λ (all : List (List ℕ)). get_or all place []) e
    ∙ get_or-map text_of times place 0 [] below ∙ ap text_of there

-- one text more
pub texts_more : (times : List ℕ) (i : ℕ) (texts more : List (Vec ℕ Global)) (text_of : ℕ → List ℕ) (text : Vec ℕ Global) → i < length times → more ≡ texts ++ text ∷ []
    → text.items ≡ text_of (get_or times i 0) → map (λ (text : Vec ℕ Global). text.items) texts ≡ map text_of (take i times)
    → map (λ (text : Vec ℕ Global). text.items) more ≡ map text_of (take (i + 1) times)
texts_more times i texts more text_of text below pushed is before =
    let items = λ (text : Vec ℕ Global). text.items in
    ap (map items) pushed ∙ map_push items texts text ∙ ap (λ (all : List (List ℕ)). all ++ text.items ∷ []) before
    ∙ ap (λ (last : List ℕ). map text_of (take i times) ++ last ∷ []) is ∙ sym (map_more text_of times i 0 below)
