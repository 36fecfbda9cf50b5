-- Texts, one after another.
use Rattle.std.proofs.Common.{◌≡◌, ℕ, ◌+◌, ◌<◌, List, [], ◌∷◌, ◌++◌, length, take, get_or, map, sym, ap, ◌∙◌, refl, arith}
use Rattle.std.specs.List.{flat_map, range_with_len}
use Rattle.std.proofs.lemmas.List.{flat_map_more, take_more}
use Rattle.std.proofs.lemmas.List.FromFn.{map-range_with_len_more}
use Rattle.log_model.specs.declared.CallRecord.{CallRecord}
use Rattle.log_model.specs.Moved.{received}
use Rattle.log_model.specs.Logs.{channel_text}

pub four_texts : (x y z u none one two three four : List ℕ) → none ≡ [] → one ≡ none ++ x → two ≡ one ++ y → three ≡ two ++ z → four ≡ three ++ u → four ≡ x ++ y ++ z ++ u
four_texts x y z u none one two three four a b d e f = rw (f, e, d, b, a) refl

pub more_channels : (old so_far new bytes : List ℕ) (calls : List CallRecord) (k : ℕ) → so_far ≡ old ++ flat_map channel_text (map (λ c. received c calls) (range_with_len 0 k)) → new ≡ so_far ++ channel_text bytes → bytes ≡ received k calls
    → new ≡ old ++ flat_map channel_text (map (λ c. received c calls) (range_with_len 0 (k + 1)))
more_channels old so_far new bytes calls k d e f =
    let channels = map (λ c. received c calls) (range_with_len 0 k) in
    e ∙ ap (λ (x : List ℕ). x ++ channel_text bytes) d ∙ ap (λ (x : List ℕ). (old ++ flat_map channel_text channels) ++ channel_text x) f
    ∙ flat_map_more channel_text old channels (received k calls)
    ∙ ap (λ (x : List (List ℕ)). old ++ flat_map channel_text x) (sym (map-range_with_len_more (λ c. received c calls) 0 k k (omega arith)))

-- the text of one more item of a list
pub next_text : {X : Type 0} (f : X → List ℕ) (xs : List X) (i : ℕ) (x : X) (start before after : List ℕ) → i < length xs → x ≡ get_or xs i x
    → before ≡ start ++ flat_map f (take i xs) → after ≡ before ++ f x → after ≡ start ++ flat_map f (take (i + 1) xs)
next_text {X} f xs i x start before after below item so_far pushed =
    let next : take i xs ++ x ∷ [] ≡ take (i + 1) xs = ap (λ (y : X). take i xs ++ y ∷ []) item ∙ sym (take_more xs i x below) in
    pushed
    ∙ ap (λ (text : List ℕ). text ++ f x) so_far
    ∙ flat_map_more f start (take i xs) x
    ∙ ap (λ (ys : List X). start ++ flat_map f ys) next
