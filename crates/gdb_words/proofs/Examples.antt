-- Lines of words, and the request that each stands for. The words of a line stand between single spaces.
use Rattle.std.proofs.Common.{◌≡◌, refl, true, false, ℕ, Bool, List, [], ◌∷◌, map, Some, is_none, codes, nat_eq}
use Rattle.std.specs.List.{list_all}
use Rattle.std.specs.Str.{chars}
use Rattle.clap.specs.Words.{Text}
use Rattle.clap.specs.Walk.{walked, bundle_met}
use Rattle.clap.specs.Takes.{walk_passes, flags_pass}
use Rattle.gdb_words.specs.Requests.{RequestOf, request_of}

abbrev before_word : Bool → ℕ → List Text → List Text
before_word true c words = [] ∷ words
before_word false c [] = (c ∷ []) ∷ []
before_word false c (word ∷ words) = (c ∷ word) ∷ words

abbrev words_of : Text → List Text
words_of [] = [] ∷ []
words_of (c ∷ rest) = before_word (nat_eq c 32) c (words_of rest)

abbrev Line : Type 0
Line = Text × RequestOf

abbrev debugged : Text → Text → Text → ℕ → Line
debugged line program log time = (line, record { program = program; log = log; time = time })

-- each line stands for its request
abbrev Stands : List Line → Type 0
Stands lines = map (λ line. request_of (words_of line.0)) lines ≡ map (λ line. Some line.1) lines

abbrev AreRefused : List Text → Type 0
AreRefused lines = list_all (λ line. is_none (request_of (words_of line))) lines ≡ true

requests : Stands (
    debugged (codes "jet-gdb p l") (codes "p") (codes "l") 0
    ∷ debugged (codes "jet-gdb p l 31363") (codes "p") (codes "l") 31363
    ∷ debugged (codes "jet-gdb p l 1099511627776") (codes "p") (codes "l") 1099511627776
    ∷ debugged (codes "jet-gdb p l +7") (codes "p") (codes "l") 7
    ∷ debugged (codes "jet-gdb p l 007") (codes "p") (codes "l") 7
    -- the program's name isn't looked at
    ∷ debugged (codes "a b b") (codes "b") (codes "b") 0
    ∷ debugged (codes "jet-gdb -- p --l 5") (codes "p") (codes "--l") 5 ∷ [])
unfolding request_of walked walk_passes
requests = refl

refused : AreRefused (
    codes "jet-gdb" ∷ codes "jet-gdb p" ∷ codes "jet-gdb p l 1 2" ∷ codes "jet-gdb p l 1099511627777" ∷ codes "jet-gdb p l a"
    ∷ codes "jet-gdb p l 0x10" ∷ codes "jet-gdb p l " ∷ codes "jet-gdb --help" ∷ codes "jet-gdb p l --version" ∷ codes "jet-gdb p l --steps 1" ∷ [])
unfolding request_of walked walk_passes
refused = refl

short_flags : AreRefused (codes "jet-gdb -h" ∷ codes "jet-gdb p l -1" ∷ [])
unfolding request_of walked walk_passes bundle_met flags_pass chars
short_flags = refl
