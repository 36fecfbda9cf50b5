-- One more answer.
use Rattle.std.proofs.Common.{◌≡◌, ℕ, ◌+◌, List, ◌++◌, ◌∷◌, [], refl, add-one}
use Rattle.memory_outside.specs.ListClock.{answers_of, answer_of}

pub answers_next : (list : List ℕ) (n : ℕ) → answers_of list (n + 1) ≡ answers_of list n ++ answer_of list n ∷ []
unfolding answers_of
answers_next list n = rw add-one refl

pub answers_none : (list : List ℕ) → answers_of list 0 ≡ []
unfolding answers_of
answers_none list = refl
