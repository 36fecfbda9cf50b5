-- The workers of a board: what holds of all of them while they work, and their shares together.
use Rattle.std.proofs.Common.{◌≡◌, ℕ, suc, ◌+◌, ◌<◌, List, [], ◌∷◌, ◌++◌, length, get_or, All, refl, ◌∙◌, arith}
use Rattle.std.proofs.lemmas.List.Sums.{sum_by-cons, sum_by-append}
use Rattle.run_board.specs.declared.worker.Worker.{Worker}
use Rattle.run_board.specs.Workers.{IsSameWorker, KnowsStarts, view_of, shares_of}

module _ {T : Type 0} where
  abbrev pub AreSameWorkers : List (Worker T) → List (Worker T) → Type 0
  AreSameWorkers olds news = (k : ℕ) (d : Worker T) → k < length olds → IsSameWorker (get_or olds k d) (get_or news k d)

  pub all_know : (olds news : List (Worker T)) → length news ≡ length olds → AreSameWorkers olds news → (starts : List T) → All (KnowsStarts starts) olds → All (KnowsStarts starts) news
  all_know olds news len f starts all k d lt = let lt' : k < length olds = omega arith in (f k d lt').starts ∙ all k d lt'

  abbrev share_count : Worker T → ℕ
  share_count worker = (view_of worker).shares

  pub same_shares : (olds news : List (Worker T)) → length news ≡ length olds → AreSameWorkers olds news → shares_of news ≡ shares_of olds
  same_shares [] [] len f = refl
  same_shares (x ∷ xs) (y ∷ ys) len f =
      let h : share_count y ≡ share_count x = (f 0 x (omega arith)).shares in
      let t = same_shares xs ys (omega arith) (λ k d lt. f (suc k) d (omega arith)) in
      omega (arith, sum_by-cons (λ (worker : Worker T). (view_of worker).shares) x xs, sum_by-cons (λ (worker : Worker T). (view_of worker).shares) y ys)
  same_shares olds news len f = absurd (omega arith)

  pub shares_of-push : (xs : List (Worker T)) (x : Worker T) → shares_of (xs ++ x ∷ []) ≡ shares_of xs + (view_of x).shares
  shares_of-push xs x = omega (arith, sum_by-append (λ (worker : Worker T). (view_of worker).shares) xs (x ∷ []), sum_by-cons (λ (worker : Worker T). (view_of worker).shares) x [])
