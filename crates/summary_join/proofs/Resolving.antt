-- What terms come to.
use Rattle.std.proofs.Common.{◌≡◌, List, refl, ap, ap₂, sym, ◌∙◌, Bool, true, false, ◌||◌}
use Rattle.std.specs.List.{list_any}
use Rattle.std.specs.Ordering.{eq_by_cmp}
use Rattle.lists.specs.Sets.{union, has, Ascends}
use Rattle.lists.proofs.Algebra.{Ascends-union, has-union, union-nil}
use Rattle.flow_model.specs.declared.Loc.{Loc}
use Rattle.flow_model.specs.declared.SourceByte.{SourceByte}
use Rattle.flow_model.specs.Orders.{source_cmp}
use Rattle.flow_model.specs.Origins.{union_over}
use Rattle.flow_model.proofs.Orders.{loc_same, source_total}
use Rattle.flow_model.proofs.Origins.{Ascends-union_over}
use Rattle.source_runs.specs.declared.runs.SourceRun.{SourceRun}
use Rattle.source_runs.specs.Runs.{bytes_of}
use Rattle.epoch_model.specs.Join.{resolved}
use Rattle.epoch_model.proofs.Adding.{all_had, union_over_same}
use Rattle.epoch_model.proofs.AnyOf.{any_union, any_union_over}
use Rattle.merge_log.specs.Log.{Terms, joined, run_term}
use Rattle.merge_log.proofs.Terms.{ascend-run}
use Rattle.answer_sets.proofs.Members.{resolved_is}

-- where two functions give the same
pub resolved-same : (f g : Loc → List SourceByte) → ((l : Loc) → f l ≡ g l) → (t : Terms) → resolved f t ≡ resolved g t
resolved-same f g h t = ap (union source_cmp t.sources) (union_over_same f g t.starts (all_had (λ l. f l ≡ g l) t.starts (λ l _. h l)))

-- a run alone
pub resolved-run : (f : Loc → List SourceByte) (r : SourceRun) → resolved f (run_term r) ≡ bytes_of r
resolved-run f r = union-nil source_total (bytes_of r) (ascend-run r).sources

four : (p q r s : Bool) → ((p || q) || (r || s)) ≡ ((p || r) || (q || s))
four true q r s = refl
four false true true s = refl
four false true false s = refl
four false false r s = refl

-- two together
module _ (f : Loc → List SourceByte) (sets : (l : Loc) → Ascends source_cmp (f l)) where
  ascends-resolved : (t : Terms) → Ascends source_cmp (resolved f t)
  ascends-resolved t = Ascends-union source_total t.sources (union_over f t.starts) (Ascends-union_over f sets t.starts)

  has-resolved : (t : Terms) (q : SourceByte) → has source_cmp q (resolved f t) ≡ (has source_cmp q t.sources || list_any (λ l. has source_cmp q (f l)) t.starts)
  has-resolved t q =
      has-union source_total t.sources (union_over f t.starts) q
      ∙ ap (λ (b : Bool). has source_cmp q t.sources || b) (any_union_over (eq_by_cmp source_cmp q) f t.starts)

  pub resolved-joined : (a b : Terms) → union source_cmp (resolved f a) (resolved f b) ≡ resolved f (joined a b)
  resolved-joined a b =
      resolved_is f sets (joined a b) (union source_cmp (resolved f a) (resolved f b)) (Ascends-union source_total (resolved f a) (resolved f b) (ascends-resolved b))
      (λ q.
      let of : Loc → Bool = λ l. has source_cmp q (f l) in
      has-union source_total (resolved f a) (resolved f b) q
      ∙ ap₂ (λ (x y : Bool). x || y) (has-resolved a q) (has-resolved b q)
      ∙ four (has source_cmp q a.sources) (list_any of a.starts) (has source_cmp q b.sources) (list_any of b.starts)
      ∙ sym (ap₂ (λ (x y : Bool). x || y) (has-union source_total a.sources b.sources q) (any_union loc_same of a.starts b.starts)))
