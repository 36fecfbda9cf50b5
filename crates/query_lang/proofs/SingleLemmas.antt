-- One byte or one point alone.
use Rattle.std.proofs.Common.{◌≡◌, ℕ, ◌+◌, true, List, [], ◌∷◌, refl, ap, ap₂, sym, subst, arith, inl, inr}
use Rattle.std.specs.Prelude.{Some, Contains}
use Rattle.std.proofs.lemmas.Bool.Decides.{nat_tests}
use Rattle.flow_model.specs.declared.InnerSink.{InnerSink}
use Rattle.flow_model.specs.declared.SinkPoint.{SinkPoint}
use Rattle.flow_model.specs.declared.SinkPoint.TheVariants.{Out, At}
use Rattle.lists.proofs.Algebra.{has-Contains, Contains-has}
use Rattle.flow_model.proofs.Orders.{inner_same, inner_total}
use Rattle.report_model.proofs.Members.{Some_in, some-Contains}
use Rattle.report_model.specs.Query.{Query, Choice, chooses, has_sink}
use Rattle.query_lang.specs.Single.{IsOnlyByte, IsOnlySource, IsOnlySink}

-- the offsets of a channel from one up to the next are one byte
abbrev of_one : ℕ → ℕ → ℕ → Choice
of_one c from past = record { channel = Some c; offsets = Some (record { from = from; past = past }) }

pub only_byte : (c from past : ℕ) → past ≡ from + 1 → IsOnlyByte (of_one c from past ∷ []) c from
only_byte c from past e = record { chosen = chosen; alone = alone } where
  chosen : chooses (of_one c from past ∷ []) c from ≡ true
  chosen = grind (arith, nat_tests)

  alone : (d p : ℕ) → chooses (of_one c from past ∷ []) d p ≡ true → (d ≡ c) × (p ≡ from)
  alone d p h = (grind (arith, nat_tests), grind (arith, nat_tests))

pub only_source : (q : Query) (c o : ℕ) → IsOnlyByte q.sources c o → IsOnlySource q (record { channel = c; offset = o })
only_source q c o only = record {
  chosen = only.chosen;
  alone = λ b h. let same = only.alone b.channel b.offset h in ap₂ (λ (x y : ℕ). record { channel = x; offset = y }) same.0 same.1;
}

pub only_output : (q : Query) (c o : ℕ) → q.points ≡ [] → IsOnlyByte q.sinks c o → IsOnlySink q (Out (record { channel = c; offset = o }))
only_output q c o none only = record { chosen = only.chosen; alone = alone } where
  alone : (other : SinkPoint) → has_sink q other ≡ true → other ≡ Out (record { channel = c; offset = o })
  alone (Out b) h = let same = only.alone b.channel b.offset h in ap₂ (λ (x y : ℕ). Out (record { channel = x; offset = y })) same.0 same.1
  alone (At p) h = absurd cc

pub only_point : (q : Query) (point : InnerSink) → q.sinks ≡ [] → q.points ≡ point ∷ [] → IsOnlySink q (At point)
only_point q point none one = record {
  chosen = has-Contains inner_total q.points point (subst (λ (ps : List InnerSink). Contains ps point) (sym one) (0, omega arith, refl));
  alone = alone;
}
  where
    it : (p : InnerSink) → Some_in (λ x. x ≡ p) (point ∷ []) → At p ≡ At point
    it p (inl e) = ap At (sym e)
    it p (inr h) = absurd h

    alone : (other : SinkPoint) → has_sink q other ≡ true → other ≡ At point
    alone (Out b) h = absurd cc
    alone (At p) h = it p (some-Contains (point ∷ []) p (subst (λ (ps : List InnerSink). Contains ps p) one (Contains-has inner_total inner_same q.points p h)))
