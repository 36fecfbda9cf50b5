-- The orders that are derived for the code are those of the definitions. Crates above cite these lemmas.
use Rattle.std.proofs.Common.{◌≡◌, refl, ap, nat_cmp}
use Rattle.std.specs.Ordering.{ordering_then}
use Rattle.std.specs.declared.cmp.Ordering.{Ordering}
use Rattle.std.specs.declared.cmp.Ordering.TheVariants.{Less, Equal}
use Rattle.flow_model.specs.declared.Loc.{Loc}
use Rattle.flow_model.specs.declared.Loc.TheVariants.{Reg, Mem}
use Rattle.flow_model.specs.declared.SourceByte.{SourceByte}
use Rattle.flow_model.specs.declared.InnerSink.{InnerSink}
use Rattle.flow_model.specs.declared.SinkPoint.{SinkPoint}
use Rattle.flow_model.specs.declared.SinkPoint.TheVariants.{Out, At}
use Rattle.flow_model.specs.contracts.LocOrd.TheImpl as of_loc
use Rattle.flow_model.specs.contracts.SourceByteOrd.TheImpl as of_source
use Rattle.flow_model.specs.contracts.InnerSinkOrd.TheImpl as of_inner
use Rattle.flow_model.specs.contracts.SinkPointOrd.TheImpl as of_point
use Rattle.flow_model.specs.Orders.{loc_cmp, source_cmp, inner_cmp, point_cmp}

then_equal : (o : Ordering) → ordering_then o Equal ≡ o
then_equal Less = refl
then_equal o = refl

abbrev pub loc_compared : Loc → Loc → Ordering
loc_compared = of_loc.cmp-value.it

abbrev pub source_compared : SourceByte → SourceByte → Ordering
source_compared = of_source.cmp-value.it

abbrev pub inner_compared : InnerSink → InnerSink → Ordering
inner_compared = of_inner.cmp-value.it

abbrev pub point_compared : SinkPoint → SinkPoint → Ordering
point_compared = of_point.cmp-value.it

loc_alike : (a b : Loc) → loc_cmp a b ≡ loc_compared a b
loc_alike (Reg r i) (Reg s j) = ap (ordering_then (nat_cmp r s)) (then_equal (nat_cmp i j))
loc_alike (Mem p) (Mem q) = then_equal (nat_cmp p q)
loc_alike a b = refl

pub inner_alike : (a b : InnerSink) → inner_cmp a b ≡ inner_compared a b
inner_alike a b = ap (ordering_then (nat_cmp a.time b.time)) (loc_alike a.loc b.loc)

pub point_alike : (a b : SinkPoint) → point_cmp a b ≡ point_compared a b
point_alike (Out a) (Out b) = ap (ordering_then (nat_cmp a.channel b.channel)) (then_equal (nat_cmp a.offset b.offset))
point_alike (At p) (At q) = inner_alike p q
point_alike a b = refl

-- by the derived order too
pub loc_order_is : loc_cmp ≡ loc_compared
loc_order_is = λ i a b. loc_alike a b i

pub source_order_is : source_cmp ≡ source_compared
source_order_is = λ i a b. ap (ordering_then (nat_cmp a.channel b.channel)) (then_equal (nat_cmp a.offset b.offset)) i

pub inner_order_is : inner_cmp ≡ inner_compared
inner_order_is = λ i a b. inner_alike a b i
