-- The orders of locations, source bytes, output bytes and points inside a run are total, and only the same tie. Crates above cite these lemmas.
use Rattle.std.proofs.Common.{◌≡◌, ℕ, ◌<◌, List, refl, sym, ap, ap₂}
use Rattle.std.specs.Ordering.{nat_cmp}
use Rattle.std.specs.Cmp.{IsTotalOrder, on_total, nat_cmp_is}
use Rattle.std.specs.Cmp.Lexicographic.{slice_cmp, nat_list_cmp_total}
use Rattle.std.specs.FinMap.{IsAntisymmetric, nat_cmp-IsAntisymmetric, slice_cmp-IsAntisymmetric}
use Rattle.std.specs.declared.cmp.Ordering.TheVariants.{Less, Equal}
use Rattle.flow_model.specs.declared.Loc.{Loc}
use Rattle.flow_model.specs.declared.Loc.TheVariants.{Reg, Mem}
use Rattle.flow_model.specs.declared.SourceByte.{SourceByte}
use Rattle.flow_model.specs.declared.SinkByte.{SinkByte}
use Rattle.flow_model.specs.declared.InnerSink.{InnerSink}
use Rattle.flow_model.specs.declared.SinkPoint.{SinkPoint}
use Rattle.flow_model.specs.declared.SinkPoint.TheVariants.{Out, At}
use Rattle.flow_model.specs.Orders.{loc_key, source_key, loc_cmp, source_cmp, sink_key, inner_key, inner_cmp, point_key, point_cmp}

pub source_total : IsTotalOrder source_cmp
source_total = on_total source_key nat_list_cmp_total

pub source_cmp-channel : (x y : SourceByte) → x.channel < y.channel → source_cmp x y ≡ Less
source_cmp-channel x y h = rw (sym (nat_cmp_is x.channel y.channel Less h)) refl

pub loc_total : IsTotalOrder loc_cmp
loc_total = on_total loc_key nat_list_cmp_total

pub same_lists : (xs ys : List ℕ) → slice_cmp nat_cmp xs ys ≡ Equal → xs ≡ ys
same_lists = slice_cmp-IsAntisymmetric nat_cmp-IsAntisymmetric

same_source : (a b : SourceByte) → source_key a ≡ source_key b → a ≡ b
same_source a b e =
    let make : ℕ → ℕ → SourceByte = λ c o. record { channel = c; offset = o } in
    let p : a.channel ≡ b.channel = cc in
    let q : a.offset ≡ b.offset = cc in
    ap₂ make p q

pub source_same : IsAntisymmetric source_cmp
source_same a b e = same_source a b (same_lists (source_key a) (source_key b) e)

pub same_loc : (a b : Loc) → loc_key a ≡ loc_key b → a ≡ b
same_loc (Reg r i) (Reg s j) e = cc
same_loc (Mem p) (Mem q) e = cc
same_loc a b e = cc

pub loc_same : IsAntisymmetric loc_cmp
loc_same a b e = same_loc a b (same_lists (loc_key a) (loc_key b) e)

same_sink : (a b : SinkByte) → sink_key a ≡ sink_key b → a ≡ b
same_sink a b e =
    let make : ℕ → ℕ → SinkByte = λ c o. record { channel = c; offset = o } in
    let p : a.channel ≡ b.channel = cc in
    let q : a.offset ≡ b.offset = cc in
    ap₂ make p q

pub inner_total : IsTotalOrder inner_cmp
inner_total = on_total inner_key nat_list_cmp_total

same_inner : (a b : InnerSink) → inner_key a ≡ inner_key b → a ≡ b
same_inner a b e =
    let make : ℕ → Loc → InnerSink = λ t l. record { time = t; loc = l } in
    let p : a.time ≡ b.time = cc in
    let k : loc_key a.loc ≡ loc_key b.loc = cc in
    ap₂ make p (same_loc a.loc b.loc k)

pub inner_same : IsAntisymmetric inner_cmp
inner_same a b e = same_inner a b (same_lists (inner_key a) (inner_key b) e)

pub point_total : IsTotalOrder point_cmp
point_total = on_total point_key nat_list_cmp_total

same_point : (a b : SinkPoint) → point_key a ≡ point_key b → a ≡ b
same_point (Out a) (Out b) e = let k : sink_key a ≡ sink_key b = cc in ap Out (same_sink a b k)
same_point (At p) (At q) e = let k : inner_key p ≡ inner_key q = cc in ap At (same_inner p q k)
same_point a b e = cc

pub point_same : IsAntisymmetric point_cmp
point_same a b e = same_point a b (same_lists (point_key a) (point_key b) e)
