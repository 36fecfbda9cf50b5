-- What the passes know of an epoch. Crates above cite these lemmas.
use Rattle.std.proofs.Common.{◌≡◌, refl, ap, ◌∙◌, Bool, true, cond, arith}
use Rattle.flow_model.specs.declared.Loc.{Loc}
use Rattle.flow_model.specs.declared.Loc.TheVariants.{Reg, Mem}
use Rattle.flow_model.specs.Ranges.{IsLocation}
use Rattle.epoch_model.specs.Summary.{Summary}
use Rattle.merge_log.specs.Log.{start_term}
use Rattle.pass_parts.specs.Known.{is_location, located}
use Rattle.pass_parts.specs.PartLaws.{KnownIsSummary}

pub location_passes : (l : Loc) → IsLocation l → is_location l ≡ true
location_passes (Reg r i) h = grind (arith, h.0, h.1)
location_passes (Mem p) h = refl

pub located_at : (e : Summary) (l : Loc) → is_location l ≡ true → (located e).ends l ≡ e.ends l
located_at e l h = ap (λ (b : Bool). cond b (e.ends l) (start_term l)) h

pub known_is_summary : KnownIsSummary
known_is_summary q trace s n e i = record {
  ends = λ l h. located_at e l (location_passes l h) ∙ i.ends l h;
  sinks = i.sinks;
}
