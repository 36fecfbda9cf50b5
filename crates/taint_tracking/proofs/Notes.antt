-- Sinks that are noted one after another, and what they mean.
use Rattle.std.proofs.Common.{◌≡◌, ℕ, ◌+◌, ◌<◌, ◌^◌, get_or, List, [], ◌∷◌, ◌++◌, map, refl, ap, ap₂, sym, ◌∙◌, subst, Bool, true, false, cond, arith, append-nil, append_assoc}
use Rattle.std.specs.List.{range_with_len, AllByRecursion}
use Rattle.std.proofs.lemmas.List.FromFn.{filter_of_map_range_with_len_more}
use Rattle.std.proofs.lemmas.List.{map-append}
use Rattle.std.proofs.lemmas.List.Elements.{All-append, All-from_recursion, recursion_from_All}
use Rattle.isa.specs.Machine.{wrap}
use Rattle.flow_model.specs.declared.Loc.{Loc}
use Rattle.flow_model.specs.declared.Loc.TheVariants.{Mem}
use Rattle.flow_model.specs.declared.CallSeen.{CallSeen}
use Rattle.flow_model.specs.declared.SinkPoint.{SinkPoint}
use Rattle.flow_model.specs.declared.SinkPoint.TheVariants.{Out}
use Rattle.flow_model.specs.Ranges.{IsLocation}
use Rattle.report_model.specs.Query.{Query, has_sink}
use Rattle.report_model.specs.Rows.{Sink, sink_at}
use Rattle.taint_shadow.specs.declared.labels.Label.{Label}
use Rattle.taint_shadow.specs.declared.places.Places.{Places}
use Rattle.taint_shadow.specs.Labels.{LabelWords, KeepsLabels}
use Rattle.taint_shadow.specs.Places.{kept}
use Rattle.taint_shadow.specs.Steps.{AreStanding, Holds}
use Rattle.taint_shadow.specs.declared.labels.SinkLabel.{SinkLabel}
use Rattle.taint_tracking.specs.Sinks.{noted, Notes, chosen, meant, labelled, AreLabelled}

-- ---- noting

pub no_notes : (places : Places) (sinks : List SinkLabel) → Notes places [] sinks sinks
no_notes places sinks = sym (append-nil sinks)

-- one sink gets the label of its location
pub one_note : (places : Places) (sink : Sink) (before after : List SinkLabel) (label : Label) → label ≡ kept places sink.loc
    → after ≡ before ++ record { name = sink.name; label = label } ∷ [] → Notes places (sink ∷ []) before after
one_note places sink before after label is pushed = pushed ∙ ap (λ (l : Label). before ++ record { name = sink.name; label = l } ∷ []) is

-- some sinks, and then some more
pub more_notes : (places : Places) (first second : List Sink) (x y z : List SinkLabel) → Notes places first x y → Notes places second y z
    → Notes places (first ++ second) x z
more_notes places first second x y z m n =
    n ∙ ap (λ (ks : List SinkLabel). ks ++ map (noted places) second) m ∙ append_assoc x (map (noted places) first) (map (noted places) second)
    ∙ ap (λ (ks : List SinkLabel). x ++ ks) (sym (map-append (noted places) first second))

-- ---- the bytes of a write

-- a byte is noted if it is chosen
pub chosen_one : (q : Query) (sink : Sink) → has_sink q sink.name ≡ true → chosen q (sink ∷ []) ≡ sink ∷ []
chosen_one q sink e = ap (λ (b : Bool). cond b (sink ∷ []) []) e

pub chosen_none : (q : Query) (sink : Sink) → has_sink q sink.name ≡ false → chosen q (sink ∷ []) ≡ []
chosen_none q sink e = ap (λ (b : Bool). cond b (sink ∷ []) []) e

-- one byte more
pub one_more_byte : (q : Query) (t : ℕ) (call : CallSeen) (i : ℕ) → call.place + i < 2 ^ 32
    → chosen q (map (sink_at t call) (range_with_len 0 (i + 1)))
    ≡ chosen q (map (sink_at t call) (range_with_len 0 i)) ++ chosen q (record { name = Out (record { channel = call.channel; offset = call.offset + i }); time = t; loc = Mem (call.place + i) } ∷ [])
one_more_byte q t call i within =
    let asked : Sink → Bool = λ s. has_sink q s.name in
    let at : ℕ → Sink = λ p. record { name = Out (record { channel = call.channel; offset = call.offset + i }); time = t; loc = Mem p } in
    let same : wrap (call.place + i) ≡ call.place + i = omega arith in
    filter_of_map_range_with_len_more asked (sink_at t call) 0 i i (omega arith)
    ∙ ap (λ (p : ℕ). chosen q (map (sink_at t call) (range_with_len 0 i)) ++ chosen q (at p ∷ [])) same

-- ---- what is noted at a time

-- sinks of this time, each at a location
abbrev pub AreHere : ℕ → List Sink → Type 0
AreHere t sinks = AllByRecursion (λ k. (k.time ≡ t) × IsLocation k.loc) sinks

module _ {A M : Type 0} (words : LabelWords A M) where
  -- labels that stood stand, and mean the same
  pub labelled_kept : (old new : A) (sinks : List SinkLabel) → KeepsLabels words old new → AreLabelled words old sinks → AreLabelled words new sinks
  labelled_kept old new sinks k h i d l = (k (get_or sinks i d).label (h i d l)).stands

  pub meaning_kept : (old new : A) (sinks : List SinkLabel) → KeepsLabels words old new → AreLabelled words old sinks
      → map (labelled words new) sinks ≡ map (labelled words old) sinks
  meaning_kept old new sinks k h = each sinks (recursion_from_All (λ x. words.stands old x.label) sinks h) where
    each : (xs : List SinkLabel) → AllByRecursion (λ x. words.stands old x.label) xs → map (labelled words new) xs ≡ map (labelled words old) xs
    each [] a = refl
    each (x ∷ xs) a =
        ap₂ (λ (r : SinkPoint × M) (rs : List (SinkPoint × M)). r ∷ rs) (ap (λ (means : M). (x.name, means)) (k x.label a.0).means) (each xs a.1)

  module _ (labels : A) (places : Places) (t : ℕ) where
    -- what is noted of locations whose labels stand has labels that stand
    each_stands : AreStanding words labels places → (ks : List Sink) → AreHere t ks → AllByRecursion (λ x. words.stands labels x.label) (map (noted places) ks)
    each_stands standing [] here = tt
    each_stands standing (k ∷ ks) here = (standing.at k.loc here.0.1, each_stands standing ks here.1)

    pub noted_stand : AreStanding words labels places → (ks : List Sink) → AreHere t ks → (before after : List SinkLabel) → Notes places ks before after
        → AreLabelled words labels before → AreLabelled words labels after
    noted_stand standing ks here before after notes h =
        let more = All-from_recursion (λ (x : SinkLabel). words.stands labels x.label) (map (noted places) ks) (each_stands standing ks here) in
        subst (AreLabelled words labels) (sym notes) (All-append (λ (x : SinkLabel). words.stands labels x.label) before (map (noted places) ks) h more)

    -- where locations mean what m gives at the time, so do the sinks that are noted
    each_means : (m : ℕ → Loc → M) → Holds words labels places (m t) → (ks : List Sink) → AreHere t ks → map (labelled words labels) (map (noted places) ks) ≡ map (meant m) ks
    each_means m holds [] here = refl
    each_means m holds (k ∷ ks) here =
        let means = holds.at k.loc here.0.1 ∙ ap (λ (n : ℕ). m n k.loc) (sym here.0.0) in
        ap₂ (λ (r : SinkPoint × M) (rs : List (SinkPoint × M)). r ∷ rs) (ap (λ (x : M). (k.name, x)) means) (each_means m holds ks here.1)

    pub noted_rows : (m : ℕ → Loc → M) → Holds words labels places (m t) → (ks : List Sink) → AreHere t ks → (before after : List SinkLabel) → Notes places ks before after
        → map (labelled words labels) after ≡ map (labelled words labels) before ++ map (meant m) ks
    noted_rows m holds ks here before after notes =
        let row = labelled words labels in
        ap (map row) notes ∙ map-append row before (map (noted places) ks) ∙ ap (λ (rs : List (SinkPoint × M)). map row before ++ rs) (each_means m holds ks here)
