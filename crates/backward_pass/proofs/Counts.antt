-- Sinks and requests whose start locations are asked.
use Rattle.std.proofs.Common.{◌≡◌, ℕ, zero, suc, ◌-◌, ◌<◌, ◌≤◌, true, false, List, [], ◌∷◌, ◌++◌, map, length, take, drop, refl, ap, sym, ◌∙◌, subst, slice_get, Some, append_assoc, Bool, arith}
use Rattle.std.specs.Prelude.{Result, Ok, Err, IfOk, OnOk}
use Rattle.std.specs.List.{AllByRecursion}
use Rattle.std.proofs.lemmas.List.{append_cancel_right, take-append-drop}
use Rattle.std.proofs.lemmas.List.Elements.{recursion_from_All, All-push, All-weaker}
use Rattle.flow_model.specs.declared.Loc.{Loc}
use Rattle.lists.specs.Sets.{is_within}
use Rattle.lists.proofs.Tests.{true-false}
use Rattle.flow_model.specs.Orders.{loc_cmp}
use Rattle.epoch_model.specs.Summary.{Summary, SinkTerms, Terms}
use Rattle.epoch_model.specs.Crossing.{added_all}
use Rattle.stream_model.specs.Passes.{asked_more}
use Rattle.stream_model.specs.Streams.{places_needed}
use Rattle.stream_model.specs.StreamLaws.{IsPrefix}
use Rattle.stream_model.proofs.Growing.{added_all_keeps}
use Rattle.pass_parts.specs.declared.requests.Request.{Request}
use Rattle.pass_parts.specs.Requests.{IsCounted, AreCounted}
use Rattle.pass_parts.proofs.Counted.{within_more, counts_stay}
use Rattle.backward_pass.specs.Backward.{AreAsked, HasAsked, IsWalked}
use Rattle.backward_pass.proofs.Starts.{within_added, all_asked}
use Rattle.backward_pass.proofs.Lists.{sink_after}

-- ---- what is asked more

-- where it is not the first node, what was asked stays, and what is asked for is asked then
pub kept_asked : (first : Bool) (asked ls more : List Loc) → first ≡ false → more ≡ asked_more first asked ls → IsPrefix asked more
kept_asked true asked ls more t e = true-false t
kept_asked false asked ls more t e = let kept = added_all_keeps asked ls in (kept.0, kept.1 ∙ sym e)

within_asked : (first : Bool) (asked ls : List Loc) → first ≡ false → is_within loc_cmp ls (asked_more first asked ls) ≡ true
within_asked true asked ls t = true-false t
within_asked false asked ls t = within_added asked ls

-- ---- sinks

pub asked_then : (asked more : List Loc) (ks left : List SinkTerms) → IsPrefix asked more → HasAsked asked ks left → HasAsked more ks left
asked_then asked more ks left p h = record {
  walked = h.walked;
  are = h.are;
  all = All-weaker _ (λ k. is_within loc_cmp k.terms.starts more ≡ true)
      (λ k w. subst (λ ls. is_within loc_cmp k.terms.starts ls ≡ true) p.1 (within_more k.terms.starts asked p.0 w)) h.walked h.all;
}

-- one more is walked
pub walked_then : (first : Bool) (asked : List Loc) (ks left later : List SinkTerms) (k : SinkTerms) → first ≡ false → left ≡ k ∷ later → HasAsked asked ks left
    → HasAsked (asked_more first asked k.terms.starts) ks later
walked_then first asked ks left later k other next h =
    let now = asked_more first asked k.terms.starts in
    let more = asked_then asked now ks left (kept_asked first asked k.terms.starts now other refl) h in
    record {
      walked = more.walked ++ k ∷ [];
      are = more.are ∙ ap (λ ls. more.walked ++ ls) next ∙ sym (append_assoc more.walked (k ∷ []) later);
      all = All-push (λ k. is_within loc_cmp k.terms.starts now ≡ true) more.walked k more.all (within_asked first asked k.terms.starts other);
    }

-- those that are walked are the first ones
pub first_asked : (asked : List Loc) (ks : List SinkTerms) (n : ℕ) → HasAsked asked ks (drop n ks) → AreAsked asked (take n ks)
first_asked asked ks n h = subst (AreAsked asked) (sym (append_cancel_right (take n ks) h.walked (drop n ks) (take-append-drop n ks ∙ h.are))) h.all

-- and the last of them is one
pub last_asked : (asked : List Loc) (ks : List SinkTerms) (n : ℕ) → 0 < n → n ≤ length ks → AreAsked asked (take n ks)
    → (t : Terms) × (slice_get (map (λ k. k.terms) ks) (n - 1) ≡ Some t) × (is_within loc_cmp t.starts asked ≡ true)
last_asked asked ks n some within all =
    let next : n ≡ suc (n - 1) = omega (arith, some) in
    by ks (n - 1) (omega (arith, some, within)) (recursion_from_All _ (take (suc (n - 1)) ks) (subst (λ i. AreAsked asked (take i ks)) next all)) where
      by : (ks : List SinkTerms) (n : ℕ) → n < length ks → AllByRecursion (λ k. is_within loc_cmp k.terms.starts asked ≡ true) (take (suc n) ks)
          → (t : Terms) × (slice_get (map (λ k. k.terms) ks) n ≡ Some t) × (is_within loc_cmp t.starts asked ≡ true)
      by [] n h a = absurd (omega (arith, h))
      by (k ∷ ks) zero h a = (k.terms, refl, a.0)
      by (k ∷ ks) (suc n) h a = by ks n (omega (arith, h)) a.1

-- so nothing is asked for one that shares its terms
pub shared_sink : (asked : List Loc) (ks : List SinkTerms) (n : ℕ) → 0 < n → n < length ks → slice_get (map (λ k. k.terms) ks) n ≡ slice_get (map (λ k. k.terms) ks) (n - 1)
    → AreAsked asked (take n ks) → IsWalked false ks n asked asked
shared_sink asked ks n some within same all =
    let last = last_asked asked ks n some (omega (arith, within)) all in
    let next = sink_after ks n last.0 (same ∙ last.1) in
    record {
      sink = next.0;
      is = next.2;
      added = sym (all_asked asked next.0.terms.starts (subst (λ t. is_within loc_cmp t.starts asked ≡ true) (sym next.1) last.2));
    }

-- ---- requests

pub counted_more : (asked more : List Loc) (e : Summary) (rs : List Request) → IsPrefix asked more → AreCounted asked e rs → AreCounted more e rs
counted_more asked more e rs p =
    All-weaker (IsCounted asked e) (IsCounted more e) (λ r c. subst (λ ls. IsCounted ls e r) p.1 (counts_stay asked p.0 e r c)) rs

-- a location whose start locations were just asked, unless a growth was refused
pub counted_now : {E : Type 0} (needed : Result ℕ E) (before asked : List Loc) (e : Summary) (t : Terms) (loc : Loc) → t ≡ e.ends loc
    → OnOk needed (asked ≡ added_all before t.starts) → IfOk needed (λ n. n ≡ places_needed asked t.starts)
    → IfOk needed (λ n. IsCounted asked e (record { loc = loc; needed_first = n }))
counted_now (Ok n) before asked e t loc is added needed = record {
  within = subst (λ (k : Terms). is_within loc_cmp k.starts asked ≡ true) is (ap (is_within loc_cmp t.starts) added ∙ within_added before t.starts);
  count = needed ∙ ap (λ (k : Terms). places_needed asked k.starts) is;
}
counted_now (Err x) before asked e t loc is added needed = tt
