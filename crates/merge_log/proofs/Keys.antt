-- What the set of entries answers, by the log's own words.
use Rattle.std.proofs.Common.{◌≡◌, ℕ, zero, suc, ◌+◌, ◌<◌, List, [], ◌∷◌, ◌++◌, length, refl, ap, sym, ◌∙◌, subst, Bool, true, false, if◌then◌else◌, arith, slice_get, get_or, position, Contains, add-one, length-append, ◌⊎◌, inl, inr}
use Rattle.std.specs.Prelude.{Some}
use Rattle.std.specs.List.{list_any}
use Rattle.std.proofs.lemmas.List.Folds.{list_any_at}
use Rattle.std.proofs.lemmas.List.Quantifiers.{position-Some}
use Rattle.std.proofs.lemmas.Grind.{common_steps}
use Rattle.std.proofs.lemmas.Option.{slice_get_within, slice_get-get_or, get_or_from_slice_get}
use Rattle.std.proofs.lemmas.List.Elements.{Contains-push_cases}
use Rattle.std.proofs.lemmas.Map.Views.{Contains-from_any}
use Rattle.lists.proofs.Tests.{true-false}
use Rattle.indexmap.specs.IndexSet.{insert_key}
use Rattle.flow_model.specs.declared.Loc.TheVariants.{Reg, Mem}
use Rattle.merge_log.specs.contracts.nodes.EntryPartialEq.TheImpl as test
use Rattle.merge_log.specs.declared.nodes.Entry.{Entry}
use Rattle.merge_log.specs.declared.nodes.Entry.TheVariants.{Source, Run, Start, Union}
use Rattle.merge_log.specs.Log.{HasOperandsBefore, AreDistinct, IsLog, IsNoted, KeepsNodes, entry_at, terms, entry_terms}
use Rattle.merge_log.proofs.Terms.{ordered_more, kept, terms_step, entry_before}
use Rattle.merge_log.proofs.Keeping.{keeps_all}

-- the derived test
abbrev pub alike : Entry → Entry → Bool
alike = test.eq-value.it

pub alike_same : (a b : Entry) → alike a b ≡ true → a ≡ b
alike_same (Source a) (Source b) h = grind (arith, common_steps)
alike_same (Run c x y) (Run d v w) h = grind (arith, common_steps)
alike_same (Start (Reg r i)) (Start (Reg s j)) h = grind (arith, common_steps)
alike_same (Start (Mem p)) (Start (Mem q)) h = grind (arith, common_steps)
alike_same (Union p q) (Union r s) h = grind (arith, common_steps)
alike_same a b h = cc

alike_itself : (a : Entry) → alike a a ≡ true
alike_itself (Start (Reg r i)) = grind (arith, common_steps)
alike_itself a = grind (arith, common_steps)

there : (log : List Entry) (e : Entry) → Contains log e → list_any (alike e) log ≡ true
there log e c = list_any_at (alike e) log c.0 e c.1 (ap (alike e) c.2 ∙ alike_itself e)

distinct_more : (log : List Entry) (e : Entry) → AreDistinct log → (Contains log e → ⊥) → AreDistinct (log ++ e ∷ [])
distinct_more [] e d h = ((λ c. let no : c.0 < 0 = c.1 in omega arith), tt)
distinct_more (x ∷ log) e d h = (
  (λ c. by (Contains-push_cases log e x c)),
  distinct_more log e d.1 (λ c. h (suc c.0, (let later : suc c.0 < suc (length log) = omega (arith, c.1) in later), c.2)),
) where
  by : Contains log x ⊎ (e ≡ x) → ⊥
  by (inl c) = d.0 c
  by (inr p) = h (0, omega arith, sym p)

-- the log after an entry is put into the set is a log
pub log_after : (log : List Entry) (e : Entry) (new : List Entry) → IsLog log → length log < 4294967295 → HasOperandsBefore (length log + 1) e → new ≡ insert_key alike log e → IsLog new
log_after log e new h few before is = subst IsLog (sym is) (by (list_any (alike e) log) refl) where
  by : (b : Bool) → list_any (alike e) log ≡ b → IsLog (if b then log else log ++ e ∷ [])
  by true p = h
  by false p = record {
    few = rw length-append (omega (arith, few));
    ordered = ordered_more 1 log e h.ordered (let later : length log + 1 ≡ 1 + length log = omega arith in subst (λ (n : ℕ). HasOperandsBefore n e) later before);
    distinct = distinct_more log e h.distinct (λ c. true-false (sym (there log e c) ∙ p));
  }

at_index : (log : List Entry) (k : ℕ) (x : Entry) → slice_get log k ≡ Some x → entry_at log (k + 1) ≡ Some x
at_index log k x h = rw (add-one k) h

pub noted_by : (log : List Entry) (e : Entry) (new : List Entry) (k : ℕ) → new ≡ insert_key alike log e → ((x : Entry) × (slice_get new k ≡ Some x) × (alike e x ≡ true)) → IsNoted log e new (k + 1)
noted_by log e new k is found =
    let same : found.0 ≡ e = sym (alike_same e found.0 found.2) in
    let at : slice_get new k ≡ Some e = found.1 ∙ ap Some same in
    let within : k < length new = slice_get_within new k e at in
    record {
      stands = omega (arith, within);
      entry = at_index new k e at;
      there = λ c. is ∙ ap (λ (b : Bool). if b then log else log ++ e ∷ []) (there log e c);
      added = λ lacks. is ∙ by (list_any (alike e) log) refl lacks;
    } where
      by : (b : Bool) → list_any (alike e) log ≡ b → (Contains log e → ⊥) → (if b then log else log ++ e ∷ []) ≡ log ++ e ∷ []
      by true p lacks = absurd (lacks (Contains-from_any alike_same e log p))
      by false p lacks = refl

-- an entry that stands in the log is noted there
pub noted_here : (log : List Entry) (e : Entry) (n : ℕ) → entry_at log n ≡ Some e → IsNoted log e log n
noted_here log e zero at = cc
noted_here log e (suc k) at =
    let within : k < length log = slice_get_within log k e at in
    record {
      stands = omega (arith, within);
      entry = at;
      there = λ c. refl;
      added = λ lacks. absurd (lacks (k, within, get_or_from_slice_get log k e e at));
    }

pub noted_at : (log : List Entry) (e : Entry) (k : ℕ) → position (alike e) log ≡ Some k → IsNoted log e log (k + 1)
noted_at log e k h =
    let first = position-Some (alike e) log k e h in
    noted_here log e (k + 1) (at_index log k e (slice_get-get_or log k e first.0 ∙ ap Some (sym (alike_same e (get_or log k e) first.1))))

pub keeps_more : (log : List Entry) (e : Entry) (new : List Entry) → new ≡ insert_key alike log e → KeepsNodes log new
keeps_more log e new is = subst (KeepsNodes log) (sym is) (by (list_any (alike e) log)) where
  by : (b : Bool) → KeepsNodes log (if b then log else log ++ e ∷ [])
  by true = keeps_all log
  by false = record { nodes = λ n h. rw length-append (omega (arith, h)); terms = λ n h. kept log (e ∷ []) n h }

-- what is noted has the terms of its entry
pub noted_terms : (old : List Entry) (e : Entry) (new : List Entry) (n : ℕ) → IsLog new → IsNoted old e new n → terms new n ≡ entry_terms (terms new) e
noted_terms old e new n h k = terms_step new n e k.entry (entry_before new n e h.ordered k.entry)
