-- Requests with their counts. Crates above cite these lemmas.
use Rattle.std.proofs.Common.{◌≡◌, ℕ, List, [], ◌∷◌, ◌++◌, length, refl, ap, sym, ◌∙◌, Bool, true, ◌||◌, nat_le}
use Rattle.std.specs.Ordering.{eq_by_cmp}
use Rattle.std.proofs.lemmas.Bool.{and_parts, and_from}
use Rattle.std.proofs.lemmas.List.Folds.{list_any-append}
use Rattle.flow_model.specs.declared.Loc.{Loc}
use Rattle.lists.specs.Sets.{has, is_within}
use Rattle.flow_model.specs.Orders.{loc_cmp}
use Rattle.stream_model.specs.Streams.{is_ended, answers_in}
use Rattle.stream_model.proofs.Counting.{places_stay, resolvable_by_count}
use Rattle.pass_parts.specs.PartLaws.{CountsStay, AnswerableByCount}

-- locations that are all asked stay so when more is asked
pub within_more : (ls asked more : List Loc) → is_within loc_cmp ls asked ≡ true → is_within loc_cmp ls (asked ++ more) ≡ true
within_more [] asked more e = refl
within_more (l ∷ ls) asked more e =
    let parts = and_parts (has loc_cmp l asked) (is_within loc_cmp ls asked) e in
    and_from _ _
    (list_any-append (eq_by_cmp loc_cmp l) asked more ∙ ap (λ (b : Bool). b || has loc_cmp l more) parts.0)
    (within_more ls asked more parts.1)

pub counts_stay : CountsStay
counts_stay asked more e r c = record {
  within = within_more (e.ends r.loc).starts asked more c.within;
  count = c.count ∙ sym (places_stay asked more (e.ends r.loc).starts c.within);
}

pub answerable_by_count : AnswerableByCount
answerable_by_count asked e r got c =
    resolvable_by_count asked got (e.ends r.loc) c.within
    ∙ ap (λ (n : ℕ). is_ended got || nat_le n (length (answers_in [] got))) (sym c.count)
