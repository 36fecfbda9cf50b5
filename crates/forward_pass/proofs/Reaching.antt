-- From the beginning of the pass on. Crates above cite these lemmas.
use Rattle.std.proofs.Common.{◌≡◌, List, [], ◌∷◌, ◌++◌, refl, ap, ap₂, sym, subst, ◌∙◌, Bool, true, false, cond}
use Rattle.std.specs.Prelude.{IsSome, Option, IfNone}
use Rattle.std.specs.Ordering.{eq_by_cmp}
use Rattle.lists.proofs.Tests.{true-false}
use Rattle.flow_model.specs.declared.Loc.{Loc}
use Rattle.flow_model.specs.Orders.{loc_cmp}
use Rattle.flow_model.specs.declared.Message.{Message}
use Rattle.epoch_model.specs.Summary.{Summary as EpochSummary}
use Rattle.epoch_summary.specs.declared.summary.Summary.{Summary}
use Rattle.stream_model.specs.Streams.{is_ended, heard}
use Rattle.stream_model.specs.Passes.{Answering, Links, answering_event, answering_start, answering_after}
use Rattle.stream_model.specs.PassLaws.{AnswersSent}
use Rattle.stream_model.proofs.Passing.{answering_sends, begun_whole}
use Rattle.pass_parts.specs.declared.pass_turn.PassTurn.{PassTurn}
use Rattle.pass_parts.specs.declared.requests.Request.{Request}
use Rattle.pass_parts.specs.Ends.{EndsWhole, got_by, fresh_end}
use Rattle.pass_parts.specs.Known.{known}
use Rattle.pass_parts.specs.Requests.{locations, AreCounted}
use Rattle.epoch_model.specs.Join.{answer_to}
use Rattle.forward_pass.specs.Received.{IsReceivedFrom}
use Rattle.forward_pass.specs.Forward.{ForeView, new_fore, known_by, ForeKeeps, IsSameFore, ForeHappens, ForeReached, ForeSends}

after_one_more : (e : EpochSummary) (asked : List Loc) (schedule : List Links) (links : Links) (f : Answering)
    → answering_after e asked (schedule ++ links ∷ []) f ≡ answering_event e asked links (answering_after e asked schedule f)
after_one_more e asked [] links f = refl
after_one_more e asked (l ∷ schedule) links f = after_one_more e asked schedule links (answering_event e asked l f)

pub reached_next : (old new : ForeView) (got sent got' sent' : Option (List Message)) (turn : PassTurn) (first whole : Bool) (requests : List Loc)
    → ForeHappens old got sent new got' sent' turn → IsSameFore new old → ForeReached first requests whole old got sent → ForeReached first requests whole new got' sent'
reached_next old new got sent got' sent' turn first whole requests h same r =
    let later = r.schedule ++ h.links ∷ [] in
    let start = answering_start whole first requests in
    record {
      schedule = later;
      is = h.is ∙ ap (answering_event (known_by old) old.asked h.links) r.is ∙ sym (after_one_more (known_by old) old.asked r.schedule h.links start)
          ∙ ap₂ (λ (s : Option Summary) (asked : List Loc). answering_after (known s) asked later start) (sym same.summary) (sym same.asked);
    }

pub reached_sends : (v : ForeView) (got sent : Option (List Message)) (first whole : Bool) (requests : List Loc) → ForeReached first requests whole v got sent → ForeSends requests v got sent
reached_sends v got sent first whole requests r = λ w.
    let ends = sym (ap (λ (f : Answering). f.is_whole) r.is) ∙ w in
    let began = begun_whole (known_by v) v.asked r.schedule (answering_start whole first requests) ends in
    let same = r.is ∙ ap (λ (b : Bool). answering_after (known_by v) v.asked r.schedule (answering_start b first requests)) began in
    subst (AnswersSent (known_by v) v.asked requests) (sym same)
    (answering_sends first (known_by v) v.asked requests r.schedule (sym (ap (λ (f : Answering). f.is_whole) same) ∙ w))

no_answer : (ls : List Loc) (l : Loc) → answer_to ls [] l ≡ []
no_answer [] l = refl
no_answer (m ∷ ls) l = refl

-- of a pass that is new
module _ (s : Option Summary) (asked : List Loc) (requests : List Request) (whole first last : Bool) where
  pub new_keeps : (v : ForeView) → v ≡ new_fore s asked requests whole first
      → (whole ≡ true → IsSome s) → (last ≡ true → requests ≡ []) → (whole ≡ true → first ≡ false → AreCounted asked (known s) requests)
      → ForeKeeps v (fresh_end first) (fresh_end last)
  new_keeps v e is_known none counted =
      subst (λ v. ForeKeeps v (fresh_end first) (fresh_end last)) (sym e)
      (record { known = is_known; heard = heard_at first; alone = alone last none; received = λ _. received first; counted = counted; ends = λ _. ends first }) where
        ends : (b : Bool) → b ≡ true → EndsWhole (got_by (fresh_end b))
        ends true e = ([], refl)
        ends false e = true-false (sym e)

        heard_at : (b : Bool) → b ≡ is_ended (got_by (fresh_end b))
        heard_at true = refl
        heard_at false = refl

        alone : (b : Bool) → (b ≡ true → requests ≡ []) → IfNone (fresh_end b) ((requests ≡ []) × (◌≡◌ {A = List Message} [] []))
        alone true n = (n refl, refl)
        alone false n = tt

        nothing : (ls : List Loc) (l : Loc) → answer_to ls [] l ≡ heard ls (got_by (fresh_end true)) l
        nothing [] l = refl
        nothing (m ∷ ls) l = by (eq_by_cmp loc_cmp l m) where
          by : (b : Bool) → [] ≡ cond b [] (answer_to ls [] l)
          by true = refl
          by false = sym (no_answer ls l)

        received : (b : Bool) → IsReceivedFrom (got_by (fresh_end b)) asked (record { answers = []; so_far = []; is_ended = b })
        received true = record { running = λ t. true-false t; ended = λ _. nothing asked }
        received false = record { running = λ _ more. refl; ended = λ t. true-false (sym t) }

  pub new_reached : (v : ForeView) → v ≡ new_fore s asked requests whole first → ForeReached first (locations requests) whole v (fresh_end first) (fresh_end last)
  new_reached v e = subst (λ v. ForeReached first (locations requests) whole v (fresh_end first) (fresh_end last)) (sym e) (by first last) where
    by : (f l : Bool) → ForeReached f (locations requests) whole (new_fore s asked requests whole f) (fresh_end f) (fresh_end l)
    by true true = record { schedule = []; is = refl }
    by true false = record { schedule = []; is = refl }
    by false true = record { schedule = []; is = refl }
    by false false = record { schedule = []; is = refl }
