-- From the beginning of the pass on. Crates above cite these lemmas.
use Rattle.std.proofs.Common.{◌≡◌, List, [], ◌∷◌, ◌++◌, refl, ap, ap₂, sym, ◌∙◌, Bool, true, false, subst}
use Rattle.std.specs.Prelude.{Option, Some, None, is_none}
use Rattle.lists.proofs.Tests.{true-false}
use Rattle.flow_model.specs.declared.Message.{Message}
use Rattle.epoch_model.specs.Summary.{Summary as EpochSummary}
use Rattle.epoch_summary.specs.declared.summary.Summary.{Summary}
use Rattle.stream_model.specs.Passes.{Asking, Links, asking_event, asking_after}
use Rattle.stream_model.specs.PassLaws.{AsksSent}
use Rattle.stream_model.specs.Schedules.{begun}
use Rattle.stream_model.proofs.Moves.{whole_asking_before}
use Rattle.stream_model.proofs.Passing.{asking_sends}
use Rattle.pass_parts.specs.declared.pass_turn.PassTurn.{PassTurn}
use Rattle.pass_parts.specs.Ends.{fresh_end}
use Rattle.pass_parts.specs.Known.{known}
use Rattle.backward_pass.specs.Backward.{BackView, knows, new_back, state, begins, IsSameBack, Happens, Reached, SendsFor}

-- what ends whole began whole
begun_whole : (first : Bool) (e : EpochSummary) (schedule : List Links) (a : Asking) → (asking_after first e schedule a).is_whole ≡ true → a.is_whole ≡ true
begun_whole first e [] a w = w
begun_whole first e (links ∷ schedule) a w = whole_asking_before first e links a (begun_whole first e schedule (asking_event first e links a) w)

after_one_more : (first : Bool) (e : EpochSummary) (schedule : List Links) (links : Links) (a : Asking) → asking_after first e (schedule ++ links ∷ []) a ≡ asking_event first e links (asking_after first e schedule a)
after_one_more first e [] links a = refl
after_one_more first e (l ∷ schedule) links a = after_one_more first e schedule links (asking_event first e l a)

pub reached_next : (old new : BackView) (got sent got' sent' : Option (List Message)) (turn : PassTurn) → Happens old got sent new got' sent' turn → IsSameBack new old → Reached old got sent → Reached new got' sent'
reached_next old new got sent got' sent' turn h same r =
    let later = r.schedule ++ h.links ∷ [] in
    let after : Option Summary → Bool → Bool → Asking = λ s first last. asking_after first (known s) later (begun (is_none s) last (known s)) in
    record {
      schedule = later;
      is = h.is ∙ ap (asking_event old.first (knows old) h.links) r.is ∙ sym (after_one_more old.first (knows old) r.schedule h.links (begins old))
          ∙ ap (λ s. after s old.first old.last) (sym same.summary) ∙ ap₂ (after new.summary) (sym same.first) (sym same.last);
    }

pub sends_for : (v : BackView) (got sent : Option (List Message)) → Reached v got sent → SendsFor v got sent
sends_for v got sent r = λ w. by w v.summary refl where
  by : v.whole ≡ true → (s : Option Summary) → v.summary ≡ s → AsksSent v.first (knows v) (state v got sent)
  by w None is =
      let whole = begun_whole v.first (knows v) r.schedule (begins v) (sym (ap (λ (a : Asking). a.is_whole) r.is) ∙ w) in
      true-false (sym whole ∙ ap (λ s. (begun (is_none s) v.last (knows v)).is_whole) is)
  by w (Some s) is =
      let same = r.is ∙ ap (λ s. asking_after v.first (knows v) r.schedule (begun (is_none s) v.last (knows v))) is in
      subst (AsksSent v.first (knows v)) (sym same) (asking_sends v.first v.last (knows v) r.schedule (sym (ap (λ (a : Asking). a.is_whole) same) ∙ w))

-- a pass that is new stands where the definitions begin
pub begins_state : (s : Option Summary) (first last : Bool) → state (new_back s first last) (fresh_end last) (fresh_end first) ≡ begun (is_none s) last (known s)
begins_state None true true = refl
begins_state None false true = refl
begins_state (Some s) true true = refl
begins_state (Some s) false true = refl
begins_state s first last = refl

pub reached_made : (s : Option Summary) (first last : Bool) (v : BackView) → v ≡ new_back s first last → Reached v (fresh_end last) (fresh_end first)
reached_made s first last v e = subst (λ v. Reached v (fresh_end last) (fresh_end first)) (sym e) (record { schedule = []; is = begins_state s first last })
