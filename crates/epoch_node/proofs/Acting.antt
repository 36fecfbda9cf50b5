-- What the parts of an event keep.
use Rattle.std.proofs.Common.{◌≡◌, inl, inr, List, [], ◌∷◌, ◌++◌, append-nil, refl, ap, ap₂, sym, subst, ◌∙◌, Bool, true, false, rules}
use Rattle.std.specs.Prelude.{Option, Some, None, is_none}
use Rattle.lists.proofs.Tests.{true-false}
use Rattle.epoch_link.specs.Link.{EndView}
use Rattle.flow_model.specs.declared.Loc.{Loc}
use Rattle.flow_model.specs.declared.Message.{Message}
use Rattle.report_model.specs.Rows.{Row}
use Rattle.epoch_model.specs.Join.{rows_of}
use Rattle.stream_model.specs.Streams.{is_ended, requests, heard, asked_of, asks_for, answers_for}
use Rattle.stream_model.specs.StreamLaws.{IsPrefix}
use Rattle.stream_model.specs.Passes.{Answering as AnsweringState, answering_start, rows_or_none}
use Rattle.stream_model.specs.PassLaws.{AsksSent, AnswersSent}
use Rattle.stream_model.proofs.Moving.{sent_part, IsGot, AskMoved, asking_moves, AnswerMoved, answering_moves}
use Rattle.stream_model.proofs.Passing.{begun_whole}
use denote.Enum.Bare.{sameb, same_true, same_false}
use Rattle.pass_parts.specs.declared.pass_turn.PassTurn.{PassTurn}
use Rattle.pass_parts.specs.Ends.{through, IsEndFrom, got_by, sent_by, fresh_end}
use Rattle.pass_parts.specs.Known.{known}
use Rattle.pass_parts.specs.Requests.{locations}
use Rattle.backward_pass.specs.Backward.{BackView, knows, state, Reached}
use Rattle.backward_pass.proofs.Reaching.{reached_next, sends_for}
use Rattle.forward_pass.specs.Forward.{ForeView, known_by, fore_state, ForeKeeps, ForeReached}
use Rattle.forward_pass.proofs.Reaching.{reached_next as fore_reached, reached_sends}
use Rattle.epoch_node.specs.contracts.stage.Phase.{the_type}
use Rattle.epoch_node.specs.declared.stage.Phase.{Phase}
use Rattle.epoch_node.specs.declared.stage.Phase.TheVariants.{Done}
use Rattle.epoch_node.specs.Cores.{CoreSetup, StageView}
use Rattle.epoch_node.specs.Keeping.{Traffic, fresh_traffic, KnowsEpoch, IsBegun, IsAsking, requests_if, CanSettle, IsSettled, IsAnswering, HasDone}
use Rattle.epoch_node.specs.Events.{IsMore, BackActs, ForeActs}

-- ---- whether a phase is the last, by what `==` answers

pub is_done : (p : Phase) → sameb the_type p Done ≡ true → p ≡ Done
is_done p e = same_true the_type (search rules) p Done e

pub not_done : (p : Phase) → sameb the_type p Done ≡ false → p ≡ Done → ⊥
not_done p e = same_false the_type p Done e

-- ---- what went through the ends

module _ {E : Type 0} (end : E → EndView Message) where
  -- an event makes no end and takes none away
  pub same_none : (new old : Option E) → IsEndFrom end new old → is_none (through end new) ≡ is_none (through end old)
  same_none None None h = refl
  same_none (Some n) (Some o) h = refl
  same_none new old h = absurd h

more_same : (list : Option (List Message)) → IsMore list list
more_same None = tt
more_same (Some list) = ([], append-nil list)

pub more_still : (old new : Option (List Message)) → new ≡ old → IsMore old new
more_still old new e = subst (IsMore old) (sym e) (more_same old)

more_got : {next : Option Message} (old new : Option (List Message)) → is_none new ≡ is_none old → IsGot next (got_by old) (got_by new) → IsMore old new
more_got None None n g = tt
more_got None (Some new) n g = true-false (sym n)
more_got (Some old) None n g = true-false n
more_got (Some old) (Some new) n (inl e) = more_still (Some old) (Some new) (ap Some e)
more_got (Some old) (Some new) n (inr g) = (g.0 ∷ [], sym g.2)

more_sent : (o w p x : Bool) (old new : Option (List Message)) → is_none new ≡ is_none old → IsPrefix (sent_by o w old) (sent_by p x new) → IsMore old new
more_sent o w p x None None n g = tt
more_sent o w p x None (Some new) n g = true-false (sym n)
more_sent o w p x (Some old) None n g = true-false n
more_sent o w p x (Some old) (Some new) n g = g

pub unsent_yet : (o w b : Bool) → o ≡ false → sent_by o w (fresh_end b) ≡ []
unsent_yet true w b e = true-false e
unsent_yet false w true e = refl
unsent_yet false w false e = refl

-- ---- the pass backwards

-- what is not over has only part of what is to be sent
pub begun_asking : (i : CoreSetup) (v : BackView) → IsBegun i v → IsAsking i v (fresh_traffic i.first i.last)
begun_asking i v b = record {
  summary = b.summary;
  first = ap (λ v. v.first) b.new;
  last = ap (λ v. v.last) b.new;
  running = running;
  keeps = b.keeps;
  reached = b.reached;
  sends = λ _. record {
    part = λ _. (asks_for (knows v) (got_by (fresh_end i.last)), ap (λ ms. ms ++ asks_for (knows v) (got_by (fresh_end i.last))) unsent);
    whole = λ o. true-false (sym o ∙ running);
    asked = λ o. true-false (sym o ∙ running);
    ended = λ o. true-false (sym o ∙ running);
  };
  unended = ap is_ended unsent;
  answers_got = refl;
  answers_sent = refl;
} where
  running : v.over ≡ false
  running = ap (λ v. v.over) b.new

  unsent : sent_by v.over v.whole (fresh_end i.first) ≡ []
  unsent = unsent_yet v.over v.whole i.first running

module _ (i : CoreSetup) (v : BackView) (w : Traffic) (a : IsAsking i v w) (next : StageView) (got' sent' : Option (List Message)) (turn : PassTurn)
    (x : BackActs v w.asks_got w.asks_sent next got' sent' turn) where
  asks_moved : AskMoved x.event.happens.links (state v w.asks_got w.asks_sent) (state x.back got' sent')
  asks_moved =
      subst (AskMoved x.event.happens.links (state v w.asks_got w.asks_sent)) (sym x.event.happens.is)
      (asking_moves v.first (knows v) x.event.happens.links (state v w.asks_got w.asks_sent) a.running a.unended)

  pub asks_reached : Reached x.back got' sent'
  asks_reached = reached_next v x.back w.asks_got w.asks_sent got' sent' turn x.event.happens x.event.same a.reached

  pub asks_got_more : is_none got' ≡ is_none w.asks_got → IsMore w.asks_got got'
  asks_got_more n = more_got w.asks_got got' n asks_moved.got

  pub asks_sent_more : is_none sent' ≡ is_none w.asks_sent → IsMore w.asks_sent sent'
  asks_sent_more n = more_sent v.over v.whole x.back.over x.back.whole w.asks_sent sent' n (sent_part x.event.happens.links.has_room _ _ asks_moved.sent)

  still_known : KnowsEpoch i x.back.summary
  still_known = subst (KnowsEpoch i) (sym x.event.same.summary) a.summary

  pub still_asking : x.back.over ≡ false → IsAsking i x.back (record w { asks_got = got'; asks_sent = sent' })
  still_asking o = record {
    summary = still_known;
    first = x.event.same.first ∙ a.first;
    last = x.event.same.last ∙ a.last;
    running = o;
    keeps = x.event.keeps;
    reached = asks_reached;
    sends = sends_for x.back got' sent' asks_reached;
    unended = asks_moved.running o;
    answers_got = a.answers_got;
    answers_sent = a.answers_sent;
  }

  pub can_settle : is_none w.asks_got ≡ i.last → is_none got' ≡ is_none w.asks_got → CanSettle i.first i.last x.back
  can_settle l n = record {
    got = got';
    sent = sent';
    keeps = x.event.keeps;
    first_is = x.event.same.first ∙ a.first;
    alone = λ t. none got' (n ∙ l ∙ t);
  } where
    none : (g : Option (List Message)) → is_none g ≡ true → g ≡ None
    none None e = refl
    none (Some g) e = true-false (sym e)

  -- ---- the pass forwards begins

  pub begins_to_answer : x.back.over ≡ true → (f : ForeView) → IsSettled i.first i.last x.back f → IsAnswering i f (record w { asks_got = got'; asks_sent = sent' })
  begins_to_answer o f s = record {
    summary = subst (KnowsEpoch i) (sym summary) still_known;
    asking = state x.back got' sent';
    got = refl;
    sent = ap (λ o. sent_by o x.back.whole sent') o;
    over = o;
    asked = sym (ap (λ f. f.asked) s.new);
    asks = λ t. asks t;
    ends = λ t. x.event.keeps.ends t (x.event.keeps.heard ∙ (sends_for x.back got' sent' asks_reached t).ended o);
    noted = locations (requests_if x.back.whole x.back.requests);
    noted_is = λ t. ap (λ b. locations (requests_if b x.back.requests)) t ∙ x.event.keeps.requested t;
    keeps = subst (λ g. ForeKeeps f g w.answers_sent) (sym a.answers_got) (subst (ForeKeeps f (fresh_end i.first)) (sym a.answers_sent) s.keeps);
    reached = subst (λ g. ForeReached i.first noted x.back.whole f g w.answers_sent) (sym a.answers_got) (subst (ForeReached i.first noted x.back.whole f (fresh_end i.first)) (sym a.answers_sent) s.reached);
    sends = λ _. record {
      part = (answers_for (known_by f) f.asked noted (got_by w.answers_got), ap (λ ms. ms ++ answers_for (known_by f) f.asked noted (got_by w.answers_got)) unsent);
      whole = λ t. true-false (sym t ∙ running);
      rows = λ t. true-false (sym t ∙ running);
      ended = λ t. true-false (sym t ∙ running);
    };
    unended = λ _. (ap is_ended unsent, ap (λ f. is_ended f.sending) s.new);
    ended = λ t. true-false (sym t ∙ running);
  } where
    noted : List Loc
    noted = locations (requests_if x.back.whole x.back.requests)

    summary : f.summary ≡ x.back.summary
    summary = ap (λ f. f.summary) s.new

    running : f.over ≡ false
    running = ap (λ f. f.over) s.new

    unsent : sent_by f.over f.whole w.answers_sent ≡ []
    unsent = ap (sent_by f.over f.whole) a.answers_sent ∙ unsent_yet f.over f.whole i.last running

    asks : x.back.whole ≡ true → AsksSent i.first (known_by f) (state x.back got' sent')
    asks t =
        subst (λ s. AsksSent i.first (known s) (state x.back got' sent')) (sym summary)
        (subst (λ first. AsksSent first (knows x.back) (state x.back got' sent')) (x.event.same.first ∙ a.first) (sends_for x.back got' sent' asks_reached t))

-- ---- the pass forwards

module _ (i : CoreSetup) (f : ForeView) (w : Traffic) (a : IsAnswering i f w) (next : StageView) (got' sent' : Option (List Message)) (turn : PassTurn)
    (x : ForeActs f w.answers_got w.answers_sent next got' sent' turn) where
  answers_moved : AnswerMoved x.event.happens.links (fore_state f w.answers_got w.answers_sent) (fore_state x.fore got' sent')
  answers_moved =
      subst (AnswerMoved x.event.happens.links (fore_state f w.answers_got w.answers_sent)) (sym x.event.happens.is)
      (answering_moves (known_by f) f.asked x.event.happens.links (fore_state f w.answers_got w.answers_sent) (record { running = a.unended; over = a.ended }))

  pub answers_got_more : is_none got' ≡ is_none w.answers_got → IsMore w.answers_got got'
  answers_got_more n = more_got w.answers_got got' n answers_moved.got

  pub answers_sent_more : is_none sent' ≡ is_none w.answers_sent → IsMore w.answers_sent sent'
  answers_sent_more n = more_sent f.over f.whole x.fore.over x.fore.whole w.answers_sent sent' n (sent_part x.event.happens.links.has_room _ _ answers_moved.sent)

  pub still_answering : IsAnswering i x.fore (record w { answers_got = got'; answers_sent = sent' })
  still_answering = record {
    summary = subst (KnowsEpoch i) (sym x.event.same.summary) a.summary;
    asking = a.asking;
    got = a.got;
    sent = a.sent;
    over = a.over;
    asked = a.asked ∙ sym x.event.same.asked;
    asks = λ t. subst (λ s. AsksSent i.first (known s) a.asking) (sym x.event.same.summary) (a.asks t);
    ends = a.ends;
    noted = a.noted;
    noted_is = a.noted_is;
    keeps = x.event.keeps;
    reached = later;
    sends = reached_sends x.fore got' sent' i.first a.asking.is_whole a.noted later;
    unended = answers_moved.fits.running;
    ended = answers_moved.fits.over;
  } where
    later : ForeReached i.first a.noted a.asking.is_whole x.fore got' sent'
    later = fore_reached f x.fore w.answers_got w.answers_sent got' sent' turn i.first a.asking.is_whole a.noted x.event.happens x.event.same a.reached

-- ---- at the end

-- where the pass forwards is whole, the pass backwards ended whole
pub began_whole : (i : CoreSetup) (f : ForeView) (w : Traffic) (a : IsAnswering i f w) → f.whole ≡ true → a.asking.is_whole ≡ true
began_whole i f w a t = begun_whole (known_by f) f.asked a.reached.schedule (answering_start a.asking.is_whole i.first a.noted) (sym (ap (λ (s : AnsweringState). s.is_whole) a.reached.is) ∙ t)

pub has_done : (i : CoreSetup) (f : ForeView) (w : Traffic) → IsAnswering i f w → f.over ≡ true → f.whole ≡ true → (asked : List Loc) (rows : List Row) → asked ≡ f.asked → rows ≡ rows_or_none f.rows → HasDone i w asked rows
has_done i f w a o t asked rows asked_is rows_is = record {
  summary = known_by f;
  found = a.summary (a.keeps.known t);
  done = record {
    asked = asked_is ∙ sym a.asked ∙ asks.asked a.over ∙ ap (λ got. asked_of i.first (known_by f) (requests got)) a.got;
    asks = λ n. ap (λ b. sent_by true b w.asks_sent) (sym began) ∙ sym a.sent ∙ asks.whole a.over n ∙ ap (asks_for (known_by f)) a.got;
    answers = λ _.
        sym (ap₂ (λ o b. sent_by o b w.answers_sent) o t) ∙ answers.whole o
        ∙ ap₂ (λ asked noted. answers_for (known_by f) asked noted (got_by w.answers_got)) (sym asked_is) (a.noted_is began);
    rows = rows_is ∙ ap rows_or_none (answers.rows o) ∙ ap (λ asked. rows_of (known_by f) (heard asked (got_by w.answers_got))) (sym asked_is);
  };
  asks_end = a.ends began;
  answers_end = a.keeps.ends t (a.keeps.heard ∙ answers.ended o);
} where
  answers : AnswersSent (known_by f) f.asked a.noted (fore_state f w.answers_got w.answers_sent)
  answers = a.sends t

  began : a.asking.is_whole ≡ true
  began = began_whole i f w a t

  asks : AsksSent i.first (known_by f) a.asking
  asks = a.asks began
