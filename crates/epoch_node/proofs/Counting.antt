-- How many events of a core moved, from one event to the next.
use Rattle.std.proofs.Common.{◌≡◌, ℕ, ◌+◌, List, [], ◌∷◌, length, refl, ap, ap₂, sym, subst, subst₂, ◌∙◌, Bool, true, false, arith}
use Rattle.std.specs.Prelude.{Option, Some, None, is_none, is_some}
use Rattle.std.proofs.lemmas.List.{length-map}
use Rattle.lists.proofs.Tests.{true-false}
use Rattle.flow_model.specs.declared.Loc.{Loc}
use Rattle.flow_model.specs.declared.Message.{Message}
use Rattle.report_model.specs.Rows.{Row}
use Rattle.sink_collect.specs.Pairs.{capped}
use Rattle.epoch_model.specs.Summary.{Summary as EpochSummary}
use Rattle.epoch_model.specs.Join.{resolved_row, rows_of}
use Rattle.stream_model.specs.Streams.{requests, heard}
use Rattle.stream_model.specs.Passes.{Asking as AskingState, got_at_start, asking_event, Answering as AnsweringState, answering_start, answering_event, rows_or_none}
use Rattle.stream_model.specs.Work.{many_got, node_work}
use Rattle.stream_model.specs.Schedules.{is_met, begun, asking_need, answering_need}
use Rattle.stream_model.specs.ScheduleLaws.{one_if}
use Rattle.stream_model.proofs.Passing.{AskingHolds, asking_starts, asking_after_holds, answering_starts, answering_after_holds, begun_whole}
use Rattle.stream_model.proofs.Moves.{freed, AskCount, count_asking, whole_asking_before, AnswerCount, count_answering, asking_moves_on, answering_moves_on, asking_moves_over, answering_moves_over}
use Rattle.pass_parts.specs.declared.pass_turn.PassTurn.{PassTurn}
use Rattle.pass_parts.specs.declared.pass_turn.PassTurn.TheVariants as pass_turn
use Rattle.pass_parts.specs.declared.requests.Request.{Request}
use Rattle.pass_parts.specs.Ends.{got_by, sent_by, fresh_end}
use Rattle.pass_parts.specs.Known.{known}
use Rattle.pass_parts.specs.Requests.{locations}
use Rattle.pass_parts.specs.Turns.{OnOver, OnOpen}
use Rattle.backward_pass.specs.Backward.{BackView, knows, state, begins, Reached}
use Rattle.forward_pass.specs.Forward.{ForeView, known_by, fore_state, ForeReached}
use Rattle.epoch_node.specs.Cores.{CoreSetup, StageView, Fresh, Asking, Answering, CoreView, whole_at}
use Rattle.epoch_node.specs.Keeping.{Traffic, fresh_traffic, HasLinks, IsBegun, IsAsking, requests_if, IsSettled, IsAnswering, AtStage, HasAsked, HasAnswered, MovedAt, Counts, node_by, HasCounted}
use Rattle.epoch_node.specs.Events.{got_at, sent_at, traffic_after, PhaseTraffic, traffic_at, one_more, BackActs, ForeActs, Acts, Advances, counted_by}
use Rattle.epoch_node.proofs.Acting.{unsent_yet, asks_reached}

-- a count stands still at its type's end, and so does one more
capped_more : (events moved : ℕ) → events ≡ capped moved → one_more events ≡ capped (moved + 1)
capped_more events moved e = omega (arith, e)

-- what was got, with the End that counts as seen
got_seen : (b : Bool) (got : Option (List Message)) → is_none got ≡ b → length (got_by got) ≡ many_got b (got_by got) + length (got_at_start b)
got_seen true None n = refl
got_seen false None n = true-false n
got_seen true (Some got) n = true-false (sym n)
got_seen false (Some got) n = omega arith

none_got_yet : (b : Bool) → many_got b (got_by (fresh_end b)) ≡ 0
none_got_yet true = refl
none_got_yet false = refl

-- ---- the pass backwards

begun_counted : (i : CoreSetup) (v : BackView) → IsBegun i v → HasAsked i v (fresh_traffic i.first i.last) 1
begun_counted i v b =
    let left : length v.left ≡ length (knows v).sinks = ap (λ (v : BackView). length v.left) b.new in
    let sent : length (sent_by v.over v.whole (fresh_end i.first)) ≡ 0 = ap length (unsent_yet v.over v.whole i.first (ap (λ (v : BackView). v.over) b.new)) in
    omega (arith, left, sent, none_got_yet i.last)

-- a whole pass that is over has walked all sinks
walked_all : (v : BackView) (got sent : Option (List Message)) → Reached v got sent → v.over ≡ true → v.whole ≡ true → length v.left ≡ 0
walked_all v got sent r o t =
    let holds = asking_after_holds v.first v.last (knows v) r.schedule (begins v) (start (is_none v.summary)) (ap (λ (a : AskingState). a.is_whole) (sym r.is) ∙ t) in
    ap (λ (a : AskingState). length a.left) r.is ∙ ap length (holds.over (ap (λ (a : AskingState). a.is_over) (sym r.is) ∙ o)).0
  where
    start : (b : Bool) → (begun b v.last (knows v)).is_whole ≡ true → AskingHolds v.first v.last (knows v) (begun b v.last (knows v))
    start true t = true-false (sym t)
    start false t = asking_starts v.first v.last (knows v)

module _ (i : CoreSetup) (v : BackView) (w : Traffic) (a : IsAsking i v w) (l : HasLinks i w) (next : StageView) (got' sent' : Option (List Message)) (turn : PassTurn)
    (x : BackActs v w.asks_got w.asks_sent next got' sent' turn) (n : is_none got' ≡ is_none w.asks_got) (t : x.back.whole ≡ true) where
  abbrev old_asking : AskingState
  old_asking = state v w.asks_got w.asks_sent

  event_whole : (asking_event v.first (knows v) x.event.happens.links old_asking).is_whole ≡ true
  event_whole = ap (λ (s : AskingState). s.is_whole) (sym x.event.happens.is) ∙ t

  whole_back : v.whole ≡ true
  whole_back = whole_asking_before v.first (knows v) x.event.happens.links old_asking event_whole

  -- in an event that moves
  asks_counted : is_met (asking_need old_asking) (freed x.event.happens.links) ≡ true → (moved : ℕ) → HasAsked i v w moved → HasAsked i x.back (record w { asks_got = got'; asks_sent = sent' }) (moved + 1)
  asks_counted met moved h =
      let count : AskCount old_asking (state x.back got' sent') true =
      subst₂ (AskCount old_asking) (sym x.event.happens.is) met (count_asking v.first (knows v) x.event.happens.links old_asking event_whole) in
      let sinks : length (knows x.back).sinks ≡ length (knows v).sinks = ap (λ s. length (known s).sinks) x.event.same.summary in
      let before = got_seen i.last w.asks_got l.asks_got in
      let after = got_seen i.last got' (n ∙ l.asks_got) in
      omega (arith, h, count, sinks, before, after)

-- a pass forwards that is new has no more moves than the pass backwards before it
settled_counted : (i : CoreSetup) (v : BackView) (f : ForeView) (w : Traffic) → IsSettled i.first i.last v f → v.over ≡ true → v.whole ≡ true → length v.left ≡ 0 → locations v.requests ≡ requests (got_by w.asks_got)
    → w.answers_got ≡ fresh_end i.first → w.answers_sent ≡ fresh_end i.last → (moved : ℕ) → HasAsked i v w moved → HasAnswered i f w moved
settled_counted i v f w s over whole walked requested fresh_got fresh_sent moved h =
    let left : length f.left ≡ length (requests (got_by w.asks_got)) =
    ap (λ (f : ForeView). length f.left) s.new ∙ ap (λ b. length (requests_if b v.requests)) whole ∙ sym (length-map v.requests (λ (r : Request). r.loc)) ∙ ap length requested in
    let sinks : length (known_by f).sinks ≡ length (knows v).sinks = ap (λ (f : ForeView). length (known f.summary).sinks) s.new in
    let asks : length (sent_by v.over v.whole w.asks_sent) ≡ length (sent_by true true w.asks_sent) = ap₂ (λ o b. length (sent_by o b w.asks_sent)) over whole in
    let sent : length (sent_by f.over f.whole w.answers_sent) ≡ 0 =
    ap (λ o. length (sent_by f.over f.whole o)) fresh_sent ∙ ap length (unsent_yet f.over f.whole i.last (ap (λ (f : ForeView). f.over) s.new)) in
    let got : many_got i.first (got_by w.answers_got) ≡ 0 = ap (λ o. many_got i.first (got_by o)) fresh_got ∙ none_got_yet i.first in
    let rows : one_if (is_some f.rows) ≡ 0 = ap (λ (f : ForeView). one_if (is_some f.rows)) s.new in
    omega (arith, h, left, sinks, asks, sent, got, rows, walked)

-- ---- the pass forwards

-- a whole pass that is over has answered all
answered_all : (first whole : Bool) (ls : List Loc) (f : ForeView) (got sent : Option (List Message)) → ForeReached first ls whole f got sent → f.over ≡ true → f.whole ≡ true → length f.left ≡ 0
answered_all first whole ls f got sent r o t =
    let holds =
    answering_after_holds first (known_by f) f.asked ls r.schedule (answering_start whole first ls) (λ _. answering_starts whole first (known_by f) f.asked ls)
    (ap (λ (s : AnsweringState). s.is_whole) (sym r.is) ∙ t) in
    sym (length-map f.left (λ (r : Request). r.loc)) ∙ ap (λ (s : AnsweringState). length s.left) r.is
    ∙ ap length (holds.over (ap (λ (s : AnsweringState). s.is_over) (sym r.is) ∙ o)).3

module _ (i : CoreSetup) (f : ForeView) (w : Traffic) (a : IsAnswering i f w) (l : HasLinks i w) (next : StageView) (got' sent' : Option (List Message)) (turn : PassTurn)
    (x : ForeActs f w.answers_got w.answers_sent next got' sent' turn) (n : is_none got' ≡ is_none w.answers_got) (t : x.fore.whole ≡ true) where
  abbrev old_answering : AnsweringState
  old_answering = fore_state f w.answers_got w.answers_sent

  answer_whole : (answering_event (known_by f) f.asked x.event.happens.links old_answering).is_whole ≡ true
  answer_whole = ap (λ (s : AnsweringState). s.is_whole) (sym x.event.happens.is) ∙ t

  whole_fore : f.whole ≡ true
  whole_fore = begun_whole (known_by f) f.asked (x.event.happens.links ∷ []) old_answering answer_whole

  -- in an event that moves
  answers_counted : is_met (answering_need (known_by f) f.asked old_answering) (freed x.event.happens.links) ≡ true → (moved : ℕ) → HasAnswered i f w moved
      → HasAnswered i x.fore (record w { answers_got = got'; answers_sent = sent' }) (moved + 1)
  answers_counted met moved h =
      let count : AnswerCount old_answering (fore_state x.fore got' sent') true =
      subst₂ (AnswerCount old_answering) (sym x.event.happens.is) met (count_answering (known_by f) f.asked x.event.happens.links old_answering answer_whole) in
      let sinks : length (known_by x.fore).sinks ≡ length (known_by f).sinks = ap (λ s. length (known s).sinks) x.event.same.summary in
      let before = got_seen i.first w.answers_got l.answers_got in
      let after = got_seen i.first got' (n ∙ l.answers_got) in
      let left_before : length (locations f.left) ≡ length f.left = length-map f.left (λ (r : Request). r.loc) in
      let left_after : length (locations x.fore.left) ≡ length x.fore.left = length-map x.fore.left (λ (r : Request). r.loc) in
      omega (arith, h, count, sinks, before, after, left_before, left_after)

-- ---- an event of a core

-- a core that is whole after an event was whole before it, and one event more moved
pub record MovesOn (i : CoreSetup) (s : StageView) (w : Traffic) (after : StageView) (w' : Traffic) : Type 0 where
  pub whole : whole_at s ≡ true
  pub more : (moved : ℕ) → MovedAt i s w moved → MovedAt i after w' (moved + 1)

moved_at : (i : CoreSetup) (s next : StageView) (w : Traffic) (on' : PhaseTraffic) → HasLinks i w → is_none on'.got ≡ is_none (got_at s w)
    → AtStage i s w → Acts s (traffic_at s w) next on' pass_turn.Moved → whole_at next ≡ true → MovesOn i s w next (traffic_after s on'.got on'.sent w)
moved_at i (Fresh t) next w on' l n at x h = let over : pass_turn.Moved ≡ pass_turn.Over = x.2 in cc
moved_at i (Asking v) next w on' l n at x h =
    let t = ap whole_at (sym x.is) ∙ h in
    let met = asking_moves_on x.event.happens.links (state v w.asks_got w.asks_sent) at.running x.event.happens.could_move.0 x.event.happens.could_move.1 in
    record {
      whole = whole_back i v w at l next on'.got on'.sent pass_turn.Moved x n t;
      more = λ moved m. subst (λ n. MovedAt i n (traffic_after (Asking v) on'.got on'.sent w) (moved + 1)) (sym x.is) (asks_counted i v w at l next on'.got on'.sent pass_turn.Moved x n t met moved m);
    }
moved_at i (Answering f) next w on' l n at x h =
    let t = ap whole_at (sym x.is) ∙ h in
    let met = answering_moves_on (known_by f) f.asked x.event.happens.links (fore_state f w.answers_got w.answers_sent) at.1 x.event.happens.could_move.0 x.event.happens.could_move.1 in
    record {
      whole = whole_fore i f w at.0 l next on'.got on'.sent pass_turn.Moved x n t;
      more = λ moved m. subst (λ n. MovedAt i n (traffic_after (Answering f) on'.got on'.sent w) (moved + 1)) (sym x.is) (answers_counted i f w at.0 l next on'.got on'.sent pass_turn.Moved x n t met moved m);
    }
moved_at i s next w on' l n at x h = absurd x

over_moved_at : (i : CoreSetup) (s next after : StageView) (w : Traffic) (on' : PhaseTraffic) → HasLinks i w → is_none on'.got ≡ is_none (got_at s w)
    → AtStage i s w → Acts s (traffic_at s w) next on' pass_turn.Over → Advances i next after → whole_at after ≡ true → MovesOn i s w after (traffic_after s on'.got on'.sent w)
over_moved_at i (Fresh t) next after w on' l n at x v h =
    let y = subst (λ n. Advances i n after) x.0 v in
    let traffic : traffic_after (Fresh t) on'.got on'.sent w ≡ fresh_traffic i.first i.last = ap (λ (o : PhaseTraffic). record w { asks_got = o.got; asks_sent = o.sent }) x.1 ∙ at.2 in
    record {
      whole = refl;
      more = λ moved m. subst (λ n. MovedAt i n (traffic_after (Fresh t) on'.got on'.sent w) (moved + 1)) (sym y.is)
          (subst (λ w. HasAsked i y.back w (moved + 1)) (sym traffic) (subst (λ (k : ℕ). HasAsked i y.back (fresh_traffic i.first i.last) (k + 1)) (sym m) (begun_counted i y.back y.begun)));
    }
over_moved_at i (Asking v) next after w on' l n at x a h =
    let y = subst (λ n. Advances i n after) x.is a in
    let t : x.back.whole ≡ true = sym (ap (λ (f : ForeView). f.whole) y.settled.new) ∙ ap whole_at (sym y.is) ∙ h in
    let met =
    asking_moves_over v.first (knows v) x.event.happens.links (state v w.asks_got w.asks_sent) at.running (ap (λ (s : AskingState). s.is_over) (sym x.event.happens.is) ∙ x.event.over) in
    let traffic : Traffic = record w { asks_got = on'.got; asks_sent = on'.sent } in
    record {
      whole = whole_back i v w at l next on'.got on'.sent pass_turn.Over x n t;
      more = λ moved m. subst (λ n. MovedAt i n traffic (moved + 1)) (sym y.is)
          (settled_counted i x.back y.fore traffic y.settled x.event.over t (walked_all x.back on'.got on'.sent (asks_reached i v w at next on'.got on'.sent pass_turn.Over x) x.event.over t) (x.event.keeps.requested t) at.answers_got at.answers_sent (moved + 1)
          (asks_counted i v w at l next on'.got on'.sent pass_turn.Over x n t met moved m));
    }
over_moved_at i (Answering f) next after w on' l n at x a h =
    let y = subst (λ n. Advances i n after) x.is a in
    let t : x.fore.whole ≡ true = ap whole_at (sym y) ∙ h in
    let met =
    answering_moves_over (known_by f) f.asked x.event.happens.links (fore_state f w.answers_got w.answers_sent) at.1 (ap (λ (s : AnsweringState). s.is_over) (sym x.event.happens.is) ∙ x.event.over) in
    record {
      whole = whole_fore i f w at.0 l next on'.got on'.sent pass_turn.Over x n t;
      more = λ moved m. subst (λ n. MovedAt i n (traffic_after (Answering f) on'.got on'.sent w) (moved + 1)) (sym y) (answers_counted i f w at.0 l next on'.got on'.sent pass_turn.Over x n t met moved m);
    }
over_moved_at i s next after w on' l n at x a h = absurd x

-- ---- the count

module _ (c d : CoreView) (same : d.setup ≡ c.setup) (w w' : Traffic) (after : StageView) (is : d.stage ≡ after) where
  -- of a core after an event that moved
  pub counts_one : d.events ≡ one_more c.events → (whole_at c.stage ≡ true → Counts c w) → (whole_at after ≡ true → MovesOn c.setup c.stage w after w') → whole_at d.stage ≡ true → Counts d w'
  counts_one e k m h =
      let on = m (ap whole_at (sym is) ∙ h) in
      let old = k on.whole in
      record {
        moved = old.moved + 1;
        at_stage = subst₂ (λ i s. MovedAt i s w' (old.moved + 1)) (sym same) (sym is) (on.more old.moved old.at_stage);
        is = e ∙ capped_more c.events old.moved old.is;
      }

-- where the event did not happen nothing did
pub still_at : (s next : StageView) (on on' : PhaseTraffic) → Acts s on next on' pass_turn.NotYet → (next ≡ s) × (on' ≡ on)
still_at (Fresh t) next on on' x = let over : pass_turn.NotYet ≡ pass_turn.Over = x.2 in cc
still_at (Asking v) next on on' x = (x.is ∙ ap Asking x.event.not_yet.0, ap₂ (λ g s. record { got = g; sent = s }) x.event.not_yet.1 x.event.not_yet.2)
still_at (Answering f) next on on' x = (x.is ∙ ap Answering x.event.not_yet.0, ap₂ (λ g s. record { got = g; sent = s }) x.event.not_yet.1 x.event.not_yet.2)
still_at s next on on' x = absurd x

-- what goes through the links of a phase where nothing more does
pub traffic_still : (s : StageView) (w : Traffic) → traffic_after s (got_at s w) (sent_at s w) w ≡ w
traffic_still (Fresh t) w = refl
traffic_still s w = refl

module _ (c d : CoreView) (same : d.setup ≡ c.setup) (w : Traffic) (on' : PhaseTraffic) (l : HasLinks c.setup w) (n : is_none on'.got ≡ is_none (got_at c.stage w))
    (at : AtStage c.setup c.stage w) (k : whole_at c.stage ≡ true → Counts c w) (next : StageView) where
  abbrev later : Traffic
  later = traffic_after c.stage on'.got on'.sent w

  pub counts_at : (turn : PassTurn) → Acts c.stage (traffic_at c.stage w) next on' turn → OnOpen turn (d.stage ≡ next) → OnOver turn (Advances c.setup next d.stage) → d.events ≡ counted_by turn c.events
      → whole_at d.stage ≡ true → Counts d later
  counts_at pass_turn.Moved x o a e = counts_one c d same w later next o e k (moved_at c.setup c.stage next w on' l n at x)
  counts_at pass_turn.NotYet x o a e = λ h.
      let still = still_at c.stage next (traffic_at c.stage w) on' x in
      let traffic : later ≡ w = ap (λ (o : PhaseTraffic). traffic_after c.stage o.got o.sent w) still.1 ∙ traffic_still c.stage w in
      let stage = o ∙ still.0 in
      let old = k (ap whole_at (sym stage) ∙ h) in
      record {
        moved = old.moved;
        at_stage = subst₂ (λ i s. MovedAt i s later old.moved) (sym same) (sym stage) (subst (λ w. MovedAt c.setup c.stage w old.moved) (sym traffic) old.at_stage);
        is = e ∙ old.is;
      }
  counts_at pass_turn.Over x o a e = counts_one c d same w later d.stage refl e k (over_moved_at c.setup c.stage next d.stage w on' l n at x a)

-- ---- at the end

pub has_counted : (i : CoreSetup) (f : ForeView) (w : Traffic) → IsAnswering i f w → f.over ≡ true → f.whole ≡ true → (moved : ℕ) → HasAnswered i f w moved → (asked : List Loc) (rows : List Row) (events : ℕ) → rows ≡ rows_or_none f.rows
    → events ≡ capped moved → HasCounted i w asked rows events
has_counted i f w a o t moved h asked rows events rows_is e = λ epoch. e ∙ ap capped (work epoch) where
  resolved : f.rows ≡ Some (rows_of (known_by f) (heard f.asked (got_by w.answers_got)))
  resolved = (a.sends t).rows o

  work : (epoch : EpochSummary) → moved ≡ node_work i.first i.last (node_by epoch w asked rows)
  work epoch =
      let left = answered_all i.first a.asking.is_whole a.noted f w.answers_got w.answers_sent a.reached o t in
      let made : one_if (is_some f.rows) ≡ 1 = ap (λ rows. one_if (is_some rows)) resolved in
      let many : length rows ≡ length (known_by f).sinks = ap length (rows_is ∙ ap rows_or_none resolved) ∙ length-map (known_by f).sinks (resolved_row (heard f.asked (got_by w.answers_got))) in
      let sent : length (sent_by f.over f.whole w.answers_sent) ≡ length (sent_by true true w.answers_sent) = ap₂ (λ o b. length (sent_by o b w.answers_sent)) o t in
      omega (arith, h, left, made, many, sent)
