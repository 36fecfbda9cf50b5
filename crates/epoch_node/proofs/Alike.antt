-- The events of a core are those of nodes.
use Rattle.std.proofs.Common.{◌≡◌, List, [], ◌∷◌, ◌++◌, refl, ap, ap₂, sym, subst, subst₂, ◌∙◌, Bool, true, false}
use Rattle.std.specs.Prelude.{Option, Some, None, is_none}
use Rattle.lists.proofs.Tests.{true-false}
use Rattle.flow_model.specs.declared.Loc.{Loc}
use Rattle.flow_model.specs.declared.Message.{Message}
use Rattle.flow_model.specs.declared.Message.TheVariants.{End}
use Rattle.epoch_model.specs.Summary.{Summary as EpochSummary}
use Rattle.run_board.specs.declared.task.Turn.{Turn}
use Rattle.stream_model.specs.Streams.{is_ended, requests}
use Rattle.stream_model.specs.Passes.{Links, Asking as AskingState, got_at_start, drop_ask, end_asks, broken_asking, asking_by, asking_event, Answering as AnsweringState, drop_answer, end_answers, broken_answering, answering_by, answering_event, answering_start}
use Rattle.stream_model.specs.Schedules.{Phase, Fresh as NotBegun, Asks, Answers, begun, settled_by}
use Rattle.stream_model.proofs.Passing.{begun_whole}
use Rattle.pass_parts.specs.Ends.{got_by, sent_by, fresh_end}
use Rattle.pass_parts.specs.Requests.{locations}
use Rattle.backward_pass.specs.Backward.{BackView, knows, state}
use Rattle.forward_pass.specs.Forward.{ForeView, new_fore, known_by, fore_state}
use Rattle.epoch_node.specs.Cores.{CoreSetup, StageView, Fresh, Asking, Answering, Done, Between}
use Rattle.epoch_node.specs.Keeping.{Traffic, requests_if, IsAsking, AtStage}
use Rattle.epoch_node.specs.Events.{got_at, sent_at, traffic_after, settled_by as settled_stage, answered_by, Begins, Asks as AsksOn, Answers as AnswersOn, Steps}
use Rattle.epoch_node.specs.Phases.{event_with, NodeEventIsByLinks, IsAlikeAsking, IsAlikeAnswering, HasEnded, IsAnsweringIn, IsIn, IsKnown, EventsAreOfNodes}
use Rattle.epoch_node.proofs.Acting.{unsent_yet}

pub node_event_is_by_links : NodeEventIsByLinks
node_event_is_by_links capacity refused previous next e NotBegun = refl
node_event_is_by_links capacity refused previous next e p = refl

-- ---- asking

same_asking : (a b : AskingState) → a ≡ b → IsAlikeAsking a b
same_asking a b e = record { got = ap (λ (a : AskingState). a.got) e; sent = ap (λ (a : AskingState). a.sent) e; whole = ap (λ (a : AskingState). a.is_whole) e; over = ap (λ (a : AskingState). a.is_over) e; same = λ _. e }

module _ (links : Links) (a b : AskingState) (h : IsAlikeAsking a b) (w : a.is_whole ≡ false) where
  broken_alike : (ended : Bool) → IsAlikeAsking (broken_asking links a ended) (broken_asking links b ended)
  broken_alike false = by links.item where
    by : (next : Option Message) → IsAlikeAsking (drop_ask a next) (drop_ask b next)
    by None = h
    by (Some m) = record { got = ap (λ ms. ms ++ m ∷ []) h.got; sent = h.sent; whole = h.whole; over = h.over; same = λ t. true-false (sym t ∙ w) }
  broken_alike true = by links.has_room where
    by : (room : Bool) → IsAlikeAsking (end_asks room a) (end_asks room b)
    by true = record { got = h.got; sent = ap₂ (λ ms b. ms ++ End b ∷ []) h.sent h.whole; whole = h.whole; over = refl; same = λ t. true-false (sym t ∙ w) }
    by false = h

  broken_event : (first other : Bool) (e d : EpochSummary) (over : Bool) → a.is_over ≡ over → IsAlikeAsking (asking_event first e links a) (asking_event other d links b)
  broken_event first other e d over o =
      subst₂ IsAlikeAsking (sym (ap₂ (asking_by first e links a) o w)) (sym (ap₂ (asking_by other d links b) (sym h.over ∙ o) (sym h.whole ∙ w))) (by over) where
        by : (over : Bool) → IsAlikeAsking (asking_by first e links a over false) (asking_by other d links b over false)
        by true = h
        by false = subst (λ ended. IsAlikeAsking (broken_asking links a (is_ended a.got)) (broken_asking links b ended)) (ap is_ended h.got) (broken_alike (is_ended a.got))

asking_alike : (first other : Bool) (e d : EpochSummary) (links : Links) (a b : AskingState) → IsAlikeAsking a b → first ≡ other → (b.is_whole ≡ true → e ≡ d)
    → IsAlikeAsking (asking_event first e links a) (asking_event other d links b)
asking_alike first other e d links a b h f k = by a.is_whole refl where
  by : (whole : Bool) → a.is_whole ≡ whole → IsAlikeAsking (asking_event first e links a) (asking_event other d links b)
  by true w = same_asking _ _ (ap (λ first. asking_event first e links a) f ∙ ap₂ (λ e a. asking_event other e links a) (k (sym h.whole ∙ w)) (h.same w))
  by false w = broken_event links a b h w first other e d a.is_over refl

-- ---- answering

same_answering : (f g : AnsweringState) → f ≡ g → IsAlikeAnswering f g
same_answering f g e = record { got = ap (λ (f : AnsweringState). f.got) e; sent = ap (λ (f : AnsweringState). f.sent) e; whole = ap (λ (f : AnsweringState). f.is_whole) e; over = ap (λ (f : AnsweringState). f.is_over) e; same = λ _. e }

module _ (links : Links) (f g : AnsweringState) (h : IsAlikeAnswering f g) (w : f.is_whole ≡ false) where
  broken_answering_alike : (ended : Bool) → IsAlikeAnswering (broken_answering links f ended) (broken_answering links g ended)
  broken_answering_alike false = by links.item where
    by : (next : Option Message) → IsAlikeAnswering (drop_answer f next) (drop_answer g next)
    by None = h
    by (Some m) = record { got = ap (λ ms. ms ++ m ∷ []) h.got; sent = h.sent; whole = h.whole; over = h.over; same = λ t. true-false (sym t ∙ w) }
  broken_answering_alike true = by links.has_room where
    by : (room : Bool) → IsAlikeAnswering (end_answers room f) (end_answers room g)
    by true = record { got = h.got; sent = ap₂ (λ ms b. ms ++ End b ∷ []) h.sent h.whole; whole = h.whole; over = refl; same = λ t. true-false (sym t ∙ w) }
    by false = h

  broken_answer : (e d : EpochSummary) (asked other : List Loc) (over : Bool) → f.is_over ≡ over → IsAlikeAnswering (answering_event e asked links f) (answering_event d other links g)
  broken_answer e d asked other over o =
      subst₂ IsAlikeAnswering (sym (ap₂ (answering_by e asked links f) o w)) (sym (ap₂ (answering_by d other links g) (sym h.over ∙ o) (sym h.whole ∙ w))) (by over) where
        by : (over : Bool) → IsAlikeAnswering (answering_by e asked links f over false) (answering_by d other links g over false)
        by true = h
        by false = subst (λ ended. IsAlikeAnswering (broken_answering links f (is_ended f.got)) (broken_answering links g ended)) (ap is_ended h.got) (broken_answering_alike (is_ended f.got))

answering_alike : (e d : EpochSummary) (asked other : List Loc) (links : Links) (f g : AnsweringState) → IsAlikeAnswering f g → (g.is_whole ≡ true → e ≡ d) → (g.is_whole ≡ true → asked ≡ other)
    → IsAlikeAnswering (answering_event e asked links f) (answering_event d other links g)
answering_alike e d asked other links f g h k l = by f.is_whole refl where
  by : (whole : Bool) → f.is_whole ≡ whole → IsAlikeAnswering (answering_event e asked links f) (answering_event d other links g)
  by true w =
      let t = sym h.whole ∙ w in
      same_answering _ _ (ap (λ asked. answering_event e asked links f) (l t) ∙ ap₂ (λ e f. answering_event e other links f) (k t) (h.same w))
  by false w = broken_answer links f g h w e d asked other f.is_over refl

-- ---- the events, phase by phase

begun_alike : (refused last : Bool) (e : EpochSummary) (v : BackView) (got sent : Option (List Message)) → state v got sent ≡ begun refused last (knows v) → (v.whole ≡ true → e ≡ knows v)
    → IsAlikeAsking (begun refused last e) (state v got sent)
begun_alike true last e v got sent is k = subst (IsAlikeAsking (begun true last e)) (sym is) (record { got = refl; sent = refl; whole = refl; over = refl; same = λ t. true-false (sym t) })
begun_alike false last e v got sent is k =
    subst (IsAlikeAsking (begun false last e)) (sym is) (same_asking _ _ (ap (begun false last) (k (ap (λ (a : AskingState). a.is_whole) is))))

-- a pass forwards that is new is alike the one of the definitions
settled_alike : (first last : Bool) (b : AskingState) (v : BackView) (got : List Message) (answers_got answers_sent : Option (List Message))
    → b.got ≡ got → b.is_whole ≡ v.whole → (v.whole ≡ true → locations v.requests ≡ requests got) → answers_got ≡ fresh_end first → answers_sent ≡ fresh_end last
    → IsAlikeAnswering (answering_start b.is_whole first (requests b.got)) (fore_state (new_fore v.summary v.asked (requests_if v.whole v.requests) v.whole first) answers_got answers_sent)
settled_alike first last b v got answers_got answers_sent g w r fresh_got fresh_sent = record { got = got_is; sent = sent_is; whole = w; over = refl; same = same } where
  start : (b : Bool) → got_at_start b ≡ got_by (fresh_end b)
  start true = refl
  start false = refl

  got_is : got_at_start first ≡ got_by answers_got
  got_is = start first ∙ ap got_by (sym fresh_got)

  sent_is : [] ≡ sent_by false v.whole answers_sent
  sent_is = sym (ap (sent_by false v.whole) fresh_sent ∙ unsent_yet false v.whole last refl)

  same : b.is_whole ≡ true → answering_start b.is_whole first (requests b.got) ≡ fore_state (new_fore v.summary v.asked (requests_if v.whole v.requests) v.whole first) answers_got answers_sent
  same t =
      let whole = sym w ∙ t in
      let left = ap requests g ∙ sym (r whole) ∙ ap (λ b. locations (requests_if b v.requests)) (sym whole) in
      let make : List Loc → List Message → List Message → Bool → AnsweringState = λ ls got sent b. record { left = ls; sending = []; got = got; sent = sent; rows = None; is_whole = b; is_over = false } in
      ap (λ ls. make ls (got_at_start first) [] b.is_whole) left
      ∙ ap₂ (λ got sent. make (locations (requests_if v.whole v.requests)) got sent b.is_whole) got_is sent_is
      ∙ ap (make (locations (requests_if v.whole v.requests)) (got_by answers_got) (sent_by false v.whole answers_sent)) w

module _ (i : CoreSetup) (e : EpochSummary) (w : Traffic) (got' sent' : Option (List Message)) (turn : Turn) (next : StageView) where
  -- a node begins
  begins_in : (p : Phase) → IsIn (Fresh i.epoch) w p → Begins i w.asks_got w.asks_sent next got' sent' turn → IsKnown e next
      → (links : Links) × IsIn next (record w { asks_got = got'; asks_sent = sent' }) (event_with i.first i.last e links p)
  begins_in NotBegun h x k =
      let known = subst (IsKnown e) x.is k in (
        record { has_room = true; item = None; is_refused = is_none x.back.summary },
        subst (λ n. IsIn n (record w { asks_got = got'; asks_sent = sent' }) (Asks (begun (is_none x.back.summary) i.last e))) (sym x.is)
            (begun_alike (is_none x.back.summary) i.last e x.back got' sent' x.begins known),
      )
  begins_in p h x k = absurd h

  -- an event of the pass backwards
  asks_in : (v : BackView) → IsAsking i v w → (p : Phase) → IsIn (Asking v) w p → AsksOn i v w.asks_got w.asks_sent next got' sent' turn → IsKnown e (Asking v)
      → (links : Links) × IsIn next (record w { asks_got = got'; asks_sent = sent' }) (event_with i.first i.last e links p)
  asks_in v at (Asks a) h x k =
      (links, subst (λ n. IsIn n later (settled_by b.is_over i.first b)) (sym x.is) (subst (λ o. IsIn (settled_stage x.back.over i x.back) later (settled_by o i.first b)) (sym alike.over) (by x.back.over refl))) where
        later : Traffic
        later = record w { asks_got = got'; asks_sent = sent' }

        links : Links
        links = x.happens.links

        b : AskingState
        b = asking_event i.first e links a

        alike : IsAlikeAsking b (state x.back got' sent')
        alike = subst (IsAlikeAsking b) (sym x.happens.is) (asking_alike i.first v.first e (knows v) links a (state v w.asks_got w.asks_sent) h (sym at.first) k)

        by : (over : Bool) → x.back.over ≡ over → IsIn (settled_stage over i x.back) later (settled_by over i.first b)
        by false o = alike
        by true o = (
          record {
            got = alike.got;
            sent = alike.sent ∙ ap₂ (λ o b. sent_by o b sent') o (sym alike.whole);
            over = alike.over ∙ o;
            asked = λ t. ap (λ (a : AskingState). a.asked) (alike.same (alike.whole ∙ t));
          },
          settled_alike i.first i.last b x.back (got_by got') w.answers_got w.answers_sent alike.got alike.whole x.requested at.answers_got at.answers_sent,
        )
  asks_in v at p h x k = absurd h

  -- an event of the pass forwards
  answers_in : (f : ForeView) (p : Phase) → IsAnsweringIn f w p → AnswersOn f w.answers_got w.answers_sent next got' sent' turn → IsKnown e (Answering f)
      → (links : Links) × IsIn next (record w { answers_got = got'; answers_sent = sent' }) (event_with i.first i.last e links p)
  answers_in f (Answers a g) h x k =
      (links, subst (λ n. IsIn n later (Answers a (answering_event e a.asked links g))) (sym x.is) (by x.fore.over)) where
        later : Traffic
        later = record w { answers_got = got'; answers_sent = sent' }

        links : Links
        links = x.happens.links

        alike : IsAlikeAnswering (answering_event e a.asked links g) (fore_state x.fore got' sent')
        alike = subst (IsAlikeAnswering (answering_event e a.asked links g)) (sym x.happens.is) (answering_alike e (known_by f) a.asked f.asked links g (fore_state f w.answers_got w.answers_sent) h.1 k h.0.asked)

        was_whole : x.fore.whole ≡ true → f.whole ≡ true
        was_whole t = begun_whole (known_by f) f.asked (links ∷ []) (fore_state f w.answers_got w.answers_sent) (sym (ap (λ (s : AnsweringState). s.is_whole) x.happens.is) ∙ t)

        ended : HasEnded a x.fore later
        ended = record { got = h.0.got; sent = h.0.sent; over = h.0.over; asked = λ t. h.0.asked (was_whole t) ∙ sym x.same.asked }

        by : (over : Bool) → IsIn (answered_by over x.fore) later (Answers a (answering_event e a.asked links g))
        by true = (ended, alike)
        by false = (ended, alike)
  answers_in f p h x k = absurd h

-- nothing more happens to a node that is done
done_in : (i : CoreSetup) (e : EpochSummary) (f : ForeView) (w later : Traffic) (next : StageView) (p : Phase) → f.over ≡ true → next ≡ Done f → later ≡ w → IsAnsweringIn f w p
    → (links : Links) × IsIn next later (event_with i.first i.last e links p)
done_in i e f w later next (Answers a g) o is same h =
    let links : Links = record { has_room = true; item = None; is_refused = false } in
    let still : answering_event e a.asked links g ≡ g = ap (λ over. answering_by e a.asked links g over g.is_whole) (h.1.over ∙ o) in (
      links,
      subst (λ n. IsIn n later (Answers a (answering_event e a.asked links g))) (sym is)
          (subst (λ w. IsAnsweringIn f w (Answers a (answering_event e a.asked links g))) (sym same) (subst (λ g. IsAnsweringIn f w (Answers a g)) (sym still) h)),
    )
done_in i e f w later next p o is same h = absurd h

events_at : (i : CoreSetup) (s next : StageView) (w : Traffic) (got' sent' : Option (List Message)) (turn : Turn) (e : EpochSummary) (p : Phase) → AtStage i s w
    → Steps i s (got_at s w) (sent_at s w) next got' sent' turn → IsKnown e s → IsKnown e next → IsIn s w p
    → (links : Links) × IsIn next (traffic_after s got' sent' w) (event_with i.first i.last e links p)
events_at i (Fresh t) next w got' sent' turn e p at x k l h = begins_in i e w got' sent' turn next p (fresh p h) x l where
  fresh : (p : Phase) → IsIn (Fresh t) w p → IsIn (Fresh i.epoch) w p
  fresh NotBegun h = h
  fresh (Asks a) h = h
  fresh (Answers a f) h = h
events_at i (Asking v) next w got' sent' turn e p at x k l h = asks_in i e w got' sent' turn next v at p h x k
events_at i (Answering f) next w got' sent' turn e p at x k l h = answers_in i e w got' sent' turn next f p h x k
events_at i (Done f) next w got' sent' turn e p at x k l h =
    done_in i e f w (record w { answers_got = got'; answers_sent = sent' }) next p at.1 x.is (ap₂ (λ g s. record w { answers_got = g; answers_sent = s }) x.got_same x.sent_same) h
events_at i Between next w got' sent' turn e p at x k l h = absurd x

pub events_are_of_nodes : EventsAreOfNodes
events_are_of_nodes old new w got' sent' turn e p k x known later h =
    let r = events_at old.setup old.stage new.stage w got' sent' turn e p k.stage x known later h in
    record { links = r.0; is_in = r.1 }
