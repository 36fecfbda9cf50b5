-- What an event of a core sends, and how much less is left after it.
use Rattle.std.proofs.Common.{◌≡◌, ◌⊎◌, inl, inr, ℕ, ◌+◌, ◌-◌, ◌<◌, ◌≤◌, List, [], ◌∷◌, ◌++◌, length, refl, ap, sym, subst, ◌∙◌, Bool, true, false, arith}
use Rattle.std.specs.Prelude.{Option, Some, None, is_none, IsSome}
use Rattle.lists.proofs.Tests.{true-false}
use Rattle.flow_model.specs.declared.Message.{Message}
use Rattle.flow_model.specs.declared.Message.TheVariants.{End}
use Rattle.epoch_model.specs.Summary.{Summary}
use Rattle.run_board.specs.declared.task.Turn.{Turn}
use Rattle.run_board.specs.declared.task.Turn.TheVariants.{NotYet}
use Rattle.stream_model.specs.Streams.{is_ended, requests}
use Rattle.stream_model.specs.Passes.{Asking as AskingState, Answering as AnsweringState}
use Rattle.stream_model.specs.Schedules.{is_met, asking_need, answering_need}
use Rattle.stream_model.specs.ScheduleLaws.{one_if}
use Rattle.stream_model.proofs.Moving.{sent_part, IsGot, AskMoved, asking_moves, AnswerFits, AnswerMoved, answering_moves}
use Rattle.stream_model.proofs.Progress.{AsksForward, asks_forward, AsksNoMore, asks_no_more, unresolved, AnswersForward, answers_forward, AnswersNoMore, answers_no_more, asking_met, answering_met, at_most_one}
use Rattle.pass_parts.specs.declared.pass_turn.PassTurn.{PassTurn}
use Rattle.pass_parts.specs.declared.pass_turn.PassTurn.TheVariants as pass_turn
use Rattle.pass_parts.specs.Ends.{got_by, sent_by}
use Rattle.pass_parts.specs.Known.{known}
use Rattle.pass_parts.specs.Requests.{locations}
use Rattle.pass_parts.specs.Turns.{OnOver, OnMoved}
use Rattle.backward_pass.specs.Backward.{BackView, knows, state}
use Rattle.forward_pass.specs.Forward.{ForeView, new_fore, known_by, fore_state}
use Rattle.epoch_node.specs.Cores.{CoreSetup, StageView, Asking, Answering}
use Rattle.epoch_node.specs.Keeping.{Traffic, HasLinks, IsAsking, IsAnswering, AtStage, requests_if}
use Rattle.epoch_node.specs.Events.{settled_by, answered_by, asks_turn, answers_turn, Asks as AsksOn, Answers as AnswersOn}
use Rattle.jet_core.specs.Lines.{HasSettled}
use Rattle.jet_core.specs.Streams.{all_asks, all_answers, HasSentPart}
use Rattle.jet_core.specs.Left.{phase_in, one_unless, messages_left, core_left}
use Rattle.jet_core.proofs.Parts.{prefix_length, broken_part, HasGotPart, got_length, sent_length}
use Rattle.jet_core.proofs.Sending.{asking_part, asked_part, answering_part}

-- ---- numbers

asks_to_asks : (A R T U l l' w w' s s' g g' : ℕ) → l' + w' + s + g + 1 ≤ l + w + s' + g' → s' ≤ A → g' ≤ R → s ≤ s' → g ≤ g'
    → l' + w' + R + 4 + (A - s') + (R - g') + (T - 0) + (U - 0) < l + w + R + 4 + (A - s) + (R - g) + (T - 0) + (U - 0)
asks_to_asks A R T U l l' w w' s s' g g' h a r p q = omega (arith, h, a, r, p, q)

asks_to_answers : (A R T U l l' w w' u o s s' g g' t q : ℕ) → l' ≤ R → w' ≤ 1 → u ≤ 1 → o ≤ 1 → s ≤ s' → g ≤ g'
    → l' + w' + u + o + (A - s') + (R - g') + (T - t) + (U - q) < l + w + R + 4 + (A - s) + (R - g) + (T - 0) + (U - 0)
asks_to_answers A R T U l l' w w' u o s s' g g' t q a b c d p r = omega (arith, a, b, c, d, p, r)

answers_to_answers : (X Y T U l l' w w' u u' o o' t t' q q' m n : ℕ) → l' + w' + u' + q + t + m ≤ l + w + u + q' + t' → o' + n ≤ o → 1 ≤ m + n → t' ≤ T → q' ≤ U → t ≤ t' → q ≤ q'
    → l' + w' + u' + o' + X + Y + (T - t') + (U - q') < l + w + u + o + X + Y + (T - t) + (U - q)
answers_to_answers X Y T U l l' w w' u u' o o' t t' q q' m n h d e a b p r = omega (arith, h, d, e, a, b, p, r)

shorter : (got got' : List Message) (next : Option Message) → IsGot next got got' → length got ≤ length got'
shorter got got' next (inl e) = let n = ap length e in omega (arith, n)
shorter got got' next (inr g) = let n = prefix_length got got' (g.0 ∷ [], sym g.2) in n

few_requests : (ms : List Message) → length (requests ms) ≤ length ms
few_requests [] = omega arith
few_requests (End whole ∷ ms) = omega arith
few_requests (m ∷ ms) = let n = few_requests ms in omega (arith, n)

same_long : (o o' whole whole' : Bool) (sent : Option (List Message)) → o ≡ o' → length (sent_by o whole sent) ≡ length (sent_by o' whole' sent)
same_long true true whole whole' None e = refl
same_long false false whole whole' None e = refl
same_long true false whole whole' None e = true-false e
same_long false true whole whole' None e = true-false (sym e)
same_long o o' whole whole' (Some sent) e = refl

-- what went through an end that is there or not, before an event and after it
sent_on_broken : (all : List Message) (o o' whole whole' : Bool) (sent sent' : Option (List Message)) → is_none sent' ≡ is_none sent → HasSentPart all sent
    → (sent_by o' whole' sent' ≡ sent_by o whole sent) ⊎ ((is_ended (sent_by o whole sent) ≡ false) × (sent_by o' whole' sent' ≡ sent_by o whole sent ++ End false ∷ [])) → HasSentPart all sent'
sent_on_broken all o o' whole whole' None None n p e = tt
sent_on_broken all o o' whole whole' None (Some s) n p e = true-false (sym n)
sent_on_broken all o o' whole whole' (Some s) None n p e = tt
sent_on_broken all o o' whole whole' (Some s) (Some s') n p e = broken_part all s s' p e

-- ---- an event of the pass backwards

module _ (i : CoreSetup) (v : BackView) (w : Traffic) (at : IsAsking i v w) (next : StageView) (got' sent' : Option (List Message)) (turn : Turn) (x : AsksOn i v w.asks_got w.asks_sent next got' sent' turn)
    (es : List Summary) where
  abbrev after : Traffic
  after = record w { asks_got = got'; asks_sent = sent' }

  forward : AsksForward (state v w.asks_got w.asks_sent) (state x.back got' sent') (is_met (asking_need (state v w.asks_got w.asks_sent)) x.happens.links)
  forward =
      subst (λ (b : AskingState). AsksForward (state v w.asks_got w.asks_sent) b (is_met (asking_need (state v w.asks_got w.asks_sent)) x.happens.links)) (sym x.happens.is)
      (asks_forward v.first (knows v) x.happens.links (state v w.asks_got w.asks_sent))

  no_more : AsksNoMore (state v w.asks_got w.asks_sent) (state x.back got' sent')
  no_more = subst (AsksNoMore (state v w.asks_got w.asks_sent)) (sym x.happens.is) (asks_no_more v.first (knows v) x.happens.links (state v w.asks_got w.asks_sent))

  moved : AskMoved x.happens.links (state v w.asks_got w.asks_sent) (state x.back got' sent')
  moved =
      subst (AskMoved x.happens.links (state v w.asks_got w.asks_sent)) (sym x.happens.is)
      (asking_moves v.first (knows v) x.happens.links (state v w.asks_got w.asks_sent) at.running at.unended)

  -- what it has sent
  pub asks_sent_part : HasLinks i after → AtStage i next after → is_none sent' ≡ is_none w.asks_sent → HasGotPart (all_asks es) got' → HasSentPart (all_asks (knows v ∷ es)) w.asks_sent
      → HasSentPart (all_asks (knows v ∷ es)) sent'
  asks_sent_part links to n g p = by x.back.whole refl x.back.over refl where
    known_same : knows x.back ≡ knows v
    known_same = ap known x.same.summary

    by : (whole : Bool) → x.back.whole ≡ whole → (over : Bool) → x.back.over ≡ over → HasSentPart (all_asks (knows v ∷ es)) sent'
    by true t false o =
        subst (λ (e : Summary). HasSentPart (all_asks (e ∷ es)) sent') known_same
        (asking_part i after links es x.back (subst (λ s. AtStage i s after) (x.is ∙ ap (λ b. settled_by b i x.back) o) to) t g)
    by true t true o =
        let here = subst (λ s. AtStage i s after) (x.is ∙ ap (λ b. settled_by b i x.back) o) to in
        subst (λ (e : Summary). HasSentPart (all_asks (e ∷ es)) sent') known_same
        (asked_part i after links es (new_fore x.back.summary x.back.asked (requests_if x.back.whole x.back.requests) x.back.whole i.first) here.0 t g)
    by false t over o = sent_on_broken (all_asks (knows v ∷ es)) v.over x.back.over v.whole x.back.whole w.asks_sent sent' n p (lesser (no_more t)) where
      lesser : {A B C : Type 0} → A ⊎ (B × C) → A ⊎ (is_ended (sent_by v.over v.whole w.asks_sent) ≡ false × C)
      lesser (inl a) = inl a
      lesser (inr c) = inr (at.unended, c.1)

  met : (c : PassTurn) → x.came_to ≡ c → (turn ≡ NotYet → ⊥) → x.back.over ≡ false → is_met (asking_need (state v w.asks_got w.asks_sent)) x.happens.links ≡ true
  met pass_turn.Moved e not_still o =
      let could_move = subst (λ c. OnMoved c ((x.happens.links.has_room ≡ true) × IsSome x.happens.links.item)) e x.happens.could_move in
      asking_met x.happens.links could_move.0 could_move.1 (state v w.asks_got w.asks_sent) at.running
  met pass_turn.NotYet e not_still o = absurd (not_still (x.answered ∙ ap asks_turn e))
  met pass_turn.Over e not_still o = true-false (sym (subst (λ c. OnOver c (x.back.over ≡ true)) e x.over) ∙ o)

  -- how much less is left
  pub asks_less : (asks answered answers : List Message) → HasSentPart asks sent' → HasGotPart (all_asks es) got' → (turn ≡ NotYet → ⊥)
      → core_left asks (all_asks es) answered answers (phase_in next after) < core_left asks (all_asks es) answered answers (phase_in (Asking v) w)
  asks_less asks answered answers p g not_still =
      subst (λ s. core_left asks (all_asks es) answered answers (phase_in s after) < core_left asks (all_asks es) answered answers (phase_in (Asking v) w)) (sym x.is) (by x.back.over refl) where
        more_sent : length (sent_by v.over v.whole w.asks_sent) ≤ length (sent_by x.back.over x.back.whole sent')
        more_sent = prefix_length _ _ (sent_part x.happens.links.has_room _ _ moved.sent)

        more_got : length (got_by w.asks_got) ≤ length (got_by got')
        more_got = shorter (got_by w.asks_got) (got_by got') x.happens.links.item moved.got

        settled : (whole : Bool) → x.back.whole ≡ whole → length (locations (requests_if whole x.back.requests)) ≤ length (all_asks es) + 1
        settled false t = omega arith
        settled true t =
            let few = few_requests (got_by got') in
            let some = got_length (all_asks es) got' g in
            let same : length (locations x.back.requests) ≡ length (requests (got_by got')) = ap length (x.requested t) in
            omega (arith, few, some, same)

        by : (over : Bool) → x.back.over ≡ over → core_left asks (all_asks es) answered answers (phase_in (settled_by over i x.back) after) < core_left asks (all_asks es) answered answers (phase_in (Asking v) w)
        by false o =
            let on = subst (λ m. AsksForward (state v w.asks_got w.asks_sent) (state x.back got' sent') m) (met x.came_to refl not_still o) forward in
            asks_to_asks (length asks + 1) (length (all_asks es) + 1) (length answered + 1) (length answers + 1) (length v.left) (length x.back.left) (one_if v.whole) (one_if x.back.whole)
            (length (sent_by v.over v.whole w.asks_sent)) (length (sent_by x.back.over x.back.whole sent')) (length (got_by w.asks_got)) (length (got_by got'))
            on (sent_length asks x.back.over x.back.whole sent' p) (got_length (all_asks es) got' g) more_sent more_got
        by true o =
            let longer : length (sent_by v.over v.whole w.asks_sent) ≤ length (sent_by true true sent') = subst (λ n. length (sent_by v.over v.whole w.asks_sent) ≤ n) (same_long x.back.over true x.back.whole true sent' o) more_sent in
            asks_to_answers (length asks + 1) (length (all_asks es) + 1) (length answered + 1) (length answers + 1) (length v.left) (length (locations (requests_if x.back.whole x.back.requests))) (one_if v.whole) (one_if x.back.whole) 1 1
            (length (sent_by v.over v.whole w.asks_sent)) (length (sent_by true true sent')) (length (got_by w.asks_got)) (length (got_by got')) (length (got_by w.answers_got)) (length (sent_by false x.back.whole w.answers_sent))
            (settled x.back.whole refl) (at_most_one x.back.whole) (omega arith) (omega arith) longer more_got

  -- an End was got and sent where it goes on to answer
  pub asks_settled : HasSettled next after
  asks_settled = subst (λ s. HasSettled s after) (sym x.is) (by x.back.over refl) where
    ended_same : (whole : Bool) (sent : Option (List Message)) → is_ended (sent_by true whole sent) ≡ true → is_ended (sent_by true true sent) ≡ true
    ended_same whole None e = refl
    ended_same whole (Some sent) e = e

    by : (over : Bool) → x.back.over ≡ over → HasSettled (settled_by over i x.back) after
    by false o = tt
    by true o =
        let both = moved.over o in
        (both.1, ended_same x.back.whole sent' (subst (λ b. is_ended (sent_by b x.back.whole sent') ≡ true) o both.0))

-- ---- an event of the pass forwards

module _ (i : CoreSetup) (f : ForeView) (w : Traffic) (at : IsAnswering i f w) (running : f.over ≡ false) (next : StageView) (got' sent' : Option (List Message)) (turn : Turn)
    (x : AnswersOn f w.answers_got w.answers_sent next got' sent' turn) (es : List Summary) where
  abbrev answered_after : Traffic
  answered_after = record w { answers_got = got'; answers_sent = sent' }

  answer_forward : AnswersForward (fore_state f w.answers_got w.answers_sent) (fore_state x.fore got' sent') (is_met (answering_need (known_by f) f.asked (fore_state f w.answers_got w.answers_sent)) x.happens.links)
  answer_forward =
      subst (λ (g : AnsweringState). AnswersForward (fore_state f w.answers_got w.answers_sent) g (is_met (answering_need (known_by f) f.asked (fore_state f w.answers_got w.answers_sent)) x.happens.links)) (sym x.happens.is)
      (answers_forward (known_by f) f.asked x.happens.links (fore_state f w.answers_got w.answers_sent))

  answer_no_more : AnswersNoMore (fore_state f w.answers_got w.answers_sent) (fore_state x.fore got' sent')
  answer_no_more =
      subst (AnswersNoMore (fore_state f w.answers_got w.answers_sent)) (sym x.happens.is)
      (answers_no_more (known_by f) f.asked x.happens.links (fore_state f w.answers_got w.answers_sent))

  fits : AnswerFits (fore_state f w.answers_got w.answers_sent)
  fits = record { running = at.unended; over = at.ended }

  answer_moved : AnswerMoved x.happens.links (fore_state f w.answers_got w.answers_sent) (fore_state x.fore got' sent')
  answer_moved =
      subst (AnswerMoved x.happens.links (fore_state f w.answers_got w.answers_sent)) (sym x.happens.is)
      (answering_moves (known_by f) f.asked x.happens.links (fore_state f w.answers_got w.answers_sent) fits)

  known_still : known_by x.fore ≡ known_by f
  known_still = ap known x.same.summary

  answering_at : (s : StageView) → next ≡ answered_by x.fore.over x.fore → AtStage i next answered_after → IsAnswering i x.fore answered_after
  answering_at s e to = by x.fore.over (subst (λ s. AtStage i s answered_after) e to) where
    by : (over : Bool) → AtStage i (answered_by over x.fore) answered_after → IsAnswering i x.fore answered_after
    by true h = h.0
    by false h = h.0

  -- what it has sent
  pub answers_sent_part : HasLinks i answered_after → AtStage i next answered_after → is_none sent' ≡ is_none w.answers_sent → HasGotPart (all_asks es) w.asks_got → (answered : List Message) → HasGotPart answered got'
      → HasSentPart (all_answers i.first (known_by f) es answered) w.answers_sent → HasSentPart (all_answers i.first (known_by f) es answered) sent'
  answers_sent_part links to n asked answered g p = by x.fore.whole refl where
    by : (whole : Bool) → x.fore.whole ≡ whole → HasSentPart (all_answers i.first (known_by f) es answered) sent'
    by true t =
        subst (λ (e : Summary). HasSentPart (all_answers i.first e es answered) sent') known_still
        (answering_part i answered_after links es x.fore (answering_at next x.is to) t asked answered g)
    by false t = sent_on_broken (all_answers i.first (known_by f) es answered) f.over x.fore.over f.whole x.fore.whole w.answers_sent sent' n p (lesser (answer_no_more t)) where
      lesser : {A B C : Type 0} → A ⊎ (B × C) → A ⊎ (is_ended (sent_by f.over f.whole w.answers_sent) ≡ false × C)
      lesser (inl a) = inl a
      lesser (inr c) = inr ((at.unended running).0, c.1)

  answer_met : (c : PassTurn) → x.came_to ≡ c → (turn ≡ NotYet → ⊥) → x.fore.over ≡ false → is_met (answering_need (known_by f) f.asked (fore_state f w.answers_got w.answers_sent)) x.happens.links ≡ true
  answer_met pass_turn.Moved e not_still o =
      let could_move = subst (λ c. OnMoved c ((x.happens.links.has_room ≡ true) × IsSome x.happens.links.item)) e x.happens.could_move in
      answering_met x.happens.links could_move.0 could_move.1 (known_by f) f.asked (fore_state f w.answers_got w.answers_sent) running
  answer_met pass_turn.NotYet e not_still o = absurd (not_still (x.answered ∙ ap answers_turn e))
  answer_met pass_turn.Over e not_still o = true-false (sym (subst (λ c. OnOver c (x.fore.over ≡ true)) e x.over) ∙ o)

  -- how much less is left
  pub answers_less : (asks requests answered answers : List Message) → HasSentPart answers sent' → HasGotPart answered got' → (turn ≡ NotYet → ⊥)
      → core_left asks requests answered answers (phase_in next answered_after) < core_left asks requests answered answers (phase_in (Answering f) w)
  answers_less asks requests answered answers p g not_still =
      subst (λ s. core_left asks requests answered answers (phase_in s answered_after) < core_left asks requests answered answers (phase_in (Answering f) w)) (sym x.is) (by x.fore.over refl) where
        less : (m n : ℕ) → length (locations x.fore.left) + one_if x.fore.whole + unresolved x.fore.rows + length (sent_by f.over f.whole w.answers_sent) + length (got_by w.answers_got) + m
            ≤ length (locations f.left) + one_if f.whole + unresolved f.rows + length (sent_by x.fore.over x.fore.whole sent') + length (got_by got')
            → one_unless x.fore.over + n ≤ one_unless f.over → 1 ≤ m + n
            → core_left asks requests answered answers (phase_in (Answering x.fore) answered_after) < core_left asks requests answered answers (phase_in (Answering f) w)
        less m n h d e =
            answers_to_answers (messages_left asks (sent_by true true w.asks_sent)) (messages_left requests (got_by w.asks_got)) (length answered + 1) (length answers + 1)
            (length (locations f.left)) (length (locations x.fore.left)) (one_if f.whole) (one_if x.fore.whole) (unresolved f.rows) (unresolved x.fore.rows) (one_unless f.over) (one_unless x.fore.over)
            (length (got_by w.answers_got)) (length (got_by got')) (length (sent_by f.over f.whole w.answers_sent)) (length (sent_by x.fore.over x.fore.whole sent')) m n
            h d e (got_length answered got' g) (sent_length answers x.fore.over x.fore.whole sent' p)
            (shorter (got_by w.answers_got) (got_by got') x.happens.links.item answer_moved.got) (prefix_length _ _ (sent_part x.happens.links.has_room _ _ answer_moved.sent))

        by : (over : Bool) → x.fore.over ≡ over → core_left asks requests answered answers (phase_in (answered_by over x.fore) answered_after) < core_left asks requests answered answers (phase_in (Answering f) w)
        by false o =
            let on = subst (λ m. AnswersForward (fore_state f w.answers_got w.answers_sent) (fore_state x.fore got' sent') m) (answer_met x.came_to refl not_still o) answer_forward in
            less 1 0 on (let a = ap one_unless o in let b = ap one_unless running in omega (arith, a, b)) (omega arith)
        by true o =
            let on = answer_forward in
            less 0 1 (omega (arith, on)) (let a = ap one_unless o in let b = ap one_unless running in omega (arith, a, b)) (omega arith)
