-- What events change, and what they keep between neighbours.
use Rattle.std.proofs.Common.{◌≡◌, ◌⊎◌, inl, inr, ℕ, zero, suc, List, [], ◌∷◌, ◌++◌, ◌||◌, length, drop, refl, ap, sym, subst, ◌∙◌, Bool, true, false, append_assoc}
use Rattle.std.proofs.lemmas.Bool.{or_parts}
use Rattle.std.specs.Prelude.{Option, Some, None, is_none}
use Rattle.lists.proofs.Tests.{true-false}
use Rattle.flow_model.specs.declared.Loc.{Loc}
use Rattle.flow_model.specs.declared.SourceByte.{SourceByte}
use Rattle.flow_model.specs.declared.Message.{Message}
use Rattle.flow_model.specs.declared.Message.TheVariants.{Ask, End}
use Rattle.epoch_model.specs.Summary.{Summary}
use Rattle.epoch_model.specs.Join.{resolved}
use Rattle.stream_model.specs.Streams.{is_ended, heard, answer}
use Rattle.stream_model.specs.StreamLaws.{IsPrefix}
use Rattle.stream_model.specs.Passes.{Links, Asking, Answering, asking_start, asking_event, answering_event}
use Rattle.stream_model.specs.Schedules.{Phase, Fresh, Asks, Answers, NodeState, Event, asks_sent_in, asks_got_in, answers_sent_in, answers_got_in, first_of, next_item, has_room_for, asking_links, answering_links, begun, settled_by, node_event, phase_of_first, event_at, nodes_start, nodes_after}
use Rattle.stream_model.proofs.Events.{AskEvent, PushesAsk, WalksSink, TakesAsk, DropsAsk, EndsAsks, ask_event, AnswerEvent, AnswersNothing, PushesAnswer, TakesAnswer, BuildsAnswer, ResolvesRows, DropsAnswer, EndsAnswers, answer_event}
use Rattle.stream_model.proofs.Growing.{prefix_same, prefix_trans, ended_stays, ended_append}

-- ---- Ends in lists

pub ended_after : (xs ys : List Message) → is_ended xs ≡ false → is_ended (xs ++ ys) ≡ is_ended ys
ended_after xs ys h = ended_append xs ys ∙ ap (λ (b : Bool). b || is_ended ys) h

no_end : (l : Loc) (set : List SourceByte) → is_ended (answer l set) ≡ false
no_end l [] = refl
no_end l (b ∷ bs) = no_end l bs

apart : (m : Message) (ms : List Message) → is_ended (m ∷ ms) ≡ false → (is_ended (m ∷ []) ≡ false) × (is_ended ms ≡ false)
apart m ms n = or_parts (is_ended (m ∷ [])) (is_ended ms) (sym (ended_append (m ∷ []) ms) ∙ n)

-- ---- what an event sends and gets

-- a message was sent where there was room for it, or nothing
abbrev pub IsSent : Bool → List Message → List Message → Type 0
IsSent room sent new = (new ≡ sent) ⊎ ((m : Message) × (room ≡ true) × (new ≡ sent ++ m ∷ []))

sent_longer : (room : Bool) (got sent new : List Message) → IsSent room sent new → IsPrefix got sent → IsPrefix got new
sent_longer room got sent new (inl e) p = subst (IsPrefix got) (sym e) p
sent_longer room got sent new (inr s) p = prefix_trans got sent new p (s.0 ∷ [], sym s.2)

pub sent_part : (room : Bool) (sent new : List Message) → IsSent room sent new → IsPrefix sent new
sent_part room sent new s = sent_longer room sent sent new s (prefix_same sent sent refl)

-- the next item was got, or nothing
abbrev pub IsGot : Option Message → List Message → List Message → Type 0
IsGot next got new = (new ≡ got) ⊎ ((m : Message) × (next ≡ Some m) × (new ≡ got ++ m ∷ []))

pub drop_front : (xs ys : List Message) → drop (length xs) (xs ++ ys) ≡ ys
drop_front [] ys = refl
drop_front (x ∷ xs) ys = drop_front xs ys

-- what was got stays a part of what was sent
pub got_fits : (got new sent : List Message) → IsPrefix got sent → IsGot (next_item got sent) got new → IsPrefix new sent
got_fits got new sent p (inl e) = (p.0, ap (λ (xs : List Message). xs ++ p.0) e ∙ p.1)
got_fits got new sent p (inr g) = by p.0 p.1 (ap first_of (sym (drop_front got p.0) ∙ ap (drop (length got)) p.1) ∙ g.1) where
  by : (held : List Message) → got ++ held ≡ sent → first_of held ≡ Some g.0 → IsPrefix new sent
  by [] e f = cc
  by (x ∷ rest) e f =
      let same : x ≡ g.0 = cc in
      (rest, ap (λ (xs : List Message). xs ++ rest) g.2 ∙ append_assoc got (g.0 ∷ []) rest ∙ ap (λ (m : Message). got ++ m ∷ rest) (sym same) ∙ e)

pub ended_got : (next : Option Message) (got new : List Message) → IsGot next got new → is_ended got ≡ true → is_ended new ≡ true
ended_got next got new (inl e) h = ap is_ended e ∙ h
ended_got next got new (inr g) h = ap is_ended g.2 ∙ ended_stays got (g.0 ∷ []) h

-- ---- asking

pub record AskMoved (links : Links) (a b : Asking) : Type 0 where
  pub sent : IsSent links.has_room a.sent b.sent
  pub got : IsGot links.item a.got b.got
  pub running : b.is_over ≡ false → is_ended b.sent ≡ false
  pub over : b.is_over ≡ true → (is_ended b.sent ≡ true) × (is_ended b.got ≡ true)

pub asking_moves : (first : Bool) (e : Summary) (links : Links) (a : Asking) → a.is_over ≡ false → is_ended a.sent ≡ false → AskMoved links a (asking_event first e links a)
asking_moves first e links a o r = by (ask_event first e links a) where
  -- no End is sent
  ask_within : (b : Asking) → b.sent ≡ a.sent → IsGot links.item a.got b.got → b.is_over ≡ a.is_over → AskMoved links a b
  ask_within b s g v = record { sent = inl s; got = g; running = λ _. ap is_ended s ∙ r; over = λ t. true-false (sym t ∙ v ∙ o) }

  by : {b : Asking} {moves : Bool} → AskEvent first e links a b moves → AskMoved links a b
  by (PushesAsk l waiting o w d n) = record { sent = inr (Ask l, n, refl); got = inl refl; running = λ _. ended_after a.sent (Ask l ∷ []) r; over = λ t. true-false (sym t ∙ o) }
  by (WalksSink true k left o w s) = ask_within _ refl (inl refl) refl
  by (TakesAsk true m o w l n i) = ask_within _ refl (inr (m, i, refl)) refl
  by (TakesAsk false m o w l n i) = ask_within _ refl (inr (m, i, refl)) refl
  by (DropsAsk m o w i) = ask_within _ refl (inr (m, i, refl)) refl
  by (EndsAsks o d w n) = record { sent = inr (End a.is_whole, n, refl); got = inl refl; running = true-false; over = λ _. (ended_after a.sent (End a.is_whole ∷ []) r, d) }
  by other = ask_within _ refl (inl refl) refl

-- ---- answering

pub record AnswerFits (f : Answering) : Type 0 where
  pub running : f.is_over ≡ false → (is_ended f.sent ≡ false) × (is_ended f.sending ≡ false)
  pub over : f.is_over ≡ true → (is_ended f.sent ≡ true) × (is_ended f.got ≡ true)

pub record AnswerMoved (links : Links) (f g : Answering) : Type 0 where
  pub sent : IsSent links.has_room f.sent g.sent
  pub got : IsGot links.item f.got g.got
  pub fits : AnswerFits g

pub answering_moves : (e : Summary) (asked : List Loc) (links : Links) (f : Answering) → AnswerFits f → AnswerMoved links f (answering_event e asked links f)
answering_moves e asked links f h = by (answer_event e asked links f) where
  -- no message is sent
  answer_within : f.is_over ≡ false → (g : Answering) → g.sent ≡ f.sent → IsGot links.item f.got g.got → is_ended g.sending ≡ false → g.is_over ≡ f.is_over → AnswerMoved links f g
  answer_within o g s t n v = record { sent = inl s; got = t; fits = record { running = λ _. (ap is_ended s ∙ (h.running o).0, n); over = λ u. true-false (sym u ∙ v ∙ o) } }

  by : {g : Answering} {moves : Bool} → AnswerEvent e asked links f g moves → AnswerMoved links f g
  by AnswersNothing = record { sent = inl refl; got = inl refl; fits = h }
  by (PushesAnswer m sending o w s r) =
      let parts = apart m sending (ap is_ended (sym s) ∙ (h.running o).1) in
      record {
        sent = inr (m, r, refl);
        got = inl refl;
        fits = record { running = λ _. (ended_after f.sent (m ∷ []) (h.running o).0 ∙ parts.0, parts.1); over = λ u. true-false (sym u ∙ o) };
      }
  by (TakesAnswer true m o w n i) = answer_within o _ refl (inr (m, i, refl)) (h.running o).1 refl
  by (TakesAnswer false m o w n i) = answer_within o _ refl (inr (m, i, refl)) (h.running o).1 refl
  by (BuildsAnswer true l left o w s k r) = answer_within o _ refl (inl refl) (h.running o).1 refl
  by (BuildsAnswer false l left o w s k r) = answer_within o _ refl (inl refl) (no_end l (resolved (heard asked f.got) (e.ends l))) refl
  by (ResolvesRows true o w r n) = answer_within o _ refl (inl refl) (h.running o).1 refl
  by (ResolvesRows false o w r n) = answer_within o _ refl (inl refl) (h.running o).1 refl
  by (DropsAnswer m o w i) = answer_within o _ refl (inr (m, i, refl)) (h.running o).1 refl
  by (EndsAnswers o d w r) = record {
    sent = inr (End f.is_whole, r, refl);
    got = inl refl;
    fits = record { running = true-false; over = λ _. (ended_after f.sent (End f.is_whole ∷ []) (h.running o).0, d) };
  }

-- ---- what holds of a node and between neighbours

abbrev pub PhaseHolds : Phase → Type 0
PhaseHolds Fresh = Unit {0}
PhaseHolds (Asks a) = (a.is_over ≡ false) × (is_ended a.sent ≡ false)
PhaseHolds (Answers a f) = (is_ended a.sent ≡ true) × (is_ended a.got ≡ true) × AnswerFits f

-- where there is no link, the End counts as seen
abbrev pub FirstHolds : Phase → Type 0
FirstHolds (Answers a f) = is_ended f.got ≡ true
FirstHolds p = Unit {0}

abbrev pub LastHolds : Phase → Type 0
LastHolds (Asks a) = is_ended a.got ≡ true
LastHolds p = Unit {0}

abbrev pub EndHolds : Option Phase → Type 0
EndHolds None = Unit {0}
EndHolds (Some p) = LastHolds p

-- a relation of what was sent on a link and what was got
module _ (Fits : List Message → List Message → Type 0) where
  -- it holds on the two links between p and the next node q
  pub record LinkFits (p q : Phase) : Type 0 where
    pub asks : Fits (asks_sent_in q) (asks_got_in p)
    pub answers : Fits (answers_sent_in p) (answers_got_in q)

  abbrev pub PreviousFits : Option Phase → Phase → Type 0
  PreviousFits None p = FirstHolds p
  PreviousFits (Some previous) p = LinkFits previous p

  abbrev pub NextFits : Phase → Option Phase → Type 0
  NextFits p None = LastHolds p
  NextFits p (Some next) = LinkFits p next

  abbrev pub NodesFit : Option Phase → List NodeState → Type 0
  NodesFit previous [] = EndHolds previous
  NodesFit previous (n ∷ ns) = PhaseHolds n.phase × PreviousFits previous n.phase × NodesFit (Some n.phase) ns

  record Kept (previous next : Option Phase) (p : Phase) : Type 0 where
    pub phase : PhaseHolds p
    pub early : PreviousFits previous p
    pub late : NextFits p next

-- what was got is a part of what was sent
abbrev pub IsPart : List Message → List Message → Type 0
IsPart sent got = IsPrefix got sent

abbrev pub LinkHolds : Phase → Phase → Type 0
LinkHolds p q = LinkFits IsPart p q

abbrev pub PreviousHolds : Option Phase → Phase → Type 0
PreviousHolds previous p = PreviousFits IsPart previous p

abbrev pub NextHolds : Phase → Option Phase → Type 0
NextHolds p next = NextFits IsPart p next

abbrev pub NodesHold : Option Phase → List NodeState → Type 0
NodesHold previous ns = NodesFit IsPart previous ns

-- ---- an event of a node

-- the relation is kept where a message is sent that there is room for, and where the next one is got
pub record IsKept (capacity : ℕ) (Fits : List Message → List Message → Type 0) : Type 0 where
  pub nothing : Fits [] []
  pub sent : (sent new got : List Message) → IsSent (has_room_for capacity sent got) sent new → Fits sent got → Fits new got
  pub got : (sent got new : List Message) → IsGot (next_item got sent) got new → Fits sent got → Fits sent new

pub part_kept : (capacity : ℕ) → IsKept capacity IsPart
part_kept capacity =
    record { nothing = ([], refl); sent = λ sent new got s p. sent_longer _ got sent new s p; got = λ sent got new g p. got_fits got new sent p g }

module _ (capacity : ℕ) (Fits : List Message → List Message → Type 0) (kept : IsKept capacity Fits) where
  begun_keeps : (refused : Bool) (previous next : Option Phase) (e : Summary) → PreviousFits Fits previous Fresh → NextFits Fits Fresh next
      → Kept Fits previous next (Asks (begun refused (is_none next) e))
  begun_keeps refused previous next e x y = by refused where
    early : (previous : Option Phase) (whole : Bool) → PreviousFits Fits previous Fresh
        → PreviousFits Fits previous (Asks (record (asking_start (is_none next) e) { is_whole = whole }))
    early None whole x = tt
    early (Some p) whole x = record { asks = x.asks; answers = x.answers }

    late : (next : Option Phase) (whole : Bool) → NextFits Fits Fresh next
        → NextFits Fits (Asks (record (asking_start (is_none next) e) { is_whole = whole })) next
    late None whole y = refl
    late (Some q) whole y = record { asks = y.asks; answers = y.answers }

    by : (refused : Bool) → Kept Fits previous next (Asks (begun refused (is_none next) e))
    by true = record { phase = (refl, refl); early = early previous false x; late = late next false y }
    by false = record { phase = (refl, refl); early = early previous true x; late = late next true y }

  module _ (refused : Bool) where
    asks_keep : (previous next : Option Phase) (a b : Asking) → AskMoved (asking_links capacity refused previous next a) a b
        → PreviousFits Fits previous (Asks a) → NextFits Fits (Asks a) next
        → (over : Bool) → b.is_over ≡ over → Kept Fits previous next (settled_by over (is_none previous) b)
    asks_keep previous next a b s x y over o = record { phase = phase over o; early = early previous s.sent x over; late = late next s.got y over } where
      phase : (over : Bool) → b.is_over ≡ over → PhaseHolds (settled_by over (is_none previous) b)
      phase false o = (o, s.running o)
      phase true o = ((s.over o).0, (s.over o).1, record { running = λ _. (refl, refl); over = λ t. true-false (sym t) })

      early : (previous : Option Phase) → IsSent (asking_links capacity refused previous next a).has_room a.sent b.sent → PreviousFits Fits previous (Asks a)
          → (over : Bool) → PreviousFits Fits previous (settled_by over (is_none previous) b)
      early None t x true = refl
      early None t x false = tt
      early (Some p) t x true = record { asks = kept.sent a.sent b.sent (asks_got_in p) t x.asks; answers = x.answers }
      early (Some p) t x false = record { asks = kept.sent a.sent b.sent (asks_got_in p) t x.asks; answers = x.answers }

      late : (next : Option Phase) → IsGot (asking_links capacity refused previous next a).item a.got b.got → NextFits Fits (Asks a) next
          → (over : Bool) → NextFits Fits (settled_by over (is_none previous) b) next
      late None g y true = tt
      late None g y false = ended_got None a.got b.got g y
      late (Some q) g y true = record { asks = kept.got (asks_sent_in q) a.got b.got g y.asks; answers = y.answers }
      late (Some q) g y false = record { asks = kept.got (asks_sent_in q) a.got b.got g y.asks; answers = y.answers }

    answers_keep : (previous next : Option Phase) (a : Asking) (f g : Answering) → AnswerMoved (answering_links capacity refused previous next f) f g
        → PhaseHolds (Answers a f) → PreviousFits Fits previous (Answers a f) → NextFits Fits (Answers a f) next → Kept Fits previous next (Answers a g)
    answers_keep previous next a f g s h x y = record { phase = (h.0, h.1, s.fits); early = early previous s.got x; late = late next s.sent y } where
      early : (previous : Option Phase) → IsGot (answering_links capacity refused previous next f).item f.got g.got → PreviousFits Fits previous (Answers a f)
          → PreviousFits Fits previous (Answers a g)
      early None t x = ended_got None f.got g.got t x
      early (Some p) t x = record { asks = x.asks; answers = kept.got (answers_sent_in p) f.got g.got t x.answers }

      late : (next : Option Phase) → IsSent (answering_links capacity refused previous next f).has_room f.sent g.sent → NextFits Fits (Answers a f) next
          → NextFits Fits (Answers a g) next
      late None t y = tt
      late (Some q) t y = record { asks = y.asks; answers = kept.sent f.sent g.sent (answers_got_in q) t y.answers }

    node_keeps : (previous next : Option Phase) (e : Summary) (p : Phase) → PhaseHolds p → PreviousFits Fits previous p → NextFits Fits p next
        → Kept Fits previous next (node_event capacity refused previous next e p)
    node_keeps previous next e Fresh h x y = begun_keeps refused previous next e x y
    node_keeps previous next e (Asks a) h x y =
        let links = asking_links capacity refused previous next a in
        asks_keep previous next a (asking_event (is_none previous) e links a) (asking_moves (is_none previous) e links a h.0 h.1) x y _ refl
    node_keeps previous next e (Answers a f) h x y =
        let links = answering_links capacity refused previous next f in
        answers_keep previous next a f (answering_event e a.asked links f) (answering_moves e a.asked links f h.2) h x y

    next_of : (p : Phase) (ns : List NodeState) → NodesFit Fits (Some p) ns → NextFits Fits p (phase_of_first ns)
    next_of p [] h = h
    next_of p (n ∷ ns) h = h.1

    with_new : (p q : Phase) (ns : List NodeState) → NodesFit Fits (Some p) ns → NextFits Fits q (phase_of_first ns) → NodesFit Fits (Some q) ns
    with_new p q [] h l = l
    with_new p q (n ∷ ns) h l = (h.0, l, h.2)

    nodes_keep : (k : ℕ) (previous : Option Phase) (ns : List NodeState) → NodesFit Fits previous ns
        → NodesFit Fits previous (event_at capacity refused k previous ns)
    nodes_keep k previous [] h = h
    nodes_keep zero previous (n ∷ ns) h =
        let now = node_keeps previous (phase_of_first ns) n.summary n.phase h.0 h.1 (next_of n.phase ns h.2) in
        (now.phase, now.early, with_new n.phase _ ns h.2 now.late)
    nodes_keep (suc k) previous (n ∷ ns) h = (h.0, h.1, nodes_keep k (Some n.phase) ns h.2)

  -- ---- a schedule

  fit_after : (schedule : List Event) (ns : List NodeState) → NodesFit Fits None ns → NodesFit Fits None (nodes_after capacity schedule ns)
  fit_after [] ns h = h
  fit_after (m ∷ ms) ns h = fit_after ms (event_at capacity m.is_refused m.node None ns) (nodes_keep m.is_refused m.node None ns h)

  after_fresh : (es : List Summary) → NodesFit Fits (Some Fresh) (nodes_start es)
  after_fresh [] = tt
  after_fresh (e ∷ es) = (tt, record { asks = kept.nothing; answers = kept.nothing }, after_fresh es)

  pub fit_reached : (schedule : List Event) (es : List Summary) → NodesFit Fits None (nodes_after capacity schedule (nodes_start es))
  fit_reached schedule [] = fit_after schedule [] tt
  fit_reached schedule (e ∷ es) = fit_after schedule (nodes_start (e ∷ es)) (tt, tt, after_fresh es)

pub reached : (capacity : ℕ) (schedule : List Event) (es : List Summary) → NodesHold None (nodes_after capacity schedule (nodes_start es))
reached capacity schedule es = fit_reached capacity IsPart (part_kept capacity) schedule es
