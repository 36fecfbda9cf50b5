-- In every state that a schedule reaches, all nodes are done or some event moves.
use Rattle.std.proofs.Common.{◌≡◌, ◌⊎◌, inl, inr, ℕ, zero, suc, ◌+◌, ◌<◌, List, [], ◌∷◌, ◌++◌, length, drop, refl, ap, sym, ◌∙◌, Bool, true, false, subst, append-nil, arith}
use Rattle.std.specs.Prelude.{Option, Some, None, is_some, nat_lt}
use Rattle.std.specs.List.{AllByRecursion}
use Rattle.std.proofs.lemmas.Grind.{common_steps}
use Rattle.std.proofs.lemmas.Bool.{cases_Bool, or_parts}
use Rattle.lists.proofs.Tests.{true-false}
use Rattle.flow_model.specs.declared.Loc.{Loc}
use Rattle.flow_model.specs.declared.Message.{Message}
use Rattle.report_model.specs.Rows.{Row}
use Rattle.epoch_model.specs.Summary.{Summary, SinkTerms}
use Rattle.stream_model.specs.Streams.{is_ended, is_resolvable}
use Rattle.stream_model.specs.StreamLaws.{IsPrefix}
use Rattle.stream_model.specs.Passes.{Links, Asking, Answering}
use Rattle.stream_model.specs.Schedules.{Phase, Fresh, Asks, Answers, NodeState, asks_sent_in, asks_got_in, answers_sent_in, answers_got_in, first_of, next_item, has_room_for, room_to, item_from, asking_links, answering_links, nodes_start, Need, is_met, item_or_room, whole_asking_need, asking_need_by, asking_need, nothing_or_room, last_need, nothing_or_item, whole_answering_need, answering_need_by, answering_need, node_moves, moves_at, is_done}
use Rattle.stream_model.specs.ScheduleLaws.{NeverStill, StillAsking, StillAnswering}
use Rattle.stream_model.proofs.Events.{AskEvent, AsksNothing, ask_event, AnswerEvent, AnswersNothing, answer_event}
use Rattle.stream_model.proofs.Growing.{ended_stays}
use Rattle.stream_model.proofs.Moving.{PhaseHolds, LinkHolds, PreviousHolds, NextHolds, NodesHold, drop_front, reached}

-- ---- what a link gives

module _ (got sent : List Message) (p : IsPrefix got sent) where
  -- where not all that was sent was got, an item waits
  waits : (got ≡ sent → ⊥) → is_some (next_item got sent) ≡ true
  waits more = by p.0 refl where
    by : (rest : List Message) → p.0 ≡ rest → is_some (next_item got sent) ≡ true
    by [] e = absurd (more (sym (append-nil got) ∙ ap (λ (r : List Message). got ++ r) (sym e) ∙ p.1))
    by (m ∷ rest) e = ap (λ (r : List Message). is_some (first_of r)) (ap (drop (length got)) (sym p.1) ∙ drop_front got p.0 ∙ e)

  -- so it is where the End was sent and not got
  end_waits : is_ended got ≡ false → is_ended sent ≡ true → is_some (next_item got sent) ≡ true
  end_waits g s = waits (λ same. true-false (sym s ∙ ap is_ended (sym same) ∙ g))

  -- and where the link is full
  full_waits : (capacity : ℕ) → 0 < capacity → has_room_for capacity sent got ≡ false → is_some (next_item got sent) ≡ true
  full_waits capacity c f = waits (λ same.
      let room : nat_lt (length sent) (length got + capacity) ≡ true = (let long = ap length same in grind (arith, common_steps, long, c)) in
      true-false (sym room ∙ f))

  -- where the End was got, it was sent
  end_was_sent : is_ended got ≡ true → is_ended sent ≡ true
  end_was_sent g = ap is_ended (sym p.1) ∙ ended_stays got p.0 g

-- ---- an event moves, or a full link stops it

abbrev pub Goes : Need → Links → Type 0
Goes need links = (is_met need links ≡ true) ⊎ (links.has_room ≡ false)

module _ (links : Links) where
  item_goes : (ended : Bool) → (ended ≡ false → is_some links.item ≡ true) → Goes (item_or_room ended) links
  item_goes true n = cases_Bool links.has_room
  item_goes false n = inl (n refl)

  asking_whole_goes : (waiting : List Loc) (left : List SinkTerms) (ended : Bool) → (ended ≡ false → is_some links.item ≡ true) → Goes (whole_asking_need waiting left ended) links
  asking_whole_goes (l ∷ waiting) left ended n = cases_Bool links.has_room
  asking_whole_goes [] (k ∷ left) ended n = inl refl
  asking_whole_goes [] [] ended n = item_goes ended n

  pub asking_goes : (a : Asking) → a.is_over ≡ false → (is_ended a.got ≡ false → is_some links.item ≡ true) → Goes (asking_need a) links
  asking_goes a o n = by a.is_over o a.is_whole where
    by : (over : Bool) → over ≡ false → (whole : Bool) → Goes (asking_need_by a over whole) links
    by true o whole = true-false o
    by false o true = asking_whole_goes (drop a.pushed a.asked) a.left (is_ended a.got) n
    by false o false = item_goes (is_ended a.got) n

  pub answering_goes : (e : Summary) (asked : List Loc) (f : Answering) → f.is_over ≡ false → (is_ended f.got ≡ false → is_some links.item ≡ true) → Goes (answering_need e asked f) links
  answering_goes e asked f o n = by f.is_over o f.is_whole where
    rows : (r : Option (List Row)) → Goes (nothing_or_room r) links
    rows None = inl refl
    rows (Some r) = cases_Bool links.has_room

    last : (ended : Bool) → is_ended f.got ≡ ended → Goes (last_need ended f.rows) links
    last true d = rows f.rows
    last false d = inl (n d)

    request : (l : Loc) (b : Bool) → is_resolvable asked f.got (e.ends l) ≡ b → Goes (nothing_or_item b) links
    request l true r = inl refl
    request l false r = inl (n (or_parts (is_ended f.got) _ r).0)

    whole_goes : (sending : List Message) (left : List Loc) → Goes (whole_answering_need e asked f sending left) links
    whole_goes (m ∷ sending) left = cases_Bool links.has_room
    whole_goes [] (l ∷ left) = request l (is_resolvable asked f.got (e.ends l)) refl
    whole_goes [] [] = last (is_ended f.got) refl

    by : (over : Bool) → over ≡ false → (whole : Bool) → Goes (answering_need_by e asked f over whole) links
    by true o whole = true-false o
    by false o true = whole_goes f.sending f.left
    by false o false = item_goes (is_ended f.got) n

pub with_room : (need : Need) (links : Links) → links.has_room ≡ true → Goes need links → is_met need links ≡ true
with_room need links r (inl m) = m
with_room need links r (inr s) = true-false (sym r ∙ s)

-- ---- while some node asks

abbrev IsAnswering : Phase → Type 0
IsAnswering (Answers a f) = Unit {0}
IsAnswering p = ⊥

abbrev AllAnswering : List NodeState → Type 0
AllAnswering ns = AllByRecursion (λ n. IsAnswering n.phase) ns

abbrev pub AllDone : List NodeState → Type 0
AllDone ns = AllByRecursion (λ n. is_done n.phase ≡ true) ns

abbrev pub Moves : ℕ → Option Phase → List NodeState → Type 0
Moves capacity previous ns = (k : ℕ) × (moves_at capacity k previous ns ≡ true)

-- the node asks, and a full link to the one before stops it
abbrev IsStopped : ℕ → Option Phase → Phase → Type 0
IsStopped capacity previous (Asks a) = room_to capacity asks_got_in a.sent previous ≡ false
IsStopped capacity previous p = ⊥

abbrev Stopped : ℕ → Option Phase → List NodeState → Type 0
Stopped capacity previous [] = ⊥
Stopped capacity previous (n ∷ ns) = IsStopped capacity previous n.phase

-- the node answers, is not done, and has something to get where it needs it
abbrev CanAnswer : Option Phase → Phase → Type 0
CanAnswer previous (Answers a f) = (f.is_over ≡ false) × (is_ended f.got ≡ false → is_some (item_from answers_sent_in f.got previous) ≡ true)
CanAnswer previous p = ⊥

-- the node answers, and the link to the next node is full
abbrev IsFull : ℕ → Option Phase → Phase → Type 0
IsFull capacity next (Answers a f) = room_to capacity answers_got_in f.sent next ≡ false
IsFull capacity next p = ⊥

inside : {p q : Phase} → Some p ≡ Some q → p ≡ q
inside same = cc

module _ (capacity : ℕ) (c : 0 < capacity) where
  -- a node before one that is stopped has an item to get
  under_stopped : (previous : Option Phase) (e : Summary) (p q : Phase) → PhaseHolds p → PhaseHolds q → LinkHolds p q → IsStopped capacity (Some p) q
      → (node_moves capacity previous (Some q) e p ≡ true) ⊎ IsStopped capacity previous p
  under_stopped previous e Fresh (Asks b) hp hq l s = inl refl
  under_stopped previous e (Asks a) (Asks b) hp hq l s =
      asking_goes (asking_links capacity false previous (Some (Asks b)) a) a hp.0 (λ running. full_waits a.got b.sent l.asks capacity c s)
  under_stopped previous e (Answers a f) (Asks b) hp hq l s = true-false (sym (end_was_sent a.got b.sent l.asks hp.1) ∙ hq.1)
  under_stopped previous e p q hp hq l s = absurd s

  -- a node before one that answers, and the last one, has an End to get
  under_answering : (previous next : Option Phase) (e : Summary) (p : Phase) → PhaseHolds p → NextHolds p next → ((q : Phase) → next ≡ Some q → PhaseHolds q × IsAnswering q)
      → (node_moves capacity previous next e p ≡ true) ⊎ (IsStopped capacity previous p ⊎ IsAnswering p)
  under_answering previous next e Fresh hp l w = inl refl
  under_answering previous next e (Answers a f) hp l w = inr (inr tt)
  under_answering previous next e (Asks a) hp l w = elim (asking_goes (asking_links capacity false previous next a) a hp.0 (waits next l w)) [ inl m ↦ inl m | inr s ↦ inr (inl s) ] where
    waits : (next : Option Phase) → NextHolds (Asks a) next → ((q : Phase) → next ≡ Some q → PhaseHolds q × IsAnswering q)
        → is_ended a.got ≡ false → is_some (item_from asks_sent_in a.got next) ≡ true
    waits None l w running = true-false (sym l ∙ running)
    waits (Some Fresh) l w running = absurd (w Fresh refl).1
    waits (Some (Asks b)) l w running = absurd (w (Asks b) refl).1
    waits (Some (Answers b f)) l w running = end_waits a.got b.sent l.asks running (w (Answers b f) refl).0.0

  -- some event moves, or the first of these nodes is stopped, or none asks
  down : (previous : Option Phase) (ns : List NodeState) → NodesHold previous ns → Moves capacity previous ns ⊎ (Stopped capacity previous ns ⊎ AllAnswering ns)
  down previous [] h = inr (inr tt)
  down previous (n ∷ []) h = elim (under_answering previous None n.summary n.phase h.0 h.2 (λ q same. cc)) [
    | inl m ↦ inl (zero, m)
    | inr s ↦ elim s [ inl s ↦ inr (inl s) | inr a ↦ inr (inr (a, tt)) ]
  ]
  down previous (n ∷ b ∷ ns) h = on (down (Some n.phase) (b ∷ ns) h.2) where
    on : Moves capacity (Some n.phase) (b ∷ ns) ⊎ (Stopped capacity (Some n.phase) (b ∷ ns) ⊎ AllAnswering (b ∷ ns))
        → Moves capacity previous (n ∷ b ∷ ns) ⊎ (Stopped capacity previous (n ∷ b ∷ ns) ⊎ AllAnswering (n ∷ b ∷ ns))
    on (inl m) = inl (suc m.0, m.1)
    on (inr (inl s)) = elim (under_stopped previous n.summary n.phase b.phase h.0 h.2.0 h.2.1 s) [ inl m ↦ inl (zero, m) | inr s ↦ inr (inl s) ]
    on (inr (inr a)) = elim (under_answering previous (Some b.phase) n.summary n.phase h.0 h.2.1 (λ q same. (subst PhaseHolds (inside same) h.2.0, subst IsAnswering (inside same) a.0))) [
      | inl m ↦ inl (zero, m)
      | inr s ↦ elim s [ inl s ↦ inr (inl s) | inr x ↦ inr (inr (x, a)) ]
    ]

  -- ---- once all nodes answer

  go_up : (previous next : Option Phase) (e : Summary) (p : Phase) → CanAnswer previous p → (node_moves capacity previous next e p ≡ true) ⊎ IsFull capacity next p
  go_up previous next e (Answers a f) t = answering_goes (answering_links capacity false previous next f) e a.asked f t.0 t.1
  go_up previous next e p t = absurd t

  -- the next node after a full link is not done, and has an item to get
  can_answer_too : (previous : Option Phase) (p q : Phase) → PhaseHolds p → PhaseHolds q → LinkHolds p q → CanAnswer previous p → IsAnswering q → IsFull capacity (Some q) p → CanAnswer (Some p) q
  can_answer_too previous (Answers a f) (Answers b g) hp hq l t x s = by g.is_over refl where
    by : (over : Bool) → g.is_over ≡ over → CanAnswer (Some (Answers a f)) (Answers b g)
    by true o = true-false (sym (end_was_sent g.got f.sent l.answers (hq.2.over o).1) ∙ (hp.2.running t.0).0)
    by false o = (o, λ running. full_waits g.got f.sent l.answers capacity c s)
  can_answer_too previous (Answers a f) q hp hq l t x s = absurd x
  can_answer_too previous p q hp hq l t x s = absurd t

  room_at_last : (p : Phase) → IsFull capacity None p → ⊥
  room_at_last (Answers a f) s = true-false s
  room_at_last p s = s

  up : (previous : Option Phase) (n : NodeState) (ns : List NodeState) → NodesHold previous (n ∷ ns) → CanAnswer previous n.phase → AllAnswering ns → Moves capacity previous (n ∷ ns)
  up previous n [] h t all = elim (go_up previous None n.summary n.phase t) [ inl m ↦ (zero, m) | inr s ↦ absurd (room_at_last n.phase s) ]
  up previous n (b ∷ ns) h t all = on (go_up previous (Some b.phase) n.summary n.phase t) (λ s. up (Some n.phase) b ns h.2 (can_answer_too previous n.phase b.phase h.0 h.2.0 h.2.1 t all.0 s) all.1) where
    on : (node_moves capacity previous (Some b.phase) n.summary n.phase ≡ true) ⊎ IsFull capacity (Some b.phase) n.phase → (IsFull capacity (Some b.phase) n.phase → Moves capacity (Some n.phase) (b ∷ ns))
        → Moves capacity previous (n ∷ b ∷ ns)
    on (inl m) rest = (zero, m)
    on (inr s) rest = let m = rest s in (suc m.0, m.1)

  -- a node that answers is done, or it hears, where what comes before it is done
  done_or_can_answer : (previous : Option Phase) (p : Phase) → PhaseHolds p → PreviousHolds previous p → IsAnswering p → ((q : Phase) → previous ≡ Some q → is_ended (answers_sent_in q) ≡ true)
      → ((is_done p ≡ true) × (is_ended (answers_sent_in p) ≡ true)) ⊎ CanAnswer previous p
  done_or_can_answer previous (Answers a f) h l x d = by f.is_over refl where
    waits : (previous : Option Phase) → PreviousHolds previous (Answers a f) → ((q : Phase) → previous ≡ Some q → is_ended (answers_sent_in q) ≡ true)
        → is_ended f.got ≡ false → is_some (item_from answers_sent_in f.got previous) ≡ true
    waits None l d running = true-false (sym l ∙ running)
    waits (Some q) l d running = end_waits f.got (answers_sent_in q) l.answers running (d q refl)

    by : (over : Bool) → f.is_over ≡ over → ((f.is_over ≡ true) × (is_ended f.sent ≡ true)) ⊎ CanAnswer previous (Answers a f)
    by true o = inl (o, (h.2.over o).0)
    by false o = inr (o, waits previous l d)
  done_or_can_answer previous p h l x d = absurd x

  seek : (previous : Option Phase) (ns : List NodeState) → NodesHold previous ns → AllAnswering ns → ((q : Phase) → previous ≡ Some q → is_ended (answers_sent_in q) ≡ true) → AllDone ns ⊎ Moves capacity previous ns
  seek previous [] h all d = inl tt
  seek previous (n ∷ ns) h all d = on (done_or_can_answer previous n.phase h.0 h.1 all.0 d) (seek (Some n.phase) ns h.2 all.1) where
    on : ((is_done n.phase ≡ true) × (is_ended (answers_sent_in n.phase) ≡ true)) ⊎ CanAnswer previous n.phase
        → (((q : Phase) → Some n.phase ≡ Some q → is_ended (answers_sent_in q) ≡ true) → AllDone ns ⊎ Moves capacity (Some n.phase) ns) → AllDone (n ∷ ns) ⊎ Moves capacity previous (n ∷ ns)
    on (inl x) next = elim (next (λ q same. subst (λ (p : Phase). is_ended (answers_sent_in p) ≡ true) (inside same) x.1)) [ inl all ↦ inl (x.0, all) | inr m ↦ inr (suc m.0, m.1) ]
    on (inr t) next = inr (up previous n ns h t all.1)

  room_at_first : (p : Phase) → IsStopped capacity None p → ⊥
  room_at_first (Asks a) s = true-false s
  room_at_first p s = s

  pub goes_on : (ns : List NodeState) → NodesHold None ns → AllDone ns ⊎ Moves capacity None ns
  goes_on ns h = by ns h (down None ns h) where
    by : (ns : List NodeState) → NodesHold None ns → Moves capacity None ns ⊎ (Stopped capacity None ns ⊎ AllAnswering ns) → AllDone ns ⊎ Moves capacity None ns
    by ns h (inl m) = inr m
    by [] h (inr (inl s)) = absurd s
    by (n ∷ ns) h (inr (inl s)) = absurd (room_at_first n.phase s)
    by ns h (inr (inr all)) = seek None ns h all (λ q same. cc)

pub never_still : NeverStill
never_still capacity es schedule c = goes_on capacity c _ (reached capacity schedule es)

-- ---- what does not move stays

pub still_asking : StillAsking
still_asking first e links a s = by (ask_event first e links a) s where
  by : {b : Asking} {moves : Bool} → AskEvent first e links a b moves → moves ≡ false → b ≡ a
  by AsksNothing s = refl
  by other s = true-false s

pub still_answering : StillAnswering
still_answering e asked links f s = by (answer_event e asked links f) s where
  by : {g : Answering} {moves : Bool} → AnswerEvent e asked links f g moves → moves ≡ false → g ≡ f
  by AnswersNothing s = refl
  by other s = true-false s
