-- What the pass does in an event is what the definition says.
use Rattle.std.proofs.Common.{◌≡◌, List, [], ◌∷◌, ◌++◌, refl, ap, ap₂, sym, subst, ◌∙◌, Bool, true, false, ◌||◌, ⊎_elim, nat_le, length}
use Rattle.std.specs.Prelude.{IsSome, Option, Some, None, IfNone}
use Rattle.std.proofs.Math.Bool.{or-false}
use Rattle.lists.proofs.Tests.{true-false}
use Rattle.flow_model.specs.declared.Loc.{Loc}
use Rattle.flow_model.specs.declared.SourceByte.{SourceByte}
use Rattle.flow_model.specs.declared.Message.{Message}
use Rattle.flow_model.specs.declared.Message.TheVariants.{Ask, Byte, Close, End}
use Rattle.report_model.specs.Rows.{Row}
use Rattle.epoch_model.specs.Summary.{Summary as EpochSummary}
use Rattle.epoch_model.specs.Join.{resolved, rows_of}
use Rattle.stream_model.specs.Streams.{is_ended, is_resolvable, answer}
use Rattle.stream_model.specs.Passes.{Answering, Links, answering_event, answering_by, whole_answering, broken_answering, is_whole_message, take_answer, drop_answer, pop_answer, build, build_or_pop, pop_or_end, resolve, resolve_or_end, end_answers, push_answer}
use Rattle.stream_model.specs.Schedules.{Item, answering_need, answering_need_by, whole_answering_need, last_need, nothing_or_item, item_or_room}
use Rattle.stream_model.proofs.Moving.{ended_after}
use Rattle.pass_parts.specs.declared.pass_turn.PassTurn.TheVariants.{Moved, NotYet, Over}
use Rattle.pass_parts.specs.declared.requests.Request.{Request}
use Rattle.pass_parts.specs.Ends.{got_by, unsent, sent_by, with}
use Rattle.pass_parts.specs.Events.{IsEvent, IsAtRest}
use Rattle.pass_parts.proofs.Events.{links_of, free, stuck, sent_same, still_none, moved, ended, refused, was_over}
use Rattle.pass_parts.specs.Requests.{locations, AreCounted}
use Rattle.forward_pass.specs.Received.{is_answerable}
use Rattle.forward_pass.specs.Rest.{rest_of}
use Rattle.forward_pass.specs.Forward.{ForeView, known_by, answering_of, fore_state, ForeKeeps, IsSameFore, forwards}
use Rattle.forward_pass.specs.Steps.{with_answer, with_rows, Builds, Resolves, CannotAnswer, is_whole_after, Takes, Moves, Sends, IsQuiet}
use Rattle.forward_pass.proofs.Messages.{from_more, heard_is, answerable_is, counted_left}

-- ---- the definition's event, by cases

module _ (e : EpochSummary) (asked : List Loc) (links : Links) (f : Answering) where
  on_whole : (sending : List Message) (left : List Loc) → f.is_over ≡ false → f.is_whole ≡ true → f.sending ≡ sending → f.left ≡ left
      → answering_event e asked links f ≡ whole_answering e asked links f sending left
  on_whole sending left o w s d = ap₂ (answering_by e asked links f) o w ∙ ap₂ (whole_answering e asked links f) s d

  on_broken : f.is_over ≡ false → f.is_whole ≡ false → answering_event e asked links f ≡ broken_answering links f (is_ended f.got)
  on_broken o w = ap₂ (answering_by e asked links f) o w

abbrev pop_by : Bool → Bool → Answering → Option Message → Answering
pop_by true refused f next = pop_answer refused f next
pop_by false refused f next = drop_answer f next

some_is : (rows : Option (List Row)) → IsSome rows → (r : List Row) × (rows ≡ Some r)
some_is None e = true-false (sym e)
some_is (Some r) e = (r, refl)

-- ---- a message is taken

abbrev took_by : Bool → Bool → Answering → Message → Answering
took_by true refused f m = take_answer refused f m
took_by false refused f m = drop_answer f (Some m)

took : (m : Message) (v new : ForeView) (t : Takes m v new) (got sent : List Message) → answering_of new (got ++ m ∷ []) sent ≡ took_by v.whole t.is_refused (answering_of v got sent) m
took m v new t got sent = ap (λ (n : ForeView). answering_of n (got ++ m ∷ []) sent) t.is ∙ ap make t.whole ∙ by v.whole t.is_refused refl where
  make : Bool → Answering
  make w = record { left = locations v.left; sending = v.sending; got = got ++ m ∷ []; sent = sent; rows = v.rows; is_whole = w; is_over = v.over }

  by : (b r : Bool) → v.whole ≡ b → make (is_whole_after b r m) ≡ took_by b r (answering_of v got sent) m
  by true true w = refl
  by true false w = refl
  by false r w = ap make (sym w)

-- whoever stays whole was whole, and got no End that isn't
was_whole : (b r : Bool) (m : Message) → is_whole_after b r m ≡ true → (b ≡ true) × (is_whole_message m ≡ true)
was_whole true true m e = true-false (sym e)
was_whole true false m e = (refl, e)
was_whole false r m e = true-false (sym e)

whole_end : (m : Message) → is_whole_message m ≡ true → is_ended (m ∷ []) ≡ true → m ≡ End true
whole_end (Ask l) w h = true-false (sym h)
whole_end (Byte x) w h = true-false (sym h)
whole_end (Close l) w h = true-false (sym h)
whole_end (End x) w h = ap (λ (b : Bool). End b) w

keeps_pop : (v new : ForeView) (got sent later : Option (List Message)) (m : Message) → v.received.is_ended ≡ false → ForeKeeps v got sent → later ≡ with m got → Takes m v new
    → ForeKeeps new later sent
keeps_pop v new None sent later m o k e t = true-false (sym k.heard ∙ o)
keeps_pop v new (Some got) sent later m o k e t =
    subst (λ n. ForeKeeps n later sent) (sym t.is) (subst (λ g. ForeKeeps (record v { received = new.received; whole = new.whole }) g sent) (sym e) kept) where
      running : is_ended got ≡ false
      running = sym k.heard ∙ o

      end_came : new.received.is_ended ≡ is_ended (m ∷ [])
      end_came = t.ended ∙ ap (λ (b : Bool). is_ended (m ∷ []) || b) o ∙ or-false (is_ended (m ∷ []))

      was : new.whole ≡ true → (v.whole ≡ true) × (is_whole_message m ≡ true)
      was w = was_whole v.whole t.is_refused m (sym t.whole ∙ w)

      kept : ForeKeeps (record v { received = new.received; whole = new.whole }) (Some (got ++ m ∷ [])) sent
      kept = record {
        known = λ w. k.known (was w).0;
        heard = end_came ∙ sym (ended_after got (m ∷ []) running);
        alone = k.alone;
        received = λ w. from_more m got v.asked v.received new.received o (t.received w) (k.received (was w).0);
        counted = λ w _. k.counted (was w).0 o;
        ends = λ w h. (got, ap (λ (x : Message). got ++ x ∷ []) (whole_end m (was w).1 (sym end_came ∙ h)));
      }

-- ---- the events

itself : (v : ForeView) → IsSameFore v v
itself v = record { summary = refl; asked = refl }

-- a message that is sent changes nothing of what the pass keeps
keeps_push : (v : ForeView) (sending : List Message) (over : Bool) (got sent later : Option (List Message)) (m : Message) → later ≡ with m sent
    → ((v.left ≡ []) × (v.sending ≡ []) → (v.left ≡ []) × (sending ≡ [])) → ForeKeeps v got sent → ForeKeeps (record v { sending = sending; over = over }) got later
keeps_push v sending over got sent later m e alone k = record {
  known = k.known;
  heard = k.heard;
  alone = still_none _ m sent later e (by sent k.alone);
  received = k.received;
  counted = k.counted;
  ends = k.ends;
} where
  by : (sent : Option (List Message)) → IfNone sent ((v.left ≡ []) × (v.sending ≡ [])) → IfNone sent ((v.left ≡ []) × (sending ≡ []))
  by None h = alone h
  by (Some sent) h = tt

module _ (v : ForeView) (got sent : Option (List Message)) (k : ForeKeeps v got sent) where
  request_is : (r : Request) (left : List Request) → v.whole ≡ true → v.left ≡ r ∷ left
      → is_answerable v.received r ≡ is_resolvable v.asked (got_by got) ((known_by v).ends r.loc)
  request_is r left w d =
      answerable_is (known_by v) (got_by got) v.asked v.received r left k.heard (k.received w) (λ o. subst (AreCounted v.asked (known_by v)) d (k.counted w o))

  -- a growth is refused
  breaks : v.over ≡ false → answering_event (known_by v) v.asked (free true) (fore_state v got sent) ≡ record (fore_state v got sent) { is_whole = false }
      → IsEvent forwards v got sent (record v { whole = false }) got sent Moved
  breaks o h =
      moved forwards v got sent (record v { whole = false }) got sent (End true) true
      (ap (λ (ms : List Message). record (fore_state v got sent) { sent = ms; is_whole = false }) (sent_same v.over v.over false v.whole o o sent) ∙ sym h)
      (record {
        known = λ t. true-false (sym t);
        heard = k.heard;
        alone = k.alone;
        received = λ t. true-false (sym t);
        counted = λ t. true-false (sym t);
        ends = λ t. true-false (sym t);
      })
      (record { summary = refl; asked = refl }) o

  built_next : (new : ForeView) → v.over ≡ false → v.whole ≡ true → v.sending ≡ [] → Builds v new → IsEvent forwards v got sent new got sent Moved
  built_next new o w s b = subst (λ n. IsEvent forwards v got sent n got sent Moved) (sym b.is) (by b.is_refused) where
    at : (links : Links) → answering_event (known_by v) v.asked links (fore_state v got sent)
        ≡ build links.is_refused (known_by v) v.asked (fore_state v got sent) b.request.loc (locations b.left)
    at links =
        on_whole (known_by v) v.asked links (fore_state v got sent) [] (b.request.loc ∷ locations b.left) o w s (ap locations b.next)
        ∙ ap (λ (t : Bool). build_or_pop t (known_by v) v.asked links (fore_state v got sent) b.request.loc (locations b.left)) (sym (request_is b.request b.left w b.next) ∙ b.answerable)

    alone : (sent : Option (List Message)) → IfNone sent ((v.left ≡ []) × (v.sending ≡ [])) → (A : Type 0) → IfNone sent A
    alone None h A = (let nothing : [] ≡ b.request ∷ b.left = sym h.0 ∙ b.next in cc)
    alone (Some ms) h A = tt

    answered : (Loc → List SourceByte) → Answering
    answered source =
        record (fore_state v got sent) { left = locations b.left; sending = answer b.request.loc (resolved source ((known_by v).ends b.request.loc)) }

    by : (refused : Bool) → IsEvent forwards v got sent (with_answer refused v b.request b.left) got sent Moved
    by true = breaks o (at (free true))
    by false =
        moved forwards v got sent (with_answer false v b.request b.left) got sent (End true) false
        (ap answered (heard_is (got_by got) v.asked v.received (k.received w)) ∙ sym (at (free false)))
        (record {
          known = k.known;
          heard = k.heard;
          alone = alone sent k.alone _;
          received = k.received;
          counted = λ t o. counted_left v.asked (known_by v) b.request b.left (subst (AreCounted v.asked (known_by v)) b.next (k.counted t o));
          ends = k.ends;
        })
        (record { summary = refl; asked = refl }) o

  resolved_next : (new : ForeView) → v.over ≡ false → v.whole ≡ true → v.sending ≡ [] → Resolves v new → IsEvent forwards v got sent new got sent Moved
  resolved_next new o w s b = subst (λ n. IsEvent forwards v got sent n got sent Moved) (sym b.is) (by b.is_refused) where
    at : (links : Links) → answering_event (known_by v) v.asked links (fore_state v got sent) ≡ resolve links.is_refused (known_by v) v.asked (fore_state v got sent)
    at links =
        on_whole (known_by v) v.asked links (fore_state v got sent) [] [] o w s (ap locations b.none_left)
        ∙ ap (pop_or_end (known_by v) v.asked links (fore_state v got sent)) (sym k.heard ∙ b.ended)
        ∙ ap (resolve_or_end (known_by v) v.asked links (fore_state v got sent)) b.not_yet

    by : (refused : Bool) → IsEvent forwards v got sent (with_rows refused v) got sent Moved
    by true = breaks o (at (free true))
    by false =
        moved forwards v got sent (with_rows false v) got sent (End true) false
        (ap (λ (source : Loc → List SourceByte). record (fore_state v got sent) { rows = Some (rows_of (known_by v) source) })
        (heard_is (got_by got) v.asked v.received (k.received w)) ∙ sym (at (free false)))
        (record { known = k.known; heard = k.heard; alone = k.alone; received = k.received; counted = k.counted; ends = k.ends })
        (record { summary = refl; asked = refl }) o

  pub moved_next : (new : ForeView) → Moves v new → IsEvent forwards v got sent new got sent Moved
  moved_next new m = ⊎_elim (built_next new m.running m.whole m.sending) (resolved_next new m.running m.whole m.sending) m.is

  -- nothing can be done without a link: a message is taken
  on_pop : (links : Links) → IsAtRest forwards IsQuiet false v → (b : Bool) → v.whole ≡ b → (left : List Request) → v.left ≡ left
      → answering_event (known_by v) v.asked links (fore_state v got sent) ≡ pop_by b links.is_refused (fore_state v got sent) links.item
  on_pop links r false w left d = on_broken (known_by v) v.asked links (fore_state v got sent) r.running w ∙ ap (broken_answering links (fore_state v got sent)) (sym k.heard ∙ r.ended)
  on_pop links r true w [] d =
      on_whole (known_by v) v.asked links (fore_state v got sent) [] [] r.running w (r.idle w).sending (ap locations d)
      ∙ ap (pop_or_end (known_by v) v.asked links (fore_state v got sent)) (sym k.heard ∙ r.ended)
  on_pop links r true w (q ∷ left) d =
      on_whole (known_by v) v.asked links (fore_state v got sent) [] (q.loc ∷ locations left) r.running w (r.idle w).sending (ap locations d)
      ∙ ap (λ (b : Bool). build_or_pop b (known_by v) v.asked links (fore_state v got sent) q.loc (locations left))
      (sym (request_is q left w d) ∙ subst (CannotAnswer v.received) d (r.idle w).requests)

  -- or the End is sent
  on_end : (links : Links) → IsAtRest forwards IsQuiet true v → (b : Bool) → v.whole ≡ b → (left : List Request) → v.left ≡ left
      → answering_event (known_by v) v.asked links (fore_state v got sent) ≡ end_answers links.has_room (fore_state v got sent)
  on_end links r false w left d = on_broken (known_by v) v.asked links (fore_state v got sent) r.running w ∙ ap (broken_answering links (fore_state v got sent)) (sym k.heard ∙ r.ended)
  on_end links r true w [] d =
      on_whole (known_by v) v.asked links (fore_state v got sent) [] [] r.running w (r.idle w).sending (ap locations d)
      ∙ ap (pop_or_end (known_by v) v.asked links (fore_state v got sent)) (sym k.heard ∙ r.ended)
      ∙ ap (resolve_or_end (known_by v) v.asked links (fore_state v got sent)) (some_is v.rows ((r.idle w).sinks d r.ended)).1
  on_end links r true w (q ∷ left) d =
      true-false (sym (answerable q) ∙ subst (CannotAnswer v.received) d (r.idle w).requests) where
        answerable : (q : Request) → is_answerable v.received q ≡ true
        answerable q = ap (λ (b : Bool). b || nat_le q.needed_first (length v.received.answers)) r.ended

  -- an event that takes a message needs one
  pub needs_item : IsAtRest forwards IsQuiet false v → answering_need (known_by v) v.asked (fore_state v got sent) ≡ Item
  needs_item r = ap₂ (answering_need_by (known_by v) v.asked (fore_state v got sent)) r.running refl ∙ by v.whole refl where
    at : v.whole ≡ true → (left : List Request) → v.left ≡ left → whole_answering_need (known_by v) v.asked (fore_state v got sent) [] (locations left) ≡ Item
    at w [] d = ap (λ (b : Bool). last_need b v.rows) (sym k.heard ∙ r.ended)
    at w (q ∷ left) d = ap nothing_or_item (sym (request_is q left w d) ∙ subst (CannotAnswer v.received) d (r.idle w).requests)

    by : (b : Bool) → v.whole ≡ b → answering_need_by (known_by v) v.asked (fore_state v got sent) false b ≡ Item
    by true w = ap (λ (ms : List Message). whole_answering_need (known_by v) v.asked (fore_state v got sent) ms (locations v.left)) (r.idle w).sending ∙ at w v.left refl
    by false w = ap item_or_room (sym k.heard ∙ r.ended)

  pub push_next : (new : ForeView) (later : Option (List Message)) (m : Message) → Sends m v → later ≡ with m sent → new ≡ record v { sending = rest_of v.sending }
      → IsEvent forwards v got sent new got later Moved
  push_next new later m s e n =
      subst (λ new. IsEvent forwards v got sent new got later Moved) (sym n)
      (moved forwards v got sent (record v { sending = rest_of v.sending }) got later (End true) false (by sent k.alone e)
      (keeps_push v (rest_of v.sending) v.over got sent later m e (λ a. (a.0, ap rest_of a.1)) k) (record { summary = refl; asked = refl }) s.running)
    where
      by : (sent : Option (List Message)) → IfNone sent ((v.left ≡ []) × (v.sending ≡ [])) → later ≡ with m sent
          → fore_state (record v { sending = rest_of v.sending }) got later ≡ answering_event (known_by v) v.asked (free false) (fore_state v got sent)
      by None alone e = (let nothing : [] ≡ m ∷ rest_of v.sending = sym alone.1 ∙ s.sending in cc)
      by (Some sent) alone e =
          ap (fore_state (record v { sending = rest_of v.sending }) got) e
          ∙ sym (on_whole (known_by v) v.asked (free false) (fore_state v got (Some sent)) (m ∷ rest_of v.sending) _ s.running s.whole s.sending refl)

  -- what is next is done by the pass as it is after the look
  module _ (seen : ForeView) (is : seen ≡ v) where
    pub over_next : v.over ≡ true → IsEvent forwards v got sent seen got sent Over
    over_next o =
        was_over forwards v seen got sent is k (itself v) o (ap (λ (b : Bool). answering_by (known_by v) v.asked stuck (fore_state v got sent) b v.whole) o)

    pub full_next : (later : Option (List Message)) (m : Message) → Sends m v → later ≡ sent → IsEvent forwards v got sent seen got later NotYet
    full_next later m s e =
        refused forwards v seen got sent is k (itself v) got later s.running refl e
        (on_whole (known_by v) v.asked stuck (fore_state v got sent) (m ∷ rest_of v.sending) _ s.running s.whole s.sending refl)

    pub empty_next : (later : Option (List Message)) → IsAtRest forwards IsQuiet false v → later ≡ got → IsEvent forwards v got sent seen later sent NotYet
    empty_next later r e =
        refused forwards v seen got sent is k (itself v) later sent r.running e refl (on_pop stuck r v.whole refl v.left refl ∙ by v.whole)
      where
        by : (b : Bool) → pop_by b false (fore_state v got sent) None ≡ fore_state v got sent
        by true = refl
        by false = refl

    pub pop_next : (new : ForeView) (later : Option (List Message)) (m : Message) → IsAtRest forwards IsQuiet false v → later ≡ with m got → Takes m seen new
        → IsEvent forwards v got sent new later sent Moved
    pop_next new later m r e from_seen =
        moved forwards v got sent new later sent m t.is_refused
        (by got e (sym k.heard ∙ r.ended) (on_pop (links_of true (Some m) t.is_refused) r v.whole refl v.left refl))
        (keeps_pop v new got sent later m r.ended k e t) (subst (λ n. IsSameFore n v) (sym t.is) (record { summary = refl; asked = refl })) o where
          t : Takes m v new
          t = subst (λ v. Takes m v new) is from_seen

          o : new.over ≡ false
          o = ap (λ (n : ForeView). n.over) t.is ∙ r.running

          taken_by : (b : Bool) (f : Answering) → pop_by b t.is_refused f (Some m) ≡ took_by b t.is_refused f m
          taken_by true f = refl
          taken_by false f = refl

          by : (got : Option (List Message)) → later ≡ with m got → is_ended (got_by got) ≡ false
              → answering_event (known_by v) v.asked (links_of true (Some m) t.is_refused) (fore_state v got sent)
              ≡ pop_by v.whole t.is_refused (fore_state v got sent) (Some m)
              → fore_state new later sent ≡ answering_event (known_by v) v.asked (links_of true (Some m) t.is_refused) (fore_state v got sent)
          by None e h at = true-false h
          by (Some got) e h at =
              ap (λ (g : Option (List Message)). fore_state new g sent) e ∙ took m v new t got (sent_by new.over new.whole sent)
              ∙ ap (λ (ms : List Message). took_by v.whole t.is_refused (answering_of v got ms) m)
              (sent_same new.over v.over new.whole v.whole o r.running sent)
              ∙ sym (at ∙ taken_by v.whole (fore_state v (Some got) sent))

    pub no_room_next : (later : Option (List Message)) → IsAtRest forwards IsQuiet true v → later ≡ sent → IsEvent forwards v got sent seen got later NotYet
    no_room_next later r e = refused forwards v seen got sent is k (itself v) got later r.running refl e (on_end stuck r v.whole refl v.left refl)

    pub end_next : (later : Option (List Message)) → IsAtRest forwards IsQuiet true v → later ≡ with (End seen.whole) sent
        → IsEvent forwards v got sent (record seen { over = true }) got later Over
    end_next later r =
        subst (λ u. later ≡ with (End u.whole) sent → IsEvent forwards v got sent (record u { over = true }) got later Over) (sym is)
        (λ e.
        ended forwards v got sent (record v { over = true }) got later (End true) false (by sent e (on_end (free false) r v.whole refl v.left refl))
        (keeps_push v v.sending true got sent later (End v.whole) e (λ a. a) k) (record { summary = refl; asked = refl }) refl)
      where
        by : (sent : Option (List Message)) → later ≡ with (End v.whole) sent
            → answering_event (known_by v) v.asked (free false) (fore_state v got sent) ≡ end_answers true (fore_state v got sent)
            → fore_state (record v { over = true }) got later ≡ answering_event (known_by v) v.asked (free false) (fore_state v got sent)
        by None e at =
            ap (fore_state (record v { over = true }) got) e
            ∙ ap (λ (ms : List Message). end_answers true (answering_of v (got_by got) ms)) (sym (ap (λ (b : Bool). unsent b v.whole) r.running)) ∙ sym at
        by (Some sent) e at = ap (fore_state (record v { over = true }) got) e ∙ sym at
