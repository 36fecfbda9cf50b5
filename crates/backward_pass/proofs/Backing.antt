-- The events of the pass backwards are those of the definitions.
use Rattle.std.proofs.Common.{◌≡◌, inl, inr, ℕ, zero, suc, ◌+◌, ◌^◌, ◌<◌, List, [], ◌∷◌, ◌++◌, drop, refl, ap, ap₂, sym, ◌∙◌, Bool, true, false, append-nil, subst}
use Rattle.std.specs.Prelude.{Option, Some, None, IfNone}
use Rattle.std.proofs.lemmas.List.{map-append}
use Rattle.std.proofs.lemmas.List.Elements.{All-push}
use Rattle.lists.proofs.Tests.{true-false}
use Rattle.flow_model.specs.declared.Loc.{Loc}
use Rattle.flow_model.specs.declared.Message.{Message}
use Rattle.flow_model.specs.declared.Message.TheVariants.{Ask, Byte, Close, End}
use Rattle.epoch_model.specs.Summary.{Summary as EpochSummary, SinkTerms}
use Rattle.stream_model.specs.Streams.{is_ended, requests}
use Rattle.stream_model.specs.Passes.{Asking, Links, asking_event, asking_by, whole_asking, broken_asking, asked_more, asked_if, wanted_for, is_whole_message, drop_ask, pop_ask, end_asks, walk}
use Rattle.stream_model.specs.Schedules.{begun, whole_asking_need, asking_need_by, asking_need}
use Rattle.stream_model.specs.Schedules as need
use Rattle.stream_model.proofs.Growing.{requests_more}
use Rattle.stream_model.proofs.Moving.{ended_after}
use Rattle.pass_parts.specs.declared.pass_turn.PassTurn.TheVariants.{Moved, NotYet, Over}
use Rattle.pass_parts.specs.declared.requests.Request.{Request}
use Rattle.pass_parts.specs.Ends.{with, got_by, unsent, sent_by}
use Rattle.pass_parts.specs.Events.{IsEvent, IsAtRest}
use Rattle.pass_parts.proofs.Events.{links_of, free, stuck, sent_same, still_none, moved, ended, refused, was_over}
use Rattle.pass_parts.specs.Requests.{locations, IsCounted, AreCounted}
use Rattle.backward_pass.specs.Backward.{BackView, knows, asking_of, state, IsFit, Keeps, IsSameBack, Walks, with_sink, IsRequested, with_request, Takes, backwards, Moves, Sends, IsQuiet}
use Rattle.backward_pass.proofs.Counts.{kept_asked, asked_then, walked_then, counted_more}

-- ---- what was got

same_requests : (m : Message) → requests (m ∷ []) ≡ [] → (ls : List Loc) (got : List Message) → is_ended got ≡ false → ls ≡ requests got → ls ≡ requests (got ++ m ∷ [])
same_requests m none ls got h e = e ∙ sym (append-nil (requests got)) ∙ ap (λ (rs : List Loc). requests got ++ rs) (sym none) ∙ sym (requests_more got (m ∷ []) h)

-- ---- what is asked

nothing_asked : (first : Bool) (asked : List Loc) → asked_more first asked [] ≡ asked
nothing_asked true asked = refl
nothing_asked false asked = refl

-- the first node asks nothing more
still_silent : (first : Bool) (asked ls more : List Loc) → (first ≡ true → asked ≡ []) → more ≡ asked_more first asked ls → first ≡ true → more ≡ []
still_silent true asked ls more h e t = e ∙ h t
still_silent false asked ls more h e t = true-false (sym t)

broken_fits : (v : BackView) → v.whole ≡ false → v.asked ≡ [] → IsFit v
broken_fits v w a = record { known = λ t. true-false (sym t ∙ w); silent = λ _. a; forgets = λ _. a; walked = λ t _. true-false (sym t ∙ w); counted = λ t _. true-false (sym t ∙ w) }

-- ---- the model's event, by cases

module _ (first : Bool) (e : EpochSummary) (links : Links) (a : Asking) where
  whole_event : (waiting : List Loc) (left : List SinkTerms) → a.is_over ≡ false → a.is_whole ≡ true → drop a.pushed a.asked ≡ waiting → a.left ≡ left
      → asking_event first e links a ≡ whole_asking first e links a waiting left (is_ended a.got)
  whole_event waiting left o w d l =
      ap₂ (asking_by first e links a) o w ∙ ap₂ (λ (ls : List Loc) (ks : List SinkTerms). whole_asking first e links a ls ks (is_ended a.got)) d l

  broken_event : a.is_over ≡ false → a.is_whole ≡ false → asking_event first e links a ≡ broken_asking links a (is_ended a.got)
  broken_event o w = ap₂ (asking_by first e links a) o w

abbrev pop_by : Bool → Bool → Bool → EpochSummary → Asking → Option Message → Asking
pop_by true refused first e a next = pop_ask refused first e a next
pop_by false refused first e a next = drop_ask a next

module _ (v : BackView) (links : Links) (got sent : List Message) (o : v.over ≡ false) (q : IsQuiet v) where
  at_pop : (b : Bool) → v.whole ≡ b → is_ended got ≡ false → asking_event v.first (knows v) links (asking_of v got sent) ≡ pop_by b links.is_refused v.first (knows v) (asking_of v got sent) links.item
  at_pop true w h =
      whole_event v.first (knows v) links (asking_of v got sent) [] [] o w (q w).0 (q w).1
      ∙ ap (λ (b : Bool). whole_asking v.first (knows v) links (asking_of v got sent) [] [] b) h
  at_pop false w h = broken_event v.first (knows v) links (asking_of v got sent) o w ∙ ap (broken_asking links (asking_of v got sent)) h

  at_end : (b : Bool) → v.whole ≡ b → is_ended got ≡ true → asking_event v.first (knows v) links (asking_of v got sent) ≡ end_asks links.has_room (asking_of v got sent)
  at_end true w h =
      whole_event v.first (knows v) links (asking_of v got sent) [] [] o w (q w).0 (q w).1
      ∙ ap (λ (b : Bool). whole_asking v.first (knows v) links (asking_of v got sent) [] [] b) h
  at_end false w h = broken_event v.first (knows v) links (asking_of v got sent) o w ∙ ap (broken_asking links (asking_of v got sent)) h

-- ---- the events

itself : (v : BackView) → IsSameBack v v
itself v = record { summary = refl; first = refl; last = refl }

-- a message that is sent changes nothing of what the pass keeps
keeps_push : (v : BackView) (pushed : ℕ) (over : Bool) (got sent later : Option (List Message)) (m : Message) → later ≡ with m sent → Keeps v got sent
    → Keeps (record v { pushed = pushed; over = over }) got later
keeps_push v pushed over got sent later m e k = record {
  fits = record { known = k.fits.known; silent = k.fits.silent; forgets = k.fits.forgets; walked = k.fits.walked; counted = k.fits.counted };
  heard = k.heard;
  alone = still_none (v.first ≡ true) m sent later e k.alone;
  requested = k.requested;
  ends = k.ends;
}

none_left : (n : ℕ) → drop {A = Loc} n [] ≡ []
none_left zero = refl
none_left (suc n) = refl

-- a broken pass asks nothing
pub sends : (v : BackView) → IsFit v → (l : Loc) (waiting : List Loc) → v.over ≡ false → drop v.pushed v.asked ≡ l ∷ waiting → v.pushed + 1 < 2 ^ 64 → Sends (Ask l) v
sends v f l waiting o next fits = record { loc = l; waiting = waiting; is = refl; running = o; whole = by v.whole refl; next = next; fits = fits } where
  by : (b : Bool) → v.whole ≡ b → v.whole ≡ true
  by true w = w
  by false w = (let nothing : [] ≡ l ∷ waiting = sym (ap (drop v.pushed) (f.forgets w) ∙ none_left v.pushed) ∙ next in cc)

-- a message is taken
module _ (v : BackView) (got sent : Option (List Message)) (k : Keeps v got sent) where
  -- it is that of the definitions if it is so for whatever went through the ends
  taken_next : (refused : Bool) (new : BackView) (later : Option (List Message)) (m : Message) → IsAtRest backwards IsQuiet false v → later ≡ with m got
      → new.over ≡ v.over → IsSameBack new v
      → ((got sent : List Message) → asking_of new (got ++ m ∷ []) sent ≡ pop_by v.whole refused v.first (knows v) (asking_of v got sent) (Some m))
      → ((got : List Message) → is_ended got ≡ false → Keeps v (Some got) sent → Keeps new (Some (got ++ m ∷ [])) sent)
      → IsEvent backwards v got sent new later sent Moved
  taken_next refused new later m r e o same took keeps =
      moved backwards v got sent new later sent m refused (by got (sym k.heard ∙ r.ended) e) (kept got k (sym k.heard ∙ r.ended) e) same (o ∙ r.running) where
        by : (got : Option (List Message)) → is_ended (got_by got) ≡ false → later ≡ with m got
            → state new later sent ≡ asking_event v.first (knows v) (links_of true (Some m) refused) (state v got sent)
        by None h e = true-false h
        by (Some got) h e =
            ap (λ (g : Option (List Message)). state new g sent) e ∙ took got (sent_by new.over new.whole sent)
            ∙ ap (λ (ms : List Message). pop_by v.whole refused v.first (knows v) (asking_of v got ms) (Some m))
            (sent_same new.over v.over new.whole v.whole (o ∙ r.running) r.running sent)
            ∙ sym (at_pop v (links_of true (Some m) refused) got (sent_by v.over v.whole sent) r.running r.idle v.whole refl h)

        kept : (got : Option (List Message)) → Keeps v got sent → is_ended (got_by got) ≡ false → later ≡ with m got → Keeps new later sent
        kept None k h e = true-false h
        kept (Some got) k h e = subst (λ g. Keeps new g sent) (sym e) (keeps got h k)

  -- one for which nothing is asked, and that breaks nothing
  other_next : (heard : Bool) (later : Option (List Message)) (m : Message) → IsAtRest backwards IsQuiet false v → later ≡ with m got
      → (v.whole ≡ true → (wanted_for (knows v) m ≡ []) × (requests (m ∷ []) ≡ []) × (is_whole_message m ≡ true)) → heard ≡ is_ended (m ∷ [])
      → (heard ≡ true → m ≡ End true)
      → IsEvent backwards v got sent (record v { heard = heard }) later sent Moved
  other_next heard later m r e quiet ends end =
      taken_next false (record v { heard = heard }) later m r e refl (record { summary = refl; first = refl; last = refl }) (λ got sent. took got sent v.whole refl) (λ got h k.
      record {
        fits = record { known = k.fits.known; silent = k.fits.silent; forgets = k.fits.forgets; walked = k.fits.walked; counted = k.fits.counted };
        heard = ends ∙ sym (ended_after got (m ∷ []) h);
        alone = k.alone;
        requested = λ t. same_requests m (quiet t).1 (locations v.requests) got h (k.requested t);
        ends = λ t h. (got, ap (λ (m : Message). got ++ m ∷ []) (end h));
      })
    where
      took : (got sent : List Message) (b : Bool) → v.whole ≡ b → asking_of (record v { heard = heard }) (got ++ m ∷ []) sent ≡ pop_by b false v.first (knows v) (asking_of v got sent) (Some m)
      took got sent false w = refl
      took got sent true w =
          let q = quiet w in
          ap₂ (λ (ls : List Loc) (b : Bool). record (asking_of v (got ++ m ∷ []) sent) { asked = ls; is_whole = b })
          (sym (ap (λ (b : Bool). asked_if b (asked_more v.first v.asked (wanted_for (knows v) m))) q.2 ∙ ap (asked_more v.first v.asked) q.0 ∙ nothing_asked v.first v.asked))
          (w ∙ sym q.2)

  -- one that breaks the pass, or a growth is refused in it
  breaking_next : (refused heard : Bool) (rs : List Request) (later : Option (List Message)) (m : Message) → IsAtRest backwards IsQuiet false v → later ≡ with m got
      → ((got sent : List Message) → pop_by v.whole refused v.first (knows v) (asking_of v got sent) (Some m) ≡ record (asking_of v (got ++ m ∷ []) sent) { asked = []; is_whole = false })
      → heard ≡ is_ended (m ∷ [])
      → IsEvent backwards v got sent (record v { heard = heard; asked = []; requests = rs; whole = false }) later sent Moved
  breaking_next refused heard rs later m r e took ends =
      taken_next refused (record v { heard = heard; asked = []; requests = rs; whole = false }) later m r e refl (record { summary = refl; first = refl; last = refl })
      (λ got sent. sym (took got sent)) (λ got h k.
      record {
        fits = broken_fits _ refl refl;
        heard = ends ∙ sym (ended_after got (m ∷ []) h);
        alone = k.alone;
        requested = λ t. true-false (sym t);
        ends = λ t _. true-false (sym t);
      })

  noted_next : (later : Option (List Message)) (l : Loc) (rs : List Request) → IsAtRest backwards IsQuiet false v → later ≡ with (Ask l) got → v.whole ≡ true
      → IsRequested v.first (asked_more v.first v.asked ((knows v).ends l).starts) (knows v) l v.requests rs
      → IsEvent backwards v got sent (with_request false v l rs) later sent Moved
  noted_next later l rs r e w n =
      let asked = asked_more v.first v.asked ((knows v).ends l).starts in
      taken_next false (with_request false v l rs) later (Ask l) r e refl (record { summary = refl; first = refl; last = refl })
      (λ got sent.
      ap (λ (b : Bool). record (asking_of v (got ++ Ask l ∷ []) sent) { asked = asked; is_whole = b }) w
      ∙ sym (ap (λ (b : Bool). pop_by b false v.first (knows v) (asking_of v got sent) (Some (Ask l))) w)) (λ got h k.
      record {
        fits = record {
          known = k.fits.known;
          silent = still_silent v.first v.asked _ asked k.fits.silent refl;
          forgets = λ t. true-false (sym w ∙ t);
          walked = λ t other. asked_then v.asked asked (knows v).sinks v.left (kept_asked v.first v.asked _ asked other refl) (k.fits.walked w other);
          counted = λ t other.
              subst (AreCounted asked (knows v)) (sym n.added)
              (All-push (IsCounted asked (knows v)) v.requests n.request
              (counted_more v.asked asked (knows v) v.requests (kept_asked v.first v.asked _ asked other refl) (k.fits.counted w other)) (n.counted other));
        };
        heard = r.ended ∙ sym (ended_after got (Ask l ∷ []) h);
        alone = k.alone;
        requested = λ t.
            ap locations n.added ∙ map-append (λ (q : Request). q.loc) v.requests (n.request ∷ [])
            ∙ ap₂ (λ (ls : List Loc) (q : Loc). ls ++ q ∷ []) (k.requested w) n.is ∙ sym (requests_more got (Ask l ∷ []) h);
        ends = λ t h. true-false (sym h ∙ r.ended);
      })

  same_next : (new : BackView) (later : Option (List Message)) (m : Message) → IsAtRest backwards IsQuiet false v → later ≡ with m got → new ≡ v
      → (v.whole ≡ true → (wanted_for (knows v) m ≡ []) × (requests (m ∷ []) ≡ []) × (is_whole_message m ≡ true)) → is_ended (m ∷ []) ≡ false
      → IsEvent backwards v got sent new later sent Moved
  same_next new later m r e t quiet unended =
      subst (λ n. IsEvent backwards v got sent n later sent Moved) (sym t)
      (other_next v.heard later m r e quiet (r.ended ∙ sym unended) (λ h. true-false (sym h ∙ r.ended)))

  took_next : (new : BackView) (later : Option (List Message)) (m : Message) → IsAtRest backwards IsQuiet false v → later ≡ with m got → Takes m v new
      → IsEvent backwards v got sent new later sent Moved
  took_next new later (Ask l) r e (inl t) = subst (λ n. IsEvent backwards v got sent n later sent Moved) (sym t.1.is) (by t.1.refused refl) where
    by : (refused : Bool) → t.1.refused ≡ refused → IsEvent backwards v got sent (with_request refused v l t.1.requests) later sent Moved
    by true f = subst (λ h. IsEvent backwards v got sent (record v { heard = h; asked = []; requests = t.1.requests; whole = false }) later sent Moved) (sym r.ended)
        (breaking_next true false t.1.requests later (Ask l) r e (λ got sent. ap (λ (b : Bool). pop_by b true v.first (knows v) (asking_of v got sent) (Some (Ask l))) t.0) refl)
    by false f = noted_next later l t.1.requests r e t.0
        (subst (λ ls. IsRequested v.first ls (knows v) l v.requests t.1.requests) (ap (λ (n : BackView). n.asked) (t.1.is ∙ ap (λ (b : Bool). with_request b v l t.1.requests) f)) (t.1.noted f))
  took_next new later (Ask l) r e (inr t) = same_next new later (Ask l) r e t.1 (λ w. true-false (sym w ∙ t.0)) refl
  took_next new later (Byte b) r e t = same_next new later (Byte b) r e t (λ w. (refl, refl, refl)) refl
  took_next new later (Close l) r e t = same_next new later (Close l) r e t (λ w. (refl, refl, refl)) refl
  took_next new later (End true) r e t = subst (λ n. IsEvent backwards v got sent n later sent Moved) (sym t) (other_next true later (End true) r e (λ w. (refl, refl, refl)) refl (λ _. refl))
  took_next new later (End false) r e t = subst (λ n. IsEvent backwards v got sent n later sent Moved) (sym t)
      (breaking_next false true v.requests later (End false) r e (λ got sent. bad got sent v.whole refl) refl) where
        bad : (got sent : List Message) (b : Bool) → v.whole ≡ b
            → pop_by b false v.first (knows v) (asking_of v got sent) (Some (End false)) ≡ record (asking_of v (got ++ End false ∷ []) sent) { asked = []; is_whole = false }
        bad got sent true w = refl
        bad got sent false w = ap₂ (λ (ls : List Loc) (b : Bool). record (asking_of v (got ++ End false ∷ []) sent) { asked = ls; is_whole = b }) (k.fits.forgets w) w

module _ (v : BackView) (got sent : Option (List Message)) (k : Keeps v got sent) where
  pub moved_next : (new : BackView) → Moves v new → IsEvent backwards v got sent new got sent Moved
  moved_next new m = subst (λ n. IsEvent backwards v got sent n got sent Moved) (sym w.is) (by w.refused) where
    w : Walks v new
    w = m.walked

    at : (links : Links) → asking_event v.first (knows v) links (state v got sent) ≡ walk links.is_refused v.first (state v got sent) w.sink w.left
    at links = whole_event v.first (knows v) links (state v got sent) [] (w.sink ∷ w.left) m.running w.whole m.sent w.next

    broken : List Message → Asking
    broken ms = record (state v got sent) { asked = []; sent = ms; is_whole = false }

    by : (refused : Bool) → IsEvent backwards v got sent (with_sink refused v w.sink w.left) got sent Moved
    by true =
        moved backwards v got sent (with_sink true v w.sink w.left) got sent (End true) true
        (ap broken (sent_same v.over v.over false v.whole m.running m.running sent) ∙ sym (at (free true)))
        (record { fits = broken_fits _ refl refl; heard = k.heard; alone = k.alone; requested = λ t. true-false (sym t); ends = λ t _. true-false (sym t) })
        (record { summary = refl; first = refl; last = refl }) m.running
    by false =
        moved backwards v got sent (with_sink false v w.sink w.left) got sent (End true) false (sym (at (free false)))
        (record {
          fits = record {
            known = k.fits.known;
            silent = still_silent v.first v.asked _ _ k.fits.silent refl;
            forgets = λ t. true-false (sym w.whole ∙ t);
            walked = λ t other. walked_then v.first v.asked (knows v).sinks v.left w.left w.sink other w.next (k.fits.walked w.whole other);
            counted = λ t other. counted_more v.asked _ (knows v) v.requests (kept_asked v.first v.asked _ _ other refl) (k.fits.counted w.whole other);
          };
          heard = k.heard;
          alone = k.alone;
          requested = k.requested;
          ends = k.ends;
        })
        (record { summary = refl; first = refl; last = refl }) m.running

  pub push_next : (new : BackView) (later : Option (List Message)) (m : Message) → Sends m v → later ≡ with m sent → new ≡ record v { pushed = v.pushed + 1 }
      → IsEvent backwards v got sent new got later Moved
  push_next new later m s e n =
      subst (λ new. IsEvent backwards v got sent new got later Moved) (sym n)
      (moved backwards v got sent (record v { pushed = v.pushed + 1 }) got later (End true) false (by sent k.alone (e ∙ ap (λ m. with m sent) s.is))
      (keeps_push v (v.pushed + 1) v.over got sent later m e k) (record { summary = refl; first = refl; last = refl }) s.running)
    where
      by : (sent : Option (List Message)) → IfNone sent (v.first ≡ true) → later ≡ with (Ask s.loc) sent
          → state (record v { pushed = v.pushed + 1 }) got later ≡ asking_event v.first (knows v) (free false) (state v got sent)
      by None alone e = (let nothing : [] ≡ s.loc ∷ s.waiting = sym (ap (drop v.pushed) (k.fits.silent alone) ∙ none_left v.pushed) ∙ s.next in cc)
      by (Some sent) alone e =
          ap (state (record v { pushed = v.pushed + 1 }) got) e
          ∙ sym (whole_event v.first (knows v) (free false) (state v got (Some sent)) (s.loc ∷ s.waiting) v.left s.running s.whole s.next refl)

  -- what is next is done by the pass as it is after the look
  module _ (seen : BackView) (is : seen ≡ v) where
    pub over_next : v.over ≡ true → IsEvent backwards v got sent seen got sent Over
    over_next o = was_over backwards v seen got sent is k (itself v) o (ap (λ (b : Bool). asking_by v.first (knows v) stuck (state v got sent) b v.whole) o)

    pub full_next : (later : Option (List Message)) (m : Message) → Sends m v → later ≡ sent → IsEvent backwards v got sent seen got later NotYet
    full_next later m s e =
        refused backwards v seen got sent is k (itself v) got later s.running refl e
        (whole_event v.first (knows v) stuck (state v got sent) (s.loc ∷ s.waiting) v.left s.running s.whole s.next refl)

    pub empty_next : (later : Option (List Message)) → IsAtRest backwards IsQuiet false v → later ≡ got → IsEvent backwards v got sent seen later sent NotYet
    empty_next later r e =
        refused backwards v seen got sent is k (itself v) later sent r.running e refl
        (at_pop v stuck (got_by got) (sent_by v.over v.whole sent) r.running r.idle v.whole refl (sym k.heard ∙ r.ended) ∙ by v.whole)
      where
        by : (b : Bool) → pop_by b false v.first (knows v) (state v got sent) None ≡ state v got sent
        by true = refl
        by false = refl

    pub pop_next : (new : BackView) (later : Option (List Message)) (m : Message) → IsAtRest backwards IsQuiet false v → later ≡ with m got → Takes m seen new
        → IsEvent backwards v got sent new later sent Moved
    pop_next new later m r e t = took_next v got sent k new later m r e (subst (λ v. Takes m v new) is t)

    pub no_room_next : (later : Option (List Message)) → IsAtRest backwards IsQuiet true v → later ≡ sent → IsEvent backwards v got sent seen got later NotYet
    no_room_next later r e =
        refused backwards v seen got sent is k (itself v) got later r.running refl e
        (at_end v stuck (got_by got) (sent_by v.over v.whole sent) r.running r.idle v.whole refl (sym k.heard ∙ r.ended))

    pub end_next : (later : Option (List Message)) → IsAtRest backwards IsQuiet true v → later ≡ with (End seen.whole) sent
        → IsEvent backwards v got sent (record seen { over = true }) got later Over
    end_next later r =
        subst (λ u. later ≡ with (End u.whole) sent → IsEvent backwards v got sent (record u { over = true }) got later Over) (sym is)
        (λ e.
        ended backwards v got sent (record v { over = true }) got later (End true) false (by sent e)
        (keeps_push v v.pushed true got sent later (End v.whole) e k) (record { summary = refl; first = refl; last = refl }) refl)
      where
        at : (sent : List Message) → asking_event v.first (knows v) (free false) (asking_of v (got_by got) sent) ≡ end_asks true (asking_of v (got_by got) sent)
        at sent = at_end v (free false) (got_by got) sent r.running r.idle v.whole refl (sym k.heard ∙ r.ended)

        by : (sent : Option (List Message)) → later ≡ with (End v.whole) sent
            → state (record v { over = true }) got later ≡ asking_event v.first (knows v) (free false) (state v got sent)
        by None e =
            ap (state (record v { over = true }) got) e
            ∙ ap (λ (ms : List Message). end_asks true (asking_of v (got_by got) ms)) (sym (ap (λ (b : Bool). unsent b v.whole) r.running))
            ∙ sym (at (unsent v.over v.whole))
        by (Some sent) e = ap (state (record v { over = true }) got) e ∙ sym (at sent)

-- ---- what the event needs

-- a link with room, where a location waits to be asked
pub needs_room : (v : BackView) (got sent : Option (List Message)) (m : Message) → Sends m v → asking_need (state v got sent) ≡ need.Room
needs_room v got sent m s =
    let a = state v got sent in
    ap₂ (asking_need_by a) s.running s.whole ∙ ap (λ (ls : List Loc). whole_asking_need ls v.left (is_ended a.got)) s.next
