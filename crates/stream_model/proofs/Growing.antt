-- What a node sends grows with what it got, and its End comes last.
use Rattle.std.proofs.Common.{◌≡◌, List, [], ◌∷◌, ◌++◌, map, refl, ap, ap₂, sym, ◌∙◌, Bool, true, false, cond, ◌||◌, append-nil, append_assoc}
use Rattle.std.specs.List.{list_all, flat_map, AllByRecursion}
use Rattle.std.proofs.lemmas.List.{map-append}
use Rattle.std.proofs.lemmas.List.Concat.{flat_map-append}
use Rattle.std.proofs.lemmas.Bool.{and_parts, and_from, or_right, or_left}
use Rattle.std.specs.Ordering.{eq_by_cmp}
use Rattle.flow_model.specs.declared.Loc.{Loc}
use Rattle.flow_model.specs.declared.SourceByte.{SourceByte}
use Rattle.lists.specs.Sets.{inserted, union, has, Ascends}
use Rattle.flow_model.specs.Orders.{loc_cmp, source_cmp}
use Rattle.flow_model.specs.Origins.{union_over}
use Rattle.flow_model.specs.declared.Message.{Message}
use Rattle.flow_model.specs.declared.Message.TheVariants.{Ask, Byte, Close, End}
use Rattle.epoch_model.specs.Summary.{Summary, Terms}
use Rattle.epoch_model.specs.Crossing.{added, added_all, wanted, asked_by}
use Rattle.epoch_model.specs.Join.{answer_to, resolved}
use Rattle.lists.proofs.Algebra.{Ascends-inserted}
use Rattle.flow_model.proofs.Orders.{source_total}
use Rattle.epoch_model.proofs.Adding.{union_over_same, added_all-append, Ascends-answer}
use Rattle.stream_model.specs.Streams.{is_ended, requests, answers_in, heard, is_answered, is_resolvable, end_if, asks_for, answer, then_if, answers_for}
use Rattle.stream_model.specs.StreamLaws.{IsPrefix, AsksGrow, AnswersGrow, EndsLast, NothingIsLeft, AsksEndLast, AnswersEndLast, HeardAscends}

-- ---- prefixes

pub prefix_same : {X : Type 0} (xs ys : List X) → xs ≡ ys → IsPrefix xs ys
prefix_same xs ys e = ([], append-nil xs ∙ e)

pub prefix_trans : {X : Type 0} (xs ys zs : List X) → IsPrefix xs ys → IsPrefix ys zs → IsPrefix xs zs
prefix_trans xs ys zs p q = (p.0 ++ q.0, sym (append_assoc xs p.0 q.0) ∙ ap (λ l. l ++ q.0) p.1 ∙ q.1)

-- ---- what was got, and more

pub ended_append : (got more : List Message) → is_ended (got ++ more) ≡ (is_ended got || is_ended more)
ended_append [] more = refl
ended_append (End whole ∷ ms) more = refl
ended_append (m ∷ ms) more = ended_append ms more

pub ended_stays : (got more : List Message) → is_ended got ≡ true → is_ended (got ++ more) ≡ true
ended_stays got more e = ended_append got more ∙ or_left (is_ended got) (is_ended more) e

requests_stay : (got more : List Message) → is_ended got ≡ true → requests got ≡ requests (got ++ more)
requests_stay [] more e = cc
requests_stay (Ask l ∷ ms) more e = ap (λ (ls : List Loc). l ∷ ls) (requests_stay ms more e)
requests_stay (End whole ∷ ms) more e = refl
requests_stay (m ∷ ms) more e = requests_stay ms more e

pub requests_more : (got more : List Message) → is_ended got ≡ false → requests (got ++ more) ≡ requests got ++ requests more
requests_more [] more e = refl
requests_more (Ask l ∷ ms) more e = ap (λ (ls : List Loc). l ∷ ls) (requests_more ms more e)
requests_more (End whole ∷ ms) more e = cc
requests_more (m ∷ ms) more e = requests_more ms more e

pub answers_stay : (so_far : List SourceByte) (got more : List Message) → is_ended got ≡ true → answers_in so_far got ≡ answers_in so_far (got ++ more)
answers_stay so_far [] more e = cc
answers_stay so_far (Ask l ∷ ms) more e = answers_stay so_far ms more e
answers_stay so_far (Byte b ∷ ms) more e = answers_stay (inserted source_cmp b so_far) ms more e
answers_stay so_far (Close l ∷ ms) more e = ap (λ (xs : List (List SourceByte)). so_far ∷ xs) (answers_stay [] ms more e)
answers_stay so_far (End whole ∷ ms) more e = refl

answers_more : (so_far : List SourceByte) (got more : List Message) → IsPrefix (answers_in so_far got) (answers_in so_far (got ++ more))
answers_more so_far [] more = (answers_in so_far more, refl)
answers_more so_far (Ask l ∷ ms) more = answers_more so_far ms more
answers_more so_far (Byte b ∷ ms) more = answers_more (inserted source_cmp b so_far) ms more
answers_more so_far (Close l ∷ ms) more = let r = answers_more [] ms more in (r.0, ap (λ (xs : List (List SourceByte)). so_far ∷ xs) r.1)
answers_more so_far (End whole ∷ ms) more = ([], refl)

-- ---- asks

added_keeps : (asked : List Loc) (l : Loc) → IsPrefix asked (added asked l)
added_keeps asked l = by (has loc_cmp l asked) where
  by : (b : Bool) → IsPrefix asked (cond b asked (asked ++ l ∷ []))
  by true = ([], append-nil asked)
  by false = (l ∷ [], refl)

pub added_all_keeps : (asked ls : List Loc) → IsPrefix asked (added_all asked ls)
added_all_keeps asked [] = ([], append-nil asked)
added_all_keeps asked (l ∷ ls) = prefix_trans asked (added asked l) (added_all (added asked l) ls) (added_keeps asked l) (added_all_keeps (added asked l) ls)

pub asked_more : (e : Summary) (xs ys : List Loc) → IsPrefix (asked_by e xs) (asked_by e (xs ++ ys))
asked_more e xs ys =
    let starts : Loc → List Loc = λ l. (e.ends l).starts in
    let sinks = flat_map (λ k. k.terms.starts) e.sinks in
    let more = added_all_keeps (asked_by e xs) (flat_map starts ys) in (
      more.0,
      more.1 ∙ sym (added_all-append [] (wanted e xs) (flat_map starts ys))
          ∙ ap (added_all []) (append_assoc sinks (flat_map starts xs) (flat_map starts ys) ∙ ap (λ (ls : List Loc). sinks ++ ls) (sym (flat_map-append starts xs ys))),
    )

pub asks_grow : AsksGrow
asks_grow e got more = by (is_ended got) refl where
  by : (b : Bool) → is_ended got ≡ b → IsPrefix (map Ask (asked_by e (requests got)) ++ end_if b) (asks_for e (got ++ more))
  by true ended = prefix_same _ _ (ap₂ (λ (ls : List Loc) (b : Bool). map Ask (asked_by e ls) ++ end_if b) (requests_stay got more ended) (sym (ended_stays got more ended)))
  by false running =
      let front = asked_more e (requests got) (requests more) in
      let now = map Ask (asked_by e (requests got)) in
      let tail = end_if (is_ended (got ++ more)) in (
        map Ask front.0 ++ tail,
        ap (λ (ms : List Message). ms ++ (map Ask front.0 ++ tail)) (append-nil now)
            ∙ sym (append_assoc now (map Ask front.0) tail)
            ∙ ap (λ (ms : List Message). ms ++ tail) (sym (map-append Ask (asked_by e (requests got)) front.0) ∙ ap (map Ask) (front.1 ∙ ap (asked_by e) (sym (requests_more got more running)))),
      )

-- ---- answers

-- what is answered stays answered, and alike
answered_stays : (asked : List Loc) (xs ys : List (List SourceByte)) (l : Loc) → is_answered asked xs l ≡ true
    → (is_answered asked (xs ++ ys) l ≡ true) × (answer_to asked xs l ≡ answer_to asked (xs ++ ys) l)
answered_stays (m ∷ ms) (x ∷ xs) ys l e = by (answered_stays ms xs ys l) (eq_by_cmp loc_cmp l m) e where
  by : (is_answered ms xs l ≡ true → (is_answered ms (xs ++ ys) l ≡ true) × (answer_to ms xs l ≡ answer_to ms (xs ++ ys) l))
      → (b : Bool) → (b || is_answered ms xs l) ≡ true
      → ((b || is_answered ms (xs ++ ys) l) ≡ true) × (cond b x (answer_to ms xs l) ≡ cond b x (answer_to ms (xs ++ ys) l))
  by ih true h = (refl, refl)
  by ih false h = ih h
answered_stays asked xs ys l e = cc

all_stay : (asked : List Loc) (xs ys : List (List SourceByte)) (ls : List Loc) → list_all (is_answered asked xs) ls ≡ true
    → (list_all (is_answered asked (xs ++ ys)) ls ≡ true) × AllByRecursion (λ l. answer_to asked xs l ≡ answer_to asked (xs ++ ys) l) ls
all_stay asked xs ys [] e = (refl, tt)
all_stay asked xs ys (l ∷ ls) e =
    let parts = and_parts (is_answered asked xs l) (list_all (is_answered asked xs) ls) e in
    let one = answered_stays asked xs ys l parts.0 in
    let rest = all_stay asked xs ys ls parts.1 in
    (and_from _ _ one.0 rest.0, (one.1, rest.1))

-- what is resolvable stays so, to the same set
pub resolvable_stays : (asked : List Loc) (got more : List Message) (t : Terms) → is_ended got ≡ false → is_resolvable asked got t ≡ true
    → (is_resolvable asked (got ++ more) t ≡ true) × (resolved (heard asked got) t ≡ resolved (heard asked (got ++ more)) t)
resolvable_stays asked got more t running h =
    let all : list_all (is_answered asked (answers_in [] got)) t.starts ≡ true = sym (ap (λ (b : Bool). b || list_all (is_answered asked (answers_in [] got)) t.starts) running) ∙ h in
    let grown = answers_more [] got more in
    let stay = all_stay asked (answers_in [] got) grown.0 t.starts all in (
      or_right (is_ended (got ++ more)) _ (rw grown.1 at stay.0),
      ap (union source_cmp t.sources) (union_over_same (heard asked got) (answer_to asked (answers_in [] got ++ grown.0)) t.starts stay.1
          ∙ ap (λ (xs : List (List SourceByte)). union_over (answer_to asked xs) t.starts) grown.1),
    )

open_grows : (e : Summary) (asked ls : List Loc) (got more : List Message) → is_ended got ≡ false → IsPrefix (answers_for e asked ls got) (answers_for e asked ls (got ++ more))
open_grows e asked [] got more running = (end_if (is_ended (got ++ more)), ap (λ (b : Bool). end_if b ++ end_if (is_ended (got ++ more))) running)
open_grows e asked (l ∷ ls) got more running = by (open_grows e asked ls got more running) (is_resolvable asked got (e.ends l)) refl where
  set : List Message
  set = answer l (resolved (heard asked got) (e.ends l))

  by : IsPrefix (answers_for e asked ls got) (answers_for e asked ls (got ++ more)) → (b : Bool) → is_resolvable asked got (e.ends l) ≡ b
      → IsPrefix (then_if b set (answers_for e asked ls got)) (answers_for e asked (l ∷ ls) (got ++ more))
  by ih false h = (answers_for e asked (l ∷ ls) (got ++ more), refl)
  by ih true h =
      let stays = resolvable_stays asked got more (e.ends l) running h in (
        ih.0,
        append_assoc set (answers_for e asked ls got) ih.0
            ∙ ap₂ (λ (xs ys : List Message). xs ++ ys) (ap (answer l) stays.1) ih.1
            ∙ ap (λ (b : Bool). then_if b (answer l (resolved (heard asked (got ++ more)) (e.ends l))) (answers_for e asked ls (got ++ more))) (sym stays.0),
      )

pub ended_same : (e : Summary) (asked ls : List Loc) (got more : List Message) → is_ended got ≡ true → answers_for e asked ls got ≡ answers_for e asked ls (got ++ more)
ended_same e asked [] got more ended = ap end_if (ended ∙ sym (ended_stays got more ended))
ended_same e asked (l ∷ ls) got more ended =
    let same = ended ∙ sym (ended_stays got more ended) in
    ap₂ (λ (b : Bool) (xs : List (List SourceByte)). then_if (b || list_all (is_answered asked xs) (e.ends l).starts) (answer l (resolved (answer_to asked xs) (e.ends l))) (answers_for e asked ls got))
    same (answers_stay [] got more ended)
    ∙ ap (then_if (is_resolvable asked (got ++ more) (e.ends l)) (answer l (resolved (heard asked (got ++ more)) (e.ends l)))) (ended_same e asked ls got more ended)

pub answers_grow : AnswersGrow
answers_grow e asked ls got more = by (is_ended got) refl where
  by : (b : Bool) → is_ended got ≡ b → IsPrefix (answers_for e asked ls got) (answers_for e asked ls (got ++ more))
  by true ended = prefix_same _ _ (ended_same e asked ls got more ended)
  by false running = open_grows e asked ls got more running

-- ---- the End comes last

pub nothing_is_left : NothingIsLeft
nothing_is_left [] left h e = cc
nothing_is_left (End whole ∷ []) left h e = h
nothing_is_left (End whole ∷ m ∷ ms) left h e = cc
nothing_is_left (m ∷ ms) left h e = nothing_is_left ms left h e

end_alone : (b : Bool) → EndsLast (end_if b)
end_alone true = refl
end_alone false = tt

after_asks : (ls : List Loc) (ms : List Message) → EndsLast ms → EndsLast (map Ask ls ++ ms)
after_asks [] ms h = h
after_asks (l ∷ ls) ms h = after_asks ls ms h

after_bytes : (bs : List SourceByte) (ms : List Message) → EndsLast ms → EndsLast (map Byte bs ++ ms)
after_bytes [] ms h = h
after_bytes (b ∷ bs) ms h = after_bytes bs ms h

pub asks_end_last : AsksEndLast
asks_end_last e got = after_asks (asked_by e (requests got)) (end_if (is_ended got)) (end_alone (is_ended got))

pub answers_end_last : AnswersEndLast
answers_end_last e asked [] got = end_alone (is_ended got)
answers_end_last e asked (l ∷ ls) got = by (answers_end_last e asked ls got) (is_resolvable asked got (e.ends l)) where
  set : List SourceByte
  set = resolved (heard asked got) (e.ends l)

  by : EndsLast (answers_for e asked ls got) → (b : Bool) → EndsLast (then_if b (answer l set) (answers_for e asked ls got))
  by ih false = tt
  by ih true = rw (append_assoc (map Byte set) (Close l ∷ []) (answers_for e asked ls got)) (after_bytes set (Close l ∷ answers_for e asked ls got) ih)

-- ---- what was got ascends

answers_ascend : (so_far : List SourceByte) (got : List Message) → Ascends source_cmp so_far → AllByRecursion (Ascends source_cmp) (answers_in so_far got)
answers_ascend so_far [] a = tt
answers_ascend so_far (Ask l ∷ ms) a = answers_ascend so_far ms a
answers_ascend so_far (Byte b ∷ ms) a = answers_ascend (inserted source_cmp b so_far) ms (Ascends-inserted source_total b so_far a)
answers_ascend so_far (Close l ∷ ms) a = (a, answers_ascend [] ms tt)
answers_ascend so_far (End whole ∷ ms) a = (a, tt)

pub heard_ascends : HeardAscends
heard_ascends asked got l = Ascends-answer asked (answers_in [] got) l (answers_ascend [] got tt)
