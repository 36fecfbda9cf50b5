-- Nodes in a row that are done have the rows of the whole trace. Crates above cite these lemmas.
use Rattle.std.proofs.Common.{◌≡◌, ℕ, zero, suc, ◌+◌, ◌-◌, ◌<◌, ◌≤◌, List, [], ◌∷◌, ◌++◌, map, length, refl, ap, ap₂, sym, subst, ◌∙◌, Bool, true, false, ◌||◌, cond, append-nil, append_assoc, arith}
use Rattle.std.proofs.lemmas.Bool.{or_right}
use Rattle.std.specs.Prelude.{All}
use Rattle.std.specs.List.{flat_map, list_all, AllByRecursion}
use Rattle.std.specs.Cmp.{IsTotalOrder}
use Rattle.std.specs.Ordering.{eq_by_cmp}
use Rattle.std.specs.declared.cmp.Ordering.{Ordering}
use Rattle.std.specs.declared.cmp.Ordering.TheVariants.{Less}
use Rattle.std.proofs.lemmas.List.{map-append}
use Rattle.std.proofs.lemmas.List.Elements.{recursion_from_All}
use Rattle.flow_model.specs.declared.Loc.{Loc}
use Rattle.flow_model.specs.declared.InnerSink.{InnerSink}
use Rattle.flow_model.specs.declared.SourceByte.{SourceByte}
use Rattle.flow_model.specs.declared.StepSeen.{StepSeen}
use Rattle.lists.specs.Sets.{inserted, placed, has, IsBelow, Ascends}
use Rattle.flow_model.specs.Orders.{loc_cmp, source_cmp}
use Rattle.flow_model.specs.Origins.{origins}
use Rattle.flow_model.specs.Ranges.{IsLocation, IsInRange}
use Rattle.flow_model.specs.declared.Message.{Message}
use Rattle.flow_model.specs.declared.Message.TheVariants.{Ask, Byte, Close, End}
use Rattle.report_model.specs.Query.{Query, AreLocated, policy_of}
use Rattle.report_model.specs.Rows.{Sink, Row, row}
use Rattle.lists.proofs.Algebra.{tied_by, less_turned}
use Rattle.flow_model.proofs.Orders.{loc_same, source_total}
use Rattle.flow_model.proofs.Origins.{Ascends-origins}
use Rattle.epoch_model.specs.Stretch.{points_at_start, sinks_between, sinks_of_epoch}
use Rattle.epoch_model.specs.Cutting.{RisesTo, IsCutting}
use Rattle.epoch_model.specs.Summary.{Summary, IsSummary, AreSummaries}
use Rattle.epoch_model.specs.Crossing.{asked_by, crossing}
use Rattle.epoch_model.specs.Join.{answer_to, resolved}
use Rattle.epoch_model.proofs.Sinks.{sinks-all, sinks-later, sinks-split}
use Rattle.epoch_model.proofs.Asking.{rises_up, located-crossing, asks_what_is_needed, asks_by_cuts, asks_once}
use Rattle.epoch_model.proofs.Joining.{epoch_known, wanted_known}
use Rattle.stream_model.proofs.Growing.{ended_append}
use Rattle.stream_model.specs.Streams.{is_ended, requests, answers_in, heard, is_answered, end_if, asks_for, answer, then_if, answers_for, Node, AreDone, summaries, IsDone}
use Rattle.stream_model.specs.StreamLaws.{answers_to, LinksCarry, HaveRows, DoneNodesMeet}

-- ---- ascending lists

module _ {X : Type 0} {R : X → X → Ordering} (o : IsTotalOrder R) where
  below_front : (x : X) (ys zs : List X) → IsBelow R x (ys ++ zs) → IsBelow R x ys
  below_front x [] zs b = tt
  below_front x (y ∷ ys) zs b = (b.0, below_front x ys zs b.1)

  Ascends-front : (xs ys : List X) → Ascends R (xs ++ ys) → Ascends R xs
  Ascends-front [] ys a = tt
  Ascends-front (x ∷ xs) ys a = (below_front x xs ys a.0, Ascends-front xs ys a.1)

  below_last : (x y : X) (xs : List X) → IsBelow R x (xs ++ y ∷ []) → R x y ≡ Less
  below_last x y [] b = b.0
  below_last x y (z ∷ xs) b = below_last x y xs b.1

  -- what is above all of a set is inserted at its end
  inserted_last : (x : X) (xs : List X) → Ascends R (xs ++ x ∷ []) → inserted R x xs ≡ xs ++ x ∷ []
  inserted_last x [] a = refl
  inserted_last x (y ∷ xs) a =
      ap (λ (r : Ordering). placed r x y xs (inserted R x xs)) (less_turned o y x (below_last y x xs a.0))
      ∙ ap (λ (zs : List X). y ∷ zs) (inserted_last x xs a.1)

-- ---- whole streams

ended : (ms : List Message) → is_ended (ms ++ End true ∷ []) ≡ true
ended ms = ended_append ms (End true ∷ []) ∙ or_right (is_ended ms) true refl

pub asks_back : (ls : List Loc) → requests (map Ask ls ++ End true ∷ []) ≡ ls
asks_back [] = refl
asks_back (l ∷ ls) = ap (λ (ms : List Loc). l ∷ ms) (asks_back ls)

whole_asks : (e : Summary) (ls : List Loc) → asks_for e (map Ask ls ++ End true ∷ []) ≡ map Ask (asked_by e ls) ++ End true ∷ []
whole_asks e ls = ap₂ (λ (ms : List Loc) (b : Bool). map Ask (asked_by e ms) ++ end_if b) (asks_back ls) (ended (map Ask ls))

-- the bytes of a set, inserted in their order, give it back
bytes_back : (so_far bs : List SourceByte) (ms : List Message) → Ascends source_cmp (so_far ++ bs) → answers_in so_far (map Byte bs ++ ms) ≡ answers_in (so_far ++ bs) ms
bytes_back so_far [] ms a = ap (λ (xs : List SourceByte). answers_in xs ms) (sym (append-nil so_far))
bytes_back so_far (b ∷ bs) ms a =
    let longer : Ascends source_cmp ((so_far ++ b ∷ []) ++ bs) = subst (Ascends source_cmp) (sym (append_assoc so_far (b ∷ []) bs)) a in
    ap (λ (xs : List SourceByte). answers_in xs (map Byte bs ++ ms)) (inserted_last source_total b so_far (Ascends-front source_total (so_far ++ b ∷ []) bs longer))
    ∙ bytes_back (so_far ++ b ∷ []) bs ms longer
    ∙ ap (λ (xs : List SourceByte). answers_in xs ms) (append_assoc so_far (b ∷ []) bs)

module _ (f : Loc → List SourceByte) (ascending : (l : Loc) → Ascends source_cmp (f l)) where
  one_more : (l : Loc) (ls : List Loc) → answers_to f (l ∷ ls) ≡ map Byte (f l) ++ Close l ∷ answers_to f ls
  one_more l ls =
      append_assoc (answer l (f l)) (flat_map (λ l. answer l (f l)) ls) (End true ∷ [])
      ∙ append_assoc (map Byte (f l)) (Close l ∷ []) (answers_to f ls)

  answers_back : (ls : List Loc) → answers_in [] (answers_to f ls) ≡ map f ls ++ [] ∷ []
  answers_back [] = refl
  answers_back (l ∷ ls) =
      ap (answers_in []) (one_more l ls) ∙ bytes_back [] (f l) (Close l ∷ answers_to f ls) (ascending l)
      ∙ ap (λ (xs : List (List SourceByte)). f l ∷ xs) (answers_back ls)

  answer_before : (asked : List Loc) (more : List (List SourceByte)) (l : Loc) → has loc_cmp l asked ≡ true → answer_to asked (map f asked ++ more) l ≡ f l
  answer_before [] more l e = cc
  answer_before (m ∷ ms) more l e = by (answer_before ms more l) (eq_by_cmp loc_cmp l m) refl e where
    by : (has loc_cmp l ms ≡ true → answer_to ms (map f ms ++ more) l ≡ f l) → (b : Bool) → eq_by_cmp loc_cmp l m ≡ b → (b || has loc_cmp l ms) ≡ true → cond b (f m) (answer_to ms (map f ms ++ more) l) ≡ f l
    by ih true same h = ap f (sym (loc_same l m (tied_by (loc_cmp l m) same)))
    by ih false other h = ih h

  -- who gets the answers hears them
  heard_is : (asked : List Loc) (l : Loc) → has loc_cmp l asked ≡ true → heard asked (answers_to f asked) l ≡ f l
  heard_is asked l has = ap (λ (xs : List (List SourceByte)). answer_to asked xs l) (answers_back asked) ∙ answer_before asked ([] ∷ []) l has

-- who got an End answers all
whole_answers : (e : Summary) (asked ls : List Loc) (got : List Message) → is_ended got ≡ true → answers_for e asked ls got ≡ answers_to (λ l. resolved (heard asked got) (e.ends l)) ls
whole_answers e asked [] got h = ap end_if h
whole_answers e asked (l ∷ ls) got h =
    let value : Loc → List SourceByte = λ m. resolved (heard asked got) (e.ends m) in
    ap (λ (b : Bool). then_if (b || list_all (is_answered asked (answers_in [] got)) (e.ends l).starts) (answer l (value l)) (answers_for e asked ls got)) h
    ∙ ap (λ (ms : List Message). answer l (value l) ++ ms) (whole_answers e asked ls got h)
    ∙ sym (append_assoc (answer l (value l)) (flat_map (λ m. answer m (value m)) ls) (End true ∷ []))

same_answers : (f g : Loc → List SourceByte) (ls : List Loc) → map f ls ≡ map g ls → answers_to f ls ≡ answers_to g ls
same_answers f g ls e = ap (λ (ms : List Message). ms ++ End true ∷ []) (by ls e) where
  by : (ls : List Loc) → map f ls ≡ map g ls → flat_map (λ l. answer l (f l)) ls ≡ flat_map (λ l. answer l (g l)) ls
  by [] e = refl
  by (l ∷ ls) e =
      let head : f l ≡ g l = cc in
      let tail : map f ls ≡ map g ls = cc in
      ap₂ (λ (xs ys : List Message). xs ++ ys) (ap (answer l) head) (by ls tail)

-- ---- asks, from the last node to the first

first_done : (first : Bool) (a : Node) (ns : List Node) → AreDone first (a ∷ ns) → (last : Bool) × IsDone first last a
first_done first a [] h = (true, h.0)
first_done first a (b ∷ ns) h = (false, h.0)

asks_are : (first : Bool) (a : Node) (ns : List Node) → AreDone first (a ∷ ns) → a.asks_got ≡ map Ask (crossing (summaries ns)) ++ End true ∷ []
asks_are first a [] h = h.1
asks_are first a (b ∷ ns) h =
    h.1 ∙ (first_done false b ns h.3).1.asks refl ∙ ap (asks_for b.summary) (asks_are false b ns h.3) ∙ whole_asks b.summary (crossing (summaries ns))

requests_are : (first : Bool) (a : Node) (ns : List Node) → AreDone first (a ∷ ns) → requests a.asks_got ≡ crossing (summaries ns)
requests_are first a ns h = ap requests (asks_are first a ns h) ∙ asks_back (crossing (summaries ns))

-- ---- answers, from the first node to the last

record Known (q : Query) (trace : List StepSeen) (s : ℕ) (cs : List ℕ) (ns : List Node) : Type 0 where
  pub links : LinksCarry q trace cs ns
  pub each : HaveRows q trace s cs ns
  pub all : flat_map (λ n. n.rows) ns ≡ map (row q trace) (sinks_of_epoch q trace s (length trace - s))

-- each location that the node asks has the answer that are its origins at time s
abbrev HearsOrigins : Query → List StepSeen → ℕ → Node → List Summary → Type 0
HearsOrigins q trace s a es = (l : Loc) → has loc_cmp l (crossing (a.summary ∷ es)) ≡ true → heard a.asked a.answers_got l ≡ origins (policy_of q) trace s l

module _ (q : Query) (trace : List StepSeen) (steps : All IsInRange trace) (points : AreLocated q.points) where
  on_points : AllByRecursion (λ p. IsLocation p.loc) q.points
  on_points = recursion_from_All (λ (p : InnerSink). IsLocation p.loc) q.points points

  located : (s : ℕ) (cs : List ℕ) (es : List Summary) → AreSummaries q trace s cs es → AllByRecursion IsLocation (crossing es)
  located = located-crossing q trace (recursion_from_All IsInRange trace steps) on_points

  -- the last node
  known_last : (s c : ℕ) (first : Bool) (a : Node) → s ≤ c → c ≡ length trace → IsSummary q trace s (c - s) a.summary → AreDone first (a ∷ []) → HearsOrigins q trace s a []
      → Known q trace s (c ∷ []) (a ∷ [])
  known_last s c first a low end i d k =
      let before = heard a.asked a.answers_got in
      let here = epoch_known q trace s before c a.summary i low on_points [] tt (wanted_known (policy_of q) trace s before a.summary [] k) in
      let rows = (first_done first a [] d).1.rows ∙ here.0 in
      record {
        links = tt;
        each = (rows, tt);
        all = append-nil a.rows ∙ rows ∙ ap (λ (u : ℕ). map (row q trace) (sinks_of_epoch q trace s (u - s))) end;
      }

  -- the sinks of an epoch and those of the epochs that follow
  sinks_on : (s c : ℕ) → 0 < c → s ≤ c → c ≤ length trace
      → sinks_of_epoch q trace s (c - s) ++ sinks_of_epoch q trace c (length trace - c) ≡ sinks_of_epoch q trace s (length trace - s)
  sinks_on s c pos low high =
      ap (λ (ks : List Sink). sinks_of_epoch q trace s (c - s) ++ ks) (sinks-later q trace c (length trace - c) pos)
      ∙ append_assoc (points_at_start q s) (sinks_between q trace s (c - s)) (sinks_between q trace c (length trace - c))
      ∙ ap (λ (ks : List Sink). points_at_start q s ++ ks) (sym (sinks-split q trace s c (length trace) low high))

  known : (s c : ℕ) (cs : List ℕ) (first : Bool) (a : Node) (ns : List Node)
      → 0 < c → s ≤ c → RisesTo c cs (length trace) → AreSummaries q trace s (c ∷ cs) (summaries (a ∷ ns)) → AreDone first (a ∷ ns) → is_ended a.answers_got ≡ true
      → HearsOrigins q trace s a (summaries ns)
      → Known q trace s (c ∷ cs) (a ∷ ns)
  known s c [] first a [] pos low h i d e k = known_last s c first a low h i.0 d k
  known s c (x ∷ cs) first a (b ∷ ns) pos low h i d e k =
      let policy = policy_of q in
      let asks = crossing (summaries (b ∷ ns)) in
      let before = heard a.asked a.answers_got in
      let high = rises_up c (x ∷ cs) (length trace) h in
      let here = epoch_known q trace s before c a.summary i.0 low on_points asks (located c (x ∷ cs) (summaries (b ∷ ns)) i.1) (wanted_known policy trace s before a.summary (summaries (b ∷ ns)) k) in
      let rows = (first_done first a (b ∷ ns) d).1.rows ∙ here.0 in
      let asked : b.asked ≡ asks = (first_done false b ns d.3).1.asked ∙ ap (asked_by b.summary) (requests_are false b ns d.3) in
      let carried : b.answers_got ≡ answers_to (origins policy trace c) asks =
      d.2 ∙ d.0.answers refl
      ∙ ap (λ (ls : List Loc). answers_for a.summary a.asked ls a.answers_got) (requests_are first a (b ∷ ns) d)
      ∙ whole_answers a.summary a.asked asks a.answers_got e
      ∙ same_answers (λ l. resolved before (a.summary.ends l)) (origins policy trace c) asks here.1 in
      let rest = known c x cs false b ns (omega (arith, pos, h.0)) (omega (arith, h.0)) h.1 i.1 d.3
      (ap is_ended carried ∙ ended (flat_map (λ l. answer l (origins policy trace c l)) asks))
      (λ l has. ap₂ (λ (x : List Loc) (y : List Message). heard x y l) asked carried ∙ heard_is (origins policy trace c) (Ascends-origins policy trace c) asks l has) in
      let count : c + (length trace - c) ≡ length trace = omega (arith, high) in
      let needed = asks_what_is_needed q trace c (length trace - c) (x ∷ cs) (summaries (b ∷ ns)) steps points pos (subst (RisesTo c (x ∷ cs)) (sym count) h) i.1 in
      record {
        links = (
          record {
            asked = asked ∙ asks_by_cuts q trace c (x ∷ cs) (summaries (b ∷ ns)) steps points i.1;
            exactly = λ l. ap (has loc_cmp l) asked ∙ needed l;
            once = rw asked (asks_once (summaries (b ∷ ns)));
            asks = asks_are first a (b ∷ ns) d ∙ ap (λ (ls : List Loc). map Ask ls ++ End true ∷ []) (sym asked);
            answers = carried ∙ ap (answers_to (origins policy trace c)) (sym asked);
          },
          rest.links,
        );
        each = (rows, rest.each);
        all = ap₂ (λ (x y : List Row). x ++ y) rows rest.all
            ∙ sym (map-append (row q trace) (sinks_of_epoch q trace s (c - s)) (sinks_of_epoch q trace c (length trace - c)))
            ∙ ap (map (row q trace)) (sinks_on s c pos low high);
      }
  known s c cs first a ns pos low h i d e k = absurd i.1

  known_all : (n : ℕ) → n ≡ length trace → (cuts : List ℕ) (a : Node) (ns : List Node) → IsCutting n cuts → AreSummaries q trace 0 cuts (summaries (a ∷ ns)) → AreDone true (a ∷ ns)
      → is_ended a.answers_got ≡ true → HearsOrigins q trace 0 a (summaries ns) → Known q trace 0 cuts (a ∷ ns)
  known_all zero is (c ∷ []) a [] h i d e k = let none : c ≡ 0 = cc in known_last 0 c true a (omega arith) (none ∙ is) i.0 d k
  known_all zero is (c ∷ []) a (b ∷ ns) h i d e k = absurd i.1
  known_all zero is (c ∷ x ∷ cs) a ns h i d e k = cc
  known_all (suc n) is (c ∷ cs) a ns h i d e k =
      known 0 c cs true a ns (omega (arith, h.0)) (omega arith) (subst (RisesTo c cs) is h.1) i d e k
  known_all n is [] a ns h i d e k = absurd i

pub no_cuts : (n : ℕ) → IsCutting n [] → ⊥
no_cuts zero h = cc
no_cuts (suc n) h = omega (arith, h)

pub done_nodes_meet : DoneNodesMeet
done_nodes_meet q trace [] [] steps points h a d = absurd (no_cuts (length trace) h)
done_nodes_meet q trace (c ∷ cs) [] steps points h a d = absurd a
done_nodes_meet q trace cuts (n ∷ ns) steps points h a d =
    let nothing : n.asked ≡ [] = (first_done true n ns d.1).1.asked in
    let all = known_all q trace steps points (length trace) refl cuts n ns h a d.1 (ap is_ended d.0)
    (λ l has. ap (λ (ls : List Loc). heard ls n.answers_got l) nothing) in
    let whole : length trace - 0 ≡ length trace = omega arith in
    record {
      links = all.links;
      each = all.each;
      all = all.all ∙ ap (λ (i : ℕ). map (row q trace) (sinks_of_epoch q trace 0 i)) whole ∙ ap (map (row q trace)) (sym (sinks-all q trace));
    }
