-- What epochs ask of each other.
use Rattle.std.proofs.Common.{◌≡◌, ℕ, List, [], ◌∷◌, ◌++◌, map, refl, ap, ap₂, sym, subst, ◌∙◌, Bool, ◌||◌, append_assoc}
use Rattle.std.specs.Prelude.{All}
use Rattle.std.specs.List.{AllByRecursion, flat_map, list_any}
use Rattle.std.specs.Ordering.{eq_by_cmp}
use Rattle.std.proofs.lemmas.List.Elements.{All-from_recursion, recursion_from_All}
use Rattle.std.proofs.lemmas.List.Folds.{flat_map-map, list_any-append}
use Rattle.lists.specs.Sets.{has}
use Rattle.flow_model.specs.declared.Loc.{Loc}
use Rattle.flow_model.specs.declared.InnerSink.{InnerSink}
use Rattle.flow_model.specs.declared.StepSeen.{StepSeen}
use Rattle.flow_model.specs.Orders.{loc_cmp}
use Rattle.flow_model.specs.Ranges.{IsLocation, IsInRange}
use Rattle.report_model.specs.Query.{Query}
use Rattle.epoch_model.specs.Summary.{Summary as EpochSummary, SinkTerms, AreSummaries}
use Rattle.epoch_model.specs.Crossing.{crossing, wanted}
use Rattle.epoch_model.proofs.Adding.{all_had, any_added_all}
use Rattle.epoch_model.proofs.AnyOf.{any_flat}
use Rattle.epoch_model.proofs.Asking.{asks_what_is_needed, located-crossing}
use Rattle.taint_shadow.specs.declared.labels.Label.{Label}
use Rattle.taint_shadow.specs.declared.labels.SinkLabel.{SinkLabel}
use Rattle.epoch_summary.specs.declared.summary.Summary.{Summary}
use Rattle.epoch_summary.specs.Summaries.{end_label, named, nodes_of, sinks_of, summary_of}
use Rattle.summary_join.specs.declared.piece.Piece.{Piece}
use Rattle.summary_join.specs.Needs.{roots, starts_of}
use Rattle.summary_join.specs.PieceLaws.{PiecesAskWhatCrosses, PiecesAskWhatIsNeeded}
use Rattle.summary_join.specs.Pieces.{ArePieces}
use Rattle.summary_join.specs.Runs.{AreOfStretch}
use Rattle.summary_join.proofs.Places.{any_same, at_had}

-- ---- one epoch

flat_both : (f : Label → List Loc) (xs ys : List Label) → flat_map f (xs ++ ys) ≡ flat_map f xs ++ flat_map f ys
flat_both f [] ys = refl
flat_both f (x ∷ xs) ys = ap (λ ls. f x ++ ls) (flat_both f xs ys) ∙ sym (append_assoc (f x) (flat_map f xs) (flat_map f ys))

-- the start locations of its roots are those that it wants
pub roots_want : (e : Summary) (requests : List Loc) → flat_map (starts_of (nodes_of e)) (roots e (map (end_label e) requests)) ≡ wanted (summary_of e) requests
roots_want e requests =
    let starts = starts_of (nodes_of e) in
    flat_both starts (map (λ k. k.label) (sinks_of e)) (map (end_label e) requests)
    ∙ ap₂ (λ (xs ys : List Loc). xs ++ ys)
    (flat_map-map starts (λ (k : SinkLabel). k.label) (sinks_of e) ∙ sym (flat_map-map (λ (k : SinkTerms). k.terms.starts) (named (nodes_of e)) (sinks_of e)))
    (flat_map-map starts (end_label e) requests)

-- ---- all of them

-- what the first one asks is what crosses there
pub pieces_ask : PiecesAskWhatCrosses
pieces_ask [] asked ps h l = ap (has loc_cmp l) h.0
pieces_ask (e ∷ es) asked ps h l =
    let p = h.1 in
    let test = eq_by_cmp loc_cmp l in
    let of_sinks = flat_map (λ k. k.terms.starts) e.sinks in
    let at_end : Loc → List Loc = λ m. (e.ends m).starts in
    h.3.wants l
    ∙ list_any-append test of_sinks (flat_map at_end p.requests)
    ∙ ap (λ (b : Bool). list_any test of_sinks || b)
    (any_flat test at_end p.requests
    ∙ any_same (λ m. list_any test (at_end m)) p.requests (crossing es) (pieces_ask es p.requests h.0 h.4)
    ∙ sym (any_flat test at_end (crossing es)))
    ∙ sym (list_any-append test of_sinks (flat_map at_end (crossing es)))
    ∙ sym (any_added_all test [] (wanted e (crossing es)))

pub pieces_ask_needed : PiecesAskWhatIsNeeded
pieces_ask_needed q trace s n cuts es steps points pos rises a asked ps h l = pieces_ask es asked ps h l ∙ asks_what_is_needed q trace s n cuts es steps points pos rises a l

located_later : (q : Query) (trace : List StepSeen) → AllByRecursion IsInRange trace → AllByRecursion (λ (p : InnerSink). IsLocation p.loc) q.points
    → (s : ℕ) (cs : List ℕ) (front later : List EpochSummary) → AreSummaries q trace s cs (front ++ later) → AllByRecursion IsLocation (crossing later)
located_later q trace steps points s cs [] later a = located-crossing q trace steps points s cs later a
located_later q trace steps points s [] (e ∷ front) later a = absurd a
located_later q trace steps points s (c ∷ cs) (e ∷ front) later a = located_later q trace steps points c cs front later a.1

-- these are locations
pub located : (q : Query) (trace : List StepSeen) → AllByRecursion IsInRange trace → AllByRecursion (λ (p : InnerSink). IsLocation p.loc) q.points
    → (s : ℕ) (cs : List ℕ) (es : List EpochSummary) (asked : List Loc) (ps : List Piece) → AreSummaries q trace s cs es → ArePieces es asked ps → AllByRecursion IsLocation asked
located q trace steps points s cs es asked ps a h =
    all_had IsLocation asked (λ l k. at_had IsLocation (crossing es) l (located-crossing q trace steps points s cs es a) (sym (pieces_ask es asked ps h l) ∙ k))

pub all_located : (all front later : List EpochSummary) (asked : List Loc) (ps : List Piece) → AreOfStretch all → front ++ later ≡ all → ArePieces later asked ps → All IsLocation asked
all_located all front later asked ps r split h =
    let steps = recursion_from_All IsInRange r.trace r.in_range in
    let points = recursion_from_All (λ (p : InnerSink). IsLocation p.loc) r.query.points r.located in
    let are = located_later r.query r.trace steps points r.start r.cuts front later (subst (AreSummaries r.query r.trace r.start r.cuts) (sym split) r.summaries) in
    All-from_recursion IsLocation asked (all_had IsLocation asked (λ l k. at_had IsLocation (crossing later) l are (sym (pieces_ask later asked ps h l) ∙ k)))
