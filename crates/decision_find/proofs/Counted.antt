-- Groups with one decision more.
use Rattle.std.proofs.Common.{◌≡◌, ℕ, ◌+◌, Bool, true, false, cond, List, [], ◌∷◌, ◌++◌, map, length, length-append, refl, ap, ap₂, sym, ◌∙◌, subst, arith, append-nil}
use Rattle.std.specs.Prelude.{◌||◌, Option, Some, None, All}
use Rattle.std.specs.BTreeMap.{BTreeMap, get, insert_entry}
use Rattle.std.specs.Cmp.{IsTotalOrder, tied_itself}
use Rattle.std.specs.FinMap.{IsAntisymmetric}
use Rattle.std.specs.Ordering.{is_eq, eq_by_cmp, match_ordering}
use Rattle.std.specs.declared.cmp.Ordering.{Ordering}
use Rattle.std.specs.declared.cmp.Ordering.TheVariants.{Less, Equal, Greater}
use Rattle.std.proofs.lemmas.Cmp.{eq_by_cmp_equiv}
use Rattle.std.proofs.lemmas.List.{map-append, length-map}
use Rattle.std.proofs.lemmas.List.Elements.{filter-append, recursion_from_All}
use Rattle.std.proofs.lemmas.List.Folds.{list_any-append}
use Rattle.std.proofs.lemmas.Option.{same_Some}
use Rattle.lists.specs.Sets.{union, inserted, placed, set_of, has, Ascends}
use Rattle.lists.proofs.Algebra.{tied_by, has-inserted, has-set_of, Ascends-inserted, Ascends-set_of, same_list, union_assoc, union-nil}
use Rattle.flow_model.specs.declared.Loc.{Loc}
use Rattle.flow_model.specs.Orders.{source_cmp}
use Rattle.flow_model.proofs.Orders.{source_total, source_same}
use Rattle.taint_shadow.specs.declared.labels.Label.{Label}
use Rattle.taint_shadow.specs.Labels.{KeepsLabels}
use Rattle.taint_shadow.proofs.Meaning.{made_kept}
use Rattle.decision_find.specs.declared.Place.{Place}
use Rattle.decision_find.specs.Decisions.{Decision}
use Rattle.decision_find.specs.Places.{place_cmp, place_of, places, is_at, decided_there, sources_of}
use Rattle.decision_find.proofs.Orders.{place_total, place_same, place_compared, place_order_is}
use Rattle.decision_find.proofs.Lines.{sources_ascend}
use Rattle.source_labels.specs.declared.labels.SourceLabels.{SourceLabels}
use Rattle.decision_find.specs.declared.looks.Look.{Look}
use Rattle.decision_find.specs.declared.groups.Group.{Group}
use Rattle.decision_find.specs.declared.groups.Groups.{Groups}
use Rattle.source_labels.specs.Words.{label_words}
use Rattle.source_labels.specs.Laws.{label_laws}
use Rattle.decision_find.specs.Groups.{IsGroup, IsGroupOf, AreGroups, HaveLabels, Joins, Grows}
use Rattle.decision_find.specs.Looks.{decision_of}
use Rattle.std.specs.List.{flat_map, AllByRecursion}
use Rattle.isa.specs.declared.Instr.{Instr}
use Rattle.flow_model.specs.declared.SourceByte.{SourceByte}
use Rattle.printed_names.specs.Lines.{lines_end}
use Rattle.decision_find.specs.Text.{line_text, place_line, decisions_text}

-- ---- the places of one decision more

or_swapped : (a b : Bool) → (a || (b || false)) ≡ (b || a)
or_swapped true true = refl
or_swapped true false = refl
or_swapped false true = refl
or_swapped false false = refl

module _ {K : Type 0} {R : K → K → Ordering} (o : IsTotalOrder R) (same : IsAntisymmetric R) where
  set_of-push : (xs : List K) (x : K) → set_of R (xs ++ x ∷ []) ≡ inserted R x (set_of R xs)
  set_of-push xs x = same_list o same _ _ (Ascends-set_of o (xs ++ x ∷ [])) (Ascends-inserted o x (set_of R xs) (Ascends-set_of o xs)) (λ q.
      has-set_of o (xs ++ x ∷ []) q ∙ list_any-append (eq_by_cmp R q) xs (x ∷ []) ∙ or_swapped (has R q xs) (eq_by_cmp R q x)
      ∙ ap (λ (b : Bool). eq_by_cmp R q x || b) (sym (has-set_of o xs q)) ∙ sym (has-inserted o x (set_of R xs) q))

-- the keys of a map with one entry more
keys_of_inserted : {K X : Type 0} (R : K → K → Ordering) (es : List (K × X)) (k : K) (v : X) → map (λ e. e.0) (insert_entry R es k v) ≡ inserted R k (map (λ e. e.0) es)
keys_of_inserted R [] k v = refl
keys_of_inserted R (e ∷ es) k v = by (R k e.0) (keys_of_inserted R es k v)
  where
    by : (r : Ordering) → map (λ e. e.0) (insert_entry R es k v) ≡ inserted R k (map (λ e. e.0) es)
        → map (λ e. e.0) (match_ordering r ((k, v) ∷ e ∷ es) ((e.0, v) ∷ es) (e ∷ insert_entry R es k v)) ≡ placed r k e.0 (map (λ e. e.0) es) (inserted R k (map (λ e. e.0) es))
    by Less ih = refl
    by Equal ih = refl
    by Greater ih = ap (λ (ks : List _). e.0 ∷ ks) ih

pub keys_pushed : (es new : List (Place × Group)) (ds : List Decision) (d : Decision) (g : Group) → map (λ e. e.0) es ≡ places ds → new ≡ insert_entry place_cmp es (place_of d) g
    → map (λ e. e.0) new ≡ places (ds ++ d ∷ [])
keys_pushed es new ds d g h is =
    ap (map (λ e. e.0)) is ∙ keys_of_inserted place_cmp es (place_of d) g ∙ ap (inserted place_cmp (place_of d)) h
    ∙ sym (set_of-push place_total place_same (map place_of ds) (place_of d)) ∙ ap (set_of place_cmp) (sym (map-append place_of ds (d ∷ [])))

-- ---- the decisions of a place, of one decision more

pub there_too : (p : Place) (ds : List Decision) (d : Decision) → is_at p d ≡ true → decided_there p (ds ++ d ∷ []) ≡ decided_there p ds ++ d ∷ []
there_too p ds d h = filter-append (is_at p) ds (d ∷ []) ∙ ap (λ (b : Bool). decided_there p ds ++ cond b (d ∷ []) []) h

pub not_there : (p : Place) (ds : List Decision) (d : Decision) → is_at p d ≡ false → decided_there p (ds ++ d ∷ []) ≡ decided_there p ds
not_there p ds d h = filter-append (is_at p) ds (d ∷ []) ∙ ap (λ (b : Bool). decided_there p ds ++ cond b (d ∷ []) []) h ∙ append-nil (decided_there p ds)

-- ---- the source bytes of one decision more

pub sources_pushed : (ds : List Decision) (d : Decision) → Ascends source_cmp d.sources → sources_of (ds ++ d ∷ []) ≡ union source_cmp (sources_of ds) d.sources
sources_pushed [] d h = union-nil source_total d.sources h
sources_pushed (e ∷ ds) d h =
    ap (union source_cmp e.sources) (sources_pushed ds d h) ∙ union_assoc source_total source_same e.sources (sources_of ds) d.sources (sources_ascend ds) h

-- ---- a group of one decision more

module _ (old new : SourceLabels) (k : KeepsLabels label_words old new) where
  group_kept : (d : Decision) (ds : List Decision) (g : Group) → IsGroupOf old d ds g → IsGroupOf new d ds g
  group_kept d ds g h = record { instr = h.instr; first = h.first; count = h.count; sources = made_kept label_words old new _ g.label k h.sources }

  is_kept : (ds : List Decision) (o : Option Group) → IsGroup old ds o → IsGroup new ds o
  is_kept [] None h = h
  is_kept [] (Some g) h = h
  is_kept (d ∷ ds) None h = h
  is_kept (d ∷ ds) (Some g) h = group_kept d ds g h

  pub groups_kept : (ds : List Decision) (groups : Groups) → AreGroups old ds groups → AreGroups new ds groups
  groups_kept ds groups h = record { keys = h.keys; each = λ p. is_kept (decided_there p ds) (get place_cmp groups.by_place p) (h.each p) }

  -- the first decision of a place
  first_group : (d : Decision) (label : Label) (g : Group) → label_words.stands old label → d.sources ≡ label_words.means old label
      → g ≡ record { instr = d.instr; count = 1; first = d.time; label = label } → IsGroupOf new d [] g
  first_group d label g stands means is =
      let ascends = subst (Ascends source_cmp) (sym means) (label_laws.of_label old label stands) in
      subst (IsGroupOf new d []) (sym is) (record {
        instr = refl;
        first = refl;
        count = refl;
        sources = record { stands = (k label stands).stands; means = (k label stands).means ∙ sym means ∙ sym (union-nil source_total d.sources ascends) };
      })

  -- one more
  more_group : (e : Decision) (ds : List Decision) (d : Decision) (label : Label) (g joined : Group) → label_words.stands old label → d.sources ≡ label_words.means old label
      → IsGroupOf old e ds g → Joins old g label new joined → IsGroupOf new e (ds ++ d ∷ []) joined
  more_group e ds d label g joined stands means h j =
      let ascends = subst (Ascends source_cmp) (sym means) (label_laws.of_label old label stands) in
      record {
        instr = ap (λ (x : Group). x.instr) j.rest ∙ h.instr;
        first = ap (λ (x : Group). x.first) j.rest ∙ h.first;
        count = j.count ∙ ap (λ (n : ℕ). n + 1) h.count ∙ counted;
        sources = record {
          stands = j.sources.stands;
          means = j.sources.means ∙ ap₂ (union source_cmp) h.sources.means (sym means) ∙ sym (sources_pushed (e ∷ ds) d ascends);
        };
      }
    where
      counted : length (e ∷ ds) + 1 ≡ length (e ∷ ds ++ d ∷ [])
      counted = let long = length-append ds (d ∷ []) in omega (arith, long)

-- ---- all groups

-- a map that has this at a place, and at every other what it had
pub record IsPut (place : Place) (g : Group) (old new : BTreeMap Place Group) : Type 0 where
  pub entries : new.entries ≡ insert_entry place_cmp old.entries place g
  pub gets : (p : Place) → get place_cmp new p ≡ cond (eq_by_cmp place_cmp place p) (Some g) (get place_cmp old p)

-- by the derived order too
pub found_at : (m : BTreeMap Place Group) (p : Place) (o : Option Group) → o ≡ get place_compared m p → get place_cmp m p ≡ o
found_at m p o e = ap (λ (c : Place → Place → Ordering). get c m p) place_order_is ∙ sym e

pub is_put : (place : Place) (g : Group) (old new : BTreeMap Place Group) → new.entries ≡ insert_entry place_compared old.entries place g
    → ((p : Place) → get place_compared new p ≡ cond (eq_by_cmp place_compared place p) (Some g) (get place_compared old p)) → IsPut place g old new
is_put place g old new is gets = record {
  entries = subst (λ (c : Place → Place → Ordering). new.entries ≡ insert_entry c old.entries place g) (sym place_order_is) is;
  gets = subst (λ (c : Place → Place → Ordering). (p : Place) → get c new p ≡ cond (eq_by_cmp c place p) (Some g) (get c old p)) (sym place_order_is) gets;
}

module _ (old new : SourceLabels) (k : KeepsLabels label_words old new) (look : Look) (loc : Loc) (label : Label) (stands : label_words.stands old label) where
  abbrev pub d : Decision
  d = decision_of look (λ l. label_words.means old label) loc

  made_stands : (o : Option Group) (g : Group) → Grows old o look label new g → label_words.stands new g.label
  made_stands None g is = subst (label_words.stands new) (sym (ap (λ (x : Group). x.label) is)) (k label stands).stands
  made_stands (Some h) g is = is.sources.stands

  module _ (before after : BTreeMap Place Group) (g : Group) (made : Grows old (get place_cmp before (place_of d)) look label new g) (put : IsPut (place_of d) g before after) where
    pub labels_added : HaveLabels old (record { by_place = before }) → HaveLabels new (record { by_place = after })
    labels_added h = λ p j e. by p j (eq_by_cmp place_cmp (place_of d) p) (sym (put.gets p) ∙ e)
      where
        by : (p : Place) (j : Group) (b : Bool) → cond b (Some g) (get place_cmp before p) ≡ Some j → label_words.stands new j.label
        by p j true e = subst (λ (x : Group). label_words.stands new x.label) (same_Some g j e) (made_stands (get place_cmp before (place_of d)) g made)
        by p j false e = (k j.label (h p j e)).stands

    joined_is : (ds : List Decision) (o : Option Group) → IsGroup old ds o → Grows old o look label new g → IsGroup new (ds ++ d ∷ []) (Some g)
    joined_is [] None h is = first_group old new k d label g stands refl is
    joined_is [] (Some j) h is = absurd h
    joined_is (e ∷ ds) None h is = absurd h
    joined_is (e ∷ ds) (Some j) h is = more_group old new k e ds d label j g stands refl h is

    pub groups_added : (ds : List Decision) → AreGroups old ds (record { by_place = before }) → AreGroups new (ds ++ d ∷ []) (record { by_place = after })
    groups_added ds h = record {
      keys = keys_pushed before.entries after.entries ds d g h.keys put.entries;
      each = λ p. each p (eq_by_cmp place_cmp (place_of d) p) refl;
    }
      where
        each : (p : Place) (b : Bool) → eq_by_cmp place_cmp (place_of d) p ≡ b → IsGroup new (decided_there p (ds ++ d ∷ [])) (get place_cmp after p)
        each p true e =
            let here : place_of d ≡ p = place_same (place_of d) p (tied_by (place_cmp (place_of d) p) e) in
            let at : is_at p d ≡ true = ap (λ (q : Place). eq_by_cmp place_cmp q (place_of d)) (sym here) ∙ ap is_eq (tied_itself place_total (place_of d)) in
            let found : get place_cmp after p ≡ Some g = put.gets p ∙ ap (λ (b : Bool). cond b (Some g) (get place_cmp before p)) e in
            let was : IsGroup old (decided_there p ds) (get place_cmp before p) = h.each p in
            let is : Grows old (get place_cmp before p) look label new g = subst (λ (q : Place). Grows old (get place_cmp before q) look label new g) here made in
            subst (IsGroup new (decided_there p (ds ++ d ∷ []))) (sym found)
            (subst (λ (xs : List Decision). IsGroup new xs (Some g)) (sym (there_too p ds d at)) (joined_is (decided_there p ds) (get place_cmp before p) was is))
        each p false e =
            let at : is_at p d ≡ false = (eq_by_cmp_equiv place_total).symm p (place_of d) ∙ e in
            let found : get place_cmp after p ≡ get place_cmp before p = put.gets p ∙ ap (λ (b : Bool). cond b (Some g) (get place_cmp before p)) e in
            subst (IsGroup new (decided_there p (ds ++ d ∷ []))) (sym found)
            (subst (λ (xs : List Decision). IsGroup new xs (get place_cmp before p)) (sym (not_there p ds d at)) (is_kept old new k (decided_there p ds) (get place_cmp before p) (h.each p)))

-- ---- the lines of groups are those of their decisions

-- the derived order is total
pub compared_total : IsTotalOrder place_compared
compared_total = subst (λ (c : Place → Place → Ordering). IsTotalOrder c) place_order_is place_total

abbrev pub entry_line : SourceLabels → Place × Group → List ℕ
entry_line labels e = line_text e.0 e.1.instr e.1.count e.1.first (label_words.means labels e.1.label)

-- a line for each of these groups
abbrev pub lines_of : SourceLabels → List (Place × Group) → List ℕ
lines_of labels es = flat_map (entry_line labels) es

group_line : (labels : SourceLabels) (p : Place) (ds : List Decision) (g : Group) → IsGroup labels ds (Some g) → entry_line labels (p, g) ≡ place_line p ds
group_line labels p [] g h = absurd h
group_line labels p (d ∷ ds) g h =
    let bs = label_words.means labels g.label in
    ap (λ (i : Option Instr). line_text p i g.count g.first bs) h.instr ∙ ap (λ (n : ℕ). line_text p d.instr n g.first bs) h.count
    ∙ ap₂ (λ (t : ℕ) (cs : List SourceByte). line_text p d.instr (length (d ∷ ds)) t cs) h.first h.sources.means

lines_are : (labels : SourceLabels) (ds : List Decision) (es : List (Place × Group)) → AllByRecursion (λ e. IsGroup labels (decided_there e.0 ds) (Some e.1)) es
    → lines_of labels es ≡ flat_map (λ p. place_line p (decided_there p ds)) (map (λ e. e.0) es)
lines_are labels ds [] h = refl
lines_are labels ds (e ∷ es) h =
    ap₂ (λ (x y : List ℕ). x ++ y) (group_line labels e.0 (decided_there e.0 ds) e.1 h.0) (lines_are labels ds es h.1)

each_group : (labels : SourceLabels) (ds : List Decision) (m : BTreeMap Place Group) → ((p : Place) → IsGroup labels (decided_there p ds) (get place_cmp m p))
    → (es : List (Place × Group)) → AllByRecursion (λ e. get place_compared m e.0 ≡ Some e.1) es → AllByRecursion (λ e. IsGroup labels (decided_there e.0 ds) (Some e.1)) es
each_group labels ds m h [] a = tt
each_group labels ds m h (e ∷ es) a =
    (subst (IsGroup labels (decided_there e.0 ds)) (found_at m e.0 (Some e.1) (sym a.0)) (h e.0), each_group labels ds m h es a.1)

-- the text of all groups
pub text_is : (labels : SourceLabels) (ds : List Decision) (groups : Groups) (out : List ℕ) (n : ℕ) → AreGroups labels ds groups
    → All (λ e. get place_compared groups.by_place e.0 ≡ Some e.1) groups.by_place.entries → out ≡ lines_of labels groups.by_place.entries ++ lines_end n
    → n ≡ length groups.by_place.entries → out ≡ decisions_text ds
text_is labels ds groups out n h found is long =
    let es = groups.by_place.entries in
    let found_each = recursion_from_All (λ (e : Place × Group). get place_compared groups.by_place e.0 ≡ Some e.1) es found in
    let lines = lines_are labels ds es (each_group labels ds groups.by_place h.each es found_each) ∙ ap (flat_map (λ p. place_line p (decided_there p ds))) h.keys in
    let counted : n ≡ length (places ds) = long ∙ sym (length-map es (λ (e : Place × Group). e.0)) ∙ ap length h.keys in
    is ∙ ap₂ (λ (x : List ℕ) (k : ℕ). x ++ lines_end k) lines counted
