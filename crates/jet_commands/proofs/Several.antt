-- Files read one after another.
use Rattle.std.proofs.Common.{◌≡◌, ◌∙◌, ap, sym, refl, subst, arith, ℕ, ◌<◌, ◌+◌, List, length, map, take, drop, get_or, ◌∷◌, ◌++◌, [], append_assoc, take-append-drop, true, false, Result, Ok, Err, Bor, Vec}
use Rattle.std.specs.declared.alloc.Global.{Global}
use Rattle.std.proofs.lemmas.List.{take_more, map-append, length-map, length-take}
use Rattle.outer_io.specs.Files.{Text}
use Rattle.outer_io.specs.Shown.{StoreShown}
use Rattle.outer_io.specs.Reads.{Reads}
use Rattle.outer_io.proofs.ReadsLemmas.{reads-then, reads-stops}
use Rattle.jet_refusal.specs.declared.refusal.Refusal.{Refusal}
use Rattle.report_model.specs.Query.{Query, Alike}
use Rattle.jet_model.specs.Contents.{Contents, file_at, inputs_at, numbered_query_at, queries_at}
use Rattle.jet_model.proofs.Files.{each-push, each-stops}
use Rattle.command_parts.specs.Outcome.{IsOutcomeBy}
use Rattle.jet_commands.specs.Outcome.{AskAlike, IsKeptFor, AreAlike, AreAllAlike}
use Rattle.command_parts.proofs.Composing.{held-then, outcome_by-then, outcome_by-stops}

-- the names that are lent
abbrev pub texts : List (Bor (List ℕ)) → List Text
texts names = map (λ (name : Bor (List ℕ)). name.now) names

-- what the files hold
abbrev pub items_of : List (Vec ℕ Global) → List (List ℕ)
items_of inputs = map (λ (v : Vec ℕ Global). v.items) inputs

texts-more : (names : List (Bor (List ℕ))) (i : ℕ) (d : Bor (List ℕ)) → i < length names → texts (take i names) ++ (get_or names i d).now ∷ [] ≡ texts (take (i + 1) names)
texts-more names i d inside =
    sym (map-append (λ (name : Bor (List ℕ)). name.now) (take i names) (get_or names i d ∷ []))
    ∙ ap texts (sym (take_more names i d inside))

texts-split : (names : List (Bor (List ℕ))) (i : ℕ) (d : Bor (List ℕ)) → i < length names → texts (take i names) ++ (get_or names i d).now ∷ texts (drop (i + 1) names) ≡ texts names
texts-split names i d inside =
    let x : Text = (get_or names i d).now in
    let front = texts (take i names) in
    let rest = texts (drop (i + 1) names) in
    sym (append_assoc front (x ∷ []) rest)
    ∙ ap (λ w. w ++ rest) (texts-more names i d inside)
    ∙ sym (map-append (λ (name : Bor (List ℕ)). name.now) (take (i + 1) names) (drop (i + 1) names))
    ∙ ap texts (take-append-drop (i + 1) names)

texts-length : (names : List (Bor (List ℕ))) (i : ℕ) → i < length names → 1 + length (texts (take i names)) ≡ i + 1
texts-length names i inside = omega (arith, length-map (take i names) (λ (name : Bor (List ℕ)). name.now), length-take i names, inside)

-- ---- what is read of them

-- what may be read of one file, which has a number, and of several, of which the first has the number 1
pub record InOrder {A : Type 0} (one : ℕ → Contents → Text → Result A Refusal → Type 0) (all : Contents → List Text → Result (List A) Refusal → Type 0) : Type 0 where
  pub push : (file : Contents) (front : List Text) (name : Text) (xs : List A) (x : A) → all file front (Ok xs) → one (1 + length front) file name (Ok x) → all file (front ++ name ∷ []) (Ok (xs ++ x ∷ []))
  pub stops : (file : Contents) (front : List Text) (name : Text) (rest : List Text) (xs : List A) (r : Refusal) → all file front (Ok xs) → one (1 + length front) file name (Err r)
      → all file (front ++ name ∷ rest) (Err r)

module _ {A : Type 0} {one : ℕ → Contents → Text → Result A Refusal → Type 0} {all : Contents → List Text → Result (List A) Refusal → Type 0} (laws : InOrder one all)
    (names : List (Bor (List ℕ))) (i number : ℕ) (d : Bor (List ℕ)) (xs : List A) (f g h : StoreShown) (inside : i < length names) (is_number : number ≡ i + 1)
    (found : IsOutcomeBy (λ file answer. all file (texts (take i names)) answer) f g (Ok xs)) (reads : Reads (texts (take i names)) true f g) where
  abbrev front : List Text
  front = texts (take i names)

  abbrev name : Text
  name = (get_or names i d).now

  by_place : (file : Contents) (answer : Result A Refusal) → one number file name answer → one (1 + length front) file name answer
  by_place file answer = subst (λ (n : ℕ). one n file name answer) (is_number ∙ sym (texts-length names i inside))

  -- one more file
  pub one_more : (x : A) (more : List A) → more ≡ xs ++ x ∷ [] → IsOutcomeBy (λ file answer. one number file name answer) g h (Ok x)
      → IsOutcomeBy (λ file answer. all file (texts (take (i + 1) names)) answer) f h (Ok more)
  one_more x more e next =
      let told = held-then (λ file. all file front (Ok xs)) (λ file. one number file name (Ok x)) (λ file. all file (front ++ name ∷ []) (Ok (xs ++ x ∷ []))) f.files g.files h.files
      (λ file p q. laws.push file front name xs x p (by_place file (Ok x) q)) found.1 reads.keeps next.1 in
      subst (λ (w : List Text). IsOutcomeBy (λ file answer. all file w answer) f h (Ok more)) (texts-more names i d inside)
      (subst (λ (w : List A). IsOutcomeBy (λ file answer. all file (front ++ name ∷ []) answer) f h (Ok w)) (sym e) (next.0 ∙ found.0, told))

  -- the first file that is refused
  pub one_refused : (r : Refusal) → Reads (name ∷ []) true g h → IsOutcomeBy (λ file answer. one number file name answer) g h (Err r)
      → IsOutcomeBy (λ file answer. all file (texts names) answer) f h (Err r)
  one_refused r after next =
      let rest = texts (drop (i + 1) names) in
      subst (λ (whole : List Text). IsOutcomeBy (λ file answer. all file whole answer) f h (Err r)) (texts-split names i d inside)
      (outcome_by-then (λ file answer. all file front answer) (λ file (answer : Result (List A) Refusal). one number file name (Err r))
      (λ file (answer : Result (List A) Refusal). all file (front ++ name ∷ rest) (Err r)) xs f g h
      (λ file answer p q. laws.stops file front name rest xs r p (by_place file (Err r) q)) found reads after (Err r)
      (outcome_by-stops (λ file answer. one number file name answer) (λ file (answer : Result (List A) Refusal). one number file name (Err r)) g h r (λ file e. e) next))

pub inputs_in_order : InOrder (λ number file name answer. file_at file name ≡ answer) (λ file names answer. inputs_at file names ≡ answer)
inputs_in_order = record {
  push = λ file. each-push (λ number. file_at file) 1;
  stops = λ file. each-stops (λ number. file_at file) 1;
}

-- ---- queries

kept-is : {A : Type 0} (alike : A → A → Type 0) (kept : A) (found : Result A Refusal) → IsKeptFor alike (Ok kept) found → (written : A) × (found ≡ Ok written) × alike kept written
kept-is alike kept (Ok written) h = (written, refl, h)
kept-is alike kept (Err r) h = absurd h

pub kept-refused : {A : Type 0} (alike : A → A → Type 0) (r : Refusal) (found : Result A Refusal) → IsKeptFor alike (Err r) found → found ≡ Err r
kept-refused alike r (Ok written) h = absurd h
kept-refused alike r (Err s) h = ap Err (sym h)

pub keeps-ok : {A : Type 0} (alike : A → A → Type 0) (kept written : A) (found : Result A Refusal) → found ≡ Ok written → alike kept written → IsKeptFor alike (Ok kept) found
keeps-ok alike kept written found e h = subst (λ (x : Result _ Refusal). IsKeptFor alike (Ok kept) x) (sym e) h

pub keeps-err : {A : Type 0} (alike : A → A → Type 0) (r : Refusal) (found : Result A Refusal) → found ≡ Err r → IsKeptFor alike (Err r) found
keeps-err alike r found e = subst (λ (x : Result _ Refusal). IsKeptFor alike (Err r) x) (sym e) refl

ask-push : (kept written : List Query) (q w : Query) → AskAlike kept written → Alike q w → AskAlike (kept ++ q ∷ []) (written ++ w ∷ [])
ask-push [] [] q w h a = (a, tt)
ask-push [] (x ∷ xs) q w h a = absurd h
ask-push (k ∷ ks) [] q w h a = absurd h
ask-push (k ∷ ks) (x ∷ xs) q w h a = (h.0, ask-push ks xs q w h.1 a)

pub queries_in_order : InOrder (λ number file name kept. AreAlike kept (numbered_query_at file number name)) (λ file names kept. AreAllAlike kept (queries_at file names))
queries_in_order = record {
  push = λ file front name kept q all one.
      let a = kept-is AskAlike kept (queries_at file front) all in
      let b = kept-is Alike q (numbered_query_at file (1 + length front) name) one in
      keeps-ok AskAlike (kept ++ q ∷ []) (a.0 ++ b.0 ∷ []) (queries_at file (front ++ name ∷ []))
      (each-push (numbered_query_at file) 1 front name a.0 b.0 a.1 b.1) (ask-push kept a.0 q b.0 a.2 b.2);
  stops = λ file front name rest kept r all one.
      let a = kept-is AskAlike kept (queries_at file front) all in
      keeps-err AskAlike r (queries_at file (front ++ name ∷ rest))
      (each-stops (numbered_query_at file) 1 front name rest a.0 r a.1 (kept-refused Alike r (numbered_query_at file (1 + length front) name) one));
}

-- ---- what the store shows

-- one more file was read
pub reads_more : (names : List (Bor (List ℕ))) (i : ℕ) (d : Bor (List ℕ)) (f g h : StoreShown)
    → i < length names → Reads (texts (take i names)) true f g → Reads ((get_or names i d).now ∷ []) true g h → Reads (texts (take (i + 1) names)) true f h
reads_more names i d f g h inside p q = subst (λ (w : List Text). Reads w true f h) (texts-more names i d inside) (reads-then p q)

-- and the others were not
pub reads_some : (names : List (Bor (List ℕ))) (i : ℕ) (d : Bor (List ℕ)) (f g h : StoreShown)
    → i < length names → Reads (texts (take i names)) true f g → Reads ((get_or names i d).now ∷ []) true g h → Reads (texts names) false f h
reads_some names i d f g h inside p q =
    let x : Text = (get_or names i d).now in
    let rest = texts (drop (i + 1) names) in
    subst (λ (w : List Text). Reads w false f h) (append_assoc (texts (take i names)) (x ∷ []) rest ∙ texts-split names i d inside) (reads-stops rest (reads-then p q))
