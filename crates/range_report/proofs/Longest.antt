-- The runs of rows are as long as can be, and no others are. Crates above cite `runs-on` and `runs-off`.
use Rattle.std.proofs.Common.{◌≡◌, Bool, true, false, ◌&&◌, ◌||◌, List, [], ◌∷◌, ◌++◌, refl, sym, ap, ap₂, ◌∙◌, append_assoc, append-nil}
use Rattle.std.specs.List.{flat_map, list_all}
use Rattle.std.proofs.lemmas.Bool.{and_parts, or_right}
use Rattle.std.proofs.lemmas.List.Folds.{list_all-append}
use Rattle.flow_model.specs.declared.SourceByte.{SourceByte}
use Rattle.report_model.specs.Rows.{Row}
use Rattle.range_report.specs.Runs.{is_next_sink, is_next_source, same_sources, go_on, has_one, is_moved, is_shared, is_run, runs_after, runs}
use Rattle.range_report.specs.RunLaws.{StopsBefore, AreLongest, AreRunsOf, RunsHoldRows, RunsAreAlone}

-- a run goes on with a row, or it is done
pub runs-on : (run : List Row) (r : Row) (rs : List Row) → is_run (run ++ r ∷ []) ≡ true → runs_after run (r ∷ rs) ≡ runs_after (run ++ r ∷ []) rs
runs-on run r rs e =
    ap (λ (b : Bool). elim b [ true ↦ runs_after (run ++ r ∷ []) rs | false ↦ run ∷ runs_after (r ∷ []) rs ]) e

pub runs-off : (run : List Row) (r : Row) (rs : List Row) → is_run (run ++ r ∷ []) ≡ false → runs_after run (r ∷ rs) ≡ run ∷ runs_after (r ∷ []) rs
runs-off run r rs e =
    ap (λ (b : Bool). elim b [ true ↦ runs_after (run ++ r ∷ []) rs | false ↦ run ∷ runs_after (r ∷ []) rs ]) e

-- one row is a run
pub one_is_run : (r : Row) → is_run (r ∷ []) ≡ true
one_is_run r = or_right (is_moved (r ∷ [])) true refl

-- ---- they hold the rows, and are as long as can be

-- what follows a run that begins with r begins with r
begins : (prev : List Row) (r : Row) (xs rs : List Row) → is_run (prev ++ r ∷ []) ≡ false → StopsBefore prev (runs_after (r ∷ xs) rs)
begins prev r xs [] e = e
begins prev r xs (y ∷ ys) e = by (is_run ((r ∷ xs) ++ y ∷ [])) (begins prev r (xs ++ y ∷ []) ys e)
  where
    by : (b : Bool) → StopsBefore prev (runs_after (r ∷ (xs ++ y ∷ [])) ys)
        → StopsBefore prev (elim b [ true ↦ runs_after ((r ∷ xs) ++ y ∷ []) ys | false ↦ (r ∷ xs) ∷ runs_after (y ∷ []) ys ])
    by true on = on
    by false on = e

holds : (r : Row) (xs rs : List Row) → is_run (r ∷ xs) ≡ true → AreRunsOf ((r ∷ xs) ++ rs) (runs_after (r ∷ xs) rs)
holds r xs [] e = record { rows = refl; longest = (e, tt, tt) }
holds r xs (y ∷ ys) e = by (is_run ((r ∷ xs) ++ y ∷ [])) refl (holds r (xs ++ y ∷ []) ys) (holds y [] ys (one_is_run y))
  where
    by : (b : Bool) → is_run ((r ∷ xs) ++ y ∷ []) ≡ b
        → (is_run (r ∷ (xs ++ y ∷ [])) ≡ true → AreRunsOf ((r ∷ (xs ++ y ∷ [])) ++ ys) (runs_after (r ∷ (xs ++ y ∷ [])) ys))
        → AreRunsOf (y ∷ ys) (runs_after (y ∷ []) ys)
        → AreRunsOf ((r ∷ xs) ++ y ∷ ys) (elim b [ true ↦ runs_after ((r ∷ xs) ++ y ∷ []) ys | false ↦ (r ∷ xs) ∷ runs_after (y ∷ []) ys ])
    by true f on off =
        let h = on f in
        record { rows = h.rows ∙ append_assoc (r ∷ xs) (y ∷ []) ys; longest = h.longest }
    by false f on off = record {
      rows = ap (λ (zs : List Row). (r ∷ xs) ++ zs) off.rows;
      longest = (e, begins (r ∷ xs) y [] ys f, off.longest);
    }

pub runs_hold_rows : RunsHoldRows
runs_hold_rows [] = record { rows = refl; longest = tt }
runs_hold_rows (r ∷ rs) = holds r [] rs (one_is_run r)

-- ---- no others are so

-- the front of rows that go on goes on, and so with runs
go_on-front : (stand : List SourceByte → List SourceByte → Bool) (xs ys : List Row) → go_on stand (xs ++ ys) ≡ true → go_on stand xs ≡ true
go_on-front stand [] ys h = refl
go_on-front stand (x ∷ []) ys h = refl
go_on-front stand (x ∷ y ∷ xs) ys h =
    let here = is_next_sink x.sink y.sink && stand x.sources y.sources in
    ap₂ ◌&&◌ ((and_parts here (go_on stand ((y ∷ xs) ++ ys)) h).0) (go_on-front stand (y ∷ xs) ys ((and_parts here (go_on stand ((y ∷ xs) ++ ys)) h).1))

ones-front : (xs ys : List Row) → list_all has_one (xs ++ ys) ≡ true → list_all has_one xs ≡ true
ones-front xs ys h = (and_parts (list_all has_one xs) (list_all has_one ys) (sym (list_all-append has_one xs ys) ∙ h)).0

moved-front : (xs ys : List Row) → is_moved (xs ++ ys) ≡ true → is_moved xs ≡ true
moved-front xs ys h =
    let parts = and_parts (list_all has_one (xs ++ ys)) (go_on is_next_source (xs ++ ys)) h in
    ap₂ ◌&&◌ (ones-front xs ys parts.0) (go_on-front is_next_source xs ys parts.1)

run-front : (xs ys : List Row) → is_run (xs ++ ys) ≡ true → is_run xs ≡ true
run-front xs ys h = by (is_moved (xs ++ ys)) refl h
  where
    by : (b : Bool) → is_moved (xs ++ ys) ≡ b → (b || is_shared (xs ++ ys)) ≡ true → is_run xs ≡ true
    by true e h = ap (λ (a : Bool). a || is_shared xs) (moved-front xs ys e)
    by false e h = ap (λ (a : Bool). is_moved xs || a) (go_on-front same_sources xs ys h) ∙ or_right (is_moved xs) true refl

-- a run takes in what makes a longer run with it
takes : (xs ys zs : List Row) → is_run (xs ++ ys) ≡ true → runs_after xs (ys ++ zs) ≡ runs_after (xs ++ ys) zs
takes xs [] zs e = ap (λ (run : List Row). runs_after run zs) (sym (append-nil xs))
takes xs (y ∷ ys) zs e =
    let whole : is_run ((xs ++ y ∷ []) ++ ys) ≡ true = ap is_run (append_assoc xs (y ∷ []) ys) ∙ e in
    runs-on xs y (ys ++ zs) (run-front (xs ++ y ∷ []) ys whole)
    ∙ takes (xs ++ y ∷ []) ys zs whole
    ∙ ap (λ (run : List Row). runs_after run zs) (append_assoc xs (y ∷ []) ys)

alone : (others : List (List Row)) → AreLongest others → others ≡ runs (flat_map (λ run. run) others)
alone [] h = refl
alone ([] ∷ rest) h = absurd h
alone ((r ∷ rs) ∷ []) h = sym (takes (r ∷ []) rs [] h.0)
alone ((r ∷ rs) ∷ [] ∷ rest) h = absurd h.2
alone ((r ∷ rs) ∷ (y ∷ ys) ∷ rest) h =
    ap (λ (others : List (List Row)). (r ∷ rs) ∷ others) (alone ((y ∷ ys) ∷ rest) h.2)
    ∙ sym (takes (r ∷ []) rs (y ∷ (ys ++ flat_map (λ run. run) rest)) h.0 ∙ runs-off (r ∷ rs) y (ys ++ flat_map (λ run. run) rest) h.1)

pub runs_alone : RunsAreAlone
runs_alone rs others h = alone others h.longest ∙ ap runs h.rows
