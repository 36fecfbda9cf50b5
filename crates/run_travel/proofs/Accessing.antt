-- What one who looks at plain steps in a row sees.
use Rattle.std.proofs.Common.{◌≡◌, ℕ, Bool, false, if◌then◌else◌, List, [], ◌∷◌, Option, Some, None, find, refl, ap, sym, ◌∙◌, subst}
use Rattle.std.specs.Option.{option_or}
use Rattle.std.proofs.lemmas.Option.{same_Some}
use Rattle.isa.specs.declared.Instr.{Instr}
use Rattle.flow_model.specs.Origins.{step_at}
use Rattle.rv_decode.specs.declared.accesses.Load.{Load}
use Rattle.rv_decode.specs.declared.accesses.Store.{Store}
use Rattle.rv_decode.specs.Accesses.{Access, Loads, Stores, Neither, access_of, load_in, store_in, load_of, store_of, IsNoAccess}
use Rattle.replayer.specs.Jobs.{Job, trace_of}
use Rattle.replayer.specs.Nexts.{seen_at}
use Rattle.replayer.specs.declared.cursor.PlainStep.{PlainStep}
use Rattle.run_travel.specs.declared.kind.WatchKind.{WatchKind}
use Rattle.run_travel.specs.declared.kind.WatchKind.TheVariants.{Writes, Reads, Both}
use Rattle.run_travel.specs.declared.watch.Watch.{Watch}
use Rattle.run_travel.specs.Stops.{PointsAt, is_looked_for, met_by, met_at}
use Rattle.run_travel.specs.Looks.{LookingAt, looking, looked, span, meets_bytes, met_by_access, Looks}

-- what the run makes a plain step of is what is looked at
pub met_plain : (job : Job) (points : PointsAt) (t : ℕ) (step : PlainStep) → step_at (trace_of job) t ≡ Some (seen_at t step)
    → met_at job points t ≡ met_by_access points (access_of step.instr) step.place
met_plain job points t step at = ap (met_by points) at

-- ---- one instruction

load_is : (a : Access) (l : Load) → load_in a ≡ Some l → a ≡ Loads l
load_is (Loads k) l e = ap (λ (k : Load). Loads k) (same_Some k l e)
load_is (Stores s) l e = absurd cc
load_is Neither l e = absurd cc

store_is : (a : Access) (s : Store) → store_in a ≡ Some s → a ≡ Stores s
store_is (Loads l) s e = absurd cc
store_is (Stores k) s e = ap (λ (k : Store). Stores k) (same_Some k s e)
store_is Neither s e = absurd cc

pub looks_load : (was next : LookingAt) (l : Load) (place : ℕ) → next ≡ looked was (Loads l) place
    → (instr : Instr) → load_of instr ≡ Some l → Looks was instr place next
looks_load was next l place e instr is = subst (λ (a : Access). next ≡ looked was a place) (sym (load_is (access_of instr) l is)) e

pub looks_store : (was next : LookingAt) (s : Store) (place : ℕ) → next ≡ looked was (Stores s) place
    → (instr : Instr) → store_of instr ≡ Some s → Looks was instr place next
looks_store was next s place e instr is = subst (λ (a : Access). next ≡ looked was a place) (sym (store_is (access_of instr) s is)) e

-- ---- what is neither a load nor a store meets nothing

not_looked : (k : WatchKind) → is_looked_for k false false ≡ false
not_looked Writes = refl
not_looked Reads = refl
not_looked Both = refl

none_of : (place : ℕ) (ws : List Watch) → find (meets_bytes (span place 0) (span place 0)) ws ≡ None
none_of place [] = refl
none_of place (w ∷ ws) =
    ap (λ (b : Bool). if b then Some w else find (meets_bytes (span place 0) (span place 0)) ws) (not_looked w.kind) ∙ none_of place ws

or_none : (o : Option Watch) → option_or o None ≡ o
or_none None = refl
or_none (Some w) = refl

pub passed_by : (l : LookingAt) (instr : Instr) → IsNoAccess instr → Looks l instr 0 l
passed_by l instr is =
    let none = ap (λ (a : Access). met_by_access l.points a 0) is ∙ none_of 0 l.points.watches in
    ap (looking l.points l.aim) (sym (ap (option_or l.met) none ∙ or_none l.met))
