-- What the text of a run's decisions tells of them.
use Rattle.std.specs.Prelude.{◌≡◌, ℕ, ◌<◌, ◌↔◌, true, List, ◌∷◌, ◌++◌, length, map, Option, All, Contains}
use Rattle.std.specs.List.{flat_map, sum_by}
use Rattle.isa.specs.declared.Instr.{Instr}
use Rattle.isa.specs.Machine.{State}
use Rattle.log_model.specs.Logs.{Log}
use Rattle.lists.specs.Sets.{Ascends}
use Rattle.flow_model.specs.declared.Loc.{Loc}
use Rattle.flow_model.specs.declared.SourceByte.{SourceByte}
use Rattle.flow_model.specs.Orders.{source_cmp}
use Rattle.flow_model.specs.Origins.{Policy}
use Rattle.replay_model.specs.Run.{start, moment_after, trace}
use Rattle.printed_names.specs.Lines.{lines_end}
use Rattle.decision_find.specs.declared.Place.{Place}
use Rattle.decision_find.specs.Decisions.{Decision, decisions, decision, decided, moments_seen, is_some_byte}
use Rattle.decision_find.specs.Places.{place_cmp, place_of, decided_there}
use Rattle.decision_find.specs.Text.{line_text, decisions_text}

-- ---- the decisions of a run

-- a decision of a run: at a moment that is seen, of a location that decides there and has a source byte
pub record IsDecision (policy : Policy) (s : State) (log : Log) (d : Decision) : Type 0 where
  pub time : ℕ
  pub loc : Loc
  pub seen : time < moments_seen log.end
  pub decides : Contains (decisions policy.rule (moment_after time (start s log)).state) loc
  pub is : d ≡ decision policy (trace s log) (moment_after time (start s log)) loc
  pub has_source : is_some_byte d.sources ≡ true

abbrev pub DecidedAreDecisions : Type 0
DecidedAreDecisions = (policy : Policy) (s : State) (log : Log) (d : Decision)
    → Contains (decided policy s log) d ↔ IsDecision policy s log d

-- ---- the lines of their text

-- what a line tells: a place, an instruction, how many decisions, the time of the first, and source bytes
pub record PlaceLine : Type 0 where
  pub place : Place
  pub instr : Option Instr
  pub count : ℕ
  pub first : ℕ
  pub sources : List SourceByte

abbrev pub place_line_text : PlaceLine → List ℕ
place_line_text x = line_text x.place x.instr x.count x.first x.sources

-- the line tells the decisions of its place: the instruction and the time of the first, how many they are, and exactly the
-- source bytes of any of them, ascending
pub record IsLineOf (ds : List Decision) (x : PlaceLine) : Type 0 where
  pub earliest : Decision
  pub later : List Decision
  pub there : decided_there x.place ds ≡ earliest ∷ later
  pub instr : x.instr ≡ earliest.instr
  pub count : x.count ≡ length (earliest ∷ later)
  pub first : x.first ≡ earliest.time
  pub sources : (b : SourceByte) → Contains x.sources b ↔ ((d : Decision) × Contains (decided_there x.place ds) d × Contains d.sources b)
  pub ascending : Ascends source_cmp x.sources

-- the text tells these decisions: a place has a line exactly where it has a decision, and one line; the lines ascend by place;
-- and all decisions are counted
pub record TellsDecisions (ds : List Decision) (text : List ℕ) : Type 0 where
  pub lines : List PlaceLine
  pub is_text : text ≡ flat_map place_line_text lines ++ lines_end (length lines)
  pub each : All (IsLineOf ds) lines
  pub places : (p : Place) → ((x : PlaceLine) × Contains lines x × (x.place ≡ p)) ↔ ((d : Decision) × Contains ds d × (place_of d ≡ p))
  pub ascending : Ascends place_cmp (map (λ x. x.place) lines)
  pub counted : sum_by (λ x. x.count) lines ≡ length ds

abbrev pub TextsTellDecisions : Type 0
TextsTellDecisions = (ds : List Decision) → TellsDecisions ds (decisions_text ds)

-- the decisions of a place are those that are there
abbrev pub DecidedThereAre : Type 0
DecidedThereAre = (ds : List Decision) (p : Place) (d : Decision) → Contains (decided_there p ds) d ↔ (Contains ds d × (place_of d ≡ p))
