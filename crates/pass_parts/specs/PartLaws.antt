-- What is known of an epoch is its summary, and counts tell when requests can be answered.
use Rattle.std.specs.Prelude.{◌≡◌, ℕ, ◌||◌, nat_le, List, [], ◌++◌, length}
use Rattle.flow_model.specs.declared.Loc.{Loc}
use Rattle.flow_model.specs.declared.StepSeen.{StepSeen}
use Rattle.report_model.specs.Query.{Query}
use Rattle.epoch_model.specs.Summary.{Summary, IsSummary}
use Rattle.flow_model.specs.declared.Message.{Message}
use Rattle.stream_model.specs.Streams.{is_ended, answers_in, is_resolvable}
use Rattle.pass_parts.specs.declared.requests.Request.{Request}
use Rattle.pass_parts.specs.Known.{located}
use Rattle.pass_parts.specs.Requests.{IsCounted}

-- a summary of an epoch stays one where lanes that no register has count as untouched
abbrev pub KnownIsSummary : Type 0
KnownIsSummary = (q : Query) (trace : List StepSeen) (s n : ℕ) (e : Summary)
    → IsSummary q trace s n e → IsSummary q trace s n (located e)

-- a count stays when more is asked
abbrev pub CountsStay : Type 0
CountsStay = (asked more : List Loc) (e : Summary) (r : Request)
    → IsCounted asked e r → IsCounted (asked ++ more) e r

-- a request can be answered once an End came, or as many answers as it needs
abbrev pub AnswerableByCount : Type 0
AnswerableByCount = (asked : List Loc) (e : Summary) (r : Request) (got : List Message)
    → IsCounted asked e r
    → is_resolvable asked got (e.ends r.loc) ≡ (is_ended got || nat_le r.needed_first (length (answers_in [] got)))
