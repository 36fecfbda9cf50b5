use Rattle.std.proofs.Common.{◌≡◌, ℕ, ◌+◌, ◌<◌, List, length, drop, refl, ap, sym, arith}
use Rattle.std.specs.Prelude.{Option, Some, None}
use Rattle.lists.proofs.Lists.{drop-within}
use Rattle.flow_model.specs.declared.Loc.{Loc}
use Rattle.flow_model.specs.declared.Message.{Message}
use Rattle.flow_model.specs.declared.SourceByte.{SourceByte}
use Rattle.forward_pass.specs.Rest.{BeingSent, rest_of_answer, rest_of}
use Rattle.forward_pass.proofs.sending.Sending.advance.Goals as goal

-- a source byte of the answer is sent
byte_sent : (set : List SourceByte) (i : ℕ) (closing : Option Loc) → i < length set
    → rest_of_answer (drop (i + 1) set) closing ≡ rest_of (rest_of_answer (drop i set) closing)
byte_sent set i None h = refl
byte_sent set i (Some l) h = ap (λ (bs : List SourceByte). rest_of (rest_of_answer bs (Some l))) (sym (drop-within set i h).1)

pub returns-then-self-len : goal.returns-then-self-len
returns-then-self-len c =
    let s = c.self.inside in
    let make : List Message → BeingSent = λ ms. record { set = s.set.items; left = ms } in
    rw (← c.self.view_is) (ap make (byte_sent s.set.items s.sent s.closing (omega (arith, c.len.ensures, s.set.ok, c.if-self-len.true))))
