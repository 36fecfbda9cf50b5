use Rattle.std.proofs.Common.{arith, sym, ◌∙◌, ◌<◌, ◌≤◌, ◌^◌, ◌+◌, ◌%◌, length}
use Rattle.printed_names.proofs.NextDigit.{next_name}
use Rattle.printed_names.proofs.Tens.{last_set}
use Rattle.printed_names.proofs.source_name.SourceName.go_to.Goals as goal

pub invariant_of-self : goal.invariant_of-self
invariant_of-self c =
    let small : c.args.source.offset < 2 ^ 32 = omega arith in
    let d = next_name c.self.inside.source c.args.source (c.differs_in_last_digit.ensures c.if-differs_in_last_digit.true) small in
    let inside : c.self.inside.len ≤ length c.self.inside.bytes = omega (arith, c.self.told, c.self.invariant.2) in (
      last_set c.self.inside.bytes d.front d.last (48 + c.args.source.offset % 10) c.self.inside.len (c.self.invariant.0 ∙ d.before) inside ∙ sym d.after,
      small,
      c.self.invariant.2,
    )
