use Rattle.std.proofs.Common.{◌≡◌, ◌∙◌, ap, arith, ℕ, ◌+◌, ◌-◌, List, length, take}
use borrow.Rule.Slice.PartMut.{put_mid}
use Rattle.report_model.specs.Text.{source_text}
use Rattle.printed_names.proofs.Tens.{one_name_copied}
use Rattle.printed_names.proofs.row_text.append_name.Goals as goal

pub returns-clause-text : goal.returns-clause-text
returns-clause-text c =
    let at : ℕ = c.args.filled in
    let name : List ℕ = source_text c.args.name.now in
    let copied : List ℕ = c.copy_from_slice.new.self in
    let begins : take (length name) copied ≡ name = ap (take (length name)) c.copy_from_slice.ensures.after ∙ c.padded.ensures.begins in
    ap (λ (n : ℕ). take (at + n) (put_mid at (at + 16 - at) c.args.bytes.now copied)) c.len.ensures.value
    ∙ one_name_copied c.args.bytes.now copied name at (at + 16 - at) (omega (arith, c.requires, c.told-bytes)) begins
