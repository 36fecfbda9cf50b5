use Rattle.std.proofs.Common.{◌≡◌, ◌∙◌, ap, arith, ℕ, ◌+◌, ◌-◌, List, ◌++◌, length, take}
use Rattle.std.specs.Prelude.{codes}
use Rattle.std.proofs.lemmas.List.{length-append}
use borrow.Rule.Slice.PartMut.{put_mid}
use Rattle.report_model.specs.Text.{name_text, source_text}
use Rattle.printed_names.proofs.Tens.{one_name_copied, unblanked}
use Rattle.printed_names.proofs.row_text.append_unblanked.Goals as goal

pub returns-clause-text : goal.returns-clause-text
returns-clause-text c =
    let at : ℕ = c.args.filled in
    let k : ℕ = at + 16 - 1 - at in
    let name : List ℕ = name_text c.args.name.now.channel c.args.name.now.offset in
    let copied : List ℕ = c.copy_from_slice.new.self in
    let longer : length (source_text c.args.name.now) ≡ 1 + length name = length-append (codes " ") name in
    let begins : take (length name) copied ≡ name =
    ap (take (length name)) c.copy_from_slice.ensures.after
    ∙ unblanked c.padded.result.now name c.padded.ensures.begins (omega (arith, c.padded.ensures.sixteen, c.len.ensures.value, c.len.ensures.short, longer)) in
    let past : at + c.len.result - 1 ≡ at + length name = omega (arith, c.len.ensures.value, longer) in
    ap (λ (n : ℕ). take n (put_mid at k c.args.bytes.now copied)) past
    ∙ one_name_copied c.args.bytes.now copied name at k (omega (arith, c.requires, c.told-bytes)) begins
