use Rattle.std.proofs.Common.{◌≡◌, ◌∙◌, ap, arith, ℕ, ◌+◌, ◌-◌, ◌≤◌, List, length, take, slice_set}
use borrow.Rule.Slice.PartMut.{put_mid}
use Rattle.std.proofs.lemmas.List.{length-set}
use Rattle.report_model.specs.Text.{source_text}
use Rattle.printed_names.proofs.Tens.{one_more_name, length_copied}
use Rattle.printed_names.proofs.row_text.append_with_digits.Goals as goal

pub loop-digit-preserved : goal.loop-digit-preserved
loop-digit-preserved c =
    let stem : List ℕ = source_text c.args.stem.now in
    let bytes : List ℕ = c.loop-digit.bytes in
    let at : ℕ = c.loop-digit.end in
    let digit : ℕ = c.loop-digit.digit in
    let k : ℕ = at + 16 - at in
    let copied : List ℕ = c.copy_from_slice-in-loop-digit.new.self in
    let sixteen : k ≡ 16 = omega arith in
    let same = c.copy_from_slice-in-loop-digit.ensures.after ∙ c.copy_from_slice.ensures.after in
    let begins : take (length stem) copied ≡ stem = ap (take (length stem)) same ∙ c.padded.ensures.begins in
    let width : length copied ≡ 16 = ap length same ∙ c.padded.ensures.sixteen in
    let room : at + 16 ≤ 1024 = omega (arith, c.requires, c.loop-digit.invariant.few, c.loop-digit-test.true) in
    record {
      long = length-set (put_mid at k bytes copied) (at + c.len-len.result) (48 + digit) ∙ length_copied bytes copied at k 1024 c.loop-digit.invariant.long room sixteen width;
      few = omega (arith, c.loop-digit.invariant.few, c.len-len.ensures.short);
      names = ap (λ (n : ℕ). take (at + (n + 1)) (slice_set (put_mid at k bytes copied) (at + n) (48 + digit))) c.len-len.ensures.value
          ∙ one_more_name bytes copied stem (take c.args.filled c.args.bytes.now) at k digit (omega (arith, room, c.loop-digit.invariant.long)) sixteen width
          (omega (arith, c.len-len.ensures.value, c.len-len.ensures.short)) begins c.loop-digit.invariant.names;
    }
