use Rattle.std.proofs.Common.{ℕ, List, [], ◌∷◌, ◌++◌, replicate, ap, ◌∙◌}
use Rattle.replayer.specs.Positions.{state_at}
use Rattle.core_file.specs.Headers.{half, words}
use Rattle.core_file.specs.Note.{pr_reg}
use Rattle.core_file.proofs.Appended.{seven}
use Rattle.core_file.proofs.note.push_prstatus.Goals as goal

pub returns : goal.returns
returns c =
    let signal = c.in_ok-extend_from_slice-2.ensures.items ∙ ap (λ (bytes : List ℕ). c.extend_from_slice.new.self.items ++ bytes) c.to_le_bytes.ensures in
    seven c.args.file.now.items (replicate 12 0) (half c.args.signal) (replicate 10 0) (words (1 ∷ [])) (replicate 44 0) (words (pr_reg (state_at c.args.cursor.now))) (replicate 4 0)
    c.in_ok-extend_from_slice.ensures.items signal c.in_ok-extend_from_slice-3.ensures.items c.in_ok-push_words.ensures c.in_ok-extend_from_slice-4.ensures.items c.in_ok-push_registers.ensures
    c.in_ok-extend_from_slice-5.ensures.items
