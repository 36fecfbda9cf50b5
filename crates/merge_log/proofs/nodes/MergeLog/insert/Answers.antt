use Rattle.std.proofs.Common.{rules, sym, ◌+◌, ◌∙◌, arith}
use Rattle.merge_log.proofs.Keys.{log_after, noted_by, noted_at, keeps_more, noted_terms}
use Rattle.merge_log.proofs.Noted.{kept_under}
use Rattle.merge_log.proofs.Terms.{entry_before}
use Rattle.merge_log.proofs.nodes.MergeLog.insert.Goals as goal
use Rattle.merge_log.proofs.nodes.MergeLog.insert.Goals.{in-Some, in-None}

pub note-requires-clause-operands : goal.note-requires-clause-operands
note-requires-clause-operands c =
    let log = c.self.inside.entries.keys in
    let new = c.insert_full.new.self.keys in
    let form = log_after log c.args.entry new c.self.invariant.0 (omega (arith, c.len.ensures.len)) (rw (← c.self.view_is) at c.requires) c.in_ok-index.ensures.keys in
    entry_before new (c.in_ok-index.index + 1) c.args.entry form.ordered (noted_by log c.args.entry new c.in_ok-index.index c.in_ok-index.ensures.keys c.in_ok-index.ensures.stored).entry

pub invariant_of-self-then-len-lt-MOST_ENTRIES : goal.invariant_of-self-then-len-lt-MOST_ENTRIES
invariant_of-self-then-len-lt-MOST_ENTRIES c =
    let log = c.self.inside.entries.keys in
    let new = c.insert_full.new.self.keys in
    let under = c.self.inside.under in
    let form = log_after log c.args.entry new c.self.invariant.0 (omega (arith, c.len.ensures.len)) (rw (← c.self.view_is) at c.requires) c.in_ok-index.ensures.keys in
    let noted = noted_by log c.args.entry new c.in_ok-index.index c.in_ok-index.ensures.keys c.in_ok-index.ensures.stored in
    (form, c.note.ensures new form.ordered noted.entry (kept_under log new under.leaves.items under.masks.items (keeps_more log c.args.entry new c.in_ok-index.ensures.keys) c.self.invariant.1))

pub returns-then-len-lt-MOST_ENTRIES : goal.returns-then-len-lt-MOST_ENTRIES
returns-then-len-lt-MOST_ENTRIES c =
    let log = c.self.inside.entries.keys in
    let new = c.insert_full.new.self.keys in
    let form = log_after log c.args.entry new c.self.invariant.0 (omega (arith, c.len.ensures.len)) (rw (← c.self.view_is) at c.requires) c.in_ok-index.ensures.keys in
    let noted = noted_by log c.args.entry new c.in_ok-index.index c.in_ok-index.ensures.keys c.in_ok-index.ensures.stored in
    rw (← c.self.view_is) (record {
      terms = noted_terms log c.args.entry new _ form noted;
      noted = noted;
      kept = keeps_more log c.args.entry new c.in_ok-index.ensures.keys;
      there = λ h. search rules;
      err = tt;
    })

pub returns-clause-noted : goal.returns-clause-noted
returns-clause-noted c = rw (← c.self.view_is) (elim c.match-get_index_of.branch [ in-Some w ↦ rw w.result-is (noted_at _ _ _ (sym c.get_index_of.ensures.index ∙ w.in-Some.is)) | in-None w ↦ rw w.result-is tt ])

pub returns-clause-terms : goal.returns-clause-terms
returns-clause-terms c = rw (← c.self.view_is) (elim c.match-get_index_of.branch [ in-Some w ↦ rw w.result-is (noted_terms _ _ _ _ c.self.invariant.0 (noted_at _ _ _ (sym c.get_index_of.ensures.index ∙ w.in-Some.is))) | in-None w ↦ rw w.result-is tt ])
