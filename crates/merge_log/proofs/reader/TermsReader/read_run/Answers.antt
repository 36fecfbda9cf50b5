use Rattle.std.proofs.Common.{◌≡◌, ◌++◌, [], ◌∷◌, List, ap, sym, ◌∙◌, subst, append-nil}
use Rattle.lists.specs.Sets.{Ascends}
use Rattle.flow_model.specs.Orders.{loc_cmp, source_cmp}
use Rattle.source_runs.specs.declared.runs.SourceRun.{SourceRun}
use Rattle.source_runs.specs.Runs.{all_bytes, bytes_of}
use Rattle.source_runs.proofs.Bytes.{run_ascends}
use Rattle.merge_log.proofs.reader.TermsReader.read_run.Goals as goal
use Rattle.merge_log.proofs.reader.TermsReader.read_run.Goals.{In_ok-push}

-- the bytes of the one run that was pushed
run_alone : (c : In_ok-push) → all_bytes c.push.new.self.items ≡ bytes_of c.args.run
run_alone c =
    ap all_bytes (c.in_ok-push.ensures.items ∙ ap (λ (rs : List SourceRun). rs ++ c.args.run ∷ []) c.clear.ensures.runs)
    ∙ append-nil (bytes_of c.args.run)

pub returns-clause-ascending : goal.returns-clause-ascending
returns-clause-ascending c =
    let run = c.args.run in
    record { sources = subst (Ascends source_cmp) (sym (run_alone c)) (run_ascends run); starts = subst (Ascends loc_cmp) (sym c.clear.ensures.starts) tt }
