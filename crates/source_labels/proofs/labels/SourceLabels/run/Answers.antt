use Rattle.std.proofs.Common.{arith, sym, subst}
use Rattle.std.proofs.lemmas.Result.{IfOk-weaker}
use Rattle.source_runs.specs.Runs.{bytes_of}
use Rattle.taint_shadow.specs.Labels.{MakesLabel}
use Rattle.taint_shadow.proofs.Meaning.{makes_itself}
use Rattle.source_labels.specs.Words.{label_words}
use Rattle.source_labels.proofs.Runs.{run_made, nothing_made, some_in_run}
use Rattle.source_labels.proofs.Sources.{made_sources}
use Rattle.source_labels.proofs.labels.SourceLabels.run.Goals as goal

pub returns-then-run : goal.returns-then-run
returns-then-run c =
    makes_itself label_words c.args.self.now _ c.nothing.result
    (subst (MakesLabel label_words c.args.self.now (bytes_of c.args.run)) (sym c.nothing.ensures) (nothing_made c.args.self.now c.args.run (omega (arith, c.if-run.true))))

pub returns-in-Some : goal.returns-in-Some
returns-in-Some c =
    makes_itself label_words c.args.self.now _ c.in-Some.label
    (run_made c.args.self.now c.args.run c.in-Some.label c.in-Some.ensures.kind (omega (arith, c.if-run.false)))

pub returns-in-None : goal.returns-in-None
returns-in-None c =
    IfOk-weaker c.run_node.result _ _
    (λ label made. made_sources c.args.self.now (record { nodes = c.run_node.new.self }) _ label (some_in_run c.args.run (omega (arith, c.if-run.false))) made)
    c.run_node.ensures
