use Rattle.std.proofs.Common.{◌≡◌, ap, ap₂, sym, ◌∙◌, subst, List}
use Rattle.flow_model.specs.declared.Loc.{Loc}
use Rattle.source_runs.specs.declared.runs.SourceRun.{SourceRun}
use Rattle.source_runs.specs.Runs.{all_bytes}
use Rattle.merge_log.specs.Log.{AreSets, terms}
use Rattle.merge_log.specs.Walk.{terms_of}
use Rattle.merge_log.proofs.Terms.{ascend-terms, nothing_under_0}
use Rattle.merge_log.proofs.Sorting.{same_terms}
use Rattle.merge_log.proofs.reader.TermsReader.read.Goals as goal

pub returns-then-node-eq0-clause-read : goal.returns-then-node-eq0-clause-read
returns-then-node-eq0-clause-read c =
    ap₂ (λ (rs : List SourceRun) (ls : List Loc). record { sources = all_bytes rs; starts = ls }) c.clear.ensures.runs c.clear.ensures.starts
    ∙ sym (ap (terms c.args.log.now) c.if-node-eq0.true ∙ nothing_under_0 c.args.log.now)

pub returns : goal.returns
returns c =
    let log = c.args.log.now in
    let node = c.args.node in
    let normalised = terms_of c.normalise.new.self in
    let read : normalised ≡ terms log node = same_terms normalised (terms log node) c.in_ok-normalise.ensures.ascending (ascend-terms log node) (λ q. c.in_ok-normalise.ensures.members q ∙ c.in_ok-walk.ensures.found q) in
    record { read = read; ascending = subst AreSets (sym read) (ascend-terms log node) }
