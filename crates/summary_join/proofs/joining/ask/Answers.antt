use Rattle.std.proofs.Common.{◌∙◌, [], ◌∷◌, ◌++◌, List, ap, map, sym, subst, append_assoc}
use Rattle.std.proofs.lemmas.List.{map_push}
use Rattle.flow_model.specs.declared.Loc.{Loc}
use Rattle.epoch_model.specs.Summary.{Summary}
use Rattle.epoch_summary.specs.Summaries.{summary_of}
use Rattle.summary_join.specs.Pieces.{ArePieces}
use Rattle.summary_join.proofs.Asking.{all_located}
use Rattle.summary_join.proofs.joining.ask.Goals as goal

pub new-requires : goal.new-requires
new-requires c =
    let l = c.loop-summary in
    all_located (map summary_of c.args.summaries.items) (map summary_of l.summaries.items) l.invariant.later l.asked l.pieces.items c.requires l.invariant.split l.invariant.are

pub returns-clause-located : goal.returns-clause-located
returns-clause-located c =
    let l = c.loop-summary in
    all_located (map summary_of c.args.summaries.items) (map summary_of l.summaries.items) l.invariant.later l.asked l.pieces.items c.requires l.invariant.split l.invariant.are

pub loop-summary-preserved : goal.loop-summary-preserved
loop-summary-preserved c =
    let l = c.loop-summary in
    let later = l.invariant.later in
    let e = summary_of c.in-Some.summary in
    let front = map summary_of c.pop.new.self.items in
    record {
      later = e ∷ later;
      split = sym (append_assoc front (e ∷ []) later)
          ∙ ap (λ (es : List Summary). es ++ later) (sym (map_push summary_of c.pop.new.self.items c.in-Some.summary) ∙ ap (map summary_of) (sym c.in-Some.ensures.items))
          ∙ l.invariant.split;
      are = (
        l.pieces.items,
        c.in_ok-piece.piece,
        c.in_ok-push.ensures.items,
        c.in_ok-piece.ensures.piece,
        subst (λ (ls : List Loc). ArePieces later ls l.pieces.items) (sym c.in_ok-piece.ensures.requests) l.invariant.are,
      );
    }
