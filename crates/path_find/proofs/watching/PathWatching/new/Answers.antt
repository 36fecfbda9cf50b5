use Rattle.std.proofs.Common.{refl, sym, subst}
use Rattle.path_find.specs.Watched.{Knows, IsSound}
use Rattle.path_find.proofs.Seeing.{first_sound, first_known}
use Rattle.path_find.proofs.watching.PathWatching.new.Goals as goal

pub invariant_of-result : goal.invariant_of-result
invariant_of-result c = (c.requires, subst IsSound (sym c.before-standing.ensures) (first_sound c.args.rule c.args.pair c.new.result c.new.ensures))

pub returns : goal.returns
returns c = record {
  pair_is = refl;
  knows = λ trace. subst (Knows c.args.rule c.args.pair trace 0) (sym c.before-standing.ensures) (first_known c.args.rule c.args.pair trace c.new.result c.new.ensures);
}
