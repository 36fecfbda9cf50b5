use Rattle.std.proofs.Common.{◌≡◌, ◌∷◌, ◌+◌, List, ℕ, Option, Bor, length, ap, ◌∙◌, subst, arith}
use Rattle.std.proofs.lemmas.Result.{IfOk-weaker}
use Rattle.query_lang.specs.Answers.{StandsFor}
use Rattle.query_lang.specs.Drafts.{IsFinished}
use Rattle.query_lang.proofs.ParseLemmas.{IsPartOf, lines_left, size_left, one_more_line, all_read, all_located, lines_split, less_left}
use Rattle.query_lang.proofs.parser.parse.Goals as goal

pub loop-left-preserved : goal.loop-left-preserved
loop-left-preserved c =
    let line = c.split_line.result.0.now in
    let rest = c.split_line.result.1 in
    let before = c.loop-left in
    let split : lines_left before.left ≡ line ∷ lines_left rest = ap lines_left c.in-Some.is ∙ lines_split c.in-Some.part.now line rest c.split_line.ensures.lines in
    let part = subst (IsPartOf c.args.text.now before.number before.draft) split before.invariant.part in
    let size : size_left before.left ≡ length c.in-Some.part.now + 1 = ap size_left c.in-Some.is in
    record {
      part = one_more_line c.args.text.now before.number before.draft c.take_up.new.self line (lines_left rest) part c.in_ok-take_up.ensures.ok;
      size = omega (arith, less_left (length c.in-Some.part.now) rest c.split_line.ensures.shorter, size);
    }

pub finish-requires : goal.finish-requires
finish-requires c =
    let part = subst (λ (left : Option (Bor (List ℕ))). IsPartOf c.args.text.now c.loop-left.number c.loop-left.draft (lines_left left)) c.in_default.is c.loop-left.invariant.part in
    all_located c.args.text.now c.loop-left.number c.loop-left.draft part

pub returns-clause-read : goal.returns-clause-read
returns-clause-read c =
    let draft = c.loop-left.draft in
    let text = c.args.text.now in
    let part = subst (λ (left : Option (Bor (List ℕ))). IsPartOf text c.loop-left.number draft (lines_left left)) c.in_default.is c.loop-left.invariant.part in
    IfOk-weaker c.finish.result (IsFinished draft) (StandsFor text) (λ q f. all_read text c.loop-left.number draft q part f) c.finish.ensures.ok
