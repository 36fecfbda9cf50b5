use Rattle.std.proofs.Common.{inl, inr, sym, ◌∙◌, arith}
use Rattle.replay_log.proofs.Headers.{no_magic, short_header, wrong_pages, many_inputs}
use Rattle.replay_log.proofs.header.header_of.Goals as goal
use Rattle.replay_log.proofs.header.header_of.Goals.{then-pages-eq0-via-then-pages-eq0, then-pages-eq0-via-else-pages-eq0+then-pages-gt4096}

pub returns-in_default-clause-fault : goal.returns-in_default-clause-fault
returns-in_default-clause-fault c = no_magic c.args.bytes.now (sym c.version_of.ensures ∙ c.in_default.is)

pub returns-then-bytes-lt-HEADER_LENGTH-clause-fault : goal.returns-then-bytes-lt-HEADER_LENGTH-clause-fault
returns-then-bytes-lt-HEADER_LENGTH-clause-fault c =
    short_header c.args.bytes.now c.in-Some.version (sym c.version_of.ensures ∙ c.in-Some.is) c.if-bytes-lt-HEADER_LENGTH.true

pub returns-then-pages-eq0-clause-fault : goal.returns-then-pages-eq0-clause-fault
returns-then-pages-eq0-clause-fault c =
    wrong_pages c.args.bytes.now c.in-Some.version (sym c.version_of.ensures ∙ c.in-Some.is) c.word_at-pages.result
    c.if-bytes-lt-HEADER_LENGTH.false c.word_at-pages.ensures (elim c.then-pages-eq0.branch [
      | then-pages-eq0-via-then-pages-eq0 w ↦ inl (omega (arith, w.if-pages-eq0.true))
      | then-pages-eq0-via-else-pages-eq0+then-pages-gt4096 w ↦ inr (omega (arith, w.if-pages-gt4096.true))
    ])

pub returns-then-inputs-gt16-clause-fault : goal.returns-then-inputs-gt16-clause-fault
returns-then-inputs-gt16-clause-fault c =
    many_inputs c.args.bytes.now c.in-Some.version (sym c.version_of.ensures ∙ c.in-Some.is) c.word_at-pages.result c.word_at-inputs.result
    c.if-bytes-lt-HEADER_LENGTH.false c.word_at-pages.ensures
    (omega (arith, c.if-pages-eq0.false)) (omega (arith, c.if-pages-gt4096.false)) c.word_at-inputs.ensures c.if-inputs-gt16.true
