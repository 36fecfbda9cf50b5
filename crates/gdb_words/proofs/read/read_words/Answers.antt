use Rattle.std.proofs.Common.{rules, ◌≤◌, ◌∙◌, ap, sym, subst, map, string_bytes, List, Some}
use Rattle.clap.specs.Words.{Row}
use Rattle.clap_command.specs.Numbers.{IsLongNumber}
use Rattle.gdb_words.specs.Requests.{RequestOf, request_by}
use Rattle.std.proofs.Common.{codes}
use Rattle.gdb_words.proofs.Taken.{time_taken, request_of-taken, request_of-refused}
use Rattle.gdb_words.proofs.read.read_words.Goals as goal

pub returns-in_err-matches-clause-nothing : goal.returns-in_err-matches-clause-nothing
returns-in_err-matches-clause-nothing c =
    let nothing = request_of-refused (map string_bytes c.args.words.now) _ c.in_err-matches.ensures.usage in
    search rules

pub read_request-request-requires : goal.read_request-request-requires
read_request-request-requires c =
    subst (λ (rows : List Row). IsLongNumber (codes "T") rows) (sym c.in_ok-matches.ensures.rows)
    (time_taken (map string_bytes c.args.words.now) c.in_ok-matches.ensures.taken).can_be_read

pub returns-clause-request : goal.returns-clause-request
returns-clause-request c =
    request_of-taken (map string_bytes c.args.words.now) c.in_ok-matches.ensures.taken
    ∙ ap (λ (rows : List Row). Some (request_by rows)) (sym c.in_ok-matches.ensures.rows) ∙ ap (λ (r : RequestOf). Some r) (sym c.read_request-request.ensures)

pub returns-clause-range : goal.returns-clause-range
returns-clause-range c =
    subst (λ (n : _). n ≤ 1099511627776) (ap (λ (rows : List Row). (request_by rows).time) (sym c.in_ok-matches.ensures.rows) ∙ ap (λ (r : RequestOf). r.time) (sym c.read_request-request.ensures))
    (time_taken (map string_bytes c.args.words.now) c.in_ok-matches.ensures.taken).at_most
