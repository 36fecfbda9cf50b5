use Rattle.std.proofs.Common.{◌≡◌, ℕ, List, length, map, take, true, Ok, Bor}
use Rattle.outer_io.specs.Reads.{Reads}
use Rattle.jet_model.specs.Contents.{queries_at}
use Rattle.command_parts.specs.Outcome.{IsOutcomeBy}
use Rattle.jet_commands.specs.Outcome.{AreAllAlike}
use Rattle.jet_commands.proofs.queries.open_queries.Given as goal

-- the first files are read
abbrev pub invariant-loop-name : goal.invariant-loop-name
invariant-loop-name g l =
    let before = g.S.Store.shown l.initial.store in
    let now = g.S.Store.shown l.store in
    let texts = map (λ (name : Bor (List ℕ)). name.now) (take l.name-index l.names) in
    record {
      outcome : IsOutcomeBy (λ file kept. AreAllAlike kept (queries_at file texts)) before now (Ok l.queries.items);
      many : length l.queries.items ≡ l.name-index;
      number : l.number ≡ l.name-index;
      reads : Reads texts true before now;
    }
