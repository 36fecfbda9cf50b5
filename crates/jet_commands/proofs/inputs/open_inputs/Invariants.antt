use Rattle.std.proofs.Common.{◌≡◌, ◌≤◌, ◌^◌, ℕ, List, length, map, take, true, Ok, Vec, Bor}
use Rattle.std.specs.declared.alloc.Global.{Global}
use Rattle.std.specs.List.{All}
use Rattle.outer_io.specs.Reads.{Reads}
use Rattle.jet_model.specs.Contents.{inputs_at}
use Rattle.command_parts.specs.Outcome.{IsOutcomeOf}
use Rattle.jet_commands.proofs.inputs.open_inputs.Given as goal

-- the first files are read
abbrev pub invariant-loop-name : goal.invariant-loop-name
invariant-loop-name g l =
    let before = g.S.Store.shown l.initial.store in
    let now = g.S.Store.shown l.store in
    let texts = map (λ (name : Bor (List ℕ)). name.now) (take l.name-index l.names) in
    record {
      outcome : IsOutcomeOf (λ file. inputs_at file texts) before now (Ok (map (λ (v : Vec ℕ Global). v.items) l.inputs.items));
      many : length l.inputs.items ≡ l.name-index;
      short : All (λ (v : Vec ℕ Global). length v.items ≤ 2 ^ 26) l.inputs.items;
      reads : Reads texts true before now;
    }
