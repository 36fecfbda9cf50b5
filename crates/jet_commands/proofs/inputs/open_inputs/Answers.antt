use Rattle.std.proofs.Common.{arith, ◌≡◌, ◌≤◌, ◌^◌, ◌+◌, ◌∷◌, ◌++◌, [], ap, ◌∙◌, sym, refl, subst, ℕ, List, length, true, Ok, Vec, Bor}
use Rattle.std.specs.declared.alloc.Global.{Global}
use Rattle.std.proofs.lemmas.List.{length_push, take_all, map-append}
use Rattle.std.proofs.lemmas.List.Elements.{All-nil, All-push, All-same}
use Rattle.std.proofs.lemmas.Result.{err_from_is_err_and}
use Rattle.outer_io.specs.Reads.{Reads}
use Rattle.outer_io.proofs.TellsLemmas.{tells-same}
use Rattle.jet_model.specs.Contents.{inputs_at}
use Rattle.command_parts.specs.Outcome.{HeldBefore, IsOutcomeOf}
use Rattle.outer_io.proofs.ReadsLemmas.{reads-none}
use Rattle.jet_commands.proofs.Several.{texts, items_of, inputs_in_order, one_more, one_refused, reads_more, reads_some}
use Rattle.jet_commands.proofs.inputs.open_inputs.Goals as goal

pub loop-name-init : goal.loop-name-init
loop-name-init g c =
    let shown = g.S.Store.shown c.args.store.now in
    let inputs : List (Vec ℕ Global) = c.new-inputs.result.items in
    let none : inputs ≡ [] = c.new-inputs.ensures.items in
    record {
      outcome = subst (λ (w : List (Vec ℕ Global)). IsOutcomeOf (λ file. inputs_at file []) shown shown (Ok (items_of w))) (sym none)
          (refl, tells-same shown.files (HeldBefore (λ file. inputs_at file [] ≡ Ok [])) (λ x. record { held = refl }));
      many = ap length none;
      short = All-same (λ (v : Vec ℕ Global). length v.items ≤ 2 ^ 26) inputs [] none (All-nil (λ (v : Vec ℕ Global). length v.items ≤ 2 ^ 26));
      reads = reads-none shown;
    }

pub loop-name-preserved : goal.loop-name-preserved
loop-name-preserved g c =
    let names = c.args.names.now in
    let index : ℕ = c.loop-name.name-index in
    let before = g.S.Store.shown c.args.store.now in
    let between = g.S.Store.shown c.loop-name.store in
    let after = g.S.Store.shown c.read_file.new.store in
    let inputs = c.loop-name.inputs.items in
    let more = c.push.new.self.items in
    let input = c.in_ok-input.input in
    let i = c.loop-name.invariant in
    let pushed : more ≡ inputs ++ input ∷ [] = c.in_ok-push.ensures.items in
    record {
      outcome = one_more inputs_in_order names index (index + 1) _ (items_of inputs) before between after c.loop-name-test.true refl i.outcome i.reads input.items (items_of more)
          (ap items_of pushed ∙ map-append (λ (v : Vec ℕ Global). v.items) inputs (input ∷ [])) c.in_ok-input.ensures.outcome;
      many = omega (arith, ap length pushed, length_push inputs input, i.many);
      short = All-same (λ (v : Vec ℕ Global). length v.items ≤ 2 ^ 26) more (inputs ++ input ∷ []) pushed
          (All-push (λ (v : Vec ℕ Global). length v.items ≤ 2 ^ 26) inputs input i.short c.in_ok-input.ensures.short);
      reads = reads_more names index _ before between after c.loop-name-test.true i.reads c.read_file.ensures.reads;
    }

-- a file was refused
pub returns-in_err-input : goal.returns-in_err-input
returns-in_err-input g c =
    let names = c.args.names.now in
    let index : ℕ = c.loop-name.name-index in
    let i = c.loop-name.invariant in
    let before = g.S.Store.shown c.args.store.now in
    let between = g.S.Store.shown c.loop-name.store in
    let after = g.S.Store.shown c.read_file.new.store in
    let p = err_from_is_err_and c.from_residual.result c.from_residual.ensures.1 in
    rw (p.1, p.2) (record {
      outcome = one_refused inputs_in_order names index (index + 1) _ (items_of c.loop-name.inputs.items) before between after c.loop-name-test.true refl i.outcome i.reads _ c.in_err-input.ensures.reads c.in_err-input.ensures.outcome;
      many = tt;
      short = tt;
      reads = reads_some names index _ before between after c.loop-name-test.true i.reads c.in_err-input.ensures.reads;
    })

pub returns-in_err-push-clause-reads : goal.returns-in_err-push-clause-reads
returns-in_err-push-clause-reads g c =
    let p = err_from_is_err_and c.from_residual-in_err-push.result c.from_residual-in_err-push.ensures.1 in
    rw p.1 (reads_some c.args.names.now c.loop-name.name-index _ _ (g.S.Store.shown c.loop-name.store) _ c.loop-name-test.true c.loop-name.invariant.reads c.in_ok-input.ensures.reads)

-- all were read
pub returns-clause-outcome : goal.returns-clause-outcome
returns-clause-outcome g c =
    subst (λ (w : List (Bor (List ℕ))). IsOutcomeOf (λ file. inputs_at file (texts w)) (g.S.Store.shown c.args.store.now) (g.S.Store.shown c.loop-name.store) (Ok (items_of c.loop-name.inputs.items)))
    (take_all c.loop-name.name-index c.args.names.now c.loop-name-test.false) c.loop-name.invariant.outcome

pub returns-clause-reads : goal.returns-clause-reads
returns-clause-reads g c =
    subst (λ (w : List (Bor (List ℕ))). Reads (texts w) true (g.S.Store.shown c.args.store.now) (g.S.Store.shown c.loop-name.store))
    (take_all c.loop-name.name-index c.args.names.now c.loop-name-test.false) c.loop-name.invariant.reads
