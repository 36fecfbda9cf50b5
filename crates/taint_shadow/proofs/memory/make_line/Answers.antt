use Rattle.std.proofs.Common.{◌<◌, ℕ, length, refl, arith, ap, ◌∙◌}
use Rattle.std.specs.Vec.{with_item}
use Rattle.taint_shadow.specs.Memory.{items_at, cell_or}
use Rattle.taint_shadow.proofs.Bytes.{on_both}
use Rattle.taint_shadow.proofs.Grown.{items_found, line_set}
use Rattle.taint_shadow.proofs.memory.make_line.Goals as goal

pub returns : goal.returns
returns c =
    let R = c.args.regions.now.items in
    let path = c.args.path in
    let S = c.grow.new.tables.items in
    let pages = c.grow-2.new.tables.items in
    let lines = c.grow-3.new.tables.items in
    let last = c.fill.new.cells in
    let page = with_item c.grow-3.new.tables path.line last in
    let region = with_item c.grow-2.new.tables path.page page in
    let first = c.in_ok-grow.ensures in
    let second = c.in_ok-grow-2.ensures in
    let third = c.in_ok-grow-3.ensures in
    let region_in : path.region < length S = omega (arith, first.room) in
    let page_in : path.page < length pages = omega (arith, second.room) in
    let line_in : path.line < length lines = omega (arith, third.room) in
    let pages_were = items_found S path.region c.index_mut-pages.result.now region_in c.index_mut-pages.ensures.value ∙ first.same path.region in
    let pages_are = λ (j : ℕ). second.same j ∙ ap (λ vs. items_at vs j) pages_were in
    let lines_were = items_found pages path.page c.index_mut-lines.result.now page_in c.index_mut-lines.ensures.value ∙ pages_are path.page in
    let lines_are = λ (j : ℕ). third.same j ∙ ap (λ vs. items_at vs j) lines_were in
    let cells_were = items_found lines path.line c.index_mut.result.now line_in c.index_mut.ensures.value ∙ lines_are path.line in
    on_both c.fill.result (λ room same. record {
      cells = last.items;
      room = room;
      same = λ q here. same q here ∙ ap (λ xs. cell_or xs q) cells_were;
      line = line_set R S pages lines region page last path.region path.page path.line region_in first.same refl page_in pages_are refl line_in lines_are;
    }) c.fill.ensures.room c.fill.ensures.same
