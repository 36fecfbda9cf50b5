use Rattle.std.proofs.Common.{◌<◌, length, refl, arith, ap, ◌∙◌, subst}
use Rattle.std.specs.Prelude.{slice_set}
use Rattle.std.specs.Vec.{with_item}
use Rattle.taint_shadow.specs.Memory.{items_at, cells_at, with_cells, HasLine}
use Rattle.taint_shadow.proofs.Grown.{items_found, cells_there, pages_found, page_there, lines_found, line_there, cells_found, line_set}
use Rattle.taint_shadow.proofs.memory.put_in_line.Goals as goal

pub index_mut-pages-requires : goal.index_mut-pages-requires
index_mut-pages-requires c = let there = cells_there c.args.regions.now.items c.args.path.region c.args.path.page c.args.path.line (omega (arith, c.requires.room, c.requires.size)) in omega (arith, there.0)

pub index_mut-lines-requires : goal.index_mut-lines-requires
index_mut-lines-requires c =
    let path = c.args.path in
    let there = cells_there c.args.regions.now.items path.region path.page path.line (omega (arith, c.requires.room, c.requires.size)) in
    let pages = items_found c.args.regions.now.items path.region c.index_mut-pages.result.now there.0 c.index_mut-pages.ensures.value in
    omega (arith, there.1, ap length pages)

pub index_mut-requires : goal.index_mut-requires
index_mut-requires c =
    let path = c.args.path in
    let there = cells_there c.args.regions.now.items path.region path.page path.line (omega (arith, c.requires.room, c.requires.size)) in
    let pages = items_found c.args.regions.now.items path.region c.index_mut-pages.result.now there.0 c.index_mut-pages.ensures.value in
    let lines = items_found c.index_mut-pages.result.now.items path.page c.index_mut-lines.result.now (omega (arith, there.1, ap length pages)) c.index_mut-lines.ensures.value
    ∙ ap (λ vs. items_at vs path.page) pages in
    omega (arith, there.2, ap length lines)

pub put_cells-requires-clause-room : goal.put_cells-requires-clause-room
put_cells-requires-clause-room c =
    let path = c.args.path in
    let some : 0 < length (cells_at c.args.regions.now.items path.region path.page path.line) = omega (arith, c.requires.room, c.requires.size) in
    let found = cells_found c.args.regions.now.items path.region path.page path.line c.index_mut-pages.result.now c.index_mut-lines.result.now c.index_mut.result.now
    some c.index_mut-pages.ensures.value c.index_mut-lines.ensures.value c.index_mut.ensures.value in
    omega (arith, c.requires.room, ap length found)

pub returns : goal.returns
returns c =
    let R = c.args.regions.now.items in
    let path = c.args.path in
    let V = c.index_mut-pages.result.now in
    let W = c.index_mut-lines.result.now in
    let X = c.index_mut.result.now in
    let some : 0 < length (cells_at R path.region path.page path.line) = omega (arith, c.requires.room, c.requires.size) in
    let isV = c.index_mut-pages.ensures.value in
    let isW = c.index_mut-lines.ensures.value in
    let isX = c.index_mut.ensures.value in
    let pages = pages_found R path.region path.page path.line V W X some isV isW isX in
    let lines = lines_found R path.region path.page path.line V W X some isV isW isX in
    let cells = c.put_cells.ensures ∙ ap (λ xs. with_cells xs path.cell c.args.size c.args.lanes) (cells_found R path.region path.page path.line V W X some isV isW isX) in
    let last = c.put_cells.new.cells in
    let page = with_item W path.line last in
    let region = with_item V path.page page in
    subst (λ xs. HasLine R path.region path.page path.line xs (slice_set R path.region region)) cells
    (line_set R R V.items W.items region page last path.region path.page path.line (cells_there R path.region path.page path.line some).0 (λ j. refl) refl
    (page_there R path.region path.page path.line V W X some isV isW isX) (λ j. ap (λ vs. items_at vs j) pages) refl
    (line_there R path.region path.page path.line V W X some isV isW isX) (λ j. ap (λ vs. items_at vs j) lines))
