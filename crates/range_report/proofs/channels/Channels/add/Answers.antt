use Rattle.std.proofs.Common.{◌≡◌, ℕ, ◌++◌, List, [], get_or, set, map, sym, ap, ◌∙◌, ◌<◌, length, Vec, arith}
use Rattle.std.specs.declared.alloc.Global.{Global}
use Rattle.std.proofs.lemmas.List.{map-set, get_or-map}
use Rattle.range_report.proofs.channels.Channels.add.Goals as goal

abbrev items_of : List (Vec ℕ Global) → List (List ℕ)
items_of table = map (λ (v : Vec ℕ Global). v.items) table

pub returns-in_ok-extend_from_slice : goal.returns-in_ok-extend_from_slice
returns-in_ok-extend_from_slice c =
    let table = c.self.inside.bytes.items in
    let k = c.args.channel in
    let own = c.index_mut.result.now in
    let within : k < length table = omega (arith, c.if-place-len.true, c.len.ensures, c.self.inside.bytes.ok.0) in
    let there : get_or (items_of table) k [] ≡ own.items =
    get_or-map (λ (v : Vec ℕ Global). v.items) table k own [] within ∙ ap (λ (v : Vec ℕ Global). v.items) (sym c.index_mut.ensures.value) in
    map-set (λ (v : Vec ℕ Global). v.items) table k c.extend_from_slice.new.self
    ∙ ap (set (items_of table) k) (c.in_ok-extend_from_slice.ensures.items ∙ ap (λ (bytes : List ℕ). bytes ++ c.args.bytes.now) (sym there))
    ∙ ap (λ (V : List (List ℕ)). set V k (get_or V k [] ++ c.args.bytes.now)) c.self.view_is
