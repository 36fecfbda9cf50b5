-- The nodes of groups, and their numbers.
use Rattle.std.proofs.Common.{◌≡◌, ◌≤◌, ℕ, ◌+◌, ◌*◌, List, [], ◌∷◌, ◌++◌, map, length, length-append, reverse, refl, sym, subst, subst₂, ap, ap₂, ◌∙◌, append_assoc, append-nil, arith}
use Rattle.std.specs.Prelude.{All}
use Rattle.std.specs.Int.{div_ceil}
use Rattle.std.specs.List.{AllZip, range_with_len}
use Rattle.std.proofs.lemmas.Grind.{div_ceil_times}
use Rattle.std.proofs.lemmas.List.Elements.{All-nil, All-cons, All-append, All-head, All-tail, length_all_zip}
use Rattle.run_board.specs.Tasks.{AreNumbered}
use Rattle.run_board.proofs.FillOrder.{numbered_push}
use Rattle.epoch_node.specs.Nodes.{NodeView, IsLedFrom, IsDone}
use Rattle.epoch_node.proofs.Led.{done_stays}
use Rattle.epoch_turns.specs.Groups.{GroupView, number_of, IsGroupEnded, IsGroupLedFrom, nodes_of}
use Rattle.epoch_turns.proofs.Lists.{all_zip_append}

pub nodes_led : (new old : List GroupView) → AllZip IsGroupLedFrom new old → AllZip IsLedFrom (nodes_of new) (nodes_of old)
nodes_led [] [] h = tt
nodes_led (n ∷ new) (o ∷ old) h = all_zip_append IsLedFrom (nodes_of new) (nodes_of old) n.nodes o.nodes (nodes_led new old h.1) h.0.nodes
nodes_led new old h = absurd h

pub nodes_ended : (groups : List GroupView) → All IsGroupEnded groups → All IsDone (nodes_of groups)
nodes_ended [] h = All-nil IsDone
nodes_ended (g ∷ gs) h =
    All-append IsDone (nodes_of gs) g.nodes (nodes_ended gs (All-tail IsGroupEnded g gs h)) (All-head IsGroupEnded g gs h)

-- what is led from a node has its number
pub same_numbers : (new old : List NodeView) → AllZip IsLedFrom new old → map number_of new ≡ map number_of old
same_numbers [] [] h = refl
same_numbers (n ∷ new) (o ∷ old) h = ap₂ (λ (k : ℕ) (ks : List ℕ). k ∷ ks) (ap (λ i. i.epoch.number) h.0.setup) (same_numbers new old h.1)
same_numbers new old h = absurd h

pub stay_numbered : (new old : List NodeView) → AllZip IsLedFrom new old → AreNumbered number_of old → AreNumbered number_of new
stay_numbered new old led numbers = same_numbers new old led ∙ numbers ∙ ap (range_with_len 0) (sym (length_all_zip IsLedFrom new old led))

-- what is led from a node that is done is done
pub stay_done : (new old : List NodeView) → AllZip IsLedFrom new old → All IsDone old → All IsDone new
stay_done [] [] h a = a
stay_done (n ∷ new) (o ∷ old) h a =
    All-cons IsDone n new (done_stays n o h.0 (All-head IsDone o old a)) (stay_done new old h.1 (All-tail IsDone o old a))
stay_done new old h a = absurd h

-- ---- one group more

abbrev group_number : GroupView → ℕ
group_number g = g.number

pub numbers_on : (groups more : List GroupView) (g : GroupView) → more ≡ groups ++ g ∷ [] → AreNumbered group_number groups → g.number ≡ length groups → AreNumbered group_number more
numbers_on groups more g e numbers is =
    let long : length groups + 1 ≡ length more = omega (arith, ap length e, length-append groups (g ∷ [])) in
    ap (map group_number) e ∙ numbered_push group_number groups g (length groups) numbers is ∙ ap (range_with_len 0) long

nodes_push : (groups : List GroupView) (g : GroupView) → nodes_of (groups ++ g ∷ []) ≡ g.nodes ++ nodes_of groups
nodes_push [] g = sym (append-nil g.nodes)
nodes_push (h ∷ gs) g = ap (λ ns. ns ++ h.nodes) (nodes_push gs g) ∙ append_assoc g.nodes (nodes_of gs) h.nodes

-- the last group has all nodes that are left
pub last_has_all : (nodes left size : ℕ) → left ≡ 1 → size ≡ div_ceil nodes left → nodes ≤ size
last_has_all nodes left size one is =
    omega (arith, is, (div_ceil_times nodes left (omega (arith, one))).0, ap (λ k. div_ceil nodes left * k) one)

-- the nodes that are in no group, and those of the groups, where the last of the former become a group
pub split_on : (groups more : List GroupView) (g : GroupView) (left rest nodes : List NodeView) → more ≡ groups ++ g ∷ []
    → left ++ nodes_of groups ≡ nodes → left ≡ rest ++ g.nodes → rest ++ nodes_of more ≡ nodes
split_on groups more g left rest nodes e split taken =
    ap (λ gs. rest ++ nodes_of gs) e
    ∙ ap (λ ns. rest ++ ns) (nodes_push groups g)
    ∙ sym (append_assoc rest g.nodes (nodes_of groups))
    ∙ ap (λ ns. ns ++ nodes_of groups) (sym taken)
    ∙ split

-- the nodes so far, and those of the groups that are left, of which one is taken apart
pub join_on : (groups rest : List GroupView) (g : GroupView) (nodes more stack all : List NodeView) → groups ≡ rest ++ g ∷ []
    → nodes ++ nodes_of groups ≡ all → reverse stack ≡ g.nodes → more ≡ nodes ++ reverse stack → more ++ nodes_of rest ≡ all
join_on groups rest g nodes more stack all e join is added =
    ap (λ ns. ns ++ nodes_of rest) (added ∙ ap (λ ns. nodes ++ ns) is)
    ∙ append_assoc nodes g.nodes (nodes_of rest)
    ∙ ap (λ ns. nodes ++ ns) (sym (nodes_push rest g) ∙ ap nodes_of (sym e))
    ∙ join

-- ---- what a board made of groups

pub led_at_last : (nodes start : List NodeView) (new board old : List GroupView) → nodes ≡ nodes_of new → AllZip IsGroupLedFrom new board → board ≡ old → nodes_of old ≡ start → AllZip IsLedFrom nodes start
led_at_last nodes start new board old is led same split =
    subst₂ (AllZip IsLedFrom) (sym is) (ap nodes_of same ∙ split) (nodes_led new board led)

pub ended_at_last : (nodes : List NodeView) (new : List GroupView) → nodes ≡ nodes_of new → All IsGroupEnded new → All IsDone nodes
ended_at_last nodes new is ended = subst (All IsDone) (sym is) (nodes_ended new ended)
