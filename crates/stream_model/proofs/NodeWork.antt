-- How many events moved in nodes that are done.
use Rattle.std.proofs.Common.{◌≡◌, ℕ, suc, ◌+◌, ◌*◌, List, [], ◌∷◌, ◌++◌, map, length, refl, ap, sym, ◌∙◌, Bool, true, false, length-append, append_assoc, arith}
use Rattle.std.specs.List.{flat_map}
use Rattle.std.proofs.lemmas.List.{length-map}
use Rattle.flow_model.specs.declared.Loc.{Loc}
use Rattle.flow_model.specs.declared.SourceByte.{SourceByte}
use Rattle.flow_model.specs.declared.StepSeen.{StepSeen}
use Rattle.flow_model.specs.Origins.{Policy, origins}
use Rattle.flow_model.specs.declared.Message.{Message}
use Rattle.flow_model.specs.declared.Message.TheVariants.{Ask, Byte, Close, End}
use Rattle.report_model.specs.Query.{Query, policy_of}
use Rattle.report_model.specs.Rows.{rows_as_written}
use Rattle.epoch_model.specs.Summary.{AreSummaries}
use Rattle.epoch_model.specs.Crossing.{crossing_at}
use Rattle.stream_model.specs.Streams.{requests, answer, Node, AreDone, summaries}
use Rattle.stream_model.specs.StreamLaws.{answers_to, LinksCarry}
use Rattle.stream_model.specs.Passes.{got_at_start}
use Rattle.stream_model.specs.Work.{many_got, work_in_all, asked_in_all, listed, listed_in_all, EndsPastLast, DoneNodesWork}
use Rattle.stream_model.proofs.Meeting.{no_cuts, asks_back, done_nodes_meet}
use Rattle.stream_model.proofs.Moves.{one_longer}

-- what was got, with the End that counts as seen
pub seen : (last : Bool) (got : List Message) → (last ≡ true → got ≡ End true ∷ []) → length got ≡ many_got last got + length (got_at_start last)
seen true got h = ap length (h refl)
seen false got h = omega arith

-- ---- lengths of whole streams

asks_length : (ls : List Loc) → length (map Ask ls ++ End true ∷ []) ≡ length ls + 1
asks_length ls = one_longer (map Ask ls) (End true) ∙ ap (λ (i : ℕ). i + 1) (length-map ls Ask)

answer_length : (l : Loc) (set : List SourceByte) → length (answer l set) ≡ length set + 1
answer_length l set = one_longer (map Byte set) (Close l) ∙ ap (λ (i : ℕ). i + 1) (length-map set Byte)

answers_length : (policy : Policy) (trace : List StepSeen) (c : ℕ) (ls : List Loc) → length (answers_to (origins policy trace c) ls) ≡ listed policy trace c ls + length ls + 1
answers_length policy trace c [] = refl
answers_length policy trace c (l ∷ ls) =
    let set = origins policy trace c l in
    let split : length (answers_to (origins policy trace c) (l ∷ ls)) ≡ length (answer l set) + length (answers_to (origins policy trace c) ls) =
    ap length (append_assoc (answer l set) (flat_map (λ m. answer m (origins policy trace c m)) ls) (End true ∷ []))
    ∙ length-append (answer l set) (answers_to (origins policy trace c) ls) in
    let rest = answers_length policy trace c ls in
    omega (arith, split, rest, answer_length l set)

-- ---- the sum

module _ (q : Query) (trace : List StepSeen) where
  total : (first : Bool) (s : ℕ) (cs : List ℕ) (n : Node) (ns : List Node) → AreDone first (n ∷ ns) → AreSummaries q trace s cs (summaries (n ∷ ns)) → LinksCarry q trace cs (n ∷ ns) → EndsPastLast (n ∷ ns)
      → work_in_all first (n ∷ ns) + 3 ≡ length n.asks_sent + many_got first n.answers_got + 6 * length (n ∷ ns) + length (flat_map (λ m. m.rows) (n ∷ ns))
      + 5 * asked_in_all q trace cs + 2 * listed_in_all q trace cs
  total first s [] n ns d i l e = absurd i
  total first s (c ∷ []) n [] d i l e =
      let asked : length (requests n.asks_got) ≡ 0 = ap (λ (ms : List Message). length (requests ms)) d.1 in
      let sent : length n.answers_sent ≡ 1 = ap length e in
      let all = length-append n.rows [] in
      omega (arith, asked, sent, all)
  total first s (c ∷ t ∷ cs) n (b ∷ ns) d i l e =
      let rest = total false c (t ∷ cs) b ns d.3 i.1 l.1 e in
      let asked = crossing_at q trace c (t ∷ cs) in
      let asks : n.asks_got ≡ map Ask asked ++ End true ∷ [] = l.0.asks ∙ ap (λ (ls : List Loc). map Ask ls ++ End true ∷ []) l.0.asked in
      let answers : b.answers_got ≡ answers_to (origins (policy_of q) trace c) asked = l.0.answers ∙ ap (answers_to (origins (policy_of q) trace c)) l.0.asked in
      let asks_got : length n.asks_got ≡ length asked + 1 = ap length asks ∙ asks_length asked in
      let asks_sent : length b.asks_sent ≡ length n.asks_got = ap length (sym d.1) in
      let requested : length (requests n.asks_got) ≡ length asked = ap (λ (ms : List Message). length (requests ms)) asks ∙ ap length (asks_back asked) in
      let answers_got : length b.answers_got ≡ listed (policy_of q) trace c asked + length asked + 1 = ap length answers ∙ answers_length (policy_of q) trace c asked in
      let answers_sent : length n.answers_sent ≡ length b.answers_got = ap length (sym d.2) in
      let all = length-append n.rows (flat_map (λ m. m.rows) (b ∷ ns)) in
      omega (arith, rest, asks_got, asks_sent, requested, answers_got, answers_sent, all)
  total first s cs n ns d i l e = absurd i.1

  one_each : (s : ℕ) (cs : List ℕ) (ns : List Node) → AreSummaries q trace s cs (summaries ns) → length ns ≡ length cs
  one_each s [] [] i = refl
  one_each s (c ∷ cs) (n ∷ ns) i = ap suc (one_each c cs ns i.1)
  one_each s cs ns i = absurd i

pub done_nodes_work : DoneNodesWork
done_nodes_work q trace [] [] steps points c i d e = absurd (no_cuts (length trace) c)
done_nodes_work q trace (x ∷ cs) [] steps points c i d e = absurd i
done_nodes_work q trace cuts (n ∷ ns) steps points c i d e =
    let m = done_nodes_meet q trace cuts (n ∷ ns) steps points c i d in
    let sum = total q trace true 0 cuts n ns d.1 i m.links e.1 in
    let asks : length n.asks_sent ≡ 1 = ap length e.0 in
    let many : length (n ∷ ns) ≡ length cuts = one_each q trace 0 cuts (n ∷ ns) i in
    let rows : length (flat_map (λ m. m.rows) (n ∷ ns)) ≡ length (rows_as_written q trace) = ap length m.all in
    omega (arith, sum, asks, many, rows)
