-- Records read one after another: one more, the end, and faults.
use Rattle.std.proofs.Common.{◌≡◌, ℕ, zero, suc, ◌+◌, ◌-◌, ◌≤◌, ◌<◌, ◌^◌, List, [], ◌∷◌, ◌++◌, length, drop, Bool, true, false, Some, Result, Ok, Err, refl, sym, ap, ap₂, ◌∙◌, arith}
use Rattle.std.specs.Prelude.{nat_lt, ◌==◌, if◌then◌else◌}
use Rattle.std.proofs.lemmas.List.{append-nil, nil_from_length, length-drop}
use Rattle.log_model.specs.declared.Version.{Version}
use Rattle.log_model.specs.declared.CallRecord.{CallRecord}
use Rattle.log_model.specs.declared.RunEnd.{RunEnd}
use Rattle.log_model.specs.declared.LogKind.{LogKind}
use Rattle.log_model.specs.declared.LogKind.TheVariants.{Trailing}
use Rattle.log_model.specs.declared.Item.{Item}
use Rattle.log_model.specs.declared.Item.TheVariants.{Call, End}
use Rattle.log_model.specs.Logs.{at_of}
use Rattle.log_model.specs.Faults.{tag_of, step_of, record_fault}
use Rattle.log_model.specs.Reading.{Body, map_ok, with_end, body_of, item_of, item_length, left_after}
use Rattle.log_model.proofs.Items.{item_at}
use Rattle.log_model.proofs.Reading.{with_calls, with_calls-push, body_of-fault, body_of-call, body_of-end}
use Rattle.log_model.proofs.Faults.{no_fault, item_length-bounds}
use Rattle.no_memory.specs.declared.Fault.{Fault}
use Rattle.no_memory.specs.declared.Fault.TheVariants.{At, NoMemory}
use Rattle.no_memory.specs.Faults.{IsCausedBy}
use Rattle.replay_log.specs.Answers.{IsFaultOf}
use Rattle.replay_log.specs.Records.{IsFirst, at_offset}

-- these records were read, and the rest is left, and that is left of the channels
pub record IsReadTo (v : Version) (size : ℕ) (all : Result Body (LogKind × ℕ)) (records : List CallRecord) (least : ℕ) (left : List (List ℕ)) (rest : List ℕ) : Type 0 where
  pub most : ℕ
  pub enough : length rest ≤ most
  pub within : length rest ≤ size
  pub read : all ≡ map_ok (with_calls records) (body_of v (suc most) least (size - length rest) left rest)

bytes_after : (records : List CallRecord) (e : RunEnd) (offset : ℕ) (after : List ℕ) → 0 < length after → map_ok (with_calls records) (with_end e offset after) ≡ Err (Trailing, offset)
bytes_after records e offset [] some = absurd (omega (arith, some))
bytes_after records e offset (b ∷ after) some = refl

module _ {v : Version} {least : ℕ} {left : List (List ℕ)} {rest : List ℕ} where
  -- one record at the front
  module _ {item : Item} {after : List ℕ} {kept : List (List ℕ)} (t : IsFirst v least left rest item after kept) where
    pub item_after : length after < length rest
    item_after = let bounds = item_length-bounds v least left rest t.none in omega (arith, bounds, ap length t.leaves, length-drop (item_length v rest) rest)

    -- the offset of what is after it
    next_offset : (size : ℕ) → length rest ≤ size → size - length rest + item_length v rest ≡ size - length after
    next_offset size within =
        let bounds = item_length-bounds v least left rest t.none in omega (arith, bounds, within, ap length t.leaves, length-drop (item_length v rest) rest)

  -- more records after those that were read
  module _ {size : ℕ} {all : Result Body (LogKind × ℕ)} {records : List CallRecord} (so_far : IsReadTo v size all records least left rest) where
    pub goes_on : {r : CallRecord} {after : List ℕ} {kept : List (List ℕ)} → IsFirst v least left rest (Call r) after kept → IsReadTo v size all (records ++ r ∷ []) (at_of r + 1) kept after
    goes_on {r} {after} {kept} t = more so_far.most so_far.enough so_far.read where
      more : (most : ℕ) → length rest ≤ most → all ≡ map_ok (with_calls records) (body_of v (suc most) least (size - length rest) left rest) → IsReadTo v size all (records ++ r ∷ []) (at_of r + 1) kept after
      more zero h e = let less = item_after t in absurd (omega arith)
      more (suc most) h e = let less = item_after t in record {
        most = most;
        enough = omega arith;
        within = omega (arith, so_far.within);
        read =
            e ∙ ap (map_ok (with_calls records)) (body_of-call v (suc most) least (size - length rest) left rest r t.none (sym t.says))
            ∙ with_calls-push records r (body_of v (suc most) (at_of r + 1) (size - length rest + item_length v rest) (left_after r left) (drop (item_length v rest) rest))
            ∙ rw (next_offset t size so_far.within, t.leaves, t.keeps) refl;
      }

    -- the end, and the bytes after it
    module _ {e : RunEnd} {after : List ℕ} {kept : List (List ℕ)} (t : IsFirst v least left rest (End e) after kept) where
      end_read : all ≡ map_ok (with_calls records) (with_end e (size - length after) after)
      end_read = so_far.read ∙ ap (map_ok (with_calls records))
          (body_of-end v so_far.most least (size - length rest) left rest e t.none (sym t.says) ∙ ap₂ (with_end e) (next_offset t size so_far.within)
          (sym t.leaves))

      pub is_done : length after ≡ 0 → all ≡ Ok (records, e)
      is_done none = end_read ∙ rw (nil_from_length after none, append-nil records) refl

      pub is_trailing : 0 < length after → all ≡ Err (Trailing, size - length after)
      is_trailing some = end_read ∙ bytes_after records e (size - length after) after some

    pub is_record_fault : (f : Fault LogKind) → IsCausedBy (λ kind. record_fault v least left rest ≡ Some kind) f → IsCausedBy (IsFaultOf all) (at_offset f (size - length rest))
    is_record_fault (At kind) h = so_far.read ∙ ap (map_ok (with_calls records)) (body_of-fault v so_far.most least (size - length rest) left rest kind h)
    is_record_fault (NoMemory no_memory) h = tt

nothing_read : (r : Result Body (LogKind × ℕ)) → r ≡ map_ok (with_calls []) r
nothing_read (Ok body) = refl
nothing_read (Err fault) = refl

pub starts : (v : Version) (size : ℕ) (left : List (List ℕ)) (bytes : List ℕ) → length bytes < size → IsReadTo v size (body_of v size 0 (size - length bytes) left bytes) [] 0 left bytes
starts v size left bytes less =
    let fuel : size ≡ suc (size - 1) = omega (arith, less) in
    record {
      most = size - 1;
      enough = omega (arith, less);
      within = omega (arith, less);
      read = ap (λ (n : ℕ). body_of v n 0 (size - length bytes) left bytes) fuel ∙ nothing_read (body_of v (suc (size - 1)) 0 (size - length bytes) left bytes);
    }

-- ---- step numbers

if_at : (b : Bool) (x y : Item) (n : ℕ) → item_at x ≡ n → item_at y ≡ n → item_at (if b then x else y) ≡ n
if_at true x y n p q = p
if_at false x y n p q = q

at_is : (v : Version) (left : List (List ℕ)) (rest : List ℕ) → item_at (item_of v left rest) ≡ step_of v rest
at_is v left rest =
    let t = tag_of rest in
    if_at (t == 1) _ _ _ refl (if_at (t == 2) _ _ _ refl (if_at (t == 3) _ _ _ refl (if_at (t == 4) _ _ _ refl (if_at (t == 5) _ _ _ refl (if_at (t == 6) _ _ _ refl refl)))))

bound_most : (b : Bool) → (if b then 2 ^ 40 else 2 ^ 40 + 1) ≤ 2 ^ 40 + 1
bound_most true = omega arith
bound_most false = omega arith

-- a call's step number has one after it
pub at_below : {v : Version} {least : ℕ} {left : List (List ℕ)} {rest : List ℕ} {r : CallRecord} {after : List ℕ} {kept : List (List ℕ)} → IsFirst v least left rest (Call r) after kept → at_of r ≤ 2 ^ 40
at_below {v} {least} {left} {rest} {r} t =
    let known = no_fault v least left rest t.none in
    let same : at_of r ≡ step_of v rest = ap item_at t.says ∙ at_is v left rest in
    omega (arith, same, known.below, bound_most (nat_lt (tag_of rest) 6))
