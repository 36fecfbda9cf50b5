-- The output byte of a write, by its number.
use Rattle.std.proofs.Common.{◌≡◌, ◌≢◌, ℕ, zero, suc, ◌+◌, ◌<◌, ◌≤◌, ◌^◌, Bool, true, false, if◌then◌else◌, map, refl, ap, ap₂, sym, ◌∙◌, arith}
use Rattle.std.specs.Prelude.{Some, None}
use Rattle.std.specs.List.{find, range_with_len}
use Rattle.std.specs.Ordering.{is_eq}
use Rattle.std.specs.Cmp.{tied_itself}
use Rattle.std.proofs.lemmas.Bool.{false_from_ne_true}
use Rattle.lists.proofs.Algebra.{tied_by}
use Rattle.isa.specs.Machine.{wrap}
use Rattle.flow_model.specs.declared.Loc.TheVariants.{Mem}
use Rattle.flow_model.specs.declared.SinkByte.{SinkByte}
use Rattle.flow_model.specs.declared.SinkPoint.TheVariants.{Out}
use Rattle.flow_model.specs.declared.CallSeen.{CallSeen}
use Rattle.flow_model.specs.Orders.{point_cmp}
use Rattle.flow_model.proofs.Orders.{point_total, point_same}
use Rattle.report_model.specs.Rows.{sink_at}
use Rattle.path_find.specs.Sinks.{is_named}

-- none of a list that is made passes the test
none_made : {X : Type 0} (t : X → Bool) (f : ℕ → X) (m n : ℕ) → ((j : ℕ) → m ≤ j → j < m + n → t (f j) ≡ false) → find t (map f (range_with_len m n)) ≡ None
none_made t f m zero h = refl
none_made t f m (suc n) h = ap (λ (b : Bool). if b then Some (f m) else find t (map f (range_with_len (m + 1) n))) (h m (omega arith) (omega arith)) ∙ none_made t f (m + 1) n (λ j low high. h j (omega arith) (omega arith))

-- one alone does
one_made : {X : Type 0} (t : X → Bool) (f : ℕ → X) (m n k : ℕ) → m ≤ k → k < m + n → t (f k) ≡ true → ((j : ℕ) → t (f j) ≡ true → j ≡ k) → find t (map f (range_with_len m n)) ≡ Some (f k)
one_made t f m zero k low high e only = absurd (omega arith)
one_made {X} t f m (suc n) k low high e only = by (t (f m)) refl (λ less. one_made t f (m + 1) n k less (omega arith) e only) where
  by : (b : Bool) → t (f m) ≡ b → (m + 1 ≤ k → find t (map f (range_with_len (m + 1) n)) ≡ Some (f k)) → (if b then Some (f m) else find t (map f (range_with_len (m + 1) n))) ≡ Some (f k)
  by true is ih = ap (λ (j : ℕ). Some (f j)) (only m is)
  by false is ih = ih (apart is) where
    apart : t (f m) ≡ false → m + 1 ≤ k
    apart is = let other : m ≢ k = (λ same. let yes : t (f m) ≡ true = ap (λ (j : ℕ). t (f j)) same ∙ e in absurd cc) in omega arith

out_is : (a b : SinkByte) → Out a ≡ Out b → a ≡ b
out_is a b e = cc

-- the test of a byte's name
named_is : (t : ℕ) (call : CallSeen) (b : SinkByte) (j : ℕ) → is_named (Out b) (sink_at t call j) ≡ true → (b.channel ≡ call.channel) × (b.offset ≡ call.offset + j)
named_is t call b j e =
    let same = out_is b (record { channel = call.channel; offset = call.offset + j }) (point_same (Out b) (sink_at t call j).name (tied_by (point_cmp (Out b) (sink_at t call j).name) e)) in
    (ap (λ (x : SinkByte). x.channel) same, ap (λ (x : SinkByte). x.offset) same)

byte_is : (b : SinkByte) (c o : ℕ) → b.channel ≡ c → b.offset ≡ o → b ≡ record { channel = c; offset = o }
byte_is b c o e f = ap₂ (λ (x y : ℕ). record { channel = x; offset = y }) e f

is_named_at : (t : ℕ) (call : CallSeen) (b : SinkByte) (j : ℕ) → b.channel ≡ call.channel → b.offset ≡ call.offset + j → is_named (Out b) (sink_at t call j) ≡ true
is_named_at t call b j e f =
    ap (λ (x : SinkByte). is_eq (point_cmp (Out b) (Out x))) (sym (byte_is b call.channel (call.offset + j) e f)) ∙ ap is_eq (tied_itself point_total (Out b))

-- where no byte of the write has the name
pub none_written : (t : ℕ) (call : CallSeen) (b : SinkByte) → ((j : ℕ) → j < call.length → b.channel ≡ call.channel → b.offset ≡ call.offset + j → ⊥)
    → find (is_named (Out b)) (map (sink_at t call) (range_with_len 0 call.length)) ≡ None
none_written t call b h = none_made (is_named (Out b)) (sink_at t call) 0 call.length
    (λ j low high. false_from_ne_true _ (λ e. let both = named_is t call b j e in h j (omega arith) both.0 both.1))

-- where byte i has it
pub one_written : (t : ℕ) (call : CallSeen) (b : SinkByte) (i : ℕ) → i < call.length → b.channel ≡ call.channel → b.offset ≡ call.offset + i → call.place + call.length ≤ 2 ^ 32
    → Some (record { name = Out b; time = t; loc = Mem (call.place + i) }) ≡ find (is_named (Out b)) (map (sink_at t call) (range_with_len 0 call.length))
one_written t call b i h e f small =
    let whole : wrap (call.place + i) ≡ call.place + i = omega arith in
    let found = one_made (is_named (Out b)) (sink_at t call) 0 call.length i (omega arith) (omega arith) (is_named_at t call b i e f)
    (λ j k. let both = named_is t call b j k in omega (arith, both.1)) in
    let same : record { name = Out b; time = t; loc = Mem (call.place + i) } ≡ sink_at t call i =
    ap₂ (λ (x : SinkByte) (p : ℕ). record { name = Out x; time = t; loc = Mem p }) (byte_is b call.channel (call.offset + i) e f) (sym whole) in
    ap Some same ∙ sym found
