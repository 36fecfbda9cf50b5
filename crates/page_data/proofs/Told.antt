-- Texts of rows, told apart from what follows them.
use Rattle.std.proofs.Common.{◌≡◌, ◌∙◌, ap, ap₂, sym, refl, arith, ℕ, ◌<◌, ◌≤◌, ◌^◌, List, [], ◌∷◌, ◌++◌, length, append_assoc}
use Rattle.std.specs.List.{flat_map, AllByRecursion}
use Rattle.std.specs.Char.{digit_value}
use Rattle.std.specs.Str.Parse.{AllDigits, digits_value}
use Rattle.std.specs.Fmt.{decimal}
use Rattle.std.proofs.lemmas.Fmt.{decimal_is_IsNumeral_wide}
use Rattle.lists.proofs.Lists.{same-heads, same-tails}
use Rattle.flow_model.specs.declared.Loc.{Loc}
use Rattle.flow_model.specs.declared.Loc.TheVariants.{Reg, Mem}
use Rattle.flow_model.specs.declared.SinkByte.{SinkByte}
use Rattle.flow_model.specs.declared.InnerSink.{InnerSink}
use Rattle.flow_model.specs.declared.SinkPoint.{SinkPoint}
use Rattle.flow_model.specs.declared.SinkPoint.TheVariants.{Out, At}
use Rattle.report_model.specs.Text.{name_text, loc_text, point_text}
use Rattle.source_ranges.specs.declared.SourceRange.{SourceRange}
use Rattle.source_ranges.specs.Ranges.{range_text}
use Rattle.page_data.specs.Rows.{range_word}
use Rattle.page_data.specs.PageLaws.{HasSmallLoc, IsSmallSink}

-- ---- numbers

-- a text that begins with no digit
pub record Stopped (xs : List ℕ) : Type 0 where
  pub first : ℕ
  pub rest : List ℕ
  pub parts : xs ≡ first ∷ rest
  pub stop : 10 ≤ digit_value first

pub stopped : (c : ℕ) (s : List ℕ) → 10 ≤ digit_value c → Stopped (c ∷ s)
stopped c s h = record { first = c; rest = s; parts = refl; stop = h }

no_digit : (c d : ℕ) → c ≡ d → digit_value c < 10 → 10 ≤ digit_value d → ⊥
no_digit c d e h k = let f : digit_value c ≡ digit_value d = ap digit_value e in omega (arith, f)

same_digits : (xs ys : List ℕ) (c d : ℕ) (s t : List ℕ) → AllDigits 10 xs → AllDigits 10 ys → 10 ≤ digit_value c → 10 ≤ digit_value d
    → xs ++ c ∷ s ≡ ys ++ d ∷ t → (xs ≡ ys) × (c ∷ s ≡ d ∷ t)
same_digits [] [] c d s t hx hy hc hd e = (refl, e)
same_digits [] (y ∷ ys) c d s t hx hy hc hd e = absurd (no_digit y c (sym (same-heads c y s (ys ++ d ∷ t) e)) hy.0 hc)
same_digits (x ∷ xs) [] c d s t hx hy hc hd e = absurd (no_digit x d (same-heads x d (xs ++ c ∷ s) t e) hx.0 hd)
same_digits (x ∷ xs) (y ∷ ys) c d s t hx hy hc hd e =
    let r = same_digits xs ys c d s t hx.1 hy.1 hc hd (same-tails x y (xs ++ c ∷ s) (ys ++ d ∷ t) e) in
    (ap₂ (λ (z : ℕ) (zs : List ℕ). z ∷ zs) (same-heads x y (xs ++ c ∷ s) (ys ++ d ∷ t) e) r.0, r.1)

-- numbers before texts that begin with no digit
pub same_number : (m n : ℕ) (u v : List ℕ) → m < 10 ^ 64 → n < 10 ^ 64 → Stopped u → Stopped v → decimal m ++ u ≡ decimal n ++ v → (m ≡ n) × (u ≡ v)
same_number m n u v hm hn su sv e =
    let r = same_digits (decimal m) (decimal n) su.first sv.first su.rest sv.rest (decimal_is_IsNumeral_wide m hm).0.1 (decimal_is_IsNumeral_wide n hn).0.1 su.stop sv.stop
    (ap (λ (w : List ℕ). decimal m ++ w) (sym su.parts) ∙ e ∙ ap (λ (w : List ℕ). decimal n ++ w) sv.parts) in
    (sym (decimal_is_IsNumeral_wide m hm).1 ∙ ap (digits_value 10) r.0 ∙ (decimal_is_IsNumeral_wide n hn).1, su.parts ∙ r.1 ∙ sym sv.parts)

-- a number begins with a digit
number_begins : (n : ℕ) (u : List ℕ) (k : ℕ) (w : List ℕ) → n < 10 ^ 64 → 10 ≤ digit_value k → decimal n ++ u ≡ k ∷ w → ⊥
number_begins n u k w hn hk e = by (decimal n) (decimal_is_IsNumeral_wide n hn).0.0 (decimal_is_IsNumeral_wide n hn).0.1 e
  where
    by : (xs : List ℕ) → 0 < length xs → AllDigits 10 xs → xs ++ u ≡ k ∷ w → ⊥
    by [] some digits f = omega arith
    by (x ∷ xs) some digits f = no_digit x k (same-heads x k (xs ++ u) w f) digits.0 hk

-- two numbers with a sign between them
joined : (a b u : List ℕ) (k : ℕ) → ((a ++ k ∷ []) ++ b) ++ u ≡ a ++ k ∷ (b ++ u)
joined a b u k = append_assoc (a ++ k ∷ []) b u ∙ append_assoc a (k ∷ []) (b ++ u)

pub same_two : (k : ℕ) (m n p q : ℕ) (u v : List ℕ) → 10 ≤ digit_value k → m < 10 ^ 64 → n < 10 ^ 64 → p < 10 ^ 64 → q < 10 ^ 64 → Stopped u → Stopped v
    → ((decimal m ++ k ∷ []) ++ decimal n) ++ u ≡ ((decimal p ++ k ∷ []) ++ decimal q) ++ v → (m ≡ p) × (n ≡ q) × (u ≡ v)
same_two k m n p q u v hk hm hn hp hq su sv e =
    let r = same_number m p (k ∷ (decimal n ++ u)) (k ∷ (decimal q ++ v)) hm hp (stopped k (decimal n ++ u) hk) (stopped k (decimal q ++ v) hk)
    (sym (joined (decimal m) (decimal n) u k) ∙ e ∙ joined (decimal p) (decimal q) v k) in
    let s = same_number n q u v hn hq su sv (same-tails k k (decimal n ++ u) (decimal q ++ v) r.1) in
    (r.0, s.0, s.1)

-- ---- ranges

same_range : (a b : SourceRange) → a.channel ≡ b.channel → a.from ≡ b.from → a.past ≡ b.past → a ≡ b
same_range a b e f g =
    ap₂ (λ (c f : ℕ). record { channel = c; from = f; past = a.past }) e f
    ∙ ap (λ (p : ℕ). record { channel = b.channel; from = b.from; past = p }) g

abbrev pub IsSmallRange : SourceRange → Type 0
IsSmallRange r = (r.channel < 10 ^ 64) × (r.from < 10 ^ 64) × (r.past < 10 ^ 64)

-- what follows a range begins with no digit
after_range : (rs : List SourceRange) (s : List ℕ) → Stopped (flat_map range_word rs ++ 0x0a ∷ s)
after_range [] s = stopped 0x0a s (omega arith)
after_range (r ∷ rs) s = stopped 0x20 ((range_text r ++ flat_map range_word rs) ++ 0x0a ∷ s) (omega arith)

-- the text of a range, and what follows it
one_range : (a b : SourceRange) (u v : List ℕ) → IsSmallRange a → IsSmallRange b → Stopped u → Stopped v → range_text a ++ u ≡ range_text b ++ v → (a ≡ b) × (u ≡ v)
one_range a b u v ha hb su sv e =
    let flat : (r : SourceRange) (w : List ℕ) → range_text r ++ w ≡ name_text r.channel r.from ++ 0x2d ∷ (decimal r.past ++ w)
    = λ r w. joined (name_text r.channel r.from) (decimal r.past) w 0x2d in
    let p = decimal a.past ++ u in
    let q = decimal b.past ++ v in
    let r = same_two 0x3a a.channel a.from b.channel b.from (0x2d ∷ p) (0x2d ∷ q) (omega arith) ha.0 ha.1 hb.0 hb.1
    (stopped 0x2d p (omega arith)) (stopped 0x2d q (omega arith)) (sym (flat a u) ∙ e ∙ flat b v) in
    let s = same_number a.past b.past u v ha.2 hb.2 su sv (same-tails 0x2d 0x2d p q r.2) in
    (same_range a b r.0 r.1 s.0, s.1)

pub same_ranges : (rs ss : List SourceRange) (s t : List ℕ) → AllByRecursion IsSmallRange rs → AllByRecursion IsSmallRange ss
    → flat_map range_word rs ++ 0x0a ∷ s ≡ flat_map range_word ss ++ 0x0a ∷ t → (rs ≡ ss) × (s ≡ t)
same_ranges [] [] s t hr hs e = (refl, same-tails 0x0a 0x0a s t e)
same_ranges [] (q ∷ ss) s t hr hs e = absurd (let f = same-heads 0x0a 0x20 s ((range_text q ++ flat_map range_word ss) ++ 0x0a ∷ t) e in omega (arith, f))
same_ranges (r ∷ rs) [] s t hr hs e = absurd (let f = same-heads 0x20 0x0a ((range_text r ++ flat_map range_word rs) ++ 0x0a ∷ s) t e in omega (arith, f))
same_ranges (r ∷ rs) (q ∷ ss) s t hr hs e =
    let more = flat_map range_word rs in
    let others = flat_map range_word ss in
    let one = one_range r q (more ++ 0x0a ∷ s) (others ++ 0x0a ∷ t) hr.0 hs.0 (after_range rs s) (after_range ss t)
    (sym (append_assoc (range_text r) more (0x0a ∷ s))
    ∙ same-tails 0x20 0x20 ((range_text r ++ more) ++ 0x0a ∷ s) ((range_text q ++ others) ++ 0x0a ∷ t) e
    ∙ append_assoc (range_text q) others (0x0a ∷ t)) in
    let rest = same_ranges rs ss s t hr.1 hs.1 one.1 in
    (ap₂ (λ (z : SourceRange) (zs : List SourceRange). z ∷ zs) one.0 rest.0, rest.1)

-- ---- names

wide : (n : ℕ) → n < 2 ^ 72 → n < 10 ^ 64
wide n h = omega arith

-- a location, and what follows it
same_loc : (a b : Loc) (u v : List ℕ) → HasSmallLoc a → HasSmallLoc b → Stopped u → Stopped v → loc_text a ++ u ≡ loc_text b ++ v → (a ≡ b) × (u ≡ v)
same_loc (Reg r i) (Reg s j) u v ha hb su sv e =
    let a = ((decimal r ++ 0x2e ∷ []) ++ decimal i) ++ u in
    let b = ((decimal s ++ 0x2e ∷ []) ++ decimal j) ++ v in
    let w = same_two 0x2e r i s j u v (omega arith) (wide r ha.0) (wide i ha.1) (wide s hb.0) (wide j hb.1) su sv
    (same-tails 0x3a 0x3a a b (same-tails 0x72 0x72 (0x3a ∷ a) (0x3a ∷ b) e)) in
    (ap₂ (λ (x y : ℕ). Reg x y) w.0 w.1, w.2)
same_loc (Reg r i) (Mem q) u v ha hb su sv e =
    absurd (let f = same-heads 0x72 0x6d (0x3a ∷ (((decimal r ++ 0x2e ∷ []) ++ decimal i) ++ u)) (0x3a ∷ (decimal q ++ v)) e in omega (arith, f))
same_loc (Mem p) (Reg s j) u v ha hb su sv e =
    absurd (let f = same-heads 0x6d 0x72 (0x3a ∷ (decimal p ++ u)) (0x3a ∷ (((decimal s ++ 0x2e ∷ []) ++ decimal j) ++ v)) e in omega (arith, f))
same_loc (Mem p) (Mem q) u v ha hb su sv e =
    let a = decimal p ++ u in
    let b = decimal q ++ v in
    let w = same_number p q u v (wide p ha) (wide q hb) su sv (same-tails 0x3a 0x3a a b (same-tails 0x6d 0x6d (0x3a ∷ a) (0x3a ∷ b) e)) in
    (ap (λ (x : ℕ). Mem x) w.0, w.1)

-- a location begins with `r` or `m`
loc_begins : (l : Loc) (u : List ℕ) (k : ℕ) (w : List ℕ) → (k ≡ 0x72 → ⊥) → (k ≡ 0x6d → ⊥) → loc_text l ++ u ≡ k ∷ w → ⊥
loc_begins (Reg r i) u k w a b e = a (sym (same-heads 0x72 k (0x3a ∷ (((decimal r ++ 0x2e ∷ []) ++ decimal i) ++ u)) w e))
loc_begins (Mem p) u k w a b e = b (sym (same-heads 0x6d k (0x3a ∷ (decimal p ++ u)) w e))

-- the name of a point inside the run, its location first
at_text : (p : InnerSink) (u : List ℕ) → point_text (At p) ++ u ≡ loc_text p.loc ++ 0x40 ∷ (decimal p.time ++ u)
at_text p u = joined (loc_text p.loc) (decimal p.time) u 0x40

-- what a name of a point begins with
pub point_begins : (p : SinkPoint) (u : List ℕ) (k : ℕ) (w : List ℕ) → IsSmallSink p → 10 ≤ digit_value k → (k ≡ 0x72 → ⊥) → (k ≡ 0x6d → ⊥)
    → point_text p ++ u ≡ k ∷ w → ⊥
point_begins (Out b) u k w h hk r m e =
    number_begins b.channel (0x3a ∷ (decimal b.offset ++ u)) k w (wide b.channel h.0) hk (sym (joined (decimal b.channel) (decimal b.offset) u 0x3a) ∙ e)
point_begins (At p) u k w h hk r m e = loc_begins p.loc (0x40 ∷ (decimal p.time ++ u)) k w r m (sym (at_text p u) ∙ e)

-- a location begins no name of an output byte
no_name : (l : Loc) (u : List ℕ) (b : SinkByte) (v : List ℕ) → IsSmallSink (Out b) → loc_text l ++ u ≡ point_text (Out b) ++ v → ⊥
no_name l u b v h f = by l f
  where
    begins : (k : ℕ) (w : List ℕ) → 10 ≤ digit_value k → k ∷ w ≡ point_text (Out b) ++ v → ⊥
    begins k w hk f = number_begins b.channel (0x3a ∷ (decimal b.offset ++ v)) k w (wide b.channel h.0) hk (sym (joined (decimal b.channel) (decimal b.offset) v 0x3a) ∙ sym f)

    by : (l : Loc) → loc_text l ++ u ≡ point_text (Out b) ++ v → ⊥
    by (Reg r i) f = begins 0x72 _ (omega arith) f
    by (Mem p) f = begins 0x6d _ (omega arith) f

-- a name, and what follows it
pub same_point : (p q : SinkPoint) (u v : List ℕ) → IsSmallSink p → IsSmallSink q → Stopped u → Stopped v → point_text p ++ u ≡ point_text q ++ v → (p ≡ q) × (u ≡ v)
same_point (Out a) (Out b) u v hp hq su sv e =
    let w = same_two 0x3a a.channel a.offset b.channel b.offset u v (omega arith) (wide a.channel hp.0) (wide a.offset hp.1) (wide b.channel hq.0) (wide b.offset hq.1) su sv e in
    (ap₂ (λ (c o : ℕ). Out (record { channel = c; offset = o })) w.0 w.1, w.2)
same_point (Out a) (At q) u v hp hq su sv e = absurd (no_name q.loc (0x40 ∷ (decimal q.time ++ v)) a u hp (sym (e ∙ at_text q v)))
same_point (At p) (Out b) u v hp hq su sv e = absurd (no_name p.loc (0x40 ∷ (decimal p.time ++ u)) b v hq (sym (at_text p u) ∙ e))
same_point (At p) (At q) u v hp hq su sv e =
    let a = decimal p.time ++ u in
    let b = decimal q.time ++ v in
    let w = same_loc p.loc q.loc (0x40 ∷ a) (0x40 ∷ b) hp.0 hq.0 (stopped 0x40 a (omega arith)) (stopped 0x40 b (omega arith)) (sym (at_text p u) ∙ e ∙ at_text q v) in
    let t = same_number p.time q.time u v (wide p.time hp.1) (wide q.time hq.1) su sv (same-tails 0x40 0x40 a b w.1) in
    (ap₂ (λ (l : Loc) (t : ℕ). At (record { time = t; loc = l })) w.0 t.0, t.1)
