-- The bytes that calls moved on a channel, call after call. Crates above cite these lemmas.
use Rattle.std.proofs.Common.{◌≡◌, ℕ, ◌+◌, List, [], ◌∷◌, ◌++◌, length, ap, ◌∙◌}
use Rattle.std.proofs.lemmas.Grind.{flat_map-append}
use Rattle.std.proofs.lemmas.List.{append-nil, length-append}
use Rattle.log_model.specs.declared.CallRecord.{CallRecord}
use Rattle.log_model.specs.Moved.{received_by, received, written_by, written}

-- ---- read

pub received-append : (channel : ℕ) (rs ss : List CallRecord) → received channel (rs ++ ss) ≡ received channel rs ++ received channel ss
received-append channel rs ss = flat_map-append (received_by channel) rs ss

pub received-push : (channel : ℕ) (rs : List CallRecord) (r : CallRecord) → received channel (rs ++ r ∷ []) ≡ received channel rs ++ received_by channel r
received-push channel rs r = received-append channel rs (r ∷ []) ∙ ap (λ (x : List ℕ). received channel rs ++ x) (append-nil (received_by channel r))

pub length-received-append : (channel : ℕ) (rs ss : List CallRecord) → length (received channel (rs ++ ss)) ≡ length (received channel rs) + length (received channel ss)
length-received-append channel rs ss = ap length (received-append channel rs ss) ∙ length-append (received channel rs) (received channel ss)

pub length-received-push : (channel : ℕ) (rs : List CallRecord) (r : CallRecord) → length (received channel (rs ++ r ∷ [])) ≡ length (received channel rs) + length (received_by channel r)
length-received-push channel rs r = ap length (received-push channel rs r) ∙ length-append (received channel rs) (received_by channel r)

-- ---- written

pub written-append : (channel : ℕ) (rs ss : List CallRecord) → written channel (rs ++ ss) ≡ written channel rs ++ written channel ss
written-append channel rs ss = flat_map-append (written_by channel) rs ss

pub written-push : (channel : ℕ) (rs : List CallRecord) (r : CallRecord) → written channel (rs ++ r ∷ []) ≡ written channel rs ++ written_by channel r
written-push channel rs r = written-append channel rs (r ∷ []) ∙ ap (λ (x : List ℕ). written channel rs ++ x) (append-nil (written_by channel r))

pub length-written-append : (channel : ℕ) (rs ss : List CallRecord) → length (written channel (rs ++ ss)) ≡ length (written channel rs) + length (written channel ss)
length-written-append channel rs ss = ap length (written-append channel rs ss) ∙ length-append (written channel rs) (written channel ss)

pub length-written-push : (channel : ℕ) (rs : List CallRecord) (r : CallRecord) → length (written channel (rs ++ r ∷ [])) ≡ length (written channel rs) + length (written_by channel r)
length-written-push channel rs r = ap length (written-push channel rs r) ∙ length-append (written channel rs) (written_by channel r)
