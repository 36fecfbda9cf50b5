-- The faults of a header, as code finds them.
use Rattle.std.proofs.Common.{◌≡◌, ℕ, ◌<◌, ◌≤◌, ◌⊎◌, true, false, List, length, Some, None, Err, refl, subst, arith, inl, inr}
use Rattle.std.specs.Prelude.{nat_lt, ◌==◌}
use Rattle.std.proofs.lemmas.Bool.{lt-ltb, le-ltb, ne_eqb, or_right, or_from}
use Rattle.lists.specs.Fields.{word_at}
use Rattle.log_model.specs.declared.Version.{Version}
use Rattle.log_model.specs.declared.LogKind.TheVariants.{Magic, Header}
use Rattle.log_model.specs.Faults.{version_of, are_pages_wrong}
use Rattle.log_model.specs.Reading.{log_of}
use Rattle.log_model.proofs.Reading.{log_of-fault}

pub no_magic : (bytes : List ℕ) → version_of bytes ≡ None → log_of bytes ≡ Err (Magic, 0)
no_magic bytes none = log_of-fault bytes (Magic, 0) (rw none refl)

pages_wrong : (pages : ℕ) → (pages ≡ 0) ⊎ (4096 < pages) → are_pages_wrong pages ≡ true
pages_wrong pages (inl e) = rw e refl
pages_wrong pages (inr h) = or_right (pages == 0) (nat_lt 4096 pages) (lt-ltb 4096 pages h)

-- the version is known
module _ (bytes : List ℕ) (v : Version) (version : version_of bytes ≡ Some v) where
  pub short_header : length bytes < 48 → log_of bytes ≡ Err (Header, 8)
  short_header h = log_of-fault bytes (Header, 8) (rw (version, lt-ltb (length bytes) 48 h) refl)

  pub wrong_pages : (pages : ℕ) → 48 ≤ length bytes → pages ≡ word_at bytes 40 → (pages ≡ 0) ⊎ (4096 < pages) → log_of bytes ≡ Err (Header, 40)
  wrong_pages pages whole p h =
      let wrong : are_pages_wrong (word_at bytes 40) ≡ true = subst (λ (k : ℕ). are_pages_wrong k ≡ true) p (pages_wrong pages h) in
      log_of-fault bytes (Header, 40) (rw (version, le-ltb (length bytes) 48 whole, wrong) refl)

  pub many_inputs : (pages inputs : ℕ) → 48 ≤ length bytes → pages ≡ word_at bytes 40 → 1 ≤ pages → pages ≤ 4096 → inputs ≡ word_at bytes 44 → 16 < inputs → log_of bytes ≡ Err (Header, 44)
  many_inputs pages inputs whole p some most i h =
      let right : are_pages_wrong (word_at bytes 40) ≡ false = subst (λ (k : ℕ). are_pages_wrong k ≡ false) p (or_from (pages == 0) (nat_lt 4096 pages) (ne_eqb pages 0 (λ e. omega (arith, some, e))) (le-ltb 4096 pages most)) in
      let many : nat_lt 16 (word_at bytes 44) ≡ true = subst (λ (k : ℕ). nat_lt 16 k ≡ true) i (lt-ltb 16 inputs h) in
      log_of-fault bytes (Header, 44) (rw (version, le-ltb (length bytes) 48 whole, right, many) refl)
