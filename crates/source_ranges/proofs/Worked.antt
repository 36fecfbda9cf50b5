-- Worked examples of ranges of source bytes, computed by the checker.
use Rattle.std.proofs.Common.{◌≡◌, List, [], ◌∷◌, refl}
use Rattle.std.specs.Prelude.{codes}
use Rattle.std.specs.List.{flat_map}
use Rattle.std.specs.Fmt.{digits}
use Rattle.flow_model.specs.declared.SourceByte.{SourceByte}
use Rattle.source_ranges.specs.Ranges.{byte_on, bytes_of, ranges_of, range_text}

-- offsets 3, 4 and 5 of channel 0, then 7, and then 8 of channel 1
abbrev bytes : List SourceByte
bytes = byte_on 0 3 ∷ byte_on 0 4 ∷ byte_on 0 5 ∷ byte_on 0 7 ∷ byte_on 1 8 ∷ []

three_ranges : ranges_of bytes
    ≡ record { channel = 0; from = 3; past = 6 } ∷ record { channel = 0; from = 7; past = 8 } ∷ record { channel = 1; from = 8; past = 9 } ∷ []
three_ranges = refl

their_bytes : flat_map bytes_of (ranges_of bytes) ≡ bytes
their_bytes = refl

none : ranges_of [] ≡ []
none = refl

-- the last offset that there is
last : ranges_of (byte_on 2 4294967294 ∷ byte_on 2 4294967295 ∷ []) ≡ record { channel = 2; from = 4294967294; past = 4294967296 } ∷ []
last = refl

name : range_text (record { channel = 0; from = 439; past = 449 }) ≡ codes "0:439-449"
unfolding digits
name = refl
