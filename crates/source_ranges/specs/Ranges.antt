-- Ranges of source bytes: bytes of one channel with neighbouring offsets.
use Rattle.std.specs.Prelude.{ℕ, ◌+◌, ◌-◌, ◌==◌, Bool, ◌&&◌, if◌then◌else◌, List, [], ◌∷◌, ◌++◌, map, codes}
use Rattle.std.specs.List.{range_with_len}
use Rattle.std.specs.Fmt.{decimal}
use Rattle.flow_model.specs.declared.SourceByte.{SourceByte}
use Rattle.report_model.specs.Text.{name_text}
use Rattle.source_ranges.specs.declared.SourceRange.{SourceRange}

abbrev pub byte_on : ℕ → ℕ → SourceByte
byte_on channel offset = record { channel = channel; offset = offset }

-- the source bytes of a range, ascending
abbrev pub bytes_of : SourceRange → List SourceByte
bytes_of r = map (byte_on r.channel) (range_with_len r.from (r.past - r.from))

-- the range of one byte
abbrev pub range_of : SourceByte → SourceRange
range_of b = record { channel = b.channel; from = b.offset; past = b.offset + 1 }

-- the byte is the one just before the range
abbrev pub is_just_before : SourceByte → SourceRange → Bool
is_just_before b r = (b.channel == r.channel) && (b.offset + 1 == r.from)

-- ranges with one more byte in front: it joins the first of them where it is just before that one
abbrev pub with_byte : SourceByte → List SourceRange → List SourceRange
with_byte b [] = range_of b ∷ []
with_byte b (r ∷ rs) =
    if is_just_before b r then record { channel = r.channel; from = b.offset; past = r.past } ∷ rs
    else range_of b ∷ r ∷ rs

-- source bytes as ranges, each as long as can be
abbrev pub ranges_of : List SourceByte → List SourceRange
ranges_of [] = []
ranges_of (b ∷ bs) = with_byte b (ranges_of bs)

-- `c:a-b`, in plain decimals: bytes of channel c from offset a on, up to offset b, which isn't one of them
abbrev pub span_text : ℕ → ℕ → ℕ → List ℕ
span_text c a b = name_text c a ++ codes "-" ++ decimal b

abbrev pub range_text : SourceRange → List ℕ
range_text r = span_text r.channel r.from r.past
