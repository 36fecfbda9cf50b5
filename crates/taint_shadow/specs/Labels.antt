-- Labels, and what they stand for.
use Rattle.std.specs.Prelude.{◌≡◌, ℕ, ◌+◌, ◌-◌, ◌*◌, ◌/◌, ◌%◌, ◌^◌, ◌<◌, nat_lt, if◌then◌else◌}
use Rattle.flow_model.specs.declared.Loc.{Loc}
use Rattle.flow_model.specs.declared.Loc.TheVariants.{Reg, Mem}
use Rattle.flow_model.specs.declared.SourceByte.{SourceByte}
use Rattle.flow_model.specs.Ranges.{IsLocation}
use Rattle.taint_shadow.specs.declared.labels.Label.{Label}
use Rattle.taint_shadow.specs.declared.labels.LabelKind.{LabelKind}
use Rattle.source_runs.specs.declared.runs.SourceRun.{SourceRun}
use Rattle.taint_shadow.specs.declared.labels.LabelKind.TheVariants.{Node, Start, Run}

-- ---- labels as numbers: nodes lie below 2^32, then come the bytes of memory at the start, then the lanes of registers, and from
-- 2^62 on the runs of source bytes

abbrev pub node_label : ℕ → Label
node_label n = record { number = n }

-- the label of what came from nowhere
abbrev pub nothing_label : Label
nothing_label = node_label 0

-- the label of what a location had at the start
abbrev pub start_label : Loc → Label
start_label (Mem p) = record { number = 2 ^ 32 + p }
start_label (Reg r i) = record { number = 2 ^ 33 + 256 * r + i }

-- the channel and the offsets of a run are small enough for a label's number
pub record FitsLabel (r : SourceRun) : Type 0 where
  pub channel : r.channel < 2 ^ 4
  pub first : r.first < 2 ^ 29
  pub last : r.last < 2 ^ 29

-- the run of a number: its channel, its first offset and its last one
abbrev pub run_of : ℕ → SourceRun
run_of n = record { channel = n / 2 ^ 58 % 2 ^ 4; first = n / 2 ^ 29 % 2 ^ 29; last = n % 2 ^ 29 }

abbrev pub kind_of : Label → LabelKind
kind_of l =
    if nat_lt l.number (2 ^ 32) then Node l.number
    else if nat_lt l.number (2 ^ 33) then Start (Mem (l.number - 2 ^ 32))
    else if nat_lt l.number (2 ^ 62) then Start (Reg (l.number / 256 % 256) (l.number % 256))
    else Run (run_of l.number)

-- ---- meanings

-- of labels in a state of A: which stand there, and what each means; what can be meant; what is meant by no origin, by a
-- source byte, by what was at a location at the start, and by two labels together
pub record LabelWords (A M : Type 0) : Type 1 where
  pub stands : A → Label → Type 0
  pub means : A → Label → M
  pub IsMeaning : M → Type 0
  pub nothing : M
  pub source : SourceByte → M
  pub untouched : Loc → M
  pub united : M → M → M

module _ {A M : Type 0} (words : LabelWords A M) where
  -- what two labels mean together
  abbrev pub mean_together : A → Label → Label → M
  mean_together labels l k = words.united (words.means labels l) (words.means labels k)

  -- a label stands, with this meaning
  pub record MakesLabel (labels : A) (meaning : M) (label : Label) : Type 0 where
    pub stands : words.stands labels label
    pub means : words.means labels label ≡ meaning

  -- what stood stands, and means the same
  abbrev pub KeepsLabels : A → A → Type 0
  KeepsLabels old new = (label : Label) → words.stands old label → MakesLabel new (words.means old label) label

  -- a label has this meaning now, and the others are kept
  pub record Makes (old : A) (meaning : M) (new : A) (label : Label) : Type 0 where
    pub made : MakesLabel new meaning label
    pub keeps : KeepsLabels old new

  -- the labels of no origin and of the start mean what they say, and meanings are united as sets are
  pub record Laws : Type 0 where
    pub of_none : words.IsMeaning words.nothing
    pub of_nothing : (labels : A) → MakesLabel labels words.nothing nothing_label
    pub of_start : (labels : A) (l : Loc) → IsLocation l → MakesLabel labels (words.untouched l) (start_label l)
    pub of_label : (labels : A) (label : Label) → words.stands labels label
        → words.IsMeaning (words.means labels label)
    pub of_both : (m n : M) → words.IsMeaning m → words.IsMeaning n → words.IsMeaning (words.united m n)
    pub with_nothing : (m : M) → words.IsMeaning m → words.united m words.nothing ≡ m
    pub with_itself : (m : M) → words.IsMeaning m → words.united m m ≡ m
    pub swapped : (m n : M) → words.IsMeaning m → words.IsMeaning n → words.united m n ≡ words.united n m
    pub grouped : (m n o : M) → words.IsMeaning m → words.IsMeaning n → words.IsMeaning o
        → words.united m (words.united n o) ≡ words.united (words.united m n) o
