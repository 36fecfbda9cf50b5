-- The description of the machine's registers (GDB manual, appendix G "Target Descriptions", "RISC-V Features"), and its
-- parts (appendix E "Remote Protocol", "General Query Packets", `qXfer`).
use Rattle.std.specs.Prelude.{ℕ, ◌+◌, nat_lt, if◌then◌else◌, List, ◌++◌, length, take, drop, codes}
use Rattle.debug_model.specs.declared.target.TheConstants.{TEXT}

-- a constant text: that of src/ is the definition. It names the architecture, and the registers in order
unfoldable pub description : List ℕ
description = TEXT.now

-- so many of its bytes from an offset on, as far as there are: behind `l` where the last is among them, or none is left,
-- else behind `m`
abbrev pub part_text : ℕ → ℕ → List ℕ
part_text offset length_asked =
    (if nat_lt (offset + length_asked) (length description) then codes "m" else codes "l") ++
    take length_asked (drop offset description)
