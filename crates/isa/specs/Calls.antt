-- The calls of a guest to its execution environment ("Environment Call and Breakpoints" leaves them to it):
-- read (63), write (64), exit (93), clock (2000). Results go to x10. Any other number gives -38.
use Rattle.std.specs.Prelude.{ℕ, ◌+◌, ◌-◌, ◌%◌, ◌/◌, ◌^◌, ◌==◌, nat_lt, Bool, not, if◌then◌else◌, List, ℤ, pos, neg_ℤ, slice_index}
use Rattle.isa.specs.Machine.{State, as_word, wrap, with_register, overwritten, in_window, moved_on, moved_on_with}
use Rattle.isa.specs.declared.Call.{Call}
use Rattle.isa.specs.declared.CallKind.{CallKind}
use Rattle.isa.specs.declared.CallKind.TheVariants.{Read, Write, Clock, Other, Exit}

-- the first three arguments of a read or a write
abbrev pub channel_of : List ℕ → ℕ
channel_of args = slice_index args 0

abbrev pub buffer_of : List ℕ → ℕ
buffer_of args = slice_index args 1

abbrev pub length_of : List ℕ → ℕ
length_of args = slice_index args 2

-- a negative number
abbrev pub minus : ℕ → ℤ
minus n = neg_ℤ (pos n)

-- the error numbers that a call gets as its result: no such channel, a buffer that isn't wholly in the window, and no
-- such call
abbrev pub bad_channel : ℤ
bad_channel = minus 9

abbrev pub bad_buffer : ℤ
bad_buffer = minus 14

abbrev pub no_such_call : ℤ
no_such_call = minus 38

abbrev pub not_refused : ℤ
not_refused = pos 0

abbrev pub has_channel : ℕ → List ℕ → Bool
has_channel channels args = nat_lt (channel_of args) channels

abbrev pub is_of_no_bytes : List ℕ → Bool
is_of_no_bytes args = length_of args == 0

abbrev pub has_buffer : State → List ℕ → Bool
has_buffer s args = in_window s (buffer_of args) (length_of args)

-- what a read or a write is refused by, among so many channels: first the channel is looked at, and then the buffer,
-- but not that of a call of no bytes
abbrev pub refusal_of : State → ℕ → List ℕ → ℤ
refusal_of s channels args =
    if not (has_channel channels args) then bad_channel else
    if is_of_no_bytes args then not_refused else
    if has_buffer s args then not_refused else bad_buffer

-- a read's channel is one of the inputs, a write's is below 16; other calls are never refused
abbrev pub refusal_by : State → ℕ → CallKind → List ℕ → ℤ
refusal_by s inputs Read args = refusal_of s inputs args
refusal_by s inputs Write args = refusal_of s 16 args
refusal_by s inputs Clock args = not_refused
refusal_by s inputs Other args = not_refused
refusal_by s inputs Exit args = not_refused

abbrev pub refusal : State → ℕ → Call → ℤ
refusal s inputs call = refusal_by s inputs call.kind call.args

-- the states after the calls. A read's bytes go to its buffer
abbrev pub after_read : State → ℕ → ℤ → List ℕ → State
after_read s address result bytes =
    record s { pc = wrap (s.pc + 4); registers = with_register s.registers 10 (as_word result); memory = overwritten s.memory (address - s.base) bytes }

abbrev pub after_write : State → ℤ → State
after_write s result = moved_on_with s 10 (as_word result)

-- the clock's low half goes to x10, its high half to x11
abbrev pub after_clock : State → ℕ → State
after_clock s value =
    record s { pc = wrap (s.pc + 4); registers = with_register (with_register s.registers 10 (value % 2 ^ 32)) 11 (value / 2 ^ 32) }

abbrev pub after_other : State → State
after_other s = moved_on_with s 10 (as_word no_such_call)

abbrev pub after_exit : State → State
after_exit s = moved_on s
