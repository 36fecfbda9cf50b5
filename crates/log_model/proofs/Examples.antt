-- Bytes and what they are read as, computed by the checker. The bytes are typed out; none is a definition's output.
use Rattle.std.proofs.Common.{◌≡◌, ℕ, List, [], ◌∷◌, ◌++◌, take, Ok, Err, pos, negsuc, refl}
use Rattle.log_model.specs.declared.CallRecord.TheVariants.{Read, Write, Clock, Other}
use Rattle.log_model.specs.declared.RunEnd.TheVariants.{Exit, Trap, Limit}
use Rattle.log_model.specs.declared.LogKind.{LogKind}
use Rattle.log_model.specs.declared.LogKind.TheVariants as fault
use Rattle.log_model.specs.Reading.{log_of, channels_of, body_of}

abbrev digest : List ℕ
digest = 0 ∷ 1 ∷ 2 ∷ 3 ∷ 4 ∷ 5 ∷ 6 ∷ 7 ∷ 8 ∷ 9 ∷ 10 ∷ 11 ∷ 12 ∷ 13 ∷ 14 ∷ 15 ∷ 16 ∷ 17 ∷ 18 ∷ 19 ∷ 20 ∷ 21 ∷ 22 ∷ 23 ∷ 24 ∷ 25 ∷ 26 ∷ 27 ∷ 28 ∷ 29 ∷ 30 ∷ 31 ∷ []

-- a header of so many pages and inputs
abbrev header : ℕ → ℕ → List ℕ
header pages inputs = 0x4a ∷ 0x45 ∷ 0x54 ∷ 0x4c ∷ 0x4f ∷ 0x47 ∷ 0x31 ∷ 0x0a ∷ [] ++ digest ++ pages ∷ 0 ∷ 0 ∷ 0 ∷ inputs ∷ 0 ∷ 0 ∷ 0 ∷ []

-- a read of four bytes at a step, to 0x10100 on channel 0
abbrev a_read : ℕ → List ℕ
a_read at = 1 ∷ at ∷ 0 ∷ 0 ∷ 0 ∷ 0 ∷ 0 ∷ 0 ∷ 0 ∷ 0 ∷ 1 ∷ 1 ∷ 0 ∷ 4 ∷ 0 ∷ 0 ∷ 0 ∷ 4 ∷ 0 ∷ 0 ∷ 0 ∷ 0x41 ∷ 0x42 ∷ 0x43 ∷ 0x44 ∷ []

-- a write of three bytes on channel 1, of which so many were written
abbrev a_write : ℕ → ℕ → List ℕ
a_write at moved = 2 ∷ at ∷ 0 ∷ 0 ∷ 0 ∷ 1 ∷ 0 ∷ 0 ∷ 0 ∷ 0 ∷ 1 ∷ 1 ∷ 0 ∷ 3 ∷ 0 ∷ 0 ∷ 0 ∷ moved ∷ 0 ∷ 0 ∷ 0 ∷ 0x41 ∷ 0x42 ∷ 0x43 ∷ []

-- a write from outside the window
abbrev a_refusal : List ℕ
a_refusal = 2 ∷ 3 ∷ 0 ∷ 0 ∷ 0 ∷ 1 ∷ 0 ∷ 0 ∷ 0 ∷ 0 ∷ 0 ∷ 0 ∷ 0x80 ∷ 4 ∷ 0 ∷ 0 ∷ 0 ∷ 0xf2 ∷ 0xff ∷ 0xff ∷ 0xff ∷ []

abbrev a_clock : List ℕ
a_clock = 3 ∷ 3 ∷ 0 ∷ 0 ∷ 0 ∷ 2 ∷ 0 ∷ 0 ∷ 0 ∷ 1 ∷ 0 ∷ 0 ∷ 0 ∷ []

abbrev call_42 : List ℕ
call_42 = 4 ∷ 4 ∷ 0 ∷ 0 ∷ 0 ∷ 42 ∷ 0 ∷ 0 ∷ 0 ∷ []

abbrev an_exit : List ℕ
an_exit = 5 ∷ 11 ∷ 0 ∷ 0 ∷ 0 ∷ 7 ∷ 0 ∷ 0 ∷ 0 ∷ []

abbrev a_trap : ℕ → List ℕ
a_trap kind = 6 ∷ 5 ∷ 0 ∷ 0 ∷ 0 ∷ kind ∷ 0 ∷ 0 ∷ 0 ∷ 0 ∷ 0 ∷ 1 ∷ 0 ∷ []

abbrev a_limit : List ℕ
a_limit = 7 ∷ 10 ∷ 0 ∷ 0 ∷ 0 ∷ []

-- ---- logs

reads_and_writes : log_of (header 1 1 ++ a_read 5 ++ a_write 8 3 ++ an_exit) ≡ Ok record {
  pages = 1;
  inputs = 1;
  digest = digest;
  records = Read 5 (0 ∷ 0x10100 ∷ 4 ∷ []) (pos 4) (0x41 ∷ 0x42 ∷ 0x43 ∷ 0x44 ∷ []) ∷ Write 8 (1 ∷ 0x10100 ∷ 3 ∷ []) (pos 3) (0x41 ∷ 0x42 ∷ 0x43 ∷ []) ∷ [];
  end = Exit 11 7;
}
unfolding log_of channels_of body_of
reads_and_writes = refl

other_calls : log_of (header 2 0 ++ a_clock ++ call_42 ++ a_trap 2) ≡ Ok record {
  pages = 2;
  inputs = 0;
  digest = digest;
  records = Clock 3 4294967298 ∷ Other 4 42 ∷ [];
  end = Trap 5 2 0x10000;
}
unfolding log_of channels_of body_of
other_calls = refl

a_refused_write : log_of (header 1 0 ++ a_refusal ++ a_limit) ≡ Ok record {
  pages = 1;
  inputs = 0;
  digest = digest;
  records = Write 3 (1 ∷ 0x80000000 ∷ 4 ∷ []) (negsuc 13) [] ∷ [];
  end = Limit 10;
}
unfolding log_of channels_of body_of
a_refused_write = refl

-- ---- faults

abbrev HasFault : List ℕ → LogKind → ℕ → Type 0
HasFault bytes kind offset = log_of bytes ≡ Err (kind, offset)

faulty :
    HasFault [] fault.Magic 0
    × HasFault (take 47 (header 1 1)) fault.Header 8
    × HasFault (header 0 1 ++ a_limit) fault.Header 40
    × HasFault (header 1 17 ++ a_limit) fault.Header 44
    × HasFault (header 1 1 ++ a_read 5) fault.Short 73
    × HasFault (header 1 1 ++ take 24 (a_read 5)) fault.Short 48
    × HasFault (header 1 1 ++ a_read 5 ++ 8 ∷ []) fault.Tag 73
    × HasFault (header 1 1 ++ a_read 5 ++ a_write 5 3 ++ an_exit) fault.Order 73
    × HasFault (header 1 1 ++ a_write 5 2 ++ an_exit) fault.Result 48
    × HasFault (header 1 1 ++ a_trap 4) fault.Result 48
    × HasFault (header 1 1 ++ a_limit ++ a_limit) fault.Trailing 53
unfolding log_of channels_of body_of
faulty = (refl, refl, refl, refl, refl, refl, refl, refl, refl, refl, refl)

-- ---- version 2

-- a header of so many pages and inputs
abbrev header_2 : ℕ → ℕ → List ℕ
header_2 pages inputs = 0x4a ∷ 0x45 ∷ 0x54 ∷ 0x4c ∷ 0x4f ∷ 0x47 ∷ 0x32 ∷ 0x0a ∷ [] ++ digest ++ pages ∷ 0 ∷ 0 ∷ 0 ∷ inputs ∷ 0 ∷ 0 ∷ 0 ∷ []

-- a channel of so many bytes of ABCDE
abbrev a_channel : ℕ → List ℕ
a_channel length = length ∷ 0 ∷ 0 ∷ 0 ∷ take length (0x41 ∷ 0x42 ∷ 0x43 ∷ 0x44 ∷ 0x45 ∷ [])

-- a read at a step on a channel, of at most four bytes, with so many read
abbrev read_of : (at channel moved : ℕ) → List ℕ
read_of at channel moved = 1 ∷ at ∷ 0 ∷ 0 ∷ 0 ∷ 0 ∷ 0 ∷ 0 ∷ 0 ∷ channel ∷ 0 ∷ 0 ∷ 0 ∷ 0 ∷ 1 ∷ 1 ∷ 0 ∷ 4 ∷ 0 ∷ 0 ∷ 0 ∷ moved ∷ 0 ∷ 0 ∷ 0 ∷ []

-- a write of four bytes at step 8 on channel 1
abbrev write_at_8 : List ℕ
write_at_8 = 2 ∷ 8 ∷ 0 ∷ 0 ∷ 0 ∷ 0 ∷ 0 ∷ 0 ∷ 0 ∷ 1 ∷ 0 ∷ 0 ∷ 0 ∷ 0 ∷ 1 ∷ 1 ∷ 0 ∷ 4 ∷ 0 ∷ 0 ∷ 0 ∷ 4 ∷ 0 ∷ 0 ∷ 0 ∷ 0x41 ∷ 0x42 ∷ 0x43 ∷ 0x44 ∷ []

-- the exit at step 11
abbrev exit_at_11 : List ℕ
exit_at_11 = 5 ∷ 11 ∷ 0 ∷ 0 ∷ 0 ∷ 0 ∷ 0 ∷ 0 ∷ 0 ∷ 0 ∷ 0 ∷ 0 ∷ 0 ∷ []

-- a clock call at the last step before 2^40, and one at 2^40
abbrev clock_before_2_40 : List ℕ
clock_before_2_40 = 3 ∷ 255 ∷ 255 ∷ 255 ∷ 255 ∷ 255 ∷ 0 ∷ 0 ∷ 0 ∷ 2 ∷ 0 ∷ 0 ∷ 0 ∷ 1 ∷ 0 ∷ 0 ∷ 0 ∷ []

abbrev clock_at_2_40 : List ℕ
clock_at_2_40 = 3 ∷ 0 ∷ 0 ∷ 0 ∷ 0 ∷ 0 ∷ 1 ∷ 0 ∷ 0 ∷ 2 ∷ 0 ∷ 0 ∷ 0 ∷ 1 ∷ 0 ∷ 0 ∷ 0 ∷ []

-- a limit so many steps after 2^40
abbrev limit_after_2_40 : ℕ → List ℕ
limit_after_2_40 more = 7 ∷ more ∷ 0 ∷ 0 ∷ 0 ∷ 0 ∷ 1 ∷ 0 ∷ 0 ∷ []

-- the log of a run that reads four bytes, writes them and exits
abbrev worked : List ℕ
worked = header_2 1 1 ++ a_channel 4 ++ read_of 5 0 4 ++ write_at_8 ++ exit_at_11

worked_log : log_of worked ≡ Ok record {
  pages = 1;
  inputs = 1;
  digest = digest;
  records = Read 5 (0 ∷ 0x10100 ∷ 4 ∷ []) (pos 4) (0x41 ∷ 0x42 ∷ 0x43 ∷ 0x44 ∷ []) ∷ Write 8 (1 ∷ 0x10100 ∷ 4 ∷ []) (pos 4) (0x41 ∷ 0x42 ∷ 0x43 ∷ 0x44 ∷ []) ∷ [];
  end = Exit 11 0;
}
unfolding log_of channels_of body_of
worked_log = refl

-- two channels, read by turns, one of them twice
two_channels : log_of (header_2 2 2 ++ a_channel 5 ++ a_channel 2 ++ read_of 1 0 3 ++ read_of 2 1 2 ++ read_of 4 0 2 ++ clock_before_2_40 ++ limit_after_2_40 0) ≡ Ok record {
  pages = 2;
  inputs = 2;
  digest = digest;
  records =
      Read 1 (0 ∷ 0x10100 ∷ 4 ∷ []) (pos 3) (0x41 ∷ 0x42 ∷ 0x43 ∷ [])
      ∷ Read 2 (1 ∷ 0x10100 ∷ 4 ∷ []) (pos 2) (0x41 ∷ 0x42 ∷ [])
      ∷ Read 4 (0 ∷ 0x10100 ∷ 4 ∷ []) (pos 2) (0x44 ∷ 0x45 ∷ [])
      ∷ Clock 1099511627775 4294967298 ∷ [];
  end = Limit 1099511627776;
}
unfolding log_of channels_of body_of
two_channels = refl

faulty_2 :
    HasFault (take 50 worked) fault.Header 48
    × HasFault (header_2 1 2 ++ a_channel 2 ++ take 6 (a_channel 3)) fault.Header 54
    -- three bytes are left, and four are read
    × HasFault (header_2 1 1 ++ a_channel 3 ++ read_of 5 0 4 ++ write_at_8 ++ exit_at_11) fault.Bytes 55
    × HasFault (header_2 1 1 ++ a_channel 0 ++ read_of 5 1 1 ++ exit_at_11) fault.Bytes 52
    -- the channel's fifth byte is never read
    × HasFault (header_2 1 1 ++ a_channel 5 ++ read_of 5 0 4 ++ write_at_8 ++ exit_at_11) fault.Bytes 111
    × HasFault (header_2 1 0 ++ clock_at_2_40 ++ limit_after_2_40 1) fault.Order 48
    × HasFault (header_2 1 0 ++ clock_before_2_40 ++ limit_after_2_40 1) fault.Order 65
    × HasFault (worked ++ 0 ∷ []) fault.Trailing 123
unfolding log_of channels_of body_of
faulty_2 = (refl, refl, refl, refl, refl, refl, refl, refl)
