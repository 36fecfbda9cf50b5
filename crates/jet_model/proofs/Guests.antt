-- Small guests, by their instruction words, and the logs of their runs.
use Rattle.std.specs.Prelude.{ℕ, ◌*◌, List, [], ◌∷◌, ◌++◌, length, replicate, pos}
use Rattle.std.specs.List.{flat_map}
use Rattle.log_model.specs.Logs.{Log, word32}
use Rattle.log_model.specs.declared.CallRecord.{CallRecord}
use Rattle.log_model.specs.declared.CallRecord.TheVariants.{Read, Write, Clock}
use Rattle.log_model.specs.declared.RunEnd.{RunEnd}
use Rattle.log_model.specs.declared.RunEnd.TheVariants.{Exit, Trap}
use Rattle.sha2.specs.Sha256.{sha256}

-- an ELF file of one segment at 0x10000: an ELF header, a program header, and the words
abbrev pub file_of : List ℕ → List ℕ
file_of code = let size = word32 (4 * length code) in
    0x7f ∷ 0x45 ∷ 0x4c ∷ 0x46 ∷ 1 ∷ 1 ∷ 1 ∷ replicate 9 0 ++ 2 ∷ 0 ∷ 243 ∷ 0 ∷ word32 1 ++ word32 0x10000 ++ word32 52 ++ word32 0 ++
    word32 0 ++ 52 ∷ 0 ∷ 32 ∷ 0 ∷ 1 ∷ replicate 7 0 ++
    word32 1 ++ word32 84 ++ word32 0x10000 ++ word32 0x10000 ++ size ++ size ++ word32 7 ++ word32 4 ++ flat_map word32 code

abbrev pub log_of : List ℕ → ℕ → ℕ → List CallRecord → RunEnd → Log
log_of program pages inputs records end = record { pages = pages; inputs = inputs; digest = sha256 program; records = records; end = end }

-- a read of channel 0 to 0x10100, and a write of channel 1 from there
abbrev pub a_read : ℕ → ℕ → List ℕ → CallRecord
a_read at room bytes = Read at (0 ∷ 0x10100 ∷ room ∷ []) (pos (length bytes)) bytes

abbrev pub a_write : ℕ → List ℕ → CallRecord
a_write at bytes = Write at (1 ∷ 0x10100 ∷ length bytes ∷ []) (pos (length bytes)) bytes

-- reads four bytes and writes them
abbrev pub copy_four : List ℕ
copy_four = file_of (0x000105b7 ∷ 0x10058593 ∷ 0x00000513 ∷ 0x00400613 ∷ 0x03f00893 ∷ 0x00000073 ∷ 0x00100513 ∷ 0x04000893 ∷ 0x00000073 ∷ 0x00000513 ∷ 0x05d00893 ∷ 0x00000073 ∷ [])

-- reads two words and writes their sum
abbrev pub add_words : List ℕ
add_words = file_of (0x000105b7 ∷ 0x10058593 ∷ 0x00000513 ∷ 0x00800613 ∷ 0x03f00893 ∷ 0x00000073 ∷ 0x0005a303 ∷ 0x0045a383 ∷ 0x00730333 ∷ 0x0065a023 ∷ 0x00100513 ∷ 0x00400613 ∷ 0x04000893 ∷ 0x00000073 ∷ 0x00000513 ∷ 0x05d00893 ∷ 0x00000073 ∷ [])

-- the same with an exclusive or
abbrev pub xor_words : List ℕ
xor_words = file_of (0x000105b7 ∷ 0x10058593 ∷ 0x00000513 ∷ 0x00800613 ∷ 0x03f00893 ∷ 0x00000073 ∷ 0x0005a303 ∷ 0x0045a383 ∷ 0x00734333 ∷ 0x0065a023 ∷ 0x00100513 ∷ 0x00400613 ∷ 0x04000893 ∷ 0x00000073 ∷ 0x00000513 ∷ 0x05d00893 ∷ 0x00000073 ∷ [])

-- the same with an unsigned comparison
abbrev pub less_than : List ℕ
less_than = file_of (0x000105b7 ∷ 0x10058593 ∷ 0x00000513 ∷ 0x00800613 ∷ 0x03f00893 ∷ 0x00000073 ∷ 0x0005a303 ∷ 0x0045a383 ∷ 0x00733333 ∷ 0x0065a023 ∷ 0x00100513 ∷ 0x00400613 ∷ 0x04000893 ∷ 0x00000073 ∷ 0x00000513 ∷ 0x05d00893 ∷ 0x00000073 ∷ [])

-- reads a byte, loads it sign-extended and writes the word
abbrev pub load_signed : List ℕ
load_signed = file_of (0x000105b7 ∷ 0x10058593 ∷ 0x00000513 ∷ 0x00100613 ∷ 0x03f00893 ∷ 0x00000073 ∷ 0x00058303 ∷ 0x0065a023 ∷ 0x00100513 ∷ 0x00400613 ∷ 0x04000893 ∷ 0x00000073 ∷ 0x00000513 ∷ 0x05d00893 ∷ 0x00000073 ∷ [])

-- the same, zero-extended
abbrev pub load_unsigned : List ℕ
load_unsigned = file_of (0x000105b7 ∷ 0x10058593 ∷ 0x00000513 ∷ 0x00100613 ∷ 0x03f00893 ∷ 0x00000073 ∷ 0x0005c303 ∷ 0x0065a023 ∷ 0x00100513 ∷ 0x00400613 ∷ 0x04000893 ∷ 0x00000073 ∷ 0x00000513 ∷ 0x05d00893 ∷ 0x00000073 ∷ [])

-- reads a byte, stores another over it and writes that
abbrev pub overwrite : List ℕ
overwrite = file_of (0x000105b7 ∷ 0x10058593 ∷ 0x00000513 ∷ 0x00100613 ∷ 0x03f00893 ∷ 0x00000073 ∷ 0x05a00313 ∷ 0x00658023 ∷ 0x00100513 ∷ 0x04000893 ∷ 0x00000073 ∷ 0x00000513 ∷ 0x05d00893 ∷ 0x00000073 ∷ [])

-- an illegal word
abbrev pub illegal : List ℕ
illegal = file_of (0x00000000 ∷ [])

-- moves a word to and from a place that is no multiple of 4, and then over three of the bytes read
abbrev pub unaligned : List ℕ
unaligned = file_of (0x000105b7 ∷ 0x10058593 ∷ 0x00000513 ∷ 0x00400613 ∷ 0x03f00893 ∷ 0x00000073 ∷ 0x0005a303 ∷ 0x000112b7 ∷ 0xfe62af23 ∷ 0xffe2a383 ∷ 0x0075a0a3 ∷ 0x00100513 ∷ 0x04000893 ∷ 0x00000073 ∷ 0x00000513 ∷ 0x05d00893 ∷ 0x00000073 ∷ [])

-- a jump to a target that is no multiple of 4
abbrev pub jump_misaligned : List ℕ
jump_misaligned = file_of (0x00210067 ∷ [])

-- reads twice and writes what both reads gave
abbrev pub two_reads : List ℕ
two_reads = file_of (0x000105b7 ∷ 0x10058593 ∷ 0x00000513 ∷ 0x00300613 ∷ 0x03f00893 ∷ 0x00000073 ∷ 0x00358593 ∷ 0x00000513 ∷ 0x00400613 ∷ 0x00000073 ∷ 0xffd58593 ∷ 0x00100513 ∷ 0x00500613 ∷ 0x04000893 ∷ 0x00000073 ∷ 0x00000513 ∷ 0x05d00893 ∷ 0x00000073 ∷ [])

-- reads the clock and writes the time
abbrev pub read_clock : List ℕ
read_clock = file_of (0x00010437 ∷ 0x10040413 ∷ 0x7d000893 ∷ 0x00000073 ∷ 0x00a42023 ∷ 0x00b42223 ∷ 0x00100513 ∷ 0x00040593 ∷ 0x00800613 ∷ 0x04000893 ∷ 0x00000073 ∷ 0x00000513 ∷ 0x05d00893 ∷ 0x00000073 ∷ [])

abbrev pub copy_four_log : Log
copy_four_log = log_of copy_four 1 1 (a_read 5 4 (0x41 ∷ 0x42 ∷ 0x43 ∷ 0x44 ∷ []) ∷ a_write 8 (0x41 ∷ 0x42 ∷ 0x43 ∷ 0x44 ∷ []) ∷ []) (Exit 11 0)

abbrev pub add_words_log : Log
add_words_log = log_of add_words 1 1 (a_read 5 8 (0x41 ∷ 0x42 ∷ 0x43 ∷ 0x44 ∷ 0x45 ∷ 0x46 ∷ 0x47 ∷ 0x48 ∷ []) ∷ a_write 13 (0x86 ∷ 0x88 ∷ 0x8a ∷ 0x8c ∷ []) ∷ []) (Exit 16 0)

abbrev pub xor_words_log : Log
xor_words_log = log_of xor_words 1 1 (a_read 5 8 (0x41 ∷ 0x42 ∷ 0x43 ∷ 0x44 ∷ 0x45 ∷ 0x46 ∷ 0x47 ∷ 0x48 ∷ []) ∷ a_write 13 (0x04 ∷ 0x04 ∷ 0x04 ∷ 0x0c ∷ []) ∷ []) (Exit 16 0)

abbrev pub less_than_log : Log
less_than_log = log_of less_than 1 1 (a_read 5 8 (0x41 ∷ 0x42 ∷ 0x43 ∷ 0x44 ∷ 0x45 ∷ 0x46 ∷ 0x47 ∷ 0x48 ∷ []) ∷ a_write 13 (0x01 ∷ 0x00 ∷ 0x00 ∷ 0x00 ∷ []) ∷ []) (Exit 16 0)

abbrev pub load_signed_log : Log
load_signed_log = log_of load_signed 1 1 (a_read 5 1 (0x80 ∷ []) ∷ a_write 11 (0x80 ∷ 0xff ∷ 0xff ∷ 0xff ∷ []) ∷ []) (Exit 14 0)

abbrev pub load_unsigned_log : Log
load_unsigned_log = log_of load_unsigned 1 1 (a_read 5 1 (0x80 ∷ []) ∷ a_write 11 (0x80 ∷ 0x00 ∷ 0x00 ∷ 0x00 ∷ []) ∷ []) (Exit 14 0)

abbrev pub overwrite_log : Log
overwrite_log = log_of overwrite 1 1 (a_read 5 1 (0x41 ∷ []) ∷ a_write 10 (0x5a ∷ []) ∷ []) (Exit 13 0)

abbrev pub illegal_log : Log
illegal_log = log_of illegal 1 0 ([]) (Trap 0 2 0x10000)

abbrev pub unaligned_log : Log
unaligned_log = log_of unaligned 2 1 (a_read 5 4 (0x41 ∷ 0x42 ∷ 0x43 ∷ 0x44 ∷ []) ∷ a_write 13 (0x41 ∷ 0x41 ∷ 0x42 ∷ 0x43 ∷ []) ∷ []) (Exit 16 0)

abbrev pub jump_misaligned_log : Log
jump_misaligned_log = log_of jump_misaligned 1 0 ([]) (Trap 0 0 0x10000)

abbrev pub two_reads_log : Log
two_reads_log = log_of two_reads 1 1 (a_read 5 3 (0x41 ∷ 0x42 ∷ 0x43 ∷ []) ∷ Read 9 (0 ∷ 0x10103 ∷ 4 ∷ []) (pos 2) (0x44 ∷ 0x45 ∷ []) ∷ a_write 14 (0x41 ∷ 0x42 ∷ 0x43 ∷ 0x44 ∷ 0x45 ∷ []) ∷ []) (Exit 17 0)

abbrev pub read_clock_log : Log
read_clock_log = log_of read_clock 1 0 (Clock 3 4294967298 ∷ a_write 10 (0x02 ∷ 0x00 ∷ 0x00 ∷ 0x00 ∷ 0x01 ∷ 0x00 ∷ 0x00 ∷ 0x00 ∷ []) ∷ []) (Exit 13 0)
