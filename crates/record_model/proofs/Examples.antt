-- Worked examples of recordings of a guest that reads four bytes and writes four.
use Rattle.std.proofs.Common.{◌≡◌, ℕ, List, [], ◌∷◌, ◌++◌, replicate, refl, arith}
use Rattle.std.specs.Prelude.{Some, None, pos, negsuc}
use Rattle.std.specs.List.{flat_map}
use Rattle.std.specs.Option.{option_map}
use Rattle.log_model.specs.Logs.{Log, word32}
use Rattle.log_model.specs.declared.CallRecord.{CallRecord}
use Rattle.log_model.specs.declared.CallRecord.TheVariants.{Read, Write}
use Rattle.log_model.specs.declared.RunEnd.{RunEnd}
use Rattle.log_model.specs.declared.RunEnd.TheVariants.{Exit, Limit}
use Rattle.replay_model.specs.Comparison.{divergence}
use Rattle.replay_model.specs.Fits.{beginning}
use Rattle.record_model.specs.Recorded.{AllReadNext, EndsWithin}

abbrev copy_four : List ℕ
copy_four = let size = word32 48 in
    0x7f ∷ 0x45 ∷ 0x4c ∷ 0x46 ∷ 1 ∷ 1 ∷ 1 ∷ replicate 9 0 ++ 2 ∷ 0 ∷ 243 ∷ 0 ∷ word32 1 ++ word32 0x10000 ++ word32 52
    ++ word32 0 ++
    word32 0 ++ 52 ∷ 0 ∷ 32 ∷ 0 ∷ 1 ∷ replicate 7 0 ++
    word32 1 ++ word32 84 ++ word32 0x10000 ++ word32 0x10000 ++ size ++ size ++ word32 7 ++ word32 4 ++
    flat_map word32 (0x000105b7 ∷ 0x10058593 ∷ 0x00000513 ∷ 0x00400613 ∷ 0x03f00893 ∷ 0x00000073 ∷ 0x00100513 ∷
    0x04000893 ∷ 0x00000073 ∷ 0x00000513 ∷ 0x05d00893 ∷ 0x00000073 ∷ [])

abbrev input : List ℕ
input = 0x41 ∷ 0x42 ∷ 0x43 ∷ 0x44 ∷ 0x45 ∷ 0x46 ∷ 0x47 ∷ []

abbrev log_of : ℕ → List CallRecord → RunEnd → Log
log_of inputs records end = record { pages = 1; inputs = inputs; digest = []; records = records; end = end }

-- nothing differs in the run
abbrev Agrees : ℕ → List CallRecord → RunEnd → Type 0
Agrees inputs records end = option_map (λ s. divergence s (log_of inputs records end))
    (beginning copy_four (log_of inputs records end)) ≡ Some None

abbrev args : ℕ → List ℕ
args channel = channel ∷ 0x10100 ∷ 4 ∷ []

-- the first four bytes of the input are read
abbrev whole : List CallRecord
whole = Read 5 (args 0) (pos 4) (0x41 ∷ 0x42 ∷ 0x43 ∷ 0x44 ∷ []) ∷ Write 8 (args 1) (pos 4)
    (0x41 ∷ 0x42 ∷ 0x43 ∷ 0x44 ∷ []) ∷ []

of_whole : Agrees 1 whole (Exit 11 0) × AllReadNext (input ∷ []) 16777216 [] whole × EndsWithin 12 (Exit 11 0)
of_whole = (refl, (refl, (tt, tt)), omega arith)

-- a piece of two bytes
abbrev in_pieces : List CallRecord
in_pieces = Read 5 (args 0) (pos 2) (0x41 ∷ 0x42 ∷ []) ∷ Write 8 (args 1) (pos 4) (0x41 ∷ 0x42 ∷ 0 ∷ 0 ∷ []) ∷ []

of_pieces : Agrees 1 in_pieces (Exit 11 0) × AllReadNext (input ∷ []) 2 [] in_pieces
of_pieces = (refl, (refl, (tt, tt)))

-- without inputs the read is refused
abbrev refused : List CallRecord
refused = Read 5 (args 0) (negsuc 8) [] ∷ Write 8 (args 1) (pos 4) (0 ∷ 0 ∷ 0 ∷ 0 ∷ []) ∷ []

of_refused : Agrees 0 refused (Exit 11 0) × AllReadNext [] 16777216 [] refused
of_refused = (refl, (tt, (tt, tt)))

-- cut off before the read
cut : Agrees 1 [] (Limit 5) × EndsWithin 5 (Limit 5)
cut = (refl, refl)

-- a second read goes on where the first stopped, also on another channel between
abbrev twice : List CallRecord
twice = Read 0 (0 ∷ 0 ∷ 3 ∷ []) (pos 3) (0x41 ∷ 0x42 ∷ 0x43 ∷ []) ∷ Read 1 (1 ∷ 0 ∷ 2 ∷ []) (pos 1) (0x41 ∷ []) ∷ Read 2
    (0 ∷ 0 ∷ 9 ∷ []) (pos 4) (0x44 ∷ 0x45 ∷ 0x46 ∷ 0x47 ∷ []) ∷ Read 3 (0 ∷ 0 ∷ 9 ∷ []) (pos 0) [] ∷ []

twice_reads : AllReadNext (input ∷ (0x41 ∷ []) ∷ []) 5 [] twice
twice_reads = (refl, (refl, (refl, (refl, tt))))
