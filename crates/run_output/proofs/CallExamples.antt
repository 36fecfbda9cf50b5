-- Worked examples, computed by the checker.
use Rattle.std.proofs.Common.{◌≡◌, List, [], ◌∷◌, ◌++◌, pos, negsuc, refl}
use Rattle.std.specs.Prelude.{codes}
use Rattle.std.specs.Fmt.{digits}
use Rattle.hex.specs.Hex.{encode_with}
use Rattle.log_model.specs.declared.CallRecord.{CallRecord}
use Rattle.log_model.specs.declared.CallRecord.TheVariants.{Read, Write, Clock, Other}
use Rattle.log_model.specs.declared.RunEnd.{RunEnd}
use Rattle.log_model.specs.declared.RunEnd.TheVariants.{Exit, Trap, Limit}
use Rattle.log_model.specs.Logs.{Log}
use Rattle.run_output.specs.Calls.{calls_text}

abbrev log_of : List CallRecord → RunEnd → Log
log_of records end = record { pages = 1; inputs = 2; digest = []; records = records; end = end }

-- reads of two channels, one of them twice, and at its end; a clock, another call, and what was read, written in two parts
all_calls : calls_text (log_of (
    Read 5 (0 ∷ 65792 ∷ 4 ∷ []) (pos 4) (codes "ABCD") ∷
    Read 9 (1 ∷ 65800 ∷ 9 ∷ []) (pos 2) (34 ∷ 0 ∷ []) ∷
    Read 12 (0 ∷ 65796 ∷ 4 ∷ []) (pos 1) (codes "E") ∷
    Read 14 (0 ∷ 65797 ∷ 4 ∷ []) (pos 0) [] ∷
    Clock 17 1700000000000000000 ∷
    Other 20 4294967295 ∷
    Write 23 (1 ∷ 65792 ∷ 2 ∷ []) (pos 2) (codes "AB") ∷
    Write 26 (1 ∷ 65794 ∷ 3 ∷ []) (pos 3) (codes "CDE") ∷ []
    ) (Exit 30 7)) ≡
    codes "5 read 0:0 4 m:65792 \"ABCD\"\n" ++
    codes "9 read 1:0 2 m:65800 \"\\x22\\x00\"\n" ++
    codes "12 read 0:4 1 m:65796 \"E\"\n" ++
    codes "14 read 0:5 0 m:65797 \"\"\n" ++
    codes "17 clock 1700000000000000000\n" ++
    codes "20 other 4294967295\n" ++
    codes "23 write 1:0 2 m:65792 \"AB\"\n" ++
    codes "26 write 1:2 3 m:65794 \"CDE\"\n" ++
    codes "30 exit 7\n" ++
    codes "end 9\n"
unfolding digits encode_with
all_calls = refl

-- a refused read takes nothing from its channel
refused_calls : calls_text (log_of (
    Read 2 (7 ∷ 65792 ∷ 4 ∷ []) (negsuc 8) [] ∷
    Read 5 (0 ∷ 4096 ∷ 4294967295 ∷ []) (negsuc 13) [] ∷
    Write 8 (16 ∷ 65792 ∷ 4 ∷ []) (negsuc 8) [] ∷
    Read 11 (0 ∷ 65792 ∷ 2 ∷ []) (pos 2) (codes "AB") ∷ []
    ) (Trap 12 5 65668)) ≡
    codes "2 read 7 -9 4 m:65792\n" ++
    codes "5 read 0 -14 4294967295 m:4096\n" ++
    codes "8 write 16 -9 4 m:65792\n" ++
    codes "11 read 0:0 2 m:65792 \"AB\"\n" ++
    codes "12 trap 5 0x00010084\n" ++
    codes "end 5\n"
unfolding digits encode_with
refused_calls = refl

no_calls : calls_text (log_of [] (Limit 1000)) ≡ codes "1000 limit\nend 1\n"
unfolding digits
no_calls = refl
