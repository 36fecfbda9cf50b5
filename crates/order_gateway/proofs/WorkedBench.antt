-- What `bench` comes to with seed 1.
use Rattle.std.proofs.Common.{◌≡◌, ℕ, ◌-◌, ◌*◌, List, [], ◌∷◌, ◌++◌, replicate, pos, refl, sym, Some, None, Ok, Err, inr, arith}
use Rattle.std.specs.Prelude.{codes}
use Rattle.std.specs.Fmt.{digits}
use Rattle.isa.specs.Machine.{State}
use Rattle.elf_model.specs.Window.{start_in}
use Rattle.log_model.specs.declared.CallRecord.{CallRecord}
use Rattle.log_model.specs.declared.CallRecord.TheVariants.{Read, Write}
use Rattle.log_model.specs.declared.RunEnd.TheVariants.{Limit}
use Rattle.log_model.specs.Logs.{Log, IsBytes, IsLog}
use Rattle.replay_model.specs.Comparison.{divergence}
use Rattle.replay_model.specs.Fits.{beginning}
use Rattle.record_model.specs.Recorded.{IsRecorded}
use Rattle.jet_refusal.specs.declared.refusal.Refusal.TheVariants as refusal
use Rattle.jet_model.specs.Report.{report}
use Rattle.sha2.specs.Sha256.{sha256, digest_bytes, hash_after, compress, rounds, first_words, schedule}
use Rattle.sha2.proofs.Facts256.{length-sha256}
use Rattle.hex.specs.Hex.{encode_with}
use Rattle.epoch_model.specs.ByLength.{cut_times}
use Rattle.guest_assembler.specs.ProgramFile.{bytes_of}
use Rattle.order_gateway.specs.Guest.{guest, guest_file, guest_image}
use Rattle.order_gateway.specs.Workload.{workload, workload_query}
use Rattle.order_gateway.specs.Answer.{bench_outcome, IsBenchAnswer}

abbrev log_of : List CallRecord → ℕ → Log
log_of records steps = record { pages = 4; inputs = 1; digest = sha256 guest_file; records = records; end = Limit steps }

-- one message: a purchase of 25253 by account 0x82
abbrev one_order : Log
one_order = log_of (Read 7 (0 ∷ 0x11000 ∷ 8 ∷ []) (pos 8) (0x6c ∷ 0x82 ∷ 0xa5 ∷ 0x62 ∷ 0xcb ∷ 0x80 ∷ 0x8d ∷ 0x10 ∷ []) ∷
    Write 28 (1 ∷ 0x12000 ∷ 9 ∷ []) (pos 9) (0x82 ∷ 0xa5 ∷ 0x62 ∷ 0 ∷ 0 ∷ 0xcb ∷ 0x80 ∷ 0x8d ∷ 0x10 ∷ []) ∷ []) 30

one_order-report : report guest_file one_order workload_query
    ≡ codes "1:0 0:1\n1:1 0:2 0:3\n1:2 0:2 0:3\n1:3 0:2 0:3\n1:4 0:2 0:3\n1:5 0:4\n1:6 0:5\n1:7 0:6\n1:8 0:7\nend 9\n"
unfolding guest_file digits
one_order-report = refl

abbrev one_order-text : List ℕ
one_order-text = codes "steps 30\nepochs 2\nsinks 9\npairs 13\nasked 13\nreport b1f4f2e2be8647edfa75968354cde6bf10ae7ca2951ee3c58c4e44a59d626a01\nevents 98\n"

-- at the cut after 15 steps are asked x7's lowest lane, the lanes of x28 and x29, and the four bytes of the position
one_order-outcome : bench_outcome one_order 15 ≡ Ok one_order-text
unfolding guest_file digits sha256 digest_bytes hash_after compress rounds first_words schedule encode_with cut_times
one_order-outcome = refl

-- cut off before the first message is read
set_up-outcome : bench_outcome (log_of [] 3) 4096 ≡ Ok (codes "steps 3\nepochs 1\nsinks 0\npairs 0\nasked 0\nreport 73c903eb97b1052378529a73a681ba334bc9229f05ccb42c73b84a350db83e4f\nevents 4\n")
unfolding guest_file digits sha256 digest_bytes hash_after compress rounds first_words schedule encode_with cut_times
set_up-outcome = refl

too_many-outcome : bench_outcome (log_of [] 4097) 1 ≡ Err (refusal.TooManyEpochs 4097)
unfolding guest_file sha256 digest_bytes hash_after compress rounds first_words schedule
too_many-outcome = refl

-- ---- the run is recorded so

-- memory is zeros and the guest
abbrev start : State
start = start_in guest_image 4 (bytes_of guest ++ replicate (4 * 4096 - 136) 0)

one_order-begins : beginning guest_file one_order ≡ Some start
unfolding guest_file guest_image
one_order-begins = refl

one_order-agrees : divergence start one_order ≡ None
unfolding guest_image
one_order-agrees = refl

digest-are_bytes : IsBytes (sha256 guest_file)
unfolding guest_file sha256 digest_bytes hash_after compress rounds first_words schedule
digest-are_bytes = omega arith

one_order-is_log : IsLog one_order
one_order-is_log = record {
  pages = (omega arith, omega arith);
  inputs = omega arith;
  digest = length-sha256 guest_file;
  digest_bytes = digest-are_bytes;
  records = (
    (omega arith, record { three = refl; words = omega arith; fits = omega arith; whole = refl; are_bytes = omega arith }, inr (omega arith, omega arith)),
    ((omega arith, record { three = refl; words = omega arith; fits = omega arith; whole = refl; are_bytes = omega arith }, inr refl), tt),
  );
  end = omega arith;
  rise = (omega arith, (omega arith, tt));
  ends_after = omega arith;
}

one_order-recorded : IsRecorded (workload 1 30) [] one_order
one_order-recorded = record {
  is_log = one_order-is_log;
  has_pages = refl;
  has_channels = refl;
  fits = record { start = start; digest = refl; begins = one_order-begins; agrees = one_order-agrees };
  reads_inputs = (refl, (tt, tt));
  has_answers = refl;
  ends_within = refl;
}

-- so this is the answer to seed 1, 30 steps and epochs of 15 steps
one_order-answer : IsBenchAnswer 1 30 15 (Ok one_order-text)
one_order-answer = record
    { log = one_order; is_log = record { asked = 0; recorded = one_order-recorded }; outcome = sym one_order-outcome }
