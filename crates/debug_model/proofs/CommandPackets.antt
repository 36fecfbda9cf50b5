-- Commands in words, as packets.
use Rattle.std.proofs.Common.{◌≡◌, ℕ, suc, ◌-◌, ◌^◌, ◌<◌, ◌≤◌, min, Bool, true, ◌&&◌, if◌then◌else◌, List, [], ◌∷◌, length, Option, Some, None, unwrap_or, Result, is_ok, decimal, refl, ap, sym, ◌∙◌, arith, le-leb, lt-ltb, zero}
use Rattle.std.specs.List.{list_all}
use Rattle.std.specs.Char.{digit_value, is_ascii_digit}
use Rattle.std.specs.Result.{result_unwrap_or}
use Rattle.std.specs.Str.Parse.{AllDigits, digits_value}
use Rattle.std.proofs.lemmas.Bool.Decides.{nat_tests}
use Rattle.std.proofs.lemmas.Fmt.{decimal_is_IsNumeral, IsAscii-decimal}
use Rattle.hex.specs.Hex.{IsBytes}
use Rattle.hex.specs.declared.error.FromHexError.{FromHexError}
use Rattle.hex.proofs.HexLemmas.{decode_of-encode_lower}
use Rattle.log_model.specs.Logs.{Log, steps}
use Rattle.remote_packets.specs.declared.packet.Packet.{Packet}
use Rattle.remote_packets.specs.declared.packet.Packet.TheVariants.{Command, Other}
use Rattle.remote_packets.specs.Packets.{packet_of}
use Rattle.debug_model.specs.declared.command.Command.{Command as InWords}
use Rattle.debug_model.specs.declared.command.Command.TheVariants.{GoTo}
use Rattle.debug_model.specs.Commands.{decimal_number, command_named, time_within, time_asked}
use Rattle.debug_model.specs.Answers.{after, changed_by, put}
use Rattle.debug_model.specs.Dialogues.{next_all}
use Rattle.debug_model.specs.CommandLaws.{command_packet, WordsAreRead, goto_words, TimesAreRead, EachTimeIsReached, RunStaysAsItWas}
use Rattle.debug_model.proofs.Travelling.{at_one_time}

-- ---- words

packet_is : (words : List ℕ) → IsBytes words → packet_of (command_packet words) ≡ Command
unfolding packet_of
packet_is words fits =
    ap (λ (r : Result (List ℕ) FromHexError). unwrap_or (if is_ok r then Some Command else None) Other) (decode_of-encode_lower words fits)

pub words_are_read : WordsAreRead
words_are_read words fits = record {
  packet = packet_is words fits;
  command = ap (λ (r : Result (List ℕ) FromHexError). command_named (result_unwrap_or r [])) (decode_of-encode_lower words fits);
}

-- ---- times

is_decimal : (c : ℕ) → digit_value c < 10 → is_ascii_digit c ≡ true
is_decimal c low = grind (arith, nat_tests)

are_decimal : (ds : List ℕ) → AllDigits 10 ds → list_all is_ascii_digit ds ≡ true
are_decimal [] each = refl
are_decimal (d ∷ ds) each = rw (is_decimal d each.0, are_decimal ds each.1) refl

number_is : (t : ℕ) → t < 2 ^ 64 → decimal_number (decimal t) ≡ Some t
number_is t low =
    let is = decimal_is_IsNumeral t low in
    let some = lt-ltb 0 (length (decimal t)) is.0.0 in
    let most : min t (2 ^ 64 - 1) ≡ t = omega arith in
    ap (λ (b : Bool). if b && list_all is_ascii_digit (decimal t) then Some (min (digits_value 10 (decimal t)) (2 ^ 64 - 1)) else None) some
    ∙ ap (λ (b : Bool). if b then Some (min (digits_value 10 (decimal t)) (2 ^ 64 - 1)) else None) (are_decimal (decimal t) is.0.1)
    ∙ ap (λ (n : ℕ). Some (min n (2 ^ 64 - 1))) is.1
    ∙ ap (λ (n : ℕ). Some n) most

pub times_are_read : TimesAreRead
times_are_read t low = ap GoTo (number_is t low)

goto_bytes : (t : ℕ) → t < 2 ^ 64 → IsBytes (goto_words t)
goto_bytes t low zero = omega arith
goto_bytes t low (suc zero) = omega arith
goto_bytes t low (suc (suc zero)) = omega arith
goto_bytes t low (suc (suc (suc zero))) = omega arith
goto_bytes t low (suc (suc (suc (suc zero)))) = omega arith
goto_bytes t low (suc (suc (suc (suc (suc i))))) = let small = IsAscii-decimal t low i in omega (arith, small)

within : (log : Log) (t : ℕ) → t ≤ steps log → time_within log t ≡ Some t
within log t low = ap (λ (b : Bool). if b then Some t else None) (le-leb t (steps log) low)

pub each_time_is_reached : EachTimeIsReached
each_time_is_reached job s t low small =
    let bytes = command_packet (goto_words t) in
    let read = words_are_read (goto_words t) (goto_bytes t small) in
    ap (λ (p : Packet). (changed_by job s bytes p).time) read.packet
    ∙ ap (λ (c : InWords). (put s (time_asked job.log c)).time) (read.command ∙ times_are_read t small)
    ∙ ap (λ (o : Option ℕ). (put s o).time) (within job.log t low)

pub stays_as_it_was : RunStaysAsItWas
stays_as_it_was job s hs t low small =
    let bytes = command_packet (goto_words t) in
    at_one_time job (after job (next_all job s hs) bytes) (after job s bytes) (
    each_time_is_reached job (next_all job s hs) t low small ∙ sym (each_time_is_reached job s t low small)
    )
