-- Words that the command line takes stand for a request, whose time is in its range.
use Rattle.std.proofs.Common.{◌≡◌, sym, refl, subst, true, false, List, codes, Some, None}
use Rattle.clap.specs.Words.{Text, matches_of, takes}
use Rattle.clap.specs.Walk.{Names, rows_after}
use Rattle.clap.specs.Simple.{argument_words, built}
use Rattle.no_memory.specs.declared.Fault.{Fault}
use Rattle.no_memory.specs.declared.Fault.TheVariants.{At, NoMemory}
use Rattle.no_memory.specs.Faults.{IsCausedBy}
use Rattle.clap_command.specs.declared.fault.Usage.{Usage}
use Rattle.clap_command.proofs.Rows.{IsNumberIn, option-in_range}
use Rattle.clap_command.proofs.Single.{level_of_single}
use Rattle.gdb_words.specs.Requests.{gdb_app, request_by, request_of}

-- the time can be read, and is in its range
pub time_taken : (words : List Text) → takes gdb_app words ≡ true → IsNumberIn 18446744073709551615 0 1099511627776 (codes "T") (matches_of gdb_app words)
time_taken words e =
    let p = level_of_single gdb_app words refl e in
    let given = argument_words gdb_app words in
    subst (λ (names : Names). IsNumberIn 18446744073709551615 0 1099511627776 (codes "T") (rows_after (built gdb_app).top.rules names given)) (sym p.0)
    (option-in_range (built gdb_app).top given refl p.1 (codes "T") _ 18446744073709551615 0 1099511627776 refl refl refl refl refl)

pub request_of-taken : (words : List Text) → takes gdb_app words ≡ true → request_of words ≡ Some (request_by (matches_of gdb_app words))
unfolding request_of
request_of-taken words e = rw e refl

-- words that are refused stand for nothing
pub request_of-refused : (words : List Text) (f : Fault Usage) → IsCausedBy (λ _. takes gdb_app words ≡ false) f → IsCausedBy (λ _. request_of words ≡ None) f
unfolding request_of
request_of-refused words (At usage) h = rw h refl
request_of-refused words (NoMemory no_memory) h = tt
