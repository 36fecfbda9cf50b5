-- What the files of a command hold, or why the command is refused. They are read in the order in which the command names them.
use Rattle.std.specs.Prelude.{ℕ, ◌+◌, ◌^◌, nat_lt, if◌then◌else◌, List, [], ◌∷◌, length, Option, Result, Ok, Err}
use Rattle.std.specs.List.{list_all}
use Rattle.std.specs.Option.{ok_or}
use Rattle.elf_model.specs.Image.{Image, image}
use Rattle.log_model.specs.Logs.{Log}
use Rattle.log_model.specs.Reading.{log_of}
use Rattle.report_model.specs.Query.{Query}
use Rattle.report_model.specs.Grammar.{query}
use Rattle.jet_refusal.specs.declared.refusal.Refusal.{Refusal}
use Rattle.jet_refusal.specs.declared.refusal.Refusal.TheVariants as refusal
use Rattle.jet_model.specs.Outcomes.{and_then, or_refused}

-- the content of each name's file, if there is one
abbrev pub Contents : Type 0
Contents = List ℕ → Option (List ℕ)

-- the names of the three files of a query
pub record Names : Type 0 where
  pub program : List ℕ
  pub log : List ℕ
  pub query : List ℕ

-- a program's file and its image
pub record Program : Type 0 where
  pub bytes : List ℕ
  pub image : Image

pub record Run : Type 0 where
  pub program : Program
  pub log : Log

-- ---- what bytes hold

-- a file has at most 2 ^ 26 bytes
abbrev pub within_limit : List ℕ → Result (List ℕ) Refusal
within_limit bytes = if nat_lt (2 ^ 26) (length bytes) then Err refusal.TooLong else Ok bytes

-- numbers that are no bytes are in no file
abbrev pub if_bytes : List ℕ → Result (List ℕ) Refusal
if_bytes numbers = if list_all (λ n. nat_lt n 256) numbers then Ok numbers else Err refusal.ReadFault

abbrev pub program_in : List ℕ → Result Program Refusal
program_in bytes =
    and_then (or_refused refusal.Image (image bytes)) (λ im.
    Ok (record { bytes = bytes; image = im }))

abbrev pub log_in : List ℕ → Result Log Refusal
log_in numbers =
    and_then (if_bytes numbers) (λ bytes.
    or_refused (λ fault. refusal.Log fault.0 fault.1) (log_of bytes))

abbrev pub query_in : List ℕ → Result Query Refusal
query_in bytes = or_refused (λ fault. refusal.Query fault.0 fault.1) (query bytes)

-- one of several queries, which has this number
abbrev pub numbered_query_in : ℕ → List ℕ → Result Query Refusal
numbered_query_in number bytes = or_refused (λ fault. refusal.QueryOf number fault.0 fault.1) (query bytes)

-- ---- what files hold

abbrev pub file_at : Contents → List ℕ → Result (List ℕ) Refusal
file_at file name = and_then (ok_or (file name) refusal.ReadFault) within_limit

abbrev pub program_at : Contents → List ℕ → Result Program Refusal
program_at file name = and_then (file_at file name) program_in

abbrev pub log_at : Contents → List ℕ → Result Log Refusal
log_at file name = and_then (file_at file name) log_in

abbrev pub query_at : Contents → List ℕ → Result Query Refusal
query_at file name = and_then (file_at file name) query_in

-- a program, and then a log
abbrev pub run_at : Contents → List ℕ → List ℕ → Result Run Refusal
run_at file program_name log_name =
    and_then (program_at file program_name) (λ program.
    and_then (log_at file log_name) (λ log.
    Ok (record { program = program; log = log })))

-- ---- what several files hold

-- what a function of each name and its number gives, one after another, where the first name has this number
abbrev pub each_in_order : {A : Type 0} → (ℕ → List ℕ → Result A Refusal) → ℕ → List (List ℕ) → Result (List A) Refusal
each_in_order read number [] = Ok []
each_in_order read number (name ∷ names) =
    and_then (read number name) (λ x.
    and_then (each_in_order read (number + 1) names) (λ xs.
    Ok (x ∷ xs)))

-- one input after another
abbrev pub inputs_at : Contents → List (List ℕ) → Result (List (List ℕ)) Refusal
inputs_at file names = each_in_order (λ number name. file_at file name) 1 names

-- one of several queries, which has this number
abbrev pub numbered_query_at : Contents → ℕ → List ℕ → Result Query Refusal
numbered_query_at file number name = and_then (file_at file name) (numbered_query_in number)

-- one query after another, counted from 1
abbrev pub queries_at : Contents → List (List ℕ) → Result (List Query) Refusal
queries_at file names = each_in_order (numbered_query_at file) 1 names
