-- What files come to. Crates above cite these lemmas.
use Rattle.std.proofs.Common.{◌≡◌, ◌∙◌, ap, ap₂, refl, subst, arith, ℕ, suc, ◌+◌, ◌≤◌, ◌<◌, ◌^◌, List, [], ◌∷◌, ◌++◌, Bool, length, map, Option, Some, Result, Ok, Err}
use Rattle.std.specs.Prelude.{if◌then◌else◌}
use Rattle.std.specs.Option.{ok_or}
use Rattle.std.proofs.lemmas.Bool.{le-ltb, lt-ltb}
use Rattle.elf_model.specs.declared.ImageKind.{ImageKind}
use Rattle.elf_model.specs.Image.{Image, image}
use Rattle.log_model.specs.declared.LogKind.{LogKind}
use Rattle.log_model.specs.Logs.{Log, IsLog, IsTextOf}
use Rattle.log_model.specs.Reading.{log_of}
use Rattle.report_model.specs.declared.QueryKind.{QueryKind}
use Rattle.report_model.specs.Query.{Query}
use Rattle.report_model.specs.Grammar.{query}
use Rattle.jet_refusal.specs.declared.refusal.Refusal.{Refusal}
use Rattle.jet_refusal.specs.declared.refusal.Refusal.TheVariants as refusal
use Rattle.jet_model.specs.Outcomes.{and_then, or_refused}
use Rattle.jet_model.specs.Contents.{Contents, Program, Run, within_limit, if_bytes, program_in, log_in, query_in, numbered_query_in, file_at, program_at, log_at, query_at, run_at, each_in_order, inputs_at, numbered_query_at, queries_at}
use Rattle.jet_model.specs.Headline.{IsShort, AreAllShort}
use Rattle.jet_model.proofs.Bytes.{AreBytes, if_bytes-are, if_bytes-is_ok, text-bytes}
use Rattle.log_model.proofs.Reading.{reads_log}
use Rattle.log_model.proofs.Soundness.{log_read}
use Rattle.jet_model.proofs.AndThen.{ok-one, and_then-ok, and_then-err, and_then-is_ok, or_refused-ok, or_refused-err, or_refused-is_ok, ok_or-is_ok, within-is_ok}

-- ---- one file

pub within_limit-short : (bytes : List ℕ) → length bytes ≤ 2 ^ 26 → within_limit bytes ≡ Ok bytes
within_limit-short bytes short = ap (λ (b : Bool). if b then Err refusal.TooLong else Ok bytes) (le-ltb (2 ^ 26) (length bytes) short)

pub within_limit-long : (bytes : List ℕ) → 2 ^ 26 < length bytes → within_limit bytes ≡ Err refusal.TooLong
within_limit-long bytes long = ap (λ (b : Bool). if b then Err refusal.TooLong else Ok bytes) (lt-ltb (2 ^ 26) (length bytes) long)

-- a file that is there and short
pub file_at-there : (file : Contents) (name bytes : List ℕ) → file name ≡ Some bytes → length bytes ≤ 2 ^ 26 → file_at file name ≡ Ok bytes
file_at-there file name bytes e short = ap (λ (o : Option (List ℕ)). and_then (ok_or o refusal.ReadFault) within_limit) e ∙ within_limit-short bytes short

-- a file that is there and too long
pub file_at-long : (file : Contents) (name bytes : List ℕ) → file name ≡ Some bytes → 2 ^ 26 < length bytes → file_at file name ≡ Err refusal.TooLong
file_at-long file name bytes e long = ap (λ (o : Option (List ℕ)). and_then (ok_or o refusal.ReadFault) within_limit) e ∙ within_limit-long bytes long

pub file_at-is_ok : (file : Contents) (name bytes : List ℕ) → file_at file name ≡ Ok bytes → file name ≡ Some bytes
file_at-is_ok file name bytes h =
    let t = and_then-is_ok (ok_or (file name) refusal.ReadFault) within_limit bytes h in
    ok_or-is_ok (file name) refusal.ReadFault t.0 t.1 ∙ ap Some (within-is_ok (2 ^ 26) (length t.0) refusal.TooLong t.0 bytes t.2).0

short_there : (file : Contents) (name bytes : List ℕ) → file name ≡ Some bytes → IsShort (file name) → file_at file name ≡ Ok bytes
short_there file name bytes e short = file_at-there file name bytes e (subst IsShort e short)

-- ---- a program

abbrev program_next : List ℕ → Image → Result Program Refusal
program_next bytes im = Ok (record { bytes = bytes; image = im })

pub program_in-image : (bytes : List ℕ) (im : Image) → image bytes ≡ Ok im → program_in bytes ≡ Ok (record { bytes = bytes; image = im })
program_in-image bytes im e = and_then-ok (or_refused refusal.Image (image bytes)) (program_next bytes) im (or_refused-ok refusal.Image (image bytes) im e)

pub program_in-fault : (bytes : List ℕ) (fault : ImageKind) → image bytes ≡ Err fault → program_in bytes ≡ Err (refusal.Image fault)
program_in-fault bytes fault e = and_then-err (or_refused refusal.Image (image bytes)) (program_next bytes) (refusal.Image fault) (or_refused-err refusal.Image (image bytes) fault e)

pub program_at-there : (file : Contents) (name bytes : List ℕ) (im : Image) → file name ≡ Some bytes → IsShort (file name) → image bytes ≡ Ok im → program_at file name ≡ Ok (record { bytes = bytes; image = im })
program_at-there file name bytes im e short is_image =
    and_then-ok (file_at file name) program_in bytes (short_there file name bytes e short) ∙ program_in-image bytes im is_image

pub record IsProgramAt (file : Contents) (name : List ℕ) (p : Program) : Type 0 where
  pub there : file name ≡ Some p.bytes
  pub is_image : image p.bytes ≡ Ok p.image

pub program_at-is_ok : (file : Contents) (name : List ℕ) (p : Program) → program_at file name ≡ Ok p → IsProgramAt file name p
program_at-is_ok file name p h =
    let f = and_then-is_ok (file_at file name) program_in p h in
    let i = and_then-is_ok (or_refused refusal.Image (image f.0)) (program_next f.0) p f.2 in
    subst (IsProgramAt file name) (ok-one (program_next f.0 i.0) (record { bytes = f.0; image = i.0 }) p refl i.2)
    (record { there = file_at-is_ok file name f.0 f.1; is_image = or_refused-is_ok refusal.Image (image f.0) i.0 i.1 })

-- ---- a log

abbrev log_refusal : LogKind × ℕ → Refusal
log_refusal fault = refusal.Log fault.0 fault.1

abbrev log_next : List ℕ → Result Log Refusal
log_next bytes = or_refused log_refusal (log_of bytes)

-- bytes are read as `log_of` reads them
pub log_in-bytes : (bytes : List ℕ) → AreBytes bytes → log_in bytes ≡ or_refused log_refusal (log_of bytes)
log_in-bytes bytes h = and_then-ok (if_bytes bytes) log_next bytes (if_bytes-are bytes h)

pub log_in-log : (bytes : List ℕ) (log : Log) → AreBytes bytes → log_of bytes ≡ Ok log → log_in bytes ≡ Ok log
log_in-log bytes log h e = log_in-bytes bytes h ∙ or_refused-ok log_refusal (log_of bytes) log e

pub log_in-fault : (bytes : List ℕ) (kind : LogKind) (offset : ℕ) → AreBytes bytes → log_of bytes ≡ Err (kind, offset) → log_in bytes ≡ Err (refusal.Log kind offset)
log_in-fault bytes kind offset h e = log_in-bytes bytes h ∙ or_refused-err log_refusal (log_of bytes) (kind, offset) e

pub log_at-there : (file : Contents) (name bytes : List ℕ) (log : Log) → file name ≡ Some bytes → IsShort (file name) → IsLog log → IsTextOf log bytes → log_at file name ≡ Ok log
log_at-there file name bytes log e short is_log is_text =
    and_then-ok (file_at file name) log_in bytes (short_there file name bytes e short)
    ∙ log_in-log bytes log (text-bytes log bytes is_log is_text) (reads_log bytes log is_log is_text)

pub record IsLogAt (file : Contents) (name : List ℕ) (log : Log) : Type 0 where
  pub bytes : List ℕ
  pub there : file name ≡ Some bytes
  pub is_log : IsLog log
  pub is_text : IsTextOf log bytes

pub log_at-is_ok : (file : Contents) (name : List ℕ) (log : Log) → log_at file name ≡ Ok log → IsLogAt file name log
log_at-is_ok file name log h =
    let f = and_then-is_ok (file_at file name) log_in log h in
    let b = and_then-is_ok (if_bytes f.0) log_next log f.2 in
    let bytes = if_bytes-is_ok f.0 b.0 b.1 in
    let read = log_read b.0 log bytes.0 (or_refused-is_ok log_refusal (log_of b.0) log b.2) in
    record { bytes = b.0; there = file_at-is_ok file name f.0 f.1 ∙ ap Some bytes.1; is_log = read.0; is_text = read.1 }

-- ---- a query

abbrev query_refusal : ℕ × QueryKind → Refusal
query_refusal fault = refusal.Query fault.0 fault.1

pub query_in-query : (bytes : List ℕ) (q : Query) → query bytes ≡ Ok q → query_in bytes ≡ Ok q
query_in-query bytes q e = or_refused-ok query_refusal (query bytes) q e

pub query_in-fault : (bytes : List ℕ) (line : ℕ) (kind : QueryKind) → query bytes ≡ Err (line, kind) → query_in bytes ≡ Err (refusal.Query line kind)
query_in-fault bytes line kind e = or_refused-err query_refusal (query bytes) (line, kind) e

abbrev pub numbered_refusal : ℕ → ℕ × QueryKind → Refusal
numbered_refusal number fault = refusal.QueryOf number fault.0 fault.1

pub numbered_query_in-query : (number : ℕ) (bytes : List ℕ) (q : Query) → query bytes ≡ Ok q → numbered_query_in number bytes ≡ Ok q
numbered_query_in-query number bytes q e = or_refused-ok (numbered_refusal number) (query bytes) q e

pub numbered_query_in-fault : (number : ℕ) (bytes : List ℕ) (line : ℕ) (kind : QueryKind) → query bytes ≡ Err (line, kind) → numbered_query_in number bytes ≡ Err (refusal.QueryOf number line kind)
numbered_query_in-fault number bytes line kind e = or_refused-err (numbered_refusal number) (query bytes) (line, kind) e

pub query_at-there : (file : Contents) (name bytes : List ℕ) (q : Query) → file name ≡ Some bytes → IsShort (file name) → query bytes ≡ Ok q → query_at file name ≡ Ok q
query_at-there file name bytes q e short is_query =
    and_then-ok (file_at file name) query_in bytes (short_there file name bytes e short) ∙ query_in-query bytes q is_query

pub query_at-is_ok : (file : Contents) (name : List ℕ) (q : Query) → query_at file name ≡ Ok q → (bytes : List ℕ) × (file name ≡ Some bytes) × (query bytes ≡ Ok q)
query_at-is_ok file name q h =
    let f = and_then-is_ok (file_at file name) query_in q h in
    (f.0, file_at-is_ok file name f.0 f.1, or_refused-is_ok query_refusal (query f.0) q f.2)

-- ---- a run

pub run_at-there : (file : Contents) (program_name log_name : List ℕ) (p : Program) (log : Log) → program_at file program_name ≡ Ok p → log_at file log_name ≡ Ok log
    → run_at file program_name log_name ≡ Ok (record { program = p; log = log })
run_at-there file program_name log_name p log is_program is_log =
    and_then-ok (program_at file program_name) (λ x. and_then (log_at file log_name) (λ l. Ok (record { program = x; log = l }))) p is_program
    ∙ and_then-ok (log_at file log_name) (λ l. Ok (record { program = p; log = l })) log is_log

pub record IsRunAt (file : Contents) (program_name log_name : List ℕ) (run : Run) : Type 0 where
  pub program : program_at file program_name ≡ Ok run.program
  pub log : log_at file log_name ≡ Ok run.log

pub run_at-is_ok : (file : Contents) (program_name log_name : List ℕ) (run : Run) → run_at file program_name log_name ≡ Ok run → IsRunAt file program_name log_name run
run_at-is_ok file program_name log_name run h =
    let p = and_then-is_ok (program_at file program_name) (λ x. and_then (log_at file log_name) (λ l. Ok (record { program = x; log = l }))) run h in
    let l = and_then-is_ok (log_at file log_name) (λ l. Ok (record { program = p.0; log = l })) run p.2 in
    subst (IsRunAt file program_name log_name) (ok-one _ (record { program = p.0; log = l.0 }) run refl l.2) (record { program = p.1; log = l.1 })

-- ---- several files

abbrev some_bytes : List ℕ → Option (List ℕ)
some_bytes bytes = Some bytes

abbrev ok_query : Query → Result Query (ℕ × QueryKind)
ok_query q = Ok q

first_is : {X : Type 0} (c : X) (cs ds : List X) (d : X) → (c ∷ cs) ≡ (d ∷ ds) → (c ≡ d) × (cs ≡ ds)
first_is c cs ds d e = (cc, cc)

module _ {A : Type 0} where
  abbrev ok_list : List A → Result (List A) Refusal
  ok_list xs = Ok xs

  same_list : (a b : List A) → ok_list a ≡ Ok b → a ≡ b
  same_list a b h = cc

  -- the results of two lists are those of one
  abbrev joined : Result (List A) Refusal → Result (List A) Refusal → Result (List A) Refusal
  joined p q = and_then p (λ front. and_then q (λ rest. ok_list (front ++ rest)))

  joined-cons : (p q : Result (List A) Refusal) (x : A) → and_then (joined p q) (λ xs. ok_list (x ∷ xs)) ≡ joined (and_then p (λ xs. ok_list (x ∷ xs))) q
  joined-cons (Ok front) (Ok rest) x = refl
  joined-cons p q x = refl

  joined-nil : (q : Result (List A) Refusal) → q ≡ joined (Ok []) q
  joined-nil (Ok rest) = refl
  joined-nil (Err r) = refl

  joined-first : (f : Result A Refusal) (p q w : Result (List A) Refusal) → w ≡ joined p q
      → and_then f (λ x. and_then w (λ xs. ok_list (x ∷ xs))) ≡ joined (and_then f (λ x. and_then p (λ xs. ok_list (x ∷ xs)))) q
  joined-first (Ok x) p q w e = ap (λ (y : Result (List A) Refusal). and_then y (λ xs. ok_list (x ∷ xs))) e ∙ joined-cons p q x
  joined-first (Err r) p q w e = refl

  module _ (read : ℕ → List ℕ → Result A Refusal) where
    each-append : (n : ℕ) (front rest : List (List ℕ)) → each_in_order read n (front ++ rest) ≡ joined (each_in_order read n front) (each_in_order read (n + length front) rest)
    each-append n [] rest =
        let here : n ≡ n + 0 = omega arith in
        joined-nil (each_in_order read n rest) ∙ ap (λ (k : ℕ). joined (Ok []) (each_in_order read k rest)) here
    each-append n (name ∷ front) rest =
        let m = length front in
        let there : n + 1 + m ≡ n + suc m = omega arith in
        joined-first (read n name) (each_in_order read (n + 1) front) (each_in_order read (n + suc m) rest) (each_in_order read (n + 1) (front ++ rest))
        (each-append (n + 1) front rest ∙ ap (λ (k : ℕ). joined (each_in_order read (n + 1) front) (each_in_order read k rest)) there)

    -- one more
    pub each-push : (n : ℕ) (front : List (List ℕ)) (name : List ℕ) (xs : List A) (x : A) → each_in_order read n front ≡ Ok xs → read (n + length front) name ≡ Ok x
        → each_in_order read n (front ++ name ∷ []) ≡ Ok (xs ++ x ∷ [])
    each-push n front name xs x e f =
        each-append n front (name ∷ []) ∙ ap₂ joined e (ap (λ (r : Result A Refusal). and_then r (λ y. ok_list (y ∷ []))) f)

    -- the first that is refused
    pub each-stops : (n : ℕ) (front : List (List ℕ)) (name : List ℕ) (rest : List (List ℕ)) (xs : List A) (r : Refusal) → each_in_order read n front ≡ Ok xs → read (n + length front) name ≡ Err r
        → each_in_order read n (front ++ name ∷ rest) ≡ Err r
    each-stops n front name rest xs r e f =
        each-append n front (name ∷ rest)
        ∙ ap₂ joined e (ap (λ (y : Result A Refusal). and_then y (λ x. and_then (each_in_order read (n + length front + 1) rest) (λ more. ok_list (x ∷ more)))) f)

module _ (file : Contents) where
  abbrev read_input : ℕ → List ℕ → Result (List ℕ) Refusal
  read_input number name = file_at file name

  inputs-there : (n : ℕ) (names inputs : List (List ℕ)) → map file names ≡ map some_bytes inputs → AreAllShort file names → each_in_order read_input n names ≡ Ok inputs
  inputs-there n [] [] e short = refl
  inputs-there n (name ∷ names) (c ∷ cs) e short =
      let p = first_is (file name) (map file names) (map some_bytes cs) (Some c) e in
      and_then-ok (file_at file name) (λ input. and_then (each_in_order read_input (n + 1) names) (λ inputs. Ok (input ∷ inputs))) c (short_there file name c p.0 short.0)
      ∙ and_then-ok (each_in_order read_input (n + 1) names) (λ inputs. Ok (c ∷ inputs)) cs (inputs-there (n + 1) names cs p.1 short.1)
  inputs-there n names inputs e short = cc

  inputs-is_ok : (n : ℕ) (names inputs : List (List ℕ)) → each_in_order read_input n names ≡ Ok inputs → map file names ≡ map some_bytes inputs
  inputs-is_ok n [] inputs h = ap (map some_bytes) (same_list [] inputs h)
  inputs-is_ok n (name ∷ names) inputs h =
      let f = and_then-is_ok (file_at file name) (λ input. and_then (each_in_order read_input (n + 1) names) (λ inputs. Ok (input ∷ inputs))) inputs h in
      let r = and_then-is_ok (each_in_order read_input (n + 1) names) (λ inputs. Ok (f.0 ∷ inputs)) inputs f.2 in
      ap₂ (λ (c : Option (List ℕ)) (cs : List (Option (List ℕ))). c ∷ cs) (file_at-is_ok file name f.0 f.1) (inputs-is_ok (n + 1) names r.0 r.1)
      ∙ ap (map some_bytes) (same_list (f.0 ∷ r.0) inputs r.2)

  pub inputs_at-there : (names inputs : List (List ℕ)) → map file names ≡ map some_bytes inputs → AreAllShort file names → inputs_at file names ≡ Ok inputs
  inputs_at-there names inputs e short = inputs-there 1 names inputs e short

  pub inputs_at-is_ok : (names inputs : List (List ℕ)) → inputs_at file names ≡ Ok inputs → map file names ≡ map some_bytes inputs
  inputs_at-is_ok names inputs h = inputs-is_ok 1 names inputs h

  -- the texts of several queries are these, and the queries that they stand for
  pub record AreQueriesAt (names texts : List (List ℕ)) (qs : List Query) : Type 0 where
    pub there : map file names ≡ map some_bytes texts
    pub are_queries : map query texts ≡ map ok_query qs

  numbered-there : (n : ℕ) (name bytes : List ℕ) (q : Query) → file name ≡ Some bytes → IsShort (file name) → query bytes ≡ Ok q → numbered_query_at file n name ≡ Ok q
  numbered-there n name bytes q e short is_query =
      and_then-ok (file_at file name) (numbered_query_in n) bytes (short_there file name bytes e short) ∙ numbered_query_in-query n bytes q is_query

  queries-there : (n : ℕ) (names texts : List (List ℕ)) (qs : List Query) → AreQueriesAt names texts qs → AreAllShort file names → each_in_order (numbered_query_at file) n names ≡ Ok qs
  queries-there n [] [] [] are short = refl
  queries-there n (name ∷ names) (t ∷ ts) (q ∷ qs) are short =
      let p = first_is (file name) (map file names) (map some_bytes ts) (Some t) are.there in
      let i = first_is (query t) (map query ts) (map ok_query qs) (Ok q) are.are_queries in
      and_then-ok (numbered_query_at file n name) (λ x. and_then (each_in_order (numbered_query_at file) (n + 1) names) (λ xs. Ok (x ∷ xs))) q (numbered-there n name t q p.0 short.0 i.0)
      ∙ and_then-ok (each_in_order (numbered_query_at file) (n + 1) names) (λ xs. Ok (q ∷ xs)) qs (queries-there (n + 1) names ts qs (record { there = p.1; are_queries = i.1 }) short.1)
  queries-there n names texts qs are short = let e = are.there in let f = are.are_queries in cc

  pub queries_at-there : (names texts : List (List ℕ)) (qs : List Query) → AreQueriesAt names texts qs → AreAllShort file names → queries_at file names ≡ Ok qs
  queries_at-there names texts qs are short = queries-there 1 names texts qs are short

  numbered-is_ok : (n : ℕ) (name : List ℕ) (q : Query) → numbered_query_at file n name ≡ Ok q → (bytes : List ℕ) × (file name ≡ Some bytes) × (query bytes ≡ Ok q)
  numbered-is_ok n name q h =
      let f = and_then-is_ok (file_at file name) (numbered_query_in n) q h in
      (f.0, file_at-is_ok file name f.0 f.1, or_refused-is_ok (numbered_refusal n) (query f.0) q f.2)

  queries-is_ok : (n : ℕ) (names : List (List ℕ)) (qs : List Query) → each_in_order (numbered_query_at file) n names ≡ Ok qs → (texts : List (List ℕ)) × AreQueriesAt names texts qs
  queries-is_ok n [] qs h = ([], record { there = refl; are_queries = ap (map ok_query) (same_list [] qs h) })
  queries-is_ok n (name ∷ names) qs h =
      let f = and_then-is_ok (numbered_query_at file n name) (λ x. and_then (each_in_order (numbered_query_at file) (n + 1) names) (λ xs. Ok (x ∷ xs))) qs h in
      let r = and_then-is_ok (each_in_order (numbered_query_at file) (n + 1) names) (λ xs. Ok (f.0 ∷ xs)) qs f.2 in
      let first = numbered-is_ok n name f.0 f.1 in
      let rest = queries-is_ok (n + 1) names r.0 r.1 in (
        first.0 ∷ rest.0,
        record {
          there = ap₂ (λ (c : Option (List ℕ)) (cs : List (Option (List ℕ))). c ∷ cs) first.1 rest.1.there;
          are_queries = ap₂ (λ (c : Result Query (ℕ × QueryKind)) (cs : List (Result Query (ℕ × QueryKind))). c ∷ cs) first.2 rest.1.are_queries ∙ ap (map ok_query) (same_list (f.0 ∷ r.0) qs r.2);
        },
      )

  pub queries_at-is_ok : (names : List (List ℕ)) (qs : List Query) → queries_at file names ≡ Ok qs → (texts : List (List ℕ)) × AreQueriesAt names texts qs
  queries_at-is_ok names qs h = queries-is_ok 1 names qs h
