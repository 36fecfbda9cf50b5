-- The record at the front by its tag.
use Rattle.std.proofs.Common.{◌≡◌, ℕ, ◌+◌, ◌-◌, ◌^◌, ◌<◌, ◌≤◌, List, length, false, ℤ, to_z, of_z, SFits, refl, sym, ap, subst, ◌∙◌, rules, arith}
use Rattle.std.specs.Int.{w32, cast_signed}
use Rattle.std.proofs.lemmas.Int.{ints, to_z-of_z}
use Rattle.std.proofs.lemmas.List.{length-drop}
use Rattle.lists.specs.Fields.{word_at}
use Rattle.log_model.specs.declared.Version.{Version}
use Rattle.log_model.specs.declared.Version.TheVariants.{One, Two}
use Rattle.log_model.specs.declared.CallRecord.TheVariants.{Read}
use Rattle.log_model.specs.declared.Item.TheVariants.{Call}
use Rattle.log_model.specs.Faults.{tag_of, step_length, fields_of, fields_length, are_bytes_wrong}
use Rattle.log_model.specs.Reading.{arguments_of, result_of, data_of, read_bytes, item_of}
use Rattle.log_model.proofs.Faults.{no_fault}
use Rattle.replay_log.specs.declared.tags.Tag.{Tag}
use Rattle.replay_log.specs.declared.tags.Tag.TheVariants.{Read as IsRead}
use Rattle.replay_log.specs.declared.record_parts.RecordParts.{RecordParts}
use Rattle.replay_log.specs.Tags.{number}
use Rattle.replay_log.specs.Records.{ArePartsOf, bytes_read}

bytes_are : (v : Version) (left : List (List ℕ)) (rest : List ℕ) → bytes_read v left (fields_of v rest) (data_of v 1 rest) ≡ read_bytes v left rest
bytes_are One left rest = refl
bytes_are Two left rest = refl

module _ {v : Version} {least : ℕ} {left : List (List ℕ)} {rest : List ℕ} {parts : RecordParts} (is : ArePartsOf v least left rest parts) where
  -- the tag of a record of this kind
  pub tagged : {tag : Tag} → parts.tag ≡ tag → tag_of rest ≡ number tag
  tagged e = sym is.tag ∙ ap number e

  -- the fields of such a record are all there
  pub are_there : fields_length (number parts.tag) ≤ length parts.fields.now
  are_there =
      by (step_length v) (fields_length (number parts.tag)) (length rest) (length parts.fields.now) (rw is.tag is.fixed)
      (ap length is.fields ∙ length-drop (1 + step_length v) rest)
    where
      by : (step fixed whole long : ℕ) → 1 + step + fixed ≤ whole → long ≡ whole - (1 + step) → fixed ≤ long
      by step fixed whole long b c = omega arith

  -- a read takes no more than is left on its channel
  pub is_left : parts.tag ≡ IsRead → are_bytes_wrong v 1 left parts.fields.now ≡ false
  is_left e = rw is.fields (subst (λ (k : ℕ). are_bytes_wrong v k left (fields_of v rest) ≡ false) (tagged e) (no_fault v least left rest is.none).bytes)

  -- what a read says
  pub read_is : (bytes : List ℕ) → parts.tag ≡ IsRead → bytes ≡ bytes_read v left parts.fields.now parts.bytes.now → Call (Read parts.at (arguments_of parts.fields.now) (result_of parts.fields.now) bytes) ≡ item_of v left rest
  read_is bytes e f = rw (f, is.bytes, tagged e, is.at, is.fields, bytes_are v left rest) refl

-- the signed number of a word, as code has it
pub cast_is : (fields : List ℕ) (r : ℤ) (n : ℕ) → n < 2 ^ 32 → r ≡ cast_signed w32 n → n ≡ word_at fields 12 → to_z w32 (of_z w32 r) ≡ result_of fields
cast_is fields r n below e f =
    let range : SFits w32 (cast_signed w32 n) = search (rules, ints) in
    rw e (to_z-of_z w32 (cast_signed w32 n) range ∙ ap (cast_signed w32) f)
