-- What a debugger hears of what is told.
use Rattle.std.proofs.Common.{◌≡◌, ℕ, Bool, true, false, if◌then◌else◌, List, [], ◌∷◌, ◌++◌, map, min, refl, ap, sym, ◌∙◌}
use Rattle.std.specs.Prelude.{codes}
use Rattle.std.specs.List.{All, list_all, flat_map, slice_split, onto_first}
use Rattle.std.proofs.lemmas.Bool.{true≢false, and_parts}
use Rattle.std.proofs.lemmas.List.{append_assoc, append-nil}
use Rattle.std.proofs.lemmas.List.Elements.{All-nil, All-cons, All-head, All-tail}
use Rattle.replayer.specs.Jobs.{Job}
use Rattle.log_model.specs.Logs.{steps}
use Rattle.remote_frames.specs.Reading.{IsPlain}
use Rattle.remote_frames.specs.Frames.{Heard, Packet, Bad, Again, frame, heard, heard_parts, outside, behind_dollar, is_dollar}
use Rattle.remote_frames.specs.FrameLaws.{IsPacket, IsHeard}
use Rattle.debug_model.specs.Sessions.{SessionAt}
use Rattle.debug_model.specs.Answers.{answer}
use Rattle.debug_model.specs.Dialogues.{told, next, told_all, begun_at, up_to_end}
use Rattle.debug_model.specs.FrameLaws.{stands_for_itself, IsWritten, replies, replies_all, DialogueIsHeard}
use Rattle.debug_model.proofs.Written.{IsHeld, written_answers, held_begun, held_next}

-- ---- packets that frames carry

plain_byte : (byte : ℕ) → stands_for_itself byte ≡ true → IsPlain byte
plain_byte byte h = record {
  no_dollar = λ same. true≢false (sym h ∙ ap stands_for_itself same);
  no_hash = λ same. true≢false (sym h ∙ ap stands_for_itself same);
}

plain_bytes : (bytes : List ℕ) → list_all stands_for_itself bytes ≡ true → All IsPlain bytes
plain_bytes [] h = All-nil IsPlain
plain_bytes (b ∷ bytes) h =
    let parts = and_parts (stands_for_itself b) (list_all stands_for_itself bytes) h in
    All-cons IsPlain b bytes (plain_byte b parts.0) (plain_bytes bytes parts.1)

carried : (packet : List ℕ) → IsWritten packet → IsPacket packet
carried packet is = record { plain = plain_bytes packet is.plain; short = is.short }

-- ---- what is heard piece by piece

byte_first : (byte : ℕ) (parts : List (List ℕ)) → heard_parts (onto_first byte parts) ≡ outside byte ++ heard_parts parts
byte_first byte [] = append-nil (outside byte ++ [])
byte_first byte (first ∷ parts) = append_assoc (outside byte) (flat_map outside first) (flat_map behind_dollar parts)

-- a byte before all others, which is no `$`
heard_byte : (byte : ℕ) (bytes : List ℕ) → is_dollar byte ≡ false → heard (byte ∷ bytes) ≡ outside byte ++ heard bytes
unfolding heard
heard_byte byte bytes other =
    ap (λ (b : Bool). heard_parts (if b then [] ∷ slice_split is_dollar bytes else onto_first byte (slice_split is_dollar bytes))) other
    ∙ byte_first byte (slice_split is_dollar bytes)

heard_frames : IsHeard → (packets : List (List ℕ)) (bytes : List ℕ) → All IsWritten packets
    → heard (flat_map frame packets ++ bytes) ≡ map Packet packets ++ heard bytes
unfolding heard
heard_frames hears [] bytes each = refl
heard_frames hears (packet ∷ packets) bytes each =
    ap heard (append_assoc (frame packet) (flat_map frame packets) bytes)
    ∙ hears [] packet (flat_map frame packets ++ bytes) (carried packet (All-head IsWritten packet packets each))
    ∙ ap (λ (hs : List Heard). Packet packet ∷ hs) (heard_frames hears packets bytes (All-tail IsWritten packet packets each))

heard_ack : IsHeard → (packets : List (List ℕ)) (bytes : List ℕ) (b : Bool) → All IsWritten packets
    → heard (((if b then codes "+" else []) ++ flat_map frame packets) ++ bytes) ≡ map Packet packets ++ heard bytes
heard_ack hears packets bytes true each =
    heard_byte 0x2b (flat_map frame packets ++ bytes) refl ∙ heard_frames hears packets bytes each
heard_ack hears packets bytes false each = heard_frames hears packets bytes each

heard_bad : (bytes : List ℕ) (b : Bool)
    → heard ((if b then codes "-" else []) ++ bytes) ≡ (if b then Again ∷ [] else []) ++ heard bytes
heard_bad bytes true = heard_byte 0x2d bytes refl
heard_bad bytes false = refl

heard_again : IsHeard → (last : List ℕ) (packets : List (List ℕ)) (bytes : List ℕ) (b : Bool) → All IsWritten packets
    → last ≡ flat_map frame packets
    → heard ((if b then last else []) ++ bytes) ≡ (if b then heard last else []) ++ heard bytes
unfolding heard
heard_again hears last packets bytes true each is =
    let alone : heard (flat_map frame packets) ≡ map Packet packets =
    ap heard (sym (append-nil (flat_map frame packets))) ∙ heard_frames hears packets [] each ∙ nothing in
    rw is (heard_frames hears packets bytes each ∙ ap (λ (hs : List Heard). hs ++ heard bytes) (sym alone))
  where
    nothing : map Packet packets ++ heard [] ≡ map Packet packets
    nothing = append-nil (map Packet packets)
heard_again hears last packets bytes false each is = refl

heard_told : IsHeard → (job : Job) (s : SessionAt) (h : Heard) (bytes : List ℕ) → IsHeld s
    → heard (told job s h ++ bytes) ≡ replies job s h ++ heard bytes
heard_told hears job s (Packet packet) bytes held =
    heard_ack hears (answer job s packet) bytes s.acknowledged (written_answers job s packet held)
heard_told hears job s Bad bytes held = heard_bad bytes s.acknowledged
heard_told hears job s Again bytes held = heard_again hears s.last held.packets bytes s.acknowledged held.written held.last

heard_all : IsHeard → (job : Job) (s : SessionAt) (hs : List Heard) → IsHeld s
    → heard (told_all job s hs) ≡ replies_all job s hs
unfolding heard
heard_all hears job s [] held = refl
heard_all hears job s (h ∷ hs) held =
    heard_told hears job s h (told_all job (next job s h) hs) held
    ∙ ap (λ (rest : List Heard). replies job s h ++ rest) (heard_all hears job (next job s h) hs (held_next job s h held))

pub dialogue_is_heard : IsHeard → DialogueIsHeard
dialogue_is_heard hears job t bytes =
    heard_all hears job (begun_at job t) (up_to_end (heard bytes)) (held_begun (min t (steps job.log)))
