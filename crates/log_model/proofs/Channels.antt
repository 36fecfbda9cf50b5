-- Channels read one after another: those whose texts the bytes are, or the first that isn't whole. Crates above cite
-- these lemmas.
use Rattle.std.proofs.Common.{◌≡◌, ℕ, zero, suc, ◌+◌, ◌^◌, ◌<◌, ◌≤◌, Bool, true, false, List, [], ◌∷◌, ◌++◌, length, take, drop, Result, Ok, Err, refl, sym, ap, ap₂, subst, ◌∙◌, append_assoc, arith}
use Rattle.std.specs.Prelude.{if◌then◌else◌}
use Rattle.std.specs.List.{flat_map, AllByRecursion}
use Rattle.std.proofs.lemmas.Bool.{le-ltb, ltb-false}
use Rattle.std.proofs.lemmas.List.{take_at, drop_at, take-append-drop, drop-drop, length-append, length-take, length-drop}
use Rattle.std.proofs.lemmas.Nat.{from_le_bytes-to_le_bytes_4}
use Rattle.lists.specs.Fields.{word_at}
use Rattle.log_model.specs.declared.LogKind.{LogKind}
use Rattle.log_model.specs.declared.LogKind.TheVariants.{Header}
use Rattle.log_model.specs.Logs.{IsBytes, word32, channel_text}
use Rattle.log_model.specs.Faults.{channel_length, is_channel_cut}
use Rattle.log_model.specs.Reading.{Channels, map_ok, with_channel, channels_of}
use Rattle.log_model.proofs.Words.{IsBytes-drop, word_spelt, word_below}

abbrev pub AreCounted : List (List ℕ) → Type 0
AreCounted channels = AllByRecursion (λ c. length c < 2 ^ 32) channels

-- ---- the channel at the front

abbrev front_read : (count offset : ℕ) → List ℕ → Bool → Result Channels (LogKind × ℕ)
front_read count offset rest cut =
    if cut then Err (Header, offset) else
    map_ok (with_channel (take (word_at rest 0) (drop 4 rest))) (channels_of count (offset + channel_length rest) (drop (channel_length rest) rest))

channels_of-front : (count offset : ℕ) (rest : List ℕ) (cut : Bool) → is_channel_cut rest ≡ cut → channels_of (suc count) offset rest ≡ front_read count offset rest cut
unfolding channels_of
channels_of-front count offset rest cut e = ap (front_read count offset rest) e

pub channels_of-none : (offset : ℕ) (rest : List ℕ) → channels_of zero offset rest ≡ Ok ([], rest)
unfolding channels_of
channels_of-none offset rest = refl

pub channels_of-cut : (count offset : ℕ) (rest : List ℕ) → is_channel_cut rest ≡ true → channels_of (suc count) offset rest ≡ Err (Header, offset)
channels_of-cut count offset rest e = channels_of-front count offset rest true e

pub channels_of-more : (count offset : ℕ) (rest : List ℕ) → is_channel_cut rest ≡ false
    → channels_of (suc count) offset rest ≡ map_ok (with_channel (take (word_at rest 0) (drop 4 rest))) (channels_of count (offset + channel_length rest) (drop (channel_length rest) rest))
channels_of-more count offset rest e = channels_of-front count offset rest false e

-- ---- channels by their texts

-- the text of a channel, whatever follows it
record IsChannelAgain (text channel after : List ℕ) : Type 0 where
  here : is_channel_cut text ≡ false
  same : take (word_at text 0) (drop 4 text) ≡ channel
  size : channel_length text ≡ 4 + length channel
  rest : drop (channel_length text) text ≡ after

channel_again : (channel after : List ℕ) → length channel < 2 ^ 32 → IsChannelAgain (channel_text channel ++ after) channel after
channel_again channel after h =
    let text = channel_text channel ++ after in
    let n : word_at text 0 ≡ length channel = from_le_bytes-to_le_bytes_4 (length channel) h in
    let sum = length-append channel after in
    record {
      here = rw n (le-ltb (length text) (4 + length channel) (omega (arith, sum)));
      same = rw n (take_at channel after (length channel) refl);
      size = ap (λ (k : ℕ). 4 + k) n;
      rest = ap (λ (k : ℕ). drop (4 + k) text) n ∙ drop_at (channel_text channel) after (4 + length channel) (omega arith);
    }

abbrev pub joined : List (List ℕ) → Channels → Channels
joined channels read = (channels ++ read.0, read.1)

joined-cons : (channel : List ℕ) (channels : List (List ℕ)) (r : Result Channels (LogKind × ℕ)) → map_ok (with_channel channel) (map_ok (joined channels) r) ≡ map_ok (joined (channel ∷ channels)) r
joined-cons channel channels (Ok read) = refl
joined-cons channel channels (Err fault) = refl

joined-nil : (r : Result Channels (LogKind × ℕ)) → map_ok (joined []) r ≡ r
joined-nil (Ok read) = refl
joined-nil (Err fault) = refl

-- these channels are read, and then the others
pub channels_read : (count offset : ℕ) (channels : List (List ℕ)) (after : List ℕ) → AreCounted channels
    → channels_of (length channels + count) offset (flat_map channel_text channels ++ after) ≡ map_ok (joined channels) (channels_of count (offset + length (flat_map channel_text channels)) after)
channels_read count offset [] after are =
    let here : offset ≡ offset + 0 = omega arith in
    let none : 0 + count ≡ count = omega arith in
    ap₂ (λ (n k : ℕ). channels_of n k after) none here ∙ sym (joined-nil (channels_of count (offset + 0) after))
channels_read count offset (channel ∷ channels) after are =
    let more = flat_map channel_text channels in
    let text = channel_text channel ++ (more ++ after) in
    let again = channel_again channel (more ++ after) are.0 in
    let fuel : length (channel ∷ channels) + count ≡ suc (length channels + count) = omega arith in
    let next : offset + channel_length text ≡ offset + length (channel_text channel) = omega (arith, again.size) in
    let size : offset + length (channel_text channel) + length more ≡ offset + length (channel_text channel ++ more) = omega (arith, length-append (channel_text channel) more) in
    ap₂ (λ (n : ℕ) (x : List ℕ). channels_of n offset x) fuel (append_assoc (channel_text channel) more after)
    ∙ channels_of-more (length channels + count) offset text again.here
    ∙ rw (again.same, again.rest, next)
    (ap (map_ok (with_channel channel)) (channels_read count (offset + length (channel_text channel)) channels after are.1)
    ∙ joined-cons channel channels (channels_of count (offset + length (channel_text channel) + length more) after)
    ∙ ap (λ (n : ℕ). map_ok (joined (channel ∷ channels)) (channels_of count n after)) size)

-- ---- what is read

-- these channels are so many, and the bytes are their texts and what follows
pub record AreWhole (count : ℕ) (bytes : List ℕ) (channels : List (List ℕ)) (after : List ℕ) : Type 0 where
  pub as_many : length channels ≡ count
  pub counted : AreCounted channels
  pub text : bytes ≡ flat_map channel_text channels ++ after

-- after fewer channels what follows is none, at this offset of bytes up to an end
pub record IsCut (count : ℕ) (bytes : List ℕ) (kind : LogKind) (offset end : ℕ) : Type 0 where
  pub channels : List (List ℕ)
  pub rest : List ℕ
  pub fewer : length channels < count
  pub counted : AreCounted channels
  pub text : bytes ≡ flat_map channel_text channels ++ rest
  pub cut : is_channel_cut rest ≡ true
  pub is_header : kind ≡ Header
  pub place : offset + length rest ≡ end

abbrev pub AreSound : ℕ → List ℕ → ℕ → Result Channels (LogKind × ℕ) → Type 0
AreSound count bytes end (Ok read) = AreWhole count bytes read.0 read.1
AreSound count bytes end (Err fault) = IsCut count bytes fault.0 fault.1 end

-- a channel at the front
record IsFirstChannel (rest channel after : List ℕ) : Type 0 where
  counted : length channel < 2 ^ 32
  text : rest ≡ channel_text channel ++ after

first_channel : (rest : List ℕ) → IsBytes rest → is_channel_cut rest ≡ false → IsFirstChannel rest (take (word_at rest 0) (drop 4 rest)) (drop (channel_length rest) rest)
first_channel rest fits here =
    let whole : channel_length rest ≤ length rest = ltb-false (length rest) (channel_length rest) here in
    let channel = take (word_at rest 0) (drop 4 rest) in
    let after = drop (channel_length rest) rest in
    let below = word_below rest 0 fits in
    let size : length channel ≡ word_at rest 0 = omega (arith, whole, length-take (word_at rest 0) (drop 4 rest), length-drop 4 rest) in
    let tail : drop 4 rest ≡ channel ++ after = sym (take-append-drop (word_at rest 0) (drop 4 rest)) ∙ ap (λ (x : List ℕ). channel ++ x) (drop-drop (word_at rest 0) 4 rest) in
    record {
      counted = omega (arith, size, below);
      text = word_spelt rest 0 fits (omega (arith, whole)) ∙ ap₂ (λ (n : ℕ) (x : List ℕ). word32 n ++ x) (sym size) tail;
    }

sound_with : (count end : ℕ) (rest channel after : List ℕ) (r : Result Channels (LogKind × ℕ)) → IsFirstChannel rest channel after → AreSound count after end r → AreSound (suc count) rest end (map_ok (with_channel channel) r)
sound_with count end rest channel after (Ok read) first are = record {
  as_many = omega (arith, are.as_many);
  counted = (first.counted, are.counted);
  text = first.text ∙ ap (λ (x : List ℕ). channel_text channel ++ x) are.text ∙ sym (append_assoc (channel_text channel) (flat_map channel_text read.0) read.1);
}
sound_with count end rest channel after (Err fault) first is = record {
  channels = channel ∷ is.channels;
  rest = is.rest;
  fewer = omega (arith, is.fewer);
  counted = (first.counted, is.counted);
  text = first.text ∙ ap (λ (x : List ℕ). channel_text channel ++ x) is.text ∙ sym (append_assoc (channel_text channel) (flat_map channel_text is.channels) is.rest);
  cut = is.cut;
  is_header = is.is_header;
  place = is.place;
}

abbrev SoundAfter : ℕ → ℕ → Type 0
SoundAfter count end = (offset : ℕ) (rest : List ℕ) → IsBytes rest → offset + length rest ≡ end → AreSound count rest end (channels_of count offset rest)

sound_front : (count end offset : ℕ) (rest : List ℕ) → IsBytes rest → offset + length rest ≡ end → SoundAfter count end → (cut : Bool) → is_channel_cut rest ≡ cut → AreSound (suc count) rest end (channels_of (suc count) offset rest)
sound_front count end offset rest fits e more true cut =
    subst (AreSound (suc count) rest end) (sym (channels_of-cut count offset rest cut))
    record { channels = []; rest = rest; fewer = omega arith; counted = tt; text = refl; cut = cut; is_header = refl; place = e }
sound_front count end offset rest fits e more false here =
    let size = channel_length rest in
    let after = drop size rest in
    let whole : size ≤ length rest = ltb-false (length rest) size here in
    let place : offset + size + length after ≡ end = omega (arith, e, whole, length-drop size rest) in
    subst (AreSound (suc count) rest end) (sym (channels_of-more count offset rest here))
    (sound_with count end rest _ after (channels_of count (offset + size) after) (first_channel rest fits here) (more (offset + size) after (IsBytes-drop size rest fits) place))

pub channels_sound : (count end offset : ℕ) (rest : List ℕ) → IsBytes rest → offset + length rest ≡ end → AreSound count rest end (channels_of count offset rest)
channels_sound zero end offset rest fits e =
    subst (AreSound zero rest end) (sym (channels_of-none offset rest)) record { as_many = refl; counted = tt; text = refl }
channels_sound (suc count) end offset rest fits e = sound_front count end offset rest fits e (channels_sound count end) (is_channel_cut rest) refl
