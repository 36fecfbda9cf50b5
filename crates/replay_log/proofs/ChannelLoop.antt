-- Channels read one after another: one more, the last, and one that isn't whole.
use Rattle.std.proofs.Common.{◌≡◌, ℕ, zero, suc, ◌+◌, ◌-◌, ◌<◌, ◌≤◌, true, List, [], ◌∷◌, ◌++◌, length, take, drop, Result, Ok, Err, refl, sym, ap, ap₂, ◌∙◌, append_assoc, arith}
use Rattle.std.proofs.lemmas.Bool.{ltb-false}
use Rattle.std.proofs.lemmas.List.{append-nil, length-drop, take_rest}
use Rattle.lists.specs.Fields.{word_at}
use Rattle.log_model.specs.declared.Version.{Version}
use Rattle.log_model.specs.declared.Version.TheVariants.{One, Two}
use Rattle.log_model.specs.declared.LogKind.{LogKind}
use Rattle.log_model.specs.declared.LogKind.TheVariants.{Header}
use Rattle.log_model.specs.Faults.{channel_count, channel_length, is_channel_cut}
use Rattle.log_model.specs.Reading.{Channels, map_ok, with_channel, channels_of}
use Rattle.log_model.proofs.Channels.{joined, channels_of-none, channels_of-cut, channels_of-more}
use Rattle.replay_log.specs.Header.{channels, count_of, IsFrontChannel}

-- so many channels were read, and the rest is left
pub record AreReadTo (v : Version) (bytes : List ℕ) (count done : ℕ) (left : List (List ℕ)) (rest : List ℕ) : Type 0 where
  pub within : length rest + 48 ≤ length bytes
  pub read : channels v bytes ≡ map_ok (joined left) (channels_of (count - done) (length bytes - length rest) rest)

joined-push : (left : List (List ℕ)) (channel : List ℕ) (r : Result Channels (LogKind × ℕ)) → map_ok (joined left) (map_ok (with_channel channel) r) ≡ map_ok (joined (left ++ channel ∷ [])) r
joined-push left channel (Ok read) = ap (λ (x : List (List ℕ)). Ok (x, read.1)) (sym (append_assoc left (channel ∷ []) read.0))
joined-push left channel (Err fault) = refl

nothing_read : (r : Result Channels (LogKind × ℕ)) → r ≡ map_ok (joined []) r
nothing_read (Ok read) = refl
nothing_read (Err fault) = refl

count_is : (v : Version) (bytes : List ℕ) (inputs : ℕ) → inputs ≡ word_at bytes 44 → channel_count v bytes ≡ count_of v inputs
count_is One bytes inputs e = refl
count_is Two bytes inputs e = sym e

pub starts : (v : Version) (bytes : List ℕ) (inputs count : ℕ) → 48 ≤ length bytes → inputs ≡ word_at bytes 44 → count ≡ count_of v inputs → AreReadTo v bytes count 0 [] (take (length bytes - 48) (drop 48 bytes))
starts v bytes inputs count whole same e =
    let rest = take (length bytes - 48) (drop 48 bytes) in
    let is : rest ≡ drop 48 bytes = take_rest bytes 48 in
    let size : length rest ≡ length bytes - 48 = ap length is ∙ length-drop 48 bytes in
    let here : 48 ≡ length bytes - length rest = omega (arith, size, whole) in
    let all : channel_count v bytes ≡ count - 0 = omega (arith, count_is v bytes inputs same, e) in
    record {
      within = omega (arith, size, whole);
      read = ap₂ (λ (n k : ℕ). channels_of n k (drop 48 bytes)) all here ∙ ap (channels_of (count - 0) (length bytes - length rest)) (sym is) ∙ nothing_read (channels_of (count - 0) (length bytes - length rest) rest);
    }

pub goes_on : (v : Version) (bytes : List ℕ) (count done : ℕ) (left : List (List ℕ)) (rest channel after : List ℕ) → done < count → AreReadTo v bytes count done left rest → IsFrontChannel rest channel after
    → AreReadTo v bytes count (done + 1) (left ++ channel ∷ []) after
goes_on v bytes count done left rest channel after more so_far front =
    let size = channel_length rest in
    let whole : size ≤ length rest = ltb-false (length rest) size front.whole in
    let fuel : count - done ≡ suc (count - (done + 1)) = omega (arith, more) in
    let shorter : length after ≡ length rest - size = ap length front.after_is ∙ length-drop size rest in
    let next : length bytes - length rest + size ≡ length bytes - length after = omega (arith, whole, shorter, so_far.within) in
    let others = count - (done + 1) in
    record {
      within = omega (arith, shorter, so_far.within);
      read =
          so_far.read
          ∙ ap (map_ok (joined left)) (ap (λ (n : ℕ). channels_of n (length bytes - length rest) rest) fuel ∙ channels_of-more others (length bytes - length rest) rest front.whole)
          ∙ ap (λ (x : List ℕ). map_ok (joined left) (map_ok (with_channel x) (channels_of others (length bytes - length rest + size) (drop size rest)))) (sym front.channel_is)
          ∙ joined-push left channel (channels_of others (length bytes - length rest + size) (drop size rest))
          ∙ ap₂ (λ (n : ℕ) (x : List ℕ). map_ok (joined (left ++ channel ∷ [])) (channels_of others n x)) next (sym front.after_is);
    }

pub is_cut : (v : Version) (bytes : List ℕ) (count done : ℕ) (left : List (List ℕ)) (rest : List ℕ) → done < count → AreReadTo v bytes count done left rest → is_channel_cut rest ≡ true → channels v bytes ≡ Err (Header, length bytes - length rest)
is_cut v bytes count done left rest more so_far cut =
    let fuel : count - done ≡ suc (count - (done + 1)) = omega (arith, more) in
    so_far.read
    ∙ ap (map_ok (joined left)) (ap (λ (n : ℕ). channels_of n (length bytes - length rest) rest) fuel ∙ channels_of-cut (count - (done + 1)) (length bytes - length rest) rest cut)

pub are_all : (v : Version) (bytes : List ℕ) (count done : ℕ) (left : List (List ℕ)) (rest : List ℕ) → count ≤ done → AreReadTo v bytes count done left rest → channels v bytes ≡ Ok (left, rest)
are_all v bytes count done left rest last so_far =
    let none : count - done ≡ zero = omega (arith, last) in
    so_far.read
    ∙ ap (map_ok (joined left)) (ap (λ (n : ℕ). channels_of n (length bytes - length rest) rest) none ∙ channels_of-none (length bytes - length rest) rest)
    ∙ ap (λ (x : List (List ℕ)). Ok (x, rest)) (append-nil left)
