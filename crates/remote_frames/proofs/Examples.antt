-- Worked examples, computed by the checker.
use Rattle.std.proofs.Common.{◌≡◌, List, [], ◌∷◌, ◌++◌, refl}
use Rattle.std.specs.Prelude.{codes}
use Rattle.hex.specs.Hex.{encode_with}
use Rattle.remote_frames.specs.Frames.{frame, heard, Packet, Bad, Again}

-- frames that a debugger and a stub send each other
frames : (frame (codes "OK") ≡ codes "$OK#9a") × (frame (codes "?") ≡ codes "$?#3f") × (frame [] ≡ codes "$#00")
    × (frame (codes "vCont;r10000,10014:-1") ≡ codes "$vCont;r10000,10014:-1#62")
unfolding encode_with
frames = (refl, refl, refl, refl)

-- digits in either case; an acknowledgement and an interrupt say nothing, and `-` asks for the last answer
packets : (heard (codes "+$p20#d2+$bc#C5") ≡ Packet (codes "p20") ∷ Packet (codes "bc") ∷ [])
    × (heard (3 ∷ codes "-+-$?#3f") ≡ Again ∷ Again ∷ Packet (codes "?") ∷ [])
unfolding heard
packets = (refl, refl)

-- a `$` begins anew in a packet and among the digits
anew : (heard (codes "$?$bc#c5") ≡ Packet (codes "bc") ∷ []) × (heard (codes "$?#$bc#c5") ≡ Packet (codes "bc") ∷ [])
    × (heard (codes "$?#3$bc#c5") ≡ Packet (codes "bc") ∷ []) × (heard (codes "$?#3") ≡ [])
unfolding heard
anew = (refl, refl, refl, refl)

-- a wrong checksum, and digits that are none, whatever they are
bad : (heard (codes "$?#3e") ≡ Bad ∷ []) × (heard (codes "$?#-g-") ≡ Bad ∷ Again ∷ [])
    × (heard (codes "$?##f$?#3f") ≡ Bad ∷ Packet (codes "?") ∷ [])
unfolding heard
bad = (refl, refl, refl)
