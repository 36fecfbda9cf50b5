-- Parts of what is sent in all.
use Rattle.std.proofs.Common.{◌≡◌, ◌⊎◌, inl, inr, ◌+◌, ◌≤◌, Some, None, List, [], ◌∷◌, ◌++◌, length, refl, ap, sym, subst, ◌∙◌, Bool, true, false, length-append, append-nil, arith}
use Rattle.std.specs.Prelude.{Option}
use Rattle.std.proofs.lemmas.List.{same_from_push}
use Rattle.lists.proofs.Tests.{true-false}
use Rattle.flow_model.specs.declared.Message.{Message}
use Rattle.flow_model.specs.declared.Message.TheVariants.{End}
use Rattle.epoch_model.specs.Summary.{Summary}
use Rattle.stream_model.specs.Streams.{is_ended}
use Rattle.stream_model.specs.StreamLaws.{IsPrefix, EndsLast}
use Rattle.stream_model.proofs.Growing.{prefix_trans, nothing_is_left, asks_end_last}
use Rattle.stream_model.proofs.Moving.{ended_after}
use Rattle.pass_parts.specs.Ends.{got_by, sent_by, EndsWhole}
use Rattle.jet_core.specs.Joints.{Link, got_on, sent_on, IsSound}
use Rattle.jet_core.specs.Streams.{all_asks, IsPart, HasSentPart}

-- ---- lists

pub prefix_length : {X : Type 0} (xs ys : List X) → IsPrefix xs ys → length xs ≤ length ys
prefix_length xs ys p = let n : length ys ≡ length xs + length p.0 = ap length (sym p.1) ∙ length-append xs p.0 in omega (arith, n)

no_more : {X : Type 0} (xs ys : List X) → xs ++ ys ≡ [] → xs ≡ []
no_more [] ys e = refl
no_more (x ∷ xs) ys e = cc

-- a part of a list with one item more is a part of the list, or all of it
front_or_all : {X : Type 0} (got front rest : List X) (m : X) → got ++ rest ≡ front ++ m ∷ [] → IsPrefix got front ⊎ (got ≡ front ++ m ∷ [])
front_or_all [] front rest m e = inl (front, refl)
front_or_all (x ∷ got) [] rest m e =
    let same : x ≡ m = cc in
    let none : got ++ rest ≡ [] = cc in
    let empty = no_more got rest none in
    inr cc
front_or_all (x ∷ got) (y ∷ front) rest m e =
    let same : x ≡ y = cc in
    let later : got ++ rest ≡ front ++ m ∷ [] = cc in
    by (front_or_all got front rest m later) same where
      by : IsPrefix got front ⊎ (got ≡ front ++ m ∷ []) → x ≡ y → IsPrefix (x ∷ got) (y ∷ front) ⊎ (x ∷ got ≡ y ∷ (front ++ m ∷ []))
      by (inl p) same = let tail = p.1 in inl (p.0, cc)
      by (inr all) same = inr cc

-- ---- parts

pub part_length : (all sent : List Message) → IsPart all sent → length sent ≤ length all + 1
part_length all sent (inl p) = let n = prefix_length sent all p in omega (arith, n)
part_length all sent (inr b) =
    let n = prefix_length b.front all b.part in
    let one : length sent ≡ length b.front + 1 = ap length b.is ∙ length-append b.front (End false ∷ []) in
    omega (arith, n, one)

-- who is whole got a part of what is sent in all
pub whole_part : (all got sent : List Message) → IsPart all sent → IsPrefix got sent → (is_ended got ≡ true → EndsWhole got) → IsPrefix got all
whole_part all got sent (inl p) q w = prefix_trans got sent all q p
whole_part all got sent (inr b) q w = by (front_or_all got b.front q.0 (End false) (q.1 ∙ b.is)) where
  broken : got ≡ b.front ++ End false ∷ [] → EndsWhole got → IsPrefix got all
  broken e x = let same : End false ≡ End true = (same_from_push b.front x.0 (End false) (End true) (sym e ∙ x.1)).1 in cc

  by : IsPrefix got b.front ⊎ (got ≡ b.front ++ End false ∷ []) → IsPrefix got all
  by (inl p) = prefix_trans got b.front all p b.part
  by (inr e) = broken e (w (ap is_ended e ∙ ended_after b.front (End false ∷ []) b.unended))

-- who breaks sends an End at most
pub broken_part : (all sent sent' : List Message) → IsPart all sent → (sent' ≡ sent) ⊎ ((is_ended sent ≡ false) × (sent' ≡ sent ++ End false ∷ [])) → IsPart all sent'
broken_part all sent sent' p (inl e) = subst (IsPart all) (sym e) p
broken_part all sent sent' (inl p) (inr e) = inr (record { front = sent; part = p; unended = e.0; is = e.1 })
broken_part all sent sent' (inr b) (inr e) = true-false (sym (ap is_ended b.is ∙ ended_after b.front (End false ∷ []) b.unended) ∙ e.0)

-- who got a whole End got all
pub all_of_it : (all got : List Message) → IsPrefix got all → EndsLast all → is_ended got ≡ true → got ≡ all
all_of_it all got p last e =
    let none : p.0 ≡ [] = nothing_is_left got p.0 (subst EndsLast (sym p.1) last) e in
    sym (append-nil got) ∙ ap (λ (rest : List Message). got ++ rest) (sym none) ∙ p.1

pub asks_last : (es : List Summary) → EndsLast (all_asks es)
asks_last [] = refl
asks_last (e ∷ es) = asks_end_last e (all_asks es)

-- ---- what was got

-- what was sent to a core, where this is all. Where there is no link, the End counts as seen
abbrev pub IsSource : List Message → Option (List Message) → Type 0
IsSource all None = all ≡ End true ∷ []
IsSource all (Some sent) = IsPart all sent

-- what a core got is a part of what was sent to it
pub record HasGotPart (all : List Message) (got : Option (List Message)) : Type 0 where
  pub sent : List Message
  pub source : IsPart all sent
  pub part : IsPrefix (got_by got) sent

pub got_part : (all : List Message) (link : Link) → IsSource all (sent_on link) → IsSound link → HasGotPart all (got_on link)
got_part all None s x = record { sent = End true ∷ []; source = inl ([], sym s); part = ([], refl) }
got_part all (Some l) s x = record { sent = l.sent; source = s; part = (x.held, sym x.in_order) }

pub got_length : (all : List Message) (got : Option (List Message)) → HasGotPart all got → length (got_by got) ≤ length all + 1
got_length all got h = let n = part_length all h.sent h.source in let m = prefix_length (got_by got) h.sent h.part in omega (arith, n, m)

pub got_whole : (all : List Message) (got : Option (List Message)) → HasGotPart all got → (is_ended (got_by got) ≡ true → EndsWhole (got_by got)) → IsPrefix (got_by got) all
got_whole all got h w = whole_part all (got_by got) h.sent h.source h.part w

-- what a core sent is at most one message more than all
pub sent_length : (all : List Message) (over whole : Bool) (sent : Option (List Message)) → HasSentPart all sent → length (sent_by over whole sent) ≤ length all + 1
sent_length all true whole None p = omega arith
sent_length all false whole None p = omega arith
sent_length all over whole (Some sent) p = part_length all sent p
