-- Events of passes. Crates above cite these lemmas.
use Rattle.std.proofs.Common.{◌≡◌, List, refl, ap, ap₂, sym, subst, ◌∙◌, Bool, true, false}
use Rattle.std.specs.Prelude.{Option, Some, None, IfNone}
use Rattle.flow_model.specs.declared.Message.{Message}
use Rattle.flow_model.specs.declared.Message.TheVariants.{End}
use Rattle.stream_model.specs.Passes.{Links}
use Rattle.stream_model.specs.Schedules.{Need}
use Rattle.pass_parts.specs.declared.pass_turn.PassTurn.TheVariants.{Moved, NotYet, Over}
use Rattle.pass_parts.specs.Ends.{with, unsent, sent_by}
use Rattle.pass_parts.specs.Events.{Events, IsEvent}
use Rattle.pass_parts.specs.Turns.{Waits}

abbrev pub links_of : Bool → Option Message → Bool → Links
links_of room next refused = record { has_room = room; item = next; is_refused = refused }

-- what an event meets that needs no link, and one whose link refuses
abbrev pub free : Bool → Links
free refused = links_of true (Some (End true)) refused

abbrev pub stuck : Links
stuck = links_of false None false

-- until it is over a pass has not sent its End
pub sent_same : (o p w x : Bool) → o ≡ false → p ≡ false → (sent : Option (List Message)) → sent_by o w sent ≡ sent_by p x sent
sent_same o p w x no_o no_p None = ap (λ (b : Bool). unsent b w) no_o ∙ sym (ap (λ (b : Bool). unsent b x) no_p)
sent_same o p w x no_o no_p (Some sent) = refl

-- a push makes no link
pub still_none : (A : Type 0) (m : Message) (sent later : Option (List Message)) → later ≡ with m sent → IfNone sent A → IfNone later A
still_none A m None later e h = subst (λ s. IfNone s A) (sym e) h
still_none A m (Some sent) later e h = subst (λ s. IfNone s A) (sym e) tt

-- the links do what the event needs
module _ {V S : Type 0} (p : Events V S) (old : V) (got sent : Option (List Message)) (new : V) (got' sent' : Option (List Message))
    (next : Message) (refused : Bool) (is : p.state new got' sent' ≡ p.event old (links_of true (Some next) refused) (p.state old got sent))
    (keeps : p.Keeps new got' sent') (same : p.IsSame new old) where
  abbrev met : Links
  met = links_of true (Some next) refused

  pub moved : p.is_over new ≡ false → IsEvent p old got sent new got' sent' Moved
  moved o = record { happens = record { links = met; could_move = (refl, refl); is = is }; keeps = keeps; same = same; over = tt; running = o; not_yet = tt }

  -- the End is sent
  pub ended : p.is_over new ≡ true → IsEvent p old got sent new got' sent' Over
  ended o = record { happens = record { links = met; could_move = tt; is = is }; keeps = keeps; same = same; over = o; running = tt; not_yet = tt }

-- nothing happens
module _ {V S : Type 0} (p : Events V S) (old new : V) (got sent : Option (List Message)) (is : new ≡ old) (k : p.Keeps old got sent) (same : p.IsSame old old) where
  -- the link that the event needs refused
  pub refused : (got' sent' : Option (List Message)) → p.is_over old ≡ false → got' ≡ got → sent' ≡ sent
      → p.event old stuck (p.state old got sent) ≡ p.state old got sent → IsEvent p old got sent new got' sent' NotYet
  refused got' sent' o g s h =
      subst (λ v. IsEvent p old got sent v got' sent' NotYet) (sym is)
      (record {
        happens = record { links = stuck; could_move = tt; is = ap₂ (p.state old) g s ∙ sym h };
        keeps = subst (λ g. p.Keeps old g sent') (sym g) (subst (p.Keeps old got) (sym s) k);
        same = same;
        over = tt;
        running = o;
        not_yet = (refl, g, s);
      })

  -- the End was sent before
  pub was_over : p.is_over old ≡ true → p.event old stuck (p.state old got sent) ≡ p.state old got sent → IsEvent p old got sent new got sent Over
  was_over o h =
      subst (λ v. IsEvent p old got sent v got sent Over) (sym is)
      (record { happens = record { links = stuck; could_move = tt; is = sym h }; keeps = k; same = same; over = o; running = tt; not_yet = tt })

-- what the link says that the event needs
pub waits_at : {n m : Need} (P Q : Type 0) → n ≡ m → Waits m P Q → Waits n P Q
waits_at P Q e w = subst (λ n. Waits n P Q) (sym e) w
