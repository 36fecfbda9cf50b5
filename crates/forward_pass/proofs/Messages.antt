-- What came, by what was got.
use Rattle.std.proofs.Common.{◌≡◌, List, [], ◌∷◌, ◌++◌, length, refl, ap, ap₂, sym, subst, ◌∙◌, Bool, true, false, ◌||◌, nat_le, append-nil, append_assoc}
use Rattle.std.specs.List.{list_all}
use Rattle.std.proofs.lemmas.List.Elements.{recursion_from_All, All-from_recursion}
use Rattle.lists.proofs.Tests.{true-false}
use Rattle.flow_model.specs.declared.Loc.{Loc}
use Rattle.flow_model.specs.declared.SourceByte.{SourceByte}
use Rattle.flow_model.specs.declared.Message.{Message}
use Rattle.flow_model.specs.declared.Message.TheVariants.{Ask, Byte, Close, End}
use Rattle.epoch_model.specs.Summary.{Summary as EpochSummary}
use Rattle.epoch_model.specs.Join.{answer_to}
use Rattle.stream_model.specs.Streams.{is_ended, answers_in, heard, is_answered, is_resolvable}
use Rattle.pass_parts.specs.declared.requests.Request.{Request}
use Rattle.pass_parts.specs.Requests.{IsCounted, AreCounted}
use Rattle.pass_parts.proofs.Counted.{answerable_by_count}
use Rattle.forward_pass.specs.Received.{ReceivedView, received_with, IsReceivedFrom, is_answerable}

-- one message more
pub from_more : (m : Message) (got : List Message) (asked : List Loc) (old new : ReceivedView) → old.is_ended ≡ false → new ≡ received_with old m
    → IsReceivedFrom got asked old → IsReceivedFrom (got ++ m ∷ []) asked new
from_more m got asked old new o e r = subst (IsReceivedFrom (got ++ m ∷ []) asked) (sym e) (by m) where
  goes_on : (m : Message) (more : List Message) → answers_in [] ((got ++ m ∷ []) ++ more) ≡ old.answers ++ answers_in old.so_far (m ∷ more)
  goes_on m more = ap (answers_in []) (append_assoc got (m ∷ []) more) ∙ r.running o (m ∷ more)

  by : (m : Message) → IsReceivedFrom (got ++ m ∷ []) asked (received_with old m)
  by (Ask l) = record { running = λ _. goes_on (Ask l); ended = λ t. true-false (sym t ∙ o) }
  by (Byte b) = record { running = λ _. goes_on (Byte b); ended = λ t. true-false (sym t ∙ o) }
  by (Close l) = record {
    running = λ _ more. goes_on (Close l) more ∙ sym (append_assoc old.answers (old.so_far ∷ []) (answers_in [] more));
    ended = λ t. true-false (sym t ∙ o);
  }
  by (End whole) = record {
    running = λ t. true-false t;
    ended = λ _ l. ap (λ (sets : List (List SourceByte)). answer_to asked sets l) (sym (r.running o (End whole ∷ [])));
  }

-- until the End, what came are the answers in what was got
running_answers : (got : List Message) (asked : List Loc) (c : ReceivedView) → IsReceivedFrom got asked c → c.is_ended ≡ false → c.answers ≡ answers_in [] got
running_answers got asked c r o = sym (append-nil c.answers) ∙ sym (r.running o []) ∙ ap (answers_in []) (append-nil got)

pub heard_is : (got : List Message) (asked : List Loc) (c : ReceivedView) → IsReceivedFrom got asked c → answer_to asked c.answers ≡ heard asked got
heard_is got asked c r = by c.is_ended refl where
  by : (b : Bool) → c.is_ended ≡ b → answer_to asked c.answers ≡ heard asked got
  by true e = λ i l. r.ended e l i
  by false e = ap (answer_to asked) (running_answers got asked c r e)

-- the count tells whether the terms of the request are resolvable
pub answerable_is : (e : EpochSummary) (got : List Message) (asked : List Loc) (c : ReceivedView) (r : Request) (left : List Request)
    → c.is_ended ≡ is_ended got → IsReceivedFrom got asked c → (c.is_ended ≡ false → AreCounted asked e (r ∷ left))
    → is_answerable c r ≡ is_resolvable asked got (e.ends r.loc)
answerable_is e got asked c r left h f counted = by c.is_ended refl where
  by : (b : Bool) → c.is_ended ≡ b → is_answerable c r ≡ is_resolvable asked got (e.ends r.loc)
  by true t =
      ap (λ (b : Bool). b || nat_le r.needed_first (length c.answers)) t
      ∙ sym (ap (λ (b : Bool). b || list_all (is_answered asked (answers_in [] got)) (e.ends r.loc).starts) (sym h ∙ t))
  by false o =
      ap₂ (λ (b : Bool) (sets : List (List SourceByte)). b || nat_le r.needed_first (length sets)) h (running_answers got asked c f o)
      ∙ sym (answerable_by_count asked e r got (recursion_from_All (IsCounted asked e) (r ∷ left) (counted o)).0)

pub counted_left : (asked : List Loc) (e : EpochSummary) (r : Request) (left : List Request) → AreCounted asked e (r ∷ left) → AreCounted asked e left
counted_left asked e r left h = All-from_recursion (IsCounted asked e) left (recursion_from_All (IsCounted asked e) (r ∷ left) h).1
