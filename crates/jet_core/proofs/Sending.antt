-- What a core that is whole has sent is a part of what it sends in all.
use Rattle.std.proofs.Common.{◌≡◌, inl, List, ◌∷◌, refl, ap, ap₂, sym, subst, ◌∙◌, Bool, true, false}
use Rattle.std.specs.Prelude.{Option, Some, None, is_none}
use Rattle.flow_model.specs.declared.Loc.{Loc}
use Rattle.flow_model.specs.declared.Message.{Message}
use Rattle.epoch_model.specs.Summary.{Summary}
use Rattle.stream_model.specs.Streams.{requests, asks_for, answers_for, asked_of}
use Rattle.stream_model.specs.StreamLaws.{IsPrefix}
use Rattle.stream_model.specs.Passes.{Answering as AnsweringState, answering_start}
use Rattle.stream_model.proofs.Growing.{prefix_trans, asks_grow, answers_grow}
use Rattle.stream_model.proofs.Passing.{begun_whole}
use Rattle.pass_parts.specs.Ends.{got_by, sent_by}
use Rattle.pass_parts.proofs.Whole.{ended_whole}
use Rattle.backward_pass.specs.Backward.{BackView, knows}
use Rattle.forward_pass.specs.Forward.{ForeView, known_by}
use Rattle.epoch_node.specs.Cores.{CoreSetup}
use Rattle.epoch_node.specs.Keeping.{Traffic, HasLinks, IsAsking, IsAnswering}
use Rattle.jet_core.specs.Streams.{all_asks, all_answers, HasSentPart}
use Rattle.jet_core.proofs.Parts.{HasGotPart, got_whole, all_of_it, asks_last}

sent_part : (all : List Message) (over whole : Bool) (sent : Option (List Message)) → (is_none sent ≡ false → IsPrefix (sent_by over whole sent) all) → HasSentPart all sent
sent_part all over whole None p = tt
sent_part all over whole (Some sent) p = inl (p refl)

-- for more that is got, no less is asked and answered
asks_within : (e : Summary) (got all : List Message) → IsPrefix got all → IsPrefix (asks_for e got) (asks_for e all)
asks_within e got all p = subst (λ (ms : List Message). IsPrefix (asks_for e got) (asks_for e ms)) p.1 (asks_grow e got p.0)

answers_within : (e : Summary) (asked ls : List Loc) (got all : List Message) → IsPrefix got all → IsPrefix (answers_for e asked ls got) (answers_for e asked ls all)
answers_within e asked ls got all p = subst (λ (ms : List Message). IsPrefix (answers_for e asked ls got) (answers_for e asked ls ms)) p.1 (answers_grow e asked ls got p.0)

module _ (i : CoreSetup) (w : Traffic) (links : HasLinks i w) (es : List Summary) where
  -- while it asks
  pub asking_part : (v : BackView) → IsAsking i v w → v.whole ≡ true → HasGotPart (all_asks es) w.asks_got → HasSentPart (all_asks (knows v ∷ es)) w.asks_sent
  asking_part v at t g = sent_part (all_asks (knows v ∷ es)) v.over v.whole w.asks_sent (λ some.
      let got = got_whole (all_asks es) w.asks_got g (λ d. at.keeps.ends t (at.keeps.heard ∙ d)) in
      prefix_trans _ _ _ ((at.sends t).part (at.first ∙ sym links.asks_sent ∙ some)) (asks_within (knows v) (got_by w.asks_got) (all_asks es) got))

  module _ (f : ForeView) (at : IsAnswering i f w) (t : f.whole ≡ true) where
    asked_whole : at.asking.is_whole ≡ true
    asked_whole =
        begun_whole (known_by f) f.asked at.reached.schedule (answering_start at.asking.is_whole i.first at.noted) (sym (ap (λ (s : AnsweringState). s.is_whole) at.reached.is) ∙ t)

    module _ (g : HasGotPart (all_asks es) w.asks_got) where
      got_asks : IsPrefix (got_by w.asks_got) (all_asks es)
      got_asks = got_whole (all_asks es) w.asks_got g (λ d. at.ends asked_whole)

      got_all : got_by w.asks_got ≡ all_asks es
      got_all = all_of_it (all_asks es) (got_by w.asks_got) got_asks (asks_last es) (ended_whole _ (at.ends asked_whole))

      -- once it has asked
      pub asked_part : HasSentPart (all_asks (known_by f ∷ es)) w.asks_sent
      asked_part = sent_part (all_asks (known_by f ∷ es)) true at.asking.is_whole w.asks_sent (λ some.
          let sends = at.asks asked_whole in
          let part = sends.part (sym links.asks_sent ∙ some) in
          let all : asks_for (known_by f) at.asking.got ≡ all_asks (known_by f ∷ es) = ap (asks_for (known_by f)) (at.got ∙ got_all) in
          subst (λ (ms : List Message). IsPrefix (sent_by true at.asking.is_whole w.asks_sent) ms) all (subst (λ (ms : List Message). IsPrefix ms (asks_for (known_by f) at.asking.got)) at.sent part))

      -- what it answers
      pub answering_part : (answered : List Message) → HasGotPart answered w.answers_got → HasSentPart (all_answers i.first (known_by f) es answered) w.answers_sent
      answering_part answered h = sent_part (all_answers i.first (known_by f) es answered) f.over f.whole w.answers_sent (λ some.
          let e = known_by f in
          let got = got_whole answered w.answers_got h (λ d. at.keeps.ends t (at.keeps.heard ∙ d)) in
          let asked : f.asked ≡ asked_of i.first e (requests (all_asks es)) =
          sym at.asked ∙ (at.asks asked_whole).asked at.over ∙ ap (λ (ms : List Message). asked_of i.first e (requests ms)) (at.got ∙ got_all) in
          let noted : at.noted ≡ requests (all_asks es) = at.noted_is asked_whole ∙ ap requests got_all in
          let part = prefix_trans _ _ _ (at.sends t).part (answers_within e f.asked at.noted (got_by w.answers_got) answered got) in
          subst (λ (ms : List Message). IsPrefix (sent_by f.over f.whole w.answers_sent) ms) (ap₂ (λ (xs ys : List Loc). answers_for e xs ys answered) asked noted) part)
