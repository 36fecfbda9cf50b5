-- Messages that end whole. Crates above cite this lemma.
use Rattle.std.proofs.Common.{◌≡◌, List, [], ◌∷◌, true, refl, ap, ◌∙◌}
use Rattle.std.proofs.lemmas.Bool.{or_right}
use Rattle.flow_model.specs.declared.Message.{Message}
use Rattle.flow_model.specs.declared.Message.TheVariants.{End}
use Rattle.stream_model.specs.Streams.{is_ended}
use Rattle.stream_model.proofs.Growing.{ended_append}
use Rattle.pass_parts.specs.Ends.{EndsWhole}

pub ended_whole : (ms : List Message) → EndsWhole ms → is_ended ms ≡ true
ended_whole ms w = ap is_ended w.1 ∙ ended_append w.0 (End true ∷ []) ∙ or_right (is_ended w.0) true refl
