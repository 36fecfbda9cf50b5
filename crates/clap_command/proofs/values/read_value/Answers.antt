use Rattle.std.proofs.Common.{◌≡◌, ◌∙◌, ap, sym, refl, List, ℕ, [], Option, Some, None, Bor, unwrap_or, option_map}
use Rattle.clap.specs.Words.{found_of}
use Rattle.clap_command.proofs.ValueLemmas.{first_value-is_value}
use Rattle.clap_command.proofs.values.read_value.Goals as goal

-- the text of a value, or of the empty text that stands for none
text_of : (found : Option (Bor (List ℕ))) (empty : Bor (List ℕ)) → empty.now ≡ [] → (unwrap_or found empty).now ≡ unwrap_or (option_map (λ s. s.now) found) []
text_of None empty e = e
text_of (Some s) empty e = refl

pub returns : goal.returns
returns c = ap (λ s. s.now) c.unwrap_or.ensures ∙ text_of c.get_str.result _ refl ∙ ap (λ o. unwrap_or o []) c.get_str.ensures ∙ sym (first_value-is_value c.args.id.now (found_of c.args.matches.now))
