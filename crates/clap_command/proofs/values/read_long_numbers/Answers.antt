use Rattle.std.proofs.Common.{◌∙◌, ap, sym, subst, [], List, ℕ, Bor, map, unwrap_or}
use Rattle.std.proofs.lemmas.Simd.{map-map}
use Rattle.std.proofs.lemmas.Result.{IfOk-weaker}
use Rattle.std.specs.List.{All}
use Rattle.clap.specs.Words.{IsUnsignedIn, found_of}
use Rattle.clap.proofs.WalkLemmas.{raw_values-rows}
use Rattle.clap_command.specs.Values.{number_in}
use Rattle.clap_command.proofs.ValueLemmas.{All-from_map}
use Rattle.clap_command.proofs.values.read_long_numbers.Goals as goal

pub long_numbers-requires : goal.long_numbers-requires
long_numbers-requires c =
    let same = ap (λ o. unwrap_or o []) (c.in-Some.ensures ∙ raw_values-rows (found_of c.args.matches.now) c.args.id.now) in
    All-from_map (IsUnsignedIn 0 18446744073709551615) (λ (s : Bor (List ℕ)). s.now) c.in-Some.numerals.now
    (subst (All (IsUnsignedIn 0 18446744073709551615)) (sym same) c.requires)

pub returns-in-Some : goal.returns-in-Some
returns-in-Some c =
    let same = ap (λ o. unwrap_or o []) (c.in-Some.ensures ∙ raw_values-rows (found_of c.args.matches.now) c.args.id.now) in
    IfOk-weaker c.long_numbers.result _ _ (λ v items. items ∙ sym (map-map number_in (λ (s : Bor (List ℕ)). s.now) c.in-Some.numerals.now) ∙ ap (map number_in) same) c.long_numbers.ensures

pub returns-in-None : goal.returns-in-None
returns-in-None c = c.new.ensures.items
    ∙ ap (λ o. map number_in (unwrap_or o [])) (c.in-None.ensures ∙ raw_values-rows (found_of c.args.matches.now) c.args.id.now)
