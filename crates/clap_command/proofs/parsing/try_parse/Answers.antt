use Rattle.std.proofs.Common.{◌≡◌, map, string_bytes, true, List, Result, Ok, Err, OnOk}
use Rattle.std.proofs.lemmas.Result.{IfOk-weaker}
use Rattle.std.proofs.lemmas.Bool.{and_parts}
use Rattle.clap.specs.declared.error.Error.{Error}
use Rattle.clap.specs.Words.{App, FailsBy, Text, app_of, fault_of, is_simple, is_simple_and_free, takes}
use Rattle.clap_command.specs.Plain.{is_sound_command}
use Rattle.clap_command.proofs.NoFault.{takes_of_no_fault}
use Rattle.clap_command.proofs.parsing.try_parse.Goals as goal

if_taken : {T : Type 0} (r : Result T Error) (a : App) (words : List Text) → is_sound_command a ≡ true → FailsBy (fault_of a words) r → OnOk r (takes a words ≡ true)
if_taken (Ok m) a words sound kinds = takes_of_no_fault a words sound kinds
if_taken (Err e) a words sound kinds = tt

pub returns : goal.returns
returns c =
    let a : App = app_of c.args.command in
    let words : List Text = map string_bytes c.args.words.now in
    let given = c.try_get_matches_from in
    let free = (and_parts (is_simple_and_free a) _ c.requires).0 in
    record {
      taken = if_taken given.result a words c.requires (given.ensures.kinds free);
      memory = given.ensures.passes;
      rows = IfOk-weaker given.result _ _ (λ m has. (has (and_parts (is_simple a) _ free).0).0) given.ensures.matches;
      subcommand = IfOk-weaker given.result _ _ (λ m has. (has (and_parts (is_simple a) _ free).0).1) given.ensures.matches;
    }
