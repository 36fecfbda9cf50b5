use Rattle.std.proofs.Common.{◌∙◌, Ok}
use Rattle.std.proofs.lemmas.List.Sorted.{searched}
use Rattle.run_output.proofs.Texts.{found}
use Rattle.run_output.proofs.stacks.text_among.Goals as goal

pub returns : goal.returns
returns c = λ text_of e.
    let times = c.args.times.now in
    let at = searched times c.args.time (Ok c.in-Ok.place) c.in-Ok.ensures.position (λ i j. c.requires.ascending i j 0) in
    c.as_slice.ensures.value ∙ found times c.args.texts.now text_of c.in-Ok.place c.args.time _ e c.requires.each at.0 at.1 c.index-texts-place.is
