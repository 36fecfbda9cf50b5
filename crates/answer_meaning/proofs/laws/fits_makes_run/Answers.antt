use Rattle.answer_meaning.proofs.Runs.{fits_makes_run}
use Rattle.answer_meaning.proofs.laws.fits_makes_run.Goals as goal

pub returns : goal.returns
returns c = fits_makes_run
