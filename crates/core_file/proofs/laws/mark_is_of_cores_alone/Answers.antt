use Rattle.core_file.proofs.Parts.{begins_with_mark, mark_is_long, is_no_program, is_no_log, is_no_page}
use Rattle.core_file.proofs.laws.mark_is_of_cores_alone.Goals as goal

pub returns : goal.returns
returns c = record { begins = begins_with_mark; long = mark_is_long; program = is_no_program; log = is_no_log; page = is_no_page }
