-- Runs that lead to later ones of the same jobs.
use Rattle.std.proofs.Common.{◌≡◌, ℕ, sym, ◌∙◌}
use Rattle.no_memory.specs.declared.Fault.{Fault}
use Rattle.no_memory.specs.declared.Fault.TheVariants.{At, NoMemory}
use Rattle.no_memory.specs.Faults.{IsCausedBy}
use Rattle.report_model.specs.Query.{Query}
use Rattle.replay_model.specs.declared.Divergence.{Divergence}
use Rattle.replay_run.specs.Runs.{RunAt}
use Rattle.replayer.specs.InParts.{Differs, HasCome}
use Rattle.replayer.specs.Watching.{Seen}
use Rattle.epoch_cut.specs.Numbered.{NumberedEpoch}
use Rattle.epoch_summary.specs.declared.summary.Summary.{Summary}
use Rattle.local_taint.specs.Ahead.{IsFoundAhead}
use Rattle.summary_join.specs.First.{FirstFound}
use Rattle.checked_epochs.specs.Beginnings.{Leads, IsOfSome}
use Rattle.checked_epochs.specs.Found.{IsFirstAhead}

pub leads_refl : (run : RunAt) → Leads run run
leads_refl run = record { stands = λ job s. s; agrees = λ job a. a }

pub leads_trans : (a b c : RunAt) → Leads a b → Leads b c → Leads a c
leads_trans a b c f g = record { stands = λ job s. g.stands job (f.stands job s); agrees = λ job s. g.agrees job (f.agrees job s) }

pub leads_come : {W : Type 0} (seen : Seen W) (before : RunAt) (old : W) (until : _) (after : RunAt) (new : W) → HasCome seen before old until after new → Leads before after
leads_come seen before old until after new h = record { stands = h.stands; agrees = h.agrees }

-- the logs of runs of one job are one
pub same_log : (before after : RunAt) → IsOfSome before → Leads before after → after.log ≡ before.log
same_log before after some leads = (leads.stands some.0 some.1).same_log ∙ sym some.1.same_log

pub still_of_some : (before after : RunAt) → IsOfSome before → Leads before after → IsOfSome after
still_of_some before after some leads = (some.0, leads.stands some.0 some.1)

-- ---- what differs later differs from the first on

pub differs_before : (before after : RunAt) (d : Divergence) → Leads before after → Differs after d → Differs before d
differs_before before after d leads h = record { some = λ job s. h.some job (leads.stands job s); first = λ job a. h.first job (leads.agrees job a) }

pub caused_before : (before after : RunAt) (fault : Fault Divergence) → Leads before after → IsCausedBy (Differs after) fault → IsCausedBy (Differs before) fault
caused_before before after (At d) leads h = differs_before before after d leads h
caused_before before after (NoMemory n) leads h = tt

-- ---- what is found later is found from the first on

pub found_before : (q : Query) (before after : RunAt) (epoch : NumberedEpoch) (e : Summary) → Leads before after → IsFoundAhead q after epoch e → IsFoundAhead q before epoch e
found_before q before after epoch e leads f = record { number = f.number; summary = λ job s. f.summary job (leads.stands job s); in_range = λ job s. f.in_range job (leads.stands job s) }

pub first_before : (q : Query) (before after : RunAt) (past_first : ℕ) (first : FirstFound) → Leads before after → IsFirstAhead q after past_first first → IsFirstAhead q before past_first first
first_before q before after past_first first leads f = record { found = λ job s. f.found job (leads.stands job s); in_range = λ job s. f.in_range job (leads.stands job s) }
