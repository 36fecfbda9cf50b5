-- What an epoch asks of the one before it.
use Rattle.std.specs.Prelude.{ℕ, ◌-◌, if◌then◌else◌, List, [], ◌∷◌, ◌++◌, map}
use Rattle.std.specs.List.{flat_map}
use Rattle.flow_model.specs.declared.Loc.{Loc}
use Rattle.flow_model.specs.declared.StepSeen.{StepSeen}
use Rattle.lists.specs.Sets.{union, has}
use Rattle.flow_model.specs.Orders.{loc_cmp}
use Rattle.flow_model.specs.Origins.{Policy}
use Rattle.report_model.specs.Query.{Query, policy_of}
use Rattle.report_model.specs.Rows.{Sink}
use Rattle.epoch_model.specs.Stretch.{past, sinks_between, sinks_of_epoch}
use Rattle.epoch_model.specs.Summary.{Summary, terms, sink_terms}

-- the list with l at its end, unless it has l
abbrev pub added : List Loc → Loc → List Loc
added asked l = if has loc_cmp l asked then asked else asked ++ l ∷ []

-- the list with each of the others in turn
abbrev pub added_all : List Loc → List Loc → List Loc
added_all asked [] = asked
added_all asked (l ∷ ls) = added_all (added asked l) ls

-- the start locations of the epoch's sinks, and then those of the locations that it is asked for
abbrev pub wanted : Summary → List Loc → List Loc
wanted e requests = flat_map (λ k. k.terms.starts) e.sinks ++ flat_map (λ l. (e.ends l).starts) requests

-- what an epoch asks where these are the requests that it gets: what it wants, of equals the first
abbrev pub asked_by : Summary → List Loc → List Loc
asked_by e requests = added_all [] (wanted e requests)

-- what the first of some epochs asks of the one before it; the last gets no requests
abbrev pub crossing : List Summary → List Loc
crossing [] = []
crossing (e ∷ es) = asked_by e (crossing es)

-- ---- by the definitions alone

-- the summary of the n steps from time s on
abbrev pub summary_of : Query → List StepSeen → ℕ → ℕ → Summary
summary_of q trace s n = record {
  ends = terms (policy_of q) trace s n;
  sinks = map (sink_terms (policy_of q) trace s) (sinks_of_epoch q trace s n);
}

-- the summaries of the epochs that begin at time s and end at the cuts
abbrev pub summaries_of : Query → List StepSeen → ℕ → List ℕ → List Summary
summaries_of q trace s [] = []
summaries_of q trace s (c ∷ cs) = summary_of q trace s (c - s) ∷ summaries_of q trace c cs

-- what is asked at the cut s, where the epochs from there on end at the cuts
abbrev pub crossing_at : Query → List StepSeen → ℕ → List ℕ → List Loc
crossing_at q trace s cuts = crossing (summaries_of q trace s cuts)

-- the union of the locations at time s that flow into these sinks
abbrev pub needed_by : Policy → List StepSeen → ℕ → List Sink → List Loc
needed_by policy trace s [] = []
needed_by policy trace s (k ∷ ks) =
    union loc_cmp (past policy.rule trace s (k.time - s) k.loc) (needed_by policy trace s ks)

-- the locations at time s that flow into chosen output bytes of the n steps from there on, or into points above s up to
-- their end
abbrev pub needed : Query → List StepSeen → ℕ → ℕ → List Loc
needed q trace s n = needed_by (policy_of q) trace s (sinks_between q trace s n)
