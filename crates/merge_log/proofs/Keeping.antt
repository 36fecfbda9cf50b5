-- What is kept while a log grows. Crates above cite these lemmas.
use Rattle.std.proofs.Common.{List, refl, ◌∙◌}
use Rattle.merge_log.specs.declared.nodes.Entry.{Entry}
use Rattle.merge_log.specs.Log.{KeepsNodes}

pub keeps_all : (log : List Entry) → KeepsNodes log log
keeps_all log = record { nodes = λ n h. h; terms = λ n h. refl }

pub keeps_then : (a b c : List Entry) → KeepsNodes a b → KeepsNodes b c → KeepsNodes a c
keeps_then a b c h k = record { nodes = λ n i. k.nodes n (h.nodes n i); terms = λ n i. k.terms n (h.nodes n i) ∙ h.terms n i }
