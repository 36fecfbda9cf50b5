-- What is said of refusals, by what they are owed to. Crates above cite these lemmas.
use Rattle.std.proofs.Common.{sym, subst}
use Rattle.jet_refusal.specs.declared.refusal.Refusal.{Refusal}
use Rattle.jet_refusal.specs.declared.refusal.Refusal.TheVariants as refusal
use Rattle.jet_refusal.specs.Causes.{Causes, IsOwedTo}
use Rattle.jet_refusal.specs.Faults.{IsOutOfMemory}

-- each cause says more
pub IsOwedTo-map : (a b : Causes) → (a.usage → b.usage) → (a.files → b.files) → (a.read → b.read) → (a.write → b.write) → (r : Refusal) → IsOwedTo a r → IsOwedTo b r
IsOwedTo-map a b usage files read write refusal.Usage h = usage h
IsOwedTo-map a b usage files read write (refusal.Image fault) h = files h
IsOwedTo-map a b usage files read write (refusal.Window pages) h = files h
IsOwedTo-map a b usage files read write (refusal.Log kind offset) h = files h
IsOwedTo-map a b usage files read write (refusal.Program kept seen) h = files h
IsOwedTo-map a b usage files read write (refusal.Diverged d) h = files h
IsOwedTo-map a b usage files read write (refusal.Query line kind) h = files h
IsOwedTo-map a b usage files read write (refusal.QueryOf file line kind) h = files h
IsOwedTo-map a b usage files read write (refusal.Rules first index other) h = files h
IsOwedTo-map a b usage files read write refusal.TooLong h = files h
IsOwedTo-map a b usage files read write (refusal.LogTooLong size) h = files h
IsOwedTo-map a b usage files read write (refusal.TooManyEpochs count) h = files h
IsOwedTo-map a b usage files read write refusal.ReadFault h = read h
IsOwedTo-map a b usage files read write refusal.WriteFault h = write h
IsOwedTo-map a b usage files read write (refusal.NoMemory no_memory) h = h

-- out of memory is owed to nothing else
pub IsOwedTo-out_of_memory : (a : Causes) (r : Refusal) → IsOutOfMemory r → IsOwedTo a r
IsOwedTo-out_of_memory a r out = subst (IsOwedTo a) (sym out.is) tt
