-- What a fault says.
use Rattle.no_memory.specs.declared.Fault.{Fault}
use Rattle.no_memory.specs.declared.Fault.TheVariants.{At, NoMemory}

-- it is owed to such a cause, or memory ran out, which says nothing
abbrev pub IsCausedBy : {K : Type 0} → (K → Type 0) → Fault K → Type 0
IsCausedBy holds (At cause) = holds cause
IsCausedBy holds (NoMemory no_memory) = Unit {0}

-- memory ran out
abbrev pub IsOutOfMemory : {K : Type 0} → Fault K → Type 0
IsOutOfMemory (At cause) = ⊥
IsOutOfMemory (NoMemory no_memory) = Unit {0}
