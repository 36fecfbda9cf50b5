-- What bytes that were read come to.
use Rattle.std.proofs.Common.{◌≡◌, ℕ, List, Err}
use Rattle.std.specs.List.{AllByRecursion}
use Rattle.std.specs.Prelude.{◌<◌}
use Rattle.elf_model.specs.declared.ImageKind.{ImageKind}
use Rattle.elf_model.specs.Image.{image}
use Rattle.log_model.specs.declared.FaultInLog.{FaultInLog}
use Rattle.no_memory.specs.declared.Fault.{Fault}
use Rattle.no_memory.specs.declared.Fault.TheVariants.{At, NoMemory}
use Rattle.no_memory.specs.Faults.{IsCausedBy}
use Rattle.log_model.specs.Reading.{log_of}
use Rattle.replay_log.specs.Answers.{IsFaultOf}
use Rattle.jet_refusal.specs.declared.refusal.Refusal.{Refusal}
use Rattle.jet_refusal.specs.declared.refusal.Refusal.TheVariants as refusal
use Rattle.jet_model.specs.Contents.{program_in, log_in}
use Rattle.jet_model.proofs.Files.{program_in-fault, log_in-fault}
use Rattle.jet_refusal.specs.Faults.{IsRefusalOf}
use Rattle.command_parts.specs.Outcome.{IsWork}

pub no_program : (bytes : List ℕ) (fault : Fault ImageKind) (r : Refusal) → IsCausedBy (λ kind. image bytes ≡ Err kind) fault
    → IsRefusalOf (λ kind given. given ≡ refusal.Image kind) fault r → IsWork (program_in bytes) (Err r)
no_program bytes (At kind) r e gives = rw gives (program_in-fault bytes kind e)
no_program bytes (NoMemory no_memory) r e gives = rw gives tt

pub no_log : (bytes : List ℕ) (fault : Fault FaultInLog) (r : Refusal) → AllByRecursion (λ b. b < 256) bytes → IsCausedBy (IsFaultOf (log_of bytes)) fault
    → IsRefusalOf (λ at given. given ≡ refusal.Log at.kind at.offset) fault r → IsWork (log_in bytes) (Err r)
no_log bytes (At at) r fits e gives = rw gives (log_in-fault bytes at.kind at.offset fits e)
no_log bytes (NoMemory no_memory) r fits e gives = rw gives tt
