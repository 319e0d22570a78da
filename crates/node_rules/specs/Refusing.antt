-- How faults of reading, of targets and of proofs are told.
use Rattle.std.specs.Prelude.{◌≡◌, ℕ, List, Result, Ok, Err}
use Rattle.proof_wire.specs.declared.fault.MessageFault.{MessageFault}
use Rattle.proof_wire.specs.declared.fault.MessageFault.TheVariants.{NotAMessage, Version}
use Rattle.proof_wire.specs.declared.fault.MessageFault.TheVariants as Unread
use Rattle.proof_shape.specs.declared.fault.ShapeFault.{ShapeFault}
use Rattle.proof_shape.specs.declared.fault.ShapeFault.TheVariants as Shape
use Rattle.proof_verify.specs.declared.fault.ProofFault.{ProofFault}
use Rattle.proof_verify.specs.declared.fault.ProofFault.TheVariants as Fault
use Rattle.block_rules.specs.declared.fault.RuleFault.{RuleFault}
use Rattle.block_rules.specs.declared.fault.RuleFault.TheVariants.{Refused, NoMemory}
use Rattle.block_rules.specs.declared.refusal.Refusal.TheVariants as Why
use Rattle.block_rules.specs.declared.refusal.ProofRefusal.{ProofRefusal}
use Rattle.block_rules.specs.declared.refusal.ProofRefusal.TheVariants as Target
use Rattle.node_rules.specs.Messages.{Message}
use Rattle.node_rules.specs.Reading.{unread, read, message_in}

-- the message that bytes are, or why they are none
abbrev pub IsReadAs : List ℕ → Result Message RuleFault → Type 0
IsReadAs bytes (Ok m) = message_in bytes ≡ read m
IsReadAs bytes (Err (Refused why)) = message_in bytes ≡ unread why
IsReadAs bytes (Err NoMemory) = Unit {0}

abbrev pub IsUnreadAs : MessageFault → RuleFault → Type 0
IsUnreadAs NotAMessage fault = fault ≡ Refused Why.MessageForm
IsUnreadAs (Version v) fault = fault ≡ Refused (Why.MessageVersion v)
IsUnreadAs Unread.NoMemory fault = fault ≡ NoMemory

abbrev pub IsRefusedAs : ShapeFault → RuleFault → Type 0
IsRefusedAs (Shape.Outside i) fault = fault ≡ Refused (Why.Proof (Target.Outside i))
IsRefusedAs (Shape.Repeated i j) fault = fault ≡ Refused (Why.Proof (Target.Repeated i j))
IsRefusedAs (Shape.Beneath i j) fault = fault ≡ Refused (Why.Proof (Target.Beneath i j))
IsRefusedAs Shape.NoMemory fault = fault ≡ NoMemory

-- the digests of a root that differs are left out
abbrev pub proof_refusal : ProofFault → ProofRefusal
proof_refusal (Fault.HashCount want got) = Target.HashCount want got
proof_refusal (Fault.EmptyRoot row) = Target.EmptyRoot row
proof_refusal (Fault.RootDiffers row had computed) = Target.RootDiffers row
