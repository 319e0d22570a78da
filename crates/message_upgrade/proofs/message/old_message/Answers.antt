use Rattle.std.proofs.Common.{◌≡◌, Err, sym, ap, ◌∙◌, arith}
use Rattle.proof_wire.specs.declared.fault.MessageFault.TheVariants.{NotAMessage, Version, NoMemory}
use Rattle.node_rules.proofs.MessageLaws.{message_read}
use Rattle.message_upgrade.proofs.Reading.{refused_not_old}
use Rattle.message_upgrade.proofs.message.old_message.Goals as goal

pub returns-in-Position : goal.returns-in-Position
returns-in-Position c = (message_read _ _ c.in-Ok.ensures.found.0 c.in-Ok.ensures.found.1, sym c.naming.ensures ∙ c.in-Position.is)

pub returns-in-Err-NotAMessage : goal.returns-in-Err-NotAMessage
returns-in-Err-NotAMessage c =
    refused_not_old _ c.in-Err-NotAMessage.field-0 (λ i. omega (arith, c.type_inv.message i))
    (λ e. let f : NotAMessage ≡ NoMemory = sym c.in-Err-NotAMessage.field-0-is ∙ e in cc)
    (λ e. c.in-Err-NotAMessage.ensures.none (ap Err e))
    (λ v. (λ e. (c.in-Err-NotAMessage.ensures.version v).0 (ap Err e), λ w. let e = (c.in-Err-NotAMessage.ensures.version v).1 w in cc))

pub returns-in-Err-Version : goal.returns-in-Err-Version
returns-in-Err-Version c =
    refused_not_old _ c.in-Err-Version.field-0 (λ i. omega (arith, c.type_inv.message i))
    (λ e. let f : Version c.in-Err-Version.field-0-0 ≡ NoMemory = sym c.in-Err-Version.field-0-is ∙ e in cc)
    (λ e. c.in-Err-Version.ensures.none (ap Err e))
    (λ v. (λ e. (c.in-Err-Version.ensures.version v).0 (ap Err e), λ w. let e = (c.in-Err-Version.ensures.version v).1 w in cc))
