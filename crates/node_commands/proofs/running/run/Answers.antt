use Rattle.std.proofs.Common.{refl}
use Rattle.feed_run.specs.declared.status.Status.TheVariants.{ReadFault, WriteFault, NoMemory}
use Rattle.node_commands.proofs.RanLemmas.{did-by, not_stopped}
use Rattle.node_commands.proofs.running.run.Goals as goal

pub returns-in-Ok-clause-did : goal.returns-in-Ok-clause-did
returns-in-Ok-clause-did g c = did-by g.D.Digester.digest_of g.met.D.Digester.has_32_bytes c.args.limits c.requires.leaves c.requires.bytes _ _ _ _ _
    _ _ _ _ _ _ c.in-Ok.ensures.goes_on c.in-Ok.ensures.ran

pub returns-in-Ok-clause-read : goal.returns-in-Ok-clause-read
returns-in-Ok-clause-read g c = λ h. absurd (not_stopped _ ReadFault c.in-Ok.ensures.goes_on refl h)

pub returns-in-Ok-clause-write : goal.returns-in-Ok-clause-write
returns-in-Ok-clause-write g c = λ h. absurd (not_stopped _ WriteFault c.in-Ok.ensures.goes_on refl h)

pub returns-in-Err-ReadFault-clause-did : goal.returns-in-Err-ReadFault-clause-did
returns-in-Err-ReadFault-clause-did g c = did-by g.D.Digester.digest_of g.met.D.Digester.has_32_bytes c.args.limits c.requires.leaves c.requires.bytes
    _ _ _ _ _ _ _ _ _ ReadFault _ refl (rw c.in-Err-ReadFault.field-0-is at c.in-Err-ReadFault.ensures.ran)

pub returns-in-Err-WriteFault-clause-did : goal.returns-in-Err-WriteFault-clause-did
returns-in-Err-WriteFault-clause-did g c = did-by g.D.Digester.digest_of g.met.D.Digester.has_32_bytes c.args.limits c.requires.leaves
    c.requires.bytes _ _ _ _ _ _ _ _ _ WriteFault _ refl (rw c.in-Err-WriteFault.field-0-is at c.in-Err-WriteFault.ensures.ran)

pub returns-in-Err-NoMemory-clause-did : goal.returns-in-Err-NoMemory-clause-did
returns-in-Err-NoMemory-clause-did g c = did-by g.D.Digester.digest_of g.met.D.Digester.has_32_bytes c.args.limits c.requires.leaves c.requires.bytes
    _ _ _ _ _ _ _ _ _ NoMemory _ refl (rw c.in-Err-NoMemory.field-0-is at c.in-Err-NoMemory.ensures.ran)
