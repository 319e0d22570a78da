use Rattle.std.proofs.Common.{sym, subst}
use Rattle.relay_script.specs.Script.{IsReadAs}
use Rattle.relay_script.proofs.Meaning.{read_as_meant}
use Rattle.relay_script.proofs.script.read_script.Goals as goal

pub returns-clause-meaning : goal.returns-clause-meaning
returns-clause-meaning c = subst (IsReadAs c.args.text.now) (sym c.read_lines.ensures) (read_as_meant c.args.text.now)
