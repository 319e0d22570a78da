use Rattle.relay_core.proofs.Lines.{place_lost}
use Rattle.relay_core.proofs.line.place_of.Goals as goal

pub returns-in-Err-clause-none : goal.returns-in-Err-clause-none
returns-in-Err-clause-none c = λ none. place_lost c.requires.0 c.args.chain.now c.args.serial c.in-Err.field-0 c.requires.1 c.in-Err.ensures.position
