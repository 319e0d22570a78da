use Rattle.std.proofs.Common.{arith}
use Rattle.live_forest.proofs.waiting.put_waiting.Goals as goal

pub returns-in-1-clause-step : goal.returns-in-1-clause-step
returns-in-1-clause-step g c = λ new all. c.put_one.ensures.step new (all 0 (omega (arith, c.in-1.is)))
