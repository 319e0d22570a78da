use Rattle.std.proofs.Common.{arith}
use Rattle.relay_script.proofs.Reading.{not_spelled}
use Rattle.relay_script.proofs.line.number_of.Goals as goal

pub returns-in-Err-clause-is : goal.returns-in-Err-clause-is
returns-in-Err-clause-is c = not_spelled c.args.most c.args.digits.now (omega (arith, c.ranges.most.fits)) c.in-Err.ensures.cases.0
