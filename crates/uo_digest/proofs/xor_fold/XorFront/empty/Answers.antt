use Rattle.std.proofs.Common.{refl}
use Rattle.uo_digest.specs.XorFold.{xor_fold}
use Rattle.uo_digest.proofs.xor_fold.XorFront.empty.Goals as goal

pub returns : goal.returns
unfolding xor_fold
returns c = (refl, refl)
