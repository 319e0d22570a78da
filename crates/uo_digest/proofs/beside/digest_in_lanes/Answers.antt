use Rattle.std.proofs.Common.{◌++◌, ◌∙◌}
use Rattle.sha2.specs.Sha512.{sha512_256}
use Rattle.uo_digest.proofs.BatchLemmas.{given_all}
use Rattle.uo_digest.proofs.beside.digest_in_lanes.Goals as goal

pub returns : goal.returns
returns c = λ text held. given_all (λ rest. sha512_256 (text ++ rest)) _ _ (c.digest_each.auto.out ∙ c.requires) (c.digest_each.ensures text held)
