use Rattle.std.proofs.Common.{◌∙◌}
use Rattle.sha2.specs.Sha256.{sha256}
use Rattle.uo_digest.proofs.BatchLemmas.{given_all}
use Rattle.uo_digest.proofs.doubles.digest_in_lanes.Goals as goal

pub returns : goal.returns
returns c = given_all (λ text. sha256 (sha256 text)) _ _ (c.sha256d_each.auto.out ∙ c.requires) c.sha256d_each.ensures
