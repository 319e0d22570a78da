use Rattle.std.proofs.Common.{ap, ◌∙◌}
use Rattle.sha2.specs.Sha256.{sha256}
use Rattle.digest_lanes.proofs.pairs256.double_pairs_of_eight.Goals as goal

pub returns : goal.returns
returns c j h = c.digests.ensures j h ∙ c.digest_states-outer.ensures j h ∙ ap sha256 (c.pair_states-inner.ensures j h)
