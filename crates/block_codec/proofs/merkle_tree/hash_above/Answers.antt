use Rattle.block_codec.proofs.PairLaws.{last_above, both_above}
use Rattle.block_codec.proofs.merkle_tree.hash_above.Goals as goal

pub returns-in-None : goal.returns-in-None
returns-in-None c = rw c.sha256d_pair.ensures (last_above _ _ _ c.requires c.in-None.ensures.lookup.3)

pub returns-in-Some : goal.returns-in-Some
returns-in-Some c =
    let found = c.in-Some.ensures.lookup in
    rw c.sha256d_pair-in-Some.ensures (both_above _ _ _ _ found.3.0 found.1)
