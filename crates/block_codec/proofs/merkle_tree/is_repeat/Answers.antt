use Rattle.block_codec.proofs.PairLaws.{last_tells, both_tell}
use Rattle.block_codec.proofs.merkle_tree.is_repeat.Goals as goal

pub returns-in-None : goal.returns-in-None
returns-in-None c = last_tells _ _ c.requires c.in-None.ensures.lookup.3

pub returns-in-Some : goal.returns-in-Some
returns-in-Some c =
    let found = c.in-Some.ensures.lookup in
    rw c.eq.ensures (both_tell _ _ _ _ found.3.0 found.1)
