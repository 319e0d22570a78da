use Rattle.std.proofs.Common.{◌∙◌}
use Rattle.digest_lanes.proofs.LaneLemmas.{below_four}
use Rattle.digest_lanes.proofs.Pair512Lemmas.{digest_of_lane}
use Rattle.digest_lanes.proofs.pairs512.digests_of_four.Goals as goal

pub returns : goal.returns
returns c =
    let s = c.args.state in
    below_four _ (c.digest-first.ensures ∙ digest_of_lane s 0) (c.digest-second.ensures ∙ digest_of_lane s 1)
    (c.digest-third.ensures ∙ digest_of_lane s 2) (c.digest-fourth.ensures ∙ digest_of_lane s 3)
