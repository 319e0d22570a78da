use Rattle.std.proofs.Common.{◌∙◌}
use Rattle.digest_lanes.proofs.EightLemmas.{below_eight}
use Rattle.digest_lanes.proofs.Pair256Lemmas.{digest_of_lane}
use Rattle.digest_lanes.proofs.pairs256.digests.Goals as goal

pub returns : goal.returns
returns c =
    let s = c.args.state in
    below_eight _ (c.digest-first.ensures ∙ digest_of_lane s 0) (c.digest-second.ensures ∙ digest_of_lane s 1)
    (c.digest-third.ensures ∙ digest_of_lane s 2) (c.digest-fourth.ensures ∙ digest_of_lane s 3)
    (c.digest-fifth.ensures ∙ digest_of_lane s 4) (c.digest-sixth.ensures ∙ digest_of_lane s 5)
    (c.digest-seventh.ensures ∙ digest_of_lane s 6) (c.digest-eighth.ensures ∙ digest_of_lane s 7)
