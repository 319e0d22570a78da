use Rattle.std.proofs.Common.{◌++◌, slice_index, arith}
use Rattle.sha2.specs.Sha512.{sha512_256}
use Rattle.digest_lanes.specs.Texts.{text_at}
use Rattle.digest_lanes.proofs.ListLemmas.{put_each}
use Rattle.digest_lanes.proofs.front.digest_group.Goals as goal

pub each-preserved : goal.each-preserved
each-preserved g c = λ before held.
    let k = c.each.k in
    put_each (λ i v. g.T.From.from_gives (sha512_256 (before ++ text_at c.args.texts.now i)) v) c.args.out.now c.each.out
    (slice_index c.args.group.now) k c.from.result (rw (c.digest_four-digests.ensures k (omega arith) before held) at c.from.ensures)
    (c.each.invariant before held)
