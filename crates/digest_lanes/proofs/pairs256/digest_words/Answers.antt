use Rattle.digest_lanes.specs.Lanes.{lane}
use Rattle.digest_lanes.proofs.EightLemmas.{splat_lane, slice_index-lane}
use Rattle.digest_lanes.proofs.Pair256Lemmas.{digest_block}
use Rattle.digest_lanes.proofs.pairs256.digest_words.Goals as goal

pub returns : goal.returns
returns c j h =
    let s = c.args.state in
    rw (
      c.as_words-a.ensures.same,
      c.as_words-b.ensures.same,
      c.as_words-c.ensures.same,
      c.as_words-d.ensures.same,
      c.as_words-e.ensures.same,
      c.as_words-f.ensures.same,
      c.as_words-g.ensures.same,
      c.as_words-h.ensures.same,
      ← slice_index-lane s j 0,
      ← slice_index-lane s j 1,
      ← slice_index-lane s j 2,
      ← slice_index-lane s j 3,
      ← slice_index-lane s j 4,
      ← slice_index-lane s j 5,
      ← slice_index-lane s j 6,
      ← slice_index-lane s j 7,
      splat_lane 0x80000000 j h,
      splat_lane 0 j h,
      splat_lane 256 j h,
    )
    (digest_block (lane j s)
    (rw (slice_index-lane s j 0) (c.as_words-a.ensures.below j h))
    (rw (slice_index-lane s j 1) (c.as_words-b.ensures.below j h))
    (rw (slice_index-lane s j 2) (c.as_words-c.ensures.below j h))
    (rw (slice_index-lane s j 3) (c.as_words-d.ensures.below j h))
    (rw (slice_index-lane s j 4) (c.as_words-e.ensures.below j h))
    (rw (slice_index-lane s j 5) (c.as_words-f.ensures.below j h))
    (rw (slice_index-lane s j 6) (c.as_words-g.ensures.below j h))
    (rw (slice_index-lane s j 7) (c.as_words-h.ensures.below j h)))
