use Rattle.std.proofs.Common.{◌++◌, slice_index, inl, inr, arith, subst}
use Rattle.std.proofs.lemmas.Bool.{cases_lt}
use Rattle.sha2.specs.Sha512.{sha512_256}
use Rattle.digest_lanes.specs.Texts.{IsGivenAt, text_at}
use Rattle.digest_lanes.proofs.MidstateLemmas.{blocks_made}
use Rattle.digest_lanes.proofs.front.digest_groups.Goals as goal

pub digest_group-requires-clause-blocks : goal.digest_group-requires-clause-blocks
digest_group-requires-clause-blocks g c = λ k lt.
    let t = text_at c.args.texts.now (slice_index c.next_group.new.group k) in
    blocks_made c.args.start.now.taken c.args.blocks t c.args.start.now.whole c.requires.some
    (rw (c.lengths_of-lengths.ensures) at (c.in-Some.ensures.of k (omega arith)).1)

pub groups-smaller : goal.groups-smaller
groups-smaller g c = omega (arith, c.in-Some.ensures.far.0, c.in-Some.ensures.far.1)

pub groups-preserved : goal.groups-preserved
groups-preserved g c = λ before held.
    let now = c.groups.invariant before held in
    let kept = c.digest_group.ensures.kept before held in (
      λ i was. kept i (now.0 i was),
      λ i lt has. elim (cases_lt i c.groups.from) [
        | inl a ↦ kept i (now.1 i a has)
        | inr b ↦
            let (k, (within, same)) = c.in-Some.ensures.all i b lt (rw c.lengths_of-lengths.ensures has) in
            subst (λ n. IsGivenAt (λ text v. g.T.From.from_gives (sha512_256 (before ++ text)) v) c.args.texts.now c.digest_group.new.out n) same
            (c.digest_group.ensures.made before held k (omega arith))
      ],
    )
