use Rattle.std.proofs.Common.{slice_index, inl, inr, arith, subst}
use Rattle.std.proofs.lemmas.Bool.{cases_lt}
use Rattle.sha2.specs.Sha256.{sha256}
use Rattle.digest_lanes.specs.Texts.{IsGivenAt, text_at}
use Rattle.digest_lanes.proofs.Padding256Lemmas.{blocks_made}
use Rattle.digest_lanes.proofs.doubles.digest_groups.Goals as goal

pub digest_group-requires-clause-blocks : goal.digest_group-requires-clause-blocks
digest_group-requires-clause-blocks g c = λ k lt.
    blocks_made c.args.blocks (text_at c.args.texts.now (slice_index c.next_group.new.group k)) c.requires.some
    (rw (c.lengths_of-lengths.ensures) at (c.in-Some.ensures.of k (omega arith)).1)

pub groups-smaller : goal.groups-smaller
groups-smaller g c = omega (arith, c.in-Some.ensures.far.0, c.in-Some.ensures.far.1)

pub groups-preserved : goal.groups-preserved
groups-preserved g c =
    let now = c.groups.invariant in
    let kept = c.digest_group.ensures.kept in (
      λ i was. kept i (now.0 i was),
      λ i lt has. elim (cases_lt i c.groups.from) [
        | inl a ↦ kept i (now.1 i a has)
        | inr b ↦
            let (k, (within, same)) = c.in-Some.ensures.all i b lt (rw c.lengths_of-lengths.ensures has) in
            subst (λ n. IsGivenAt (λ text v. g.T.From.from_gives (sha256 (sha256 text)) v) c.args.texts.now c.digest_group.new.out n) same
            (c.digest_group.ensures.made k (omega arith))
      ],
    )
