use Rattle.std.proofs.Common.{◌++◌, inl, inr, arith}
use Rattle.std.proofs.lemmas.Bool.{cases_lt}
use Rattle.sha2.specs.Sha512.{sha512_256}
use Rattle.digest_lanes.specs.Groups.{HasLength}
use Rattle.digest_lanes.specs.Texts.{IsGivenAt, text_at}
use Rattle.digest_lanes.proofs.ListLemmas.{none_past, one_more}
use Rattle.digest_lanes.proofs.front.Front.digest_alone.Goals as goal

pub each-preserved : goal.each-preserved
each-preserved g c = λ before held.
    let now = c.each.invariant before held in
    let kept = c.digest_at.ensures.kept before held in (
      λ i was. kept i (now.0 i was),
      one_more (λ i. HasLength c.args.lengths (text_at c.args.rests.now i)
          → IsGivenAt (λ text v. g.T.From.from_gives (sha512_256 (before ++ text)) v) c.args.rests.now c.digest_at.new.out i)
          c.args.from c.each.i (λ i low lt has. kept i (now.1 i low lt has)) (c.digest_at.ensures.made before held),
    )

pub returns-clause-made : goal.returns-clause-made
returns-clause-made g c = λ before held i low has. elim (cases_lt i c.each.i) [
  | inl a ↦ (c.each.invariant before held).1 i low a has
  | inr b ↦ none_past (λ k v. g.T.From.from_gives (sha512_256 (before ++ text_at c.args.rests.now k)) v) c.each.out i (omega arith)
]
