use Rattle.std.proofs.Common.{inl, inr, arith}
use Rattle.std.proofs.lemmas.Bool.{cases_lt}
use Rattle.sha2.specs.Sha256.{sha256}
use Rattle.digest_lanes.specs.Groups.{HasLength}
use Rattle.digest_lanes.specs.Texts.{IsGivenAt, text_at}
use Rattle.digest_lanes.proofs.ListLemmas.{none_past, one_more}
use Rattle.digest_lanes.proofs.doubles.digest_alone.Goals as goal

pub each-preserved : goal.each-preserved
each-preserved g c =
    let now = c.each.invariant in
    let kept = c.digest_at.ensures.kept in (
      λ i was. kept i (now.0 i was),
      one_more (λ i. HasLength c.args.lengths (text_at c.args.texts.now i)
          → IsGivenAt (λ text v. g.T.From.from_gives (sha256 (sha256 text)) v) c.args.texts.now c.digest_at.new.out i)
          c.args.from c.each.i (λ i low lt has. kept i (now.1 i low lt has)) c.digest_at.ensures.made,
    )

pub returns-clause-made : goal.returns-clause-made
returns-clause-made g c = λ i low has. elim (cases_lt i c.each.i) [
  | inl a ↦ c.each.invariant.1 i low a has
  | inr b ↦ none_past (λ k v. g.T.From.from_gives (sha256 (sha256 (text_at c.args.texts.now k))) v) c.each.out i (omega arith)
]
