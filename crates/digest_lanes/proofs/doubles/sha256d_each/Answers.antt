use Rattle.std.proofs.Common.{◌≤◌, length, inl, inr, arith}
use Rattle.std.proofs.lemmas.Bool.{cases_lt}
use Rattle.sha2.specs.Sha256.{sha256}
use Rattle.digest_lanes.specs.Texts.{text_at}
use Rattle.digest_lanes.proofs.ListLemmas.{none_past}
use Rattle.digest_lanes.proofs.doubles.sha256d_each.Goals as goal

pub each-init : goal.each-init
each-init g c = λ i lt. elim (cases_lt i (length c.args.texts.now)) [
  | inl a ↦ let from = c.blocks_of-least.ensures.from i a in absurd (omega (arith, from, lt))
  | inr b ↦
      let past : length c.args.out.now ≤ i = omega (arith, b, c.requires) in
      none_past (λ k v. g.T.From.from_gives (sha256 (sha256 (text_at c.args.texts.now k))) v) c.args.out.now i past
]
