use Rattle.std.proofs.Common.{◌≡◌, suc, ◌+◌, ◌^◌, subst, arith}
use Rattle.output_index.specs.Buckets.{bucket_of}
use Rattle.output_index.proofs.Bucketed.{bit-more}
use Rattle.output_index.proofs.buckets.bits_to_grow.Goals as goal

pub returns-then-count-power_of_two-clause-same : goal.returns-then-count-power_of_two-clause-same
returns-then-count-power_of_two-clause-same c =
    let full : c.args.count ≡ 2 ^ suc c.args.bits = omega (arith, c.if-count-power_of_two.true, c.power_of_two.ensures.is) in
    let more : suc c.args.bits ≡ c.args.bits + 1 = omega arith in
    λ m. subst (λ b. bucket_of b c.args.count m ≡ bucket_of c.args.bits c.args.count m) more (bit-more c.args.bits c.args.count m full)
