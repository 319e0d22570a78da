use Rattle.std.proofs.Common.{◌<◌, ◌^◌, ◌*◌, sym, subst, arith}
use Rattle.std.proofs.Math.Pow.{pow-lt}
use Rattle.std.proofs.Math.Nat.{mod-eq_of_lt}
use Rattle.output_index.proofs.bucket.power_of_two.Goals as goal

pub returns-clause-small : goal.returns-clause-small
returns-clause-small c =
    let b = c.args.bits in
    let small : 2 ^ b < 2 ^ 62 = pow-lt c.requires in
    let once : 1 * 2 ^ b < 18446744073709551616 = omega (arith, small) in
    subst (λ x. x < 2 ^ 62) (sym (mod-eq_of_lt once)) (omega (arith, small))
