use Rattle.std.proofs.Common.{ℕ, suc, ◌+◌, ◌*◌, ◌^◌, ◌<◌, ◌≤◌, ◌≡◌, ap, sym, ◌∙◌, arith, pow-suc}
use Rattle.std.proofs.Math.Pow.{pow_mono}
use Rattle.forest_place.proofs.Positions.{rows_is, pow_order}
use Rattle.forest_place.proofs.numbering.rows.Goals as goal

-- the power above the logarithm
one_more : (k : ℕ) → 2 ^ (k + 1) ≡ 2 ^ k * 2
one_more k = let e : k + 1 ≡ suc k = omega arith in ap (λ x. 2 ^ x) e ∙ pow-suc 2 k

below_all : (n k j : ℕ) → 2 ^ k < n → j < k + 1 → 2 ^ j < n
below_all n k j h lt = let q : 2 ^ j ≤ 2 ^ k = pow_mono (omega arith) in omega (arith, q)

pub returns-else-n-le1-clause-least : goal.returns-else-n-le1-clause-least
returns-else-n-le1-clause-least c = λ j lt. below_all c.args.n c.ilog2.result j (omega (arith, c.ilog2.ensures.power_le, c.if-n-le1.false)) lt

pub returns-else-n-le1-clause-is : goal.returns-else-n-le1-clause-is
returns-else-n-le1-clause-is c =
    sym (rows_is c.args.n (c.ilog2.result + 1) (omega (arith, one_more c.ilog2.result, c.ilog2.ensures.next_power_gt))
    (returns-else-n-le1-clause-least c))

pub returns-else-n-le1-clause-few : goal.returns-else-n-le1-clause-few
returns-else-n-le1-clause-few c = omega (arith, pow_order c.ilog2.result 40 (omega (arith, c.ilog2.ensures.power_le, c.requires)))
