use Rattle.std.proofs.Common.{◌≤◌, ◌^◌, sym, subst, arith}
use Rattle.block_rules.specs.declared.chain.Chain.{Chain}
use Rattle.audit_replay.proofs.Supplying.{issued_fits}
use Rattle.audit_replay.proofs.supply.issued.Goals as goal

pub overflow_add-sum : goal.overflow_add-sum
overflow_add-sum g c =
    let low = subst (λ (x : Chain). x.blocks ≤ 2 ^ 31) (sym c.chain-height-end.ensures.is) c.chain-height-end.ensures.bridge.low in
    let fits = issued_fits c.net-net.result c.loop-height.height c.chain-height-end.result.blocks c.loop-height-test.true low in
    omega (arith, c.loop-height.invariant, c.subsidy-sum.ensures, fits)
