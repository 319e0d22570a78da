use Rattle.std.proofs.Common.{arith}
use Rattle.proof_wire.proofs.RestsLaws.{count_fits, one_rest_more, rests_more}
use Rattle.proof_wire.proofs.rests.Rests.push.Goals as goal

pub overflow_add-self : goal.overflow_add-self
overflow_add-self c =
    let text = c.write_rest.new.out in
    omega (arith, text.small, text.ok.0, text.ok.1, count_fits _ _ _ c.self.invariant _ c.write_rest.ensures.fits c.in_ok-write_rest.ensures.ok)

pub invariant_of-self-2 : goal.invariant_of-self-2
invariant_of-self-2 c = one_rest_more _ _ _ c.self.invariant _ c.write_rest.ensures.fits c.in_ok-write_rest.ensures.ok

pub returns-clause-ok : goal.returns-clause-ok
returns-clause-ok c = rw (← c.self.view_is) (rests_more _ _ _ c.self.invariant _ c.write_rest.ensures.fits c.in_ok-write_rest.ensures.ok)
