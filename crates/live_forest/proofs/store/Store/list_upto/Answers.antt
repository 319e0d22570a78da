use Rattle.std.proofs.Common.{◌≤◌, ◌/◌, length, sym, subst, arith}
use Rattle.live_forest.proofs.Lengthening.{longer_twice}
use Rattle.live_forest.proofs.store.Store.list_upto.Goals as goal

pub entries-preserved : goal.entries-preserved
entries-preserved c = record {
  longer = longer_twice c.args.self.now c.entries.self c.list_next.new.self c.entries.invariant.longer c.list_next.ensures.longer;
  high = subst (λ h. c.args.entries / 128 ≤ length h) (sym c.list_next.ensures.high) c.entries.invariant.high;
  most = omega (arith, c.in_ok-list_next.ensures.ok, c.entries-test.true, c.len.ensures);
}

pub returns-in_err-list_next-clause-longer : goal.returns-in_err-list_next-clause-longer
returns-in_err-list_next-clause-longer c =
    longer_twice c.args.self.now c.entries.self c.list_next.new.self c.entries.invariant.longer c.list_next.ensures.longer
