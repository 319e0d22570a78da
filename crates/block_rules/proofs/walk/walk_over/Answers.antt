use Rattle.std.proofs.Common.{arith}
use Rattle.block_rules.specs.Walk.{seen}
use Rattle.block_rules.proofs.Walking.{walk_begins, walks_on, walk_ends, arises_on}
use Rattle.block_rules.proofs.walk.walk_over.Goals as goal

pub loop-t-init : goal.loop-t-init
loop-t-init c =
    let first = c.in_ok-walk.ensures in
    let none = first.place in
    record {
      walks = walk_begins c.args.block.now c.args.height c.in_ok-walk.walk.made.origins (seen c.in_ok-walk.walk) first.origins first.first;
      origins = first.origins;
      place = omega (arith, none);
      known = first.known;
    }

pub loop-t-preserved : goal.loop-t-preserved
loop-t-preserved c =
    let v = c.loop-t.invariant in
    let s = c.in_ok-pass.ensures in
    let at = v.place in
    let on = s.place in
    record {
      walks = walks_on c.args.block.now c.args.height c.loop-t.t c.tx.result.now c.loop-t.walk.made.origins (seen c.loop-t.walk) v.origins
          c.tx.ensures (omega (arith, at)) v.walks (seen c.pass.new.self) s.on;
      origins = arises_on c.args.block.now c.args.height _ _ s.origins v.origins;
      place = omega (arith, on);
      known = s.known;
    }

pub returns-clause-walked : goal.returns-clause-walked
returns-clause-walked c = walk_ends c.args.block.now c.args.height c.loop-t.t (seen c.loop-t.walk)
    (omega (arith, c.tx_count-t-end.ensures, c.loop-t-test.false)) c.loop-t.invariant.walks
