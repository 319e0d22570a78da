use Rattle.std.proofs.Common.{◌≡◌, length, subst, arith}
use Rattle.relay_script.proofs.Cutting.{IsBehind, none_yet, one_more, found_here, found_none}
use Rattle.relay_script.proofs.cut.cut_at.Goals as goal

pub loop-i-init : goal.loop-i-init
loop-i-init c = none_yet c.args.byte c.args.text.now

pub loop-i-preserved : goal.loop-i-preserved
loop-i-preserved c = one_more c.args.byte c.args.text.now c.loop-i.i c.loop-i.invariant c.if-text-i.false

pub returns-then-text-i : goal.returns-then-text-i
returns-then-text-i c = found_here c.args.byte c.args.text.now c.loop-i.i (omega arith) c.loop-i.invariant c.if-text-i.true

pub returns : goal.returns
returns c =
    let all : c.loop-i.i ≡ length c.args.text.now = omega arith in
    found_none c.args.byte c.args.text.now (subst (IsBehind c.args.byte c.args.text.now) all c.loop-i.invariant)
