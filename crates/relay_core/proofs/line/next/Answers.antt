use Rattle.std.proofs.Common.{◌≡◌, ◌+◌, ◌∙◌, suc, Some, get_or, ap, sym, arith}
use Rattle.relay_core.specs.World.{next_or_same}
use Rattle.relay_core.proofs.Lines.{after_none, after_found, after_last}
use Rattle.relay_core.proofs.line.next.Goals as goal

pub returns-in_default : goal.returns-in_default
returns-in_default c = ap next_or_same (sym (after_none c.args.chain.now c.args.first (c.place_of.ensures.none c.in_default.is)))

pub returns-then-i-chain : goal.returns-then-i-chain
returns-then-i-chain c =
    ap next_or_same (ap (λ k. Some (get_or c.args.chain.now k 0)) (let more : c.in-Some.i + 1 ≡ suc c.in-Some.i = omega arith in more)
    ∙ sym (after_found c.requires.0 c.args.chain.now c.args.first c.in-Some.i c.requires.1 (omega (arith, c.if-i-chain.true))
    c.in-Some.ensures.some.1))

pub returns-else-i-chain : goal.returns-else-i-chain
returns-else-i-chain c =
    ap next_or_same (sym (after_last c.requires.0 c.args.chain.now c.args.first c.in-Some.i c.requires.1
    (omega (arith, c.if-i-chain.false, c.in-Some.ensures.some.0)) c.in-Some.ensures.some.1))
