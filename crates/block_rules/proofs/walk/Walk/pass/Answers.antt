use Rattle.std.proofs.Common.{List, ◌∷◌, ◌++◌, [], ap₂, ◌∙◌, arith}
use Rattle.block_rules.specs.Money.{Bill}
use Rattle.block_rules.proofs.Passing.{walked_is, pass_left, bill_is, outs_are, own_len}
use Rattle.block_rules.proofs.walk.Walk.pass.Goals as goal

pub returns-clause-on : goal.returns-clause-on
returns-clause-on c =
    let n = c.in_ok-name_last.ensures in
    let s = c.in_ok-own.ensures in
    let a = c.in_ok-add.ensures in
    walked_is _ _ _ _ _ _
    (pass_left _ _ _ _ _ c.args.t c.args.tx.now _ _ (s.origins ∙ n.origins) a.origins a.added n.outputs s.left)
    (outs_are _ _ c.args.t c.args.tx.now _ _ n.outputs s.external)
    (c.in_ok-push.ensures.items ∙ ap₂ (λ (bs : List Bill) (b : Bill). bs ++ b ∷ []) s.bills
    (bill_is _ _ c.args.t c.args.tx.now _ _ n.outputs s.found c.output_sum.ensures))

pub invariant_of-push : goal.invariant_of-push
invariant_of-push c =
    let few = c.in_ok-own.ensures.few in
    let long = own_len c.in_ok-own.own.items c.args.t c.args.tx.now.inputs _ c.in_ok-own.ensures.found in
    omega (arith, few, long)
