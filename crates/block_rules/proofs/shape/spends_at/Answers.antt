use Rattle.std.proofs.Common.{refl, sym, ◌∙◌, arith}
use Rattle.leaf_record.specs.History.{somes}
use Rattle.block_rules.specs.Known.{history_at}
use Rattle.block_rules.specs.Walk.{seen}
use Rattle.block_rules.proofs.Spending.{somes_of, whole_of}
use Rattle.block_rules.proofs.Paid.{counted, new_is, claimed_is, spends_are}
use Rattle.block_rules.proofs.shape.spends_at.Goals as goal

pub invariant_of-result : goal.invariant_of-result
invariant_of-result c =
    let b = c.args.block.now in
    let h = c.args.height in
    let w = c.in_ok-made.field-0 in
    let g = c.in_ok-made.ensures.walked in
    let o = c.in_ok-made.ensures.origins in
    let high = o.height in
    let low = c.requires.height in
    let all = new_is b h w.made.origins w.made.outputs.items c.new_outputs.result.items (seen w) refl g c.new_outputs.ensures in
    (counted b h (seen w) c.in_ok-made.ensures.few g, whole_of _ _ all, omega (arith, high, low))

pub returns : goal.returns
returns c =
    let b = c.args.block.now in
    let h = c.args.height in
    let w = c.in_ok-made.field-0 in
    let g = c.in_ok-made.ensures.walked in
    let all = new_is b h w.made.origins w.made.outputs.items c.new_outputs.result.items (seen w) refl g c.new_outputs.ensures in
    spends_are c.args.net h w.made.origins.height b w.external.items (somes (history_at w.made.origins c.new_outputs.result.items)) _ w.bills.items
    c.in_ok-made.ensures.origins.height g.outs (somes_of _ _ all) (c.output_sum.ensures ∙ sym (claimed_is b.txs c.tx.result.now c.tx.ensures))
    g.billed
