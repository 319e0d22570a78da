use Rattle.std.proofs.Common.{◌-◌, arith}
use Rattle.block_rules.proofs.Parts.{in_part, below_part}
use Rattle.block_rules.proofs.spends.NewOutputsLeaves.leaf.Goals as goal

pub overflow_add-self-inside : goal.overflow_add-self-inside
overflow_add-self-inside c =
    let lt = below_part c.self.inside.spends.now.new c.self.inside.from c.self.inside.end c.args.index (rw (← c.self.view_is) at c.requires) in
    omega (arith, lt, c.self.invariant.0, c.self.invariant.2)

pub new_output-requires : goal.new_output-requires
new_output-requires c =
    let lt = below_part c.self.inside.spends.now.new c.self.inside.from c.self.inside.end c.args.index (rw (← c.self.view_is) at c.requires) in
    omega (arith, lt, c.self.invariant.0, c.self.invariant.1)

pub returns : goal.returns
returns c =
    let lt = below_part c.self.inside.spends.now.new c.self.inside.from c.self.inside.end c.args.index (rw (← c.self.view_is) at c.requires) in
    rw (← c.self.view_is)
    (in_part c.self.inside.spends.now.new c.self.inside.from (c.self.inside.end - c.self.inside.from) c.args.index c.new_output.result
    (omega (arith, c.self.invariant.0, c.self.invariant.1)) lt c.new_output.ensures)
