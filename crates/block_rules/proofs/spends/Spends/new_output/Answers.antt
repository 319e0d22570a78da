use Rattle.std.proofs.Common.{Some, ap, ◌∙◌, sym}
use Rattle.std.proofs.lemmas.Option.{none-some, same_Some}
use Rattle.block_rules.specs.Known.{leaf_at}
use Rattle.block_rules.proofs.Spending.{whole_at}
use Rattle.block_rules.proofs.spends.Spends.new_output.Goals as goal

pub unreachable-requires : goal.unreachable-requires
unreachable-requires c =
    let w = whole_at c.self.inside.origins c.self.inside.new.items c.args.i c.index.result.now c.self.invariant.1
    (rw (← c.self.view_is) at c.requires) c.index.ensures in
    none-some w.0 (sym c.in-None.is ∙ (c.get.ensures ∙ w.1))

pub record-requires : goal.record-requires
record-requires c = c.self.invariant.2

pub returns : goal.returns
returns c =
    let w = whole_at c.self.inside.origins c.self.inside.new.items c.args.i c.index.result.now c.self.invariant.1
    (rw (← c.self.view_is) at c.requires) c.index.ensures in
    let same = same_Some _ _ (sym w.1 ∙ (sym c.get.ensures ∙ c.in-Some.is)) in
    rw (← c.self.view_is) (w.2 ∙ ap Some (ap (leaf_at c.self.inside.origins) same ∙ sym c.record.ensures))
