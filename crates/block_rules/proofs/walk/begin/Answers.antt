use Rattle.std.proofs.Common.{refl, ◌∙◌, ap}
use Rattle.block_rules.specs.Known.{history_at}
use Rattle.block_rules.proofs.Passing.{walked_is, adds_kept, first_is}
use Rattle.block_rules.proofs.Walking.{arises_on}
use Rattle.block_rules.proofs.walk.begin.Goals as goal

pub returns-clause-first : goal.returns-clause-first
returns-clause-first c =
    walked_is _ _ _ _ _ _
    (adds_kept c.add.new.self.origins c.add.new.self.origins c.in_ok-made.made.outputs.items c.add.new.self.outputs.items 0 c.tx.result.now _ refl
    c.in_ok-add.ensures.added (ap (history_at c.add.new.self.origins) c.in_ok-made.ensures.none)
    ∙ first_is c.add.new.self.origins c.args.block.now.txs c.tx.result.now c.tx.ensures)
    c.new-3.ensures.items c.new-4.ensures.items

pub returns-clause-origins : goal.returns-clause-origins
returns-clause-origins c = arises_on c.args.block.now c.args.height _ _ (c.in_ok-add.ensures.origins ∙ c.in_ok-made.ensures.same)
    c.in_ok-origins.ensures
