use Rattle.std.proofs.Common.{length, refl, ap}
use Rattle.forest_model.specs.Cover.{need}
use Rattle.node_rules.proofs.Filling.{given_count, given_are}
use Rattle.node_rules.proofs.lean.given_hashes.Goals as goal

pub returns-then-got-want : goal.returns-then-got-want
returns-then-got-want c k none =
    let t = c.args.targets.now in
    given_count c.args.message.now t k none (need t.leaves t.targets) refl _ _ (ap length c.needed.ensures) c.hash_count-got.ensures
    c.if-got-want.true

pub returns : goal.returns
returns c k none =
    let t = c.args.targets.now in
    given_are c.args.message.now t k none (need t.leaves t.targets) refl _ _ _ (ap length c.needed.ensures) c.hash_count-got.ensures
    c.if-got-want.false c.in_ok-all_hashes.ensures
