use Rattle.std.proofs.Common.{◌≡◌, false, sym, ◌∙◌, subst}
use Rattle.forest_place.specs.Forest.{is_root}
use Rattle.cache_update.proofs.Descending.{stays_beside}
use Rattle.cache_update.proofs.staying.staying_beside.Goals as goal

pub returns-then-is_same : goal.returns-then-is_same
returns-then-is_same c =
    stays_beside c.args.targets.now.leaves c.args.targets.now.targets c.args.place c.sibling.result c.args.last c.args.staying c.sibling.ensures.row
    c.sibling.ensures.off (sym c.is_same.ensures ∙ c.if-is_same.true)
    (subst (λ n. is_root n c.args.place.row c.args.place.off ≡ false) c.leaves.ensures.is (sym c.is_root.ensures ∙ c.if-is_root.false))
    c.requires.last
