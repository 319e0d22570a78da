use Rattle.std.proofs.Common.{◌≡◌, false, sym, ◌∙◌, subst}
use Rattle.forest_place.specs.Forest.{is_root}
use Rattle.forest_place.proofs.Positions.{row_small}
use Rattle.cache_update.proofs.staying.staying_above.Goals as goal

pub parent-next-requires : goal.parent-next-requires
parent-next-requires c = row_small c.args.targets.now.leaves c.args.place.row c.args.place.off 40 c.requires c.leaves.ensures.targets.few

pub both_stay-seen-requires : goal.both_stay-seen-requires
both_stay-seen-requires c = record {
  within = c.requires;
  low = row_small c.args.targets.now.leaves c.args.place.row c.args.place.off 40 c.requires c.leaves.ensures.targets.few;
  inner = subst (λ n. is_root n c.args.place.row c.args.place.off ≡ false) c.leaves.ensures.is (sym c.is_root.ensures ∙ c.if-is_root.false);
}
