use Rattle.std.proofs.Common.{sym, ◌∙◌, subst, All}
use Rattle.cache_update.specs.Marks.{IsKnownIn}
use Rattle.cache_update.proofs.Within.{put_in, pair_known}
use Rattle.cache_update.proofs.delete.put_pair.Goals as goal

pub returns-then-known-clause-known : goal.returns-then-known-clause-known
returns-then-known-clause-known c =
    subst (All (IsKnownIn c.args.kept.now.leaves c.args.kept.now.targets)) (sym c.put_near.ensures.items)
    (put_in (IsKnownIn c.args.kept.now.leaves c.args.kept.now.targets) c.args.pair.now.0 c.args.pair.now.1 c.args.out.now.items
    (pair_known c.args.kept.now.leaves c.args.kept.now.targets c.args.pair.now.0 c.args.pair.now.1 (sym c.requires.is ∙ c.if-known.true))
    c.requires.all_known)
