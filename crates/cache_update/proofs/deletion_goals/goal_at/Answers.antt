use Rattle.cache_update.proofs.deletion_goals.goal_at.Goals as goal

pub returns : goal.returns
returns c = c.in-Some.ensures c.args.targets.now.leaves c.args.targets.now.targets c.requires.told
