use Rattle.std.proofs.Common.{sym, ◌∙◌, arith}
use Rattle.leaf_cache.proofs.Looks.{look_there, look_other, look_end}
use Rattle.cache_update.proofs.differ.digest_at.Goals as goal

pub returns-then-at-held : goal.returns-then-at-held
returns-then-at-held c = look_end c.args.held.now c.args.place c.args.at c.requires.split (omega arith)

pub returns-then-is_same : goal.returns-then-is_same
returns-then-is_same c = look_there c.args.held.now c.args.place c.args.at _ c.requires.ascends c.requires.split (omega arith)
    (sym c.is_same.ensures ∙ c.if-is_same.true)

pub returns-else-is_same : goal.returns-else-is_same
returns-else-is_same c = look_other c.args.held.now c.args.place c.args.at _ c.requires.ascends c.requires.split (omega arith)
    (sym c.is_same.ensures ∙ c.if-is_same.false)
