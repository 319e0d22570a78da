use Rattle.std.proofs.Common.{length, sym, ◌∙◌}
use Rattle.cache_update.specs.Joins.{is_empty_of}
use Rattle.cache_update.proofs.Risen.{stays_put}
use Rattle.cache_update.proofs.addition_moves.raise_below.Goals as goal

pub returns-then-stays : goal.returns-then-stays
returns-then-stays c = stays_put (is_empty_of c.args.joins.now) c.args.n (length c.args.joins.now) c.args.top c.requires.slots c.requires.full
    c.args.place c.requires.within (sym c.stays.ensures ∙ c.if-stays.true)
