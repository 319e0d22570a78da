use Rattle.std.proofs.Common.{length, arith}
use Rattle.cache_update.proofs.Bracketed.{bracket_up, bracket_all, bracket_back}
use Rattle.cache_update.proofs.number_search.bounds_near.Goals as goal

pub bounds_on-requires-clause-known : goal.bounds_on-requires-clause-known
bounds_on-requires-clause-known c =
    bracket_up c.args.numbers.now c.args.number 0 (length c.args.numbers.now) c.args.near c.requires (bracket_all c.args.numbers.now c.args.number)
    (omega arith) c.if-is_below.ensures.there.0 c.if-is_below.ensures.there.1

pub bounds_back-requires-clause-known : goal.bounds_back-requires-clause-known
bounds_back-requires-clause-known c = bracket_back c.args.numbers.now c.args.number c.args.near c.min.result c.requires c.min.ensures
    c.if-is_below.ensures.other
