use Rattle.chain_order.proofs.Branches.{path_given, cause_given, none_given}
use Rattle.chain_order.proofs.arrivals.Arrivals.path.Goals as goal

pub returns-clause-path : goal.returns-clause-path
returns-clause-path c = path_given _ c.args.self.now c.args.tip.now c.len-count.ensures.different c.way_back.result c.way_back.ensures

pub returns-clause-cause : goal.returns-clause-cause
returns-clause-cause c = cause_given _ c.args.self.now c.args.tip.now c.len-count.ensures.different c.way_back.result c.way_back.ensures

pub returns-clause-none : goal.returns-clause-none
returns-clause-none c = none_given _ c.args.self.now c.args.tip.now c.len-count.ensures.different c.way_back.result c.way_back.ensures
