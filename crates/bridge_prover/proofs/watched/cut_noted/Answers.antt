use Rattle.std.proofs.Common.{rules, nat_lt}
use Rattle.std.proofs.lemmas.Fn.{filter_same}
use Rattle.bridge_prover.proofs.watched.cut_noted.Goals as goal

pub returns : goal.returns
returns c = filter_same _ (λ i. nat_lt i c.args.n) _ (λ x b f' k. search rules) _ _ c.retain.ensures.filtered
