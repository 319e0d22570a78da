use Rattle.std.proofs.Common.{rules, is_some}
use Rattle.std.proofs.lemmas.Fn.{filter_same}
use Rattle.output_index.specs.Held.{leaf_at}
use Rattle.bridge_prover.proofs.watched.keep_held.Goals as goal

pub returns : goal.returns
returns c = filter_same _ (λ i. is_some (leaf_at i c.args.outputs.now)) _ (λ x b f' k. search rules) _ _ c.retain.ensures.filtered
