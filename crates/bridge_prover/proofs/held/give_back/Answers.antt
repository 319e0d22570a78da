use Rattle.std.proofs.Common.{sym, ap, ◌∙◌, subst}
use Rattle.output_index.specs.Held.{is_live, IsAbove}
use Rattle.bridge_prover.specs.Own.{cut_in}
use Rattle.bridge_prover.proofs.Rising.{above-unspent}
use Rattle.bridge_prover.proofs.held.give_back.Goals as goal

pub cut-requires-clause-live : goal.cut-requires-clause-live
cut-requires-clause-live c = λ i le lt. ap (is_live i) c.unspend_all.ensures ∙ c.requires.live i le lt

pub cut-requires-clause-above : goal.cut-requires-clause-above
cut-requires-clause-above c = subst (IsAbove c.args.end) (sym c.unspend_all.ensures)
    (above-unspent c.args.end c.args.numbers.now c.args.outputs.now c.requires.above)

pub returns : goal.returns
returns c = c.cut.ensures ∙ ap (cut_in c.args.n) c.unspend_all.ensures
