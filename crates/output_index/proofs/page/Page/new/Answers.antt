use Rattle.std.proofs.Common.{length, ap, ◌∙◌}
use Rattle.output_index.proofs.Laid.{laid-len, laid_none, count_none}
use Rattle.output_index.proofs.page.Page.new.Goals as goal

pub invariant_of-result : goal.invariant_of-result
invariant_of-result c = record {
  len = c.new.ensures.len;
  full = ap length c.new-2.ensures.items ∙ count_none c.new.result c.new.ensures.none;
}

pub returns-clause-len : goal.returns-clause-len
returns-clause-len c = laid-len c.new.result c.new-2.result.items ∙ c.new.ensures.len

pub returns-clause-none : goal.returns-clause-none
returns-clause-none c = λ i. laid_none c.new.result c.new-2.result.items i (c.new.ensures.none i)
