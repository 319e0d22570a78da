use Rattle.std.proofs.Common.{arith}
use Rattle.uo_base.proofs.Formats.{finds}
use Rattle.leaf_record.proofs.LeafLaws.{rest_lawful}
use Rattle.leaf_record.proofs.rest.front_rest.Goals as goal

pub returns-clause-reads : goal.returns-clause-reads
returns-clause-reads c = finds _ _ _ _ rest_lawful _ _ (λ i. omega (arith, c.type_inv.text i)) c.split_rest.ensures
