use Rattle.uo_base.proofs.Formats.{one_reading}
use Rattle.leaf_record.proofs.LeafLaws.{rest_lawful}
use Rattle.leaf_record.proofs.laws.one_rest.Goals as goal

pub returns : goal.returns
returns c = one_reading _ _ _ rest_lawful
