use Rattle.uo_base.proofs.Formats.{one_reading}
use Rattle.block_codec.proofs.BlockLaws.{block_lawful}
use Rattle.block_codec.proofs.writing.one_block.Goals as goal

pub returns : goal.returns
returns c = one_reading _ _ _ block_lawful
