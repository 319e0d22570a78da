use Rattle.std.proofs.Common.{sym, ap, ◌∙◌}
use Rattle.uo_base.proofs.Formats.{some_is}
use Rattle.block_codec.specs.Reading.{block_in}
use Rattle.block_codec.proofs.BlockLaws.{block_in-text}
use Rattle.block_samples.proofs.block.read_back.Goals as goal

pub returns-in-Ok : goal.returns-in-Ok
returns-in-Ok c = λ b is. some_is _ b (sym c.in-Ok.ensures.exact ∙ ap block_in is.text ∙ block_in-text b is.fits)
