use Rattle.block_codec.proofs.block_view.block_hash.Goals as goal

pub returns : goal.returns
returns c = rw (← c.block.view_is) c.block.invariant.1
