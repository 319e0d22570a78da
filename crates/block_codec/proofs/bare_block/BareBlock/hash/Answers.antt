use Rattle.std.proofs.Common.{ap, ◌∙◌}
use Rattle.sha2.specs.Sha256.{sha256}
use Rattle.block_codec.specs.Block.{Block, header_text}
use Rattle.block_codec.proofs.BlockViewLaws.{header_is_front, header_inside}
use Rattle.uo_digest.proofs.DigestLaws.{digest_is}
use Rattle.block_codec.proofs.bare_block.BareBlock.hash.Goals as goal

pub hash_of-requires : goal.hash_of-requires
hash_of-requires c = header_inside _ _ _ c.self.invariant

pub returns : goal.returns
returns c =
    digest_is _ _ (c.hash_of.ensures ∙ (ap (λ t. sha256 (sha256 t)) (header_is_front _ _ _ c.self.invariant)
    ∙ ap (λ (b : Block). sha256 (sha256 (header_text b.header))) c.self.view_is))
