use Rattle.std.proofs.Common.{ap, ◌∙◌}
use Rattle.sha2.specs.Sha256.{sha256}
use Rattle.block_codec.proofs.BlockViewLaws.{header_is_front}
use Rattle.uo_digest.proofs.DigestLaws.{digest_is}
use Rattle.block_codec.proofs.bare_block.BareBlock.with_ids.Goals as goal

pub invariant_of-result : goal.invariant_of-result
invariant_of-result c =
    let i = c.self.invariant in (
      record { fits = i.fits; text = i.text; short = i.short; ids = rw c.deref.ensures.value at c.in_ok-txids.ensures },
      digest_is _ _ (c.hash_of-hash.ensures ∙ ap (λ t. sha256 (sha256 t)) (header_is_front _ _ _ i)),
    )
