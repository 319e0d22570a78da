use Rattle.uo_digest.proofs.DigestLaws.{digest_is}
use Rattle.block_codec.proofs.ids.txid_alone.Goals as goal

pub returns : goal.returns
returns c = digest_is _ _ c.txid.ensures
