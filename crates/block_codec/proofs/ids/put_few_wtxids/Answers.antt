use Rattle.std.proofs.Common.{◌∙◌, length, ap, sym}
use Rattle.tx_codec.specs.Transaction.{tx_text}
use Rattle.block_codec.proofs.IdLaws.{as-many, ids_of_texts}
use Rattle.block_codec.proofs.ids.put_few_wtxids.Goals as goal

pub sha256d_all-requires : goal.sha256d_all-requires
sha256d_all-requires c = c.requires.count ∙ sym (ap length c.as_slice.ensures.value ∙ as-many tx_text _ _ c.whole_texts-texts.ensures)

pub returns : goal.returns
returns c = ids_of_texts tx_text _ _ _ _ c.as_slice.ensures.value c.sha256d_all.ensures c.whole_texts-texts.ensures
