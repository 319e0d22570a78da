use Rattle.tx_codec.specs.Transaction.{legacy_text}
use Rattle.block_codec.proofs.IdLaws.{ids_of_texts}
use Rattle.block_codec.proofs.ids.put_batch.Goals as goal

pub put_each-requires-clause-legacy : goal.put_each-requires-clause-legacy
put_each-requires-clause-legacy c =
    ids_of_texts legacy_text _ _ _ _ c.as_slice.ensures.value c.sha256d_all.ensures c.legacy_texts-texts.ensures.texts
