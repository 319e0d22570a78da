use Rattle.std.proofs.Common.{sym, ◌∙◌}
use Rattle.block_codec.proofs.IdLaws.{legacy-more, legacy-same}
use Rattle.block_codec.proofs.ids.note_legacy.Goals as goal

pub returns-then-not-is_segwit-clause-more : goal.returns-then-not-is_segwit-clause-more
returns-then-not-is_segwit-clause-more c = λ before are. rw c.push.ensures.items
    (legacy-more before _ _ _ (sym c.is_segwit.ensures ∙ c.if-not-is_segwit.true) c.bytes.ensures.text are)

pub returns-else-not-is_segwit-clause-more : goal.returns-else-not-is_segwit-clause-more
returns-else-not-is_segwit-clause-more c = λ before are. legacy-same before _ _ (sym c.is_segwit.ensures ∙ c.if-not-is_segwit.false) are
