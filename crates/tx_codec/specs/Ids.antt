-- The ids of a transaction.
use Rattle.sha2.specs.Sha256.{sha256}
use Rattle.uo_digest.specs.declared.digest.Digest.{Digest}
use Rattle.tx_codec.specs.Transaction.{Transaction, legacy_text, tx_text}

-- without the witness
abbrev pub txid_of : Transaction → Digest
txid_of tx = record { 0 = sha256 (sha256 (legacy_text tx)) }

-- with the witness
abbrev pub wtxid_of : Transaction → Digest
wtxid_of tx = record { 0 = sha256 (sha256 (tx_text tx)) }
