use Rattle.std.proofs.Common.{refl}
use Rattle.sha2.specs.Sha256.{first_words, schedule, rounds, compress, hash_after, digest_bytes, sha256}
use Rattle.genesis_block.proofs.genesis_is_hashed.Goals as goal

pub returns-clause-hash : goal.returns-clause-hash
unfolding first_words schedule rounds compress hash_after digest_bytes sha256
returns-clause-hash c = refl

pub returns-clause-root : goal.returns-clause-root
unfolding first_words schedule rounds compress hash_after digest_bytes sha256
returns-clause-root c = refl
