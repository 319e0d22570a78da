use Rattle.forest_model.specs.Right.{entries}
use Rattle.leaf_record.specs.Leaf.{leaf_text}
use Rattle.cache_model.specs.Climbed.{IsProofOf}
use Rattle.cache_model.proofs.Proving.{proof_climbed}
use Rattle.leaf_cache.proofs.Ways.{law_told}
use Rattle.leaf_cache.proofs.cache.Cache.proof_of.Goals as goal

pub returns-clause-law : goal.returns-clause-law
returns-clause-law g c = λ H scripts us few s.
    law_told c.held_proof.result _ (IsProofOf H (entries H leaf_text us) c.args.number) c.held_proof.ensures
    (λ hashes e. proof_climbed H scripts us _ _ c.args.number hashes few s e)
