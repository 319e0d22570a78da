use Rattle.std.proofs.Common.{ap}
use Rattle.forest_place.specs.declared.naming.Naming.TheVariants.{FixedPosition}
use Rattle.proof_wire.specs.BlockProof.{BlockProof, ProofMessage}
use Rattle.proof_wire.proofs.MakingLaws.{one_more, proof_more}
use Rattle.proof_wire.proofs.message.Message.push_spend.Goals as goal

pub invariant_of-self-in-Ok : goal.invariant_of-self-in-Ok
invariant_of-self-in-Ok c = (
  one_more _ _ _ _ c.self.invariant.0 _ _ c.ranges.target.fits c.write_rest.ensures.fits c.in-Ok.ensures.items c.in_ok-write_rest.ensures.ok,
  c.self.invariant.1,
)

pub returns-in-Ok-clause-ok : goal.returns-in-Ok-clause-ok
returns-in-Ok-clause-ok c =
    rw (← c.self.view_is)
    (ap (λ (p : BlockProof). with_proof p) (proof_more _ _ _ _ c.self.invariant.0 _ _ c.ranges.target.fits c.write_rest.ensures.fits
    c.in-Ok.ensures.items c.in_ok-write_rest.ensures.ok c.self.inside.hashes.items))
  where
    with_proof : BlockProof → ProofMessage
    with_proof p = record { naming = FixedPosition; lean = c.self.inside.lean; proof = p }
