use Rattle.std.proofs.Common.{Some, ap, sym, ◌∙◌}
use Rattle.std.proofs.lemmas.Option.{slice_get-get_or}
use Rattle.proof_wire.specs.BlockProof.{rests_of}
use Rattle.node_rules.proofs.ClaimedLeaves.{claim_at}
use Rattle.node_rules.proofs.claims.claim_at.Goals as goal

pub returns : goal.returns
returns c =
    claim_at c.args.external.now (rests_of c.args.message.now.proof.spends) c.args.index _ _
    (slice_get-get_or c.args.external.now c.args.index _ c.requires.within) c.rest.ensures
    ∙ ap Some (sym c.with_outpoint.ensures.leaf)
