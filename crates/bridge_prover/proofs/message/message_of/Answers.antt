use Rattle.std.proofs.Common.{ap, ap₂, sym, ◌∙◌, length}
use Rattle.std.proofs.lemmas.List.{length-map}
use Rattle.proof_wire.specs.BlockProof.{BlockProof, spends_of}
use Rattle.node_rules.specs.Messages.{sent}
use Rattle.bridge_prover.specs.Bridge.{target_of}
use Rattle.bridge_prover.specs.Draft.{hashes_unknown}
use Rattle.bridge_prover.proofs.Showing.{live_too, proof_within}
use Rattle.bridge_prover.proofs.message.message_of.Goals as goal

pub proof_of-requires-clause-live : goal.proof_of-requires-clause-live
proof_of-requires-clause-live g c = live_too c.args.forest.now.entries c.args.numbers.now c.args.spent.now c.requires.live c.requires.same

pub hashes_of-requires : goal.hashes_of-requires
hashes_of-requires g c = proof_within g.D.Digester.digest_of c.args.forest.now.entries c.args.spent.now c.args.draft.kept.leaves _ c.requires.draft.0
    c.in_ok-proof.ensures.siblings

pub of-requires-clause-same : goal.of-requires-clause-same
of-requires-clause-same g c = ap length c.in_ok-targets.ensures
    ∙ (length-map c.args.numbers.now (target_of c.args.forest.now.entries) ∙ sym c.requires.draft.1)

pub returns : goal.returns
returns g c =
    let es = c.args.forest.now.entries in
    let kept = c.args.draft.kept.targets in
    c.of.ensures
    ∙ ap₂ (λ ts hs. (let p : BlockProof = record { spends = spends_of ts c.args.draft.rests; hashes = hs } in sent c.args.draft.lean p))
    c.in_ok-targets.ensures
    (c.in_ok-hashes.ensures.given ∙ ap₂ (λ n ss. hashes_unknown n kept ss) c.requires.draft.0 c.in_ok-proof.ensures.siblings)
