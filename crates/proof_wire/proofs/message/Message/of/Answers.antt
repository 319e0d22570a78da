use Rattle.std.proofs.Common.{rules, ℕ, ◌<◌, ◌^◌, ◌≡◌, List, length, get_or, ap, ◌∙◌, sym}
use Rattle.forest_place.specs.declared.naming.Naming.TheVariants.{FixedPosition}
use Rattle.proof_wire.specs.BlockProof.{Spend, ProofMessage}
use Rattle.proof_wire.specs.Making.{rests_made}
use Rattle.proof_wire.proofs.MakingLaws.{of_rests, spends_are}
use Rattle.proof_wire.proofs.message.Message.of.Goals as goal

abbrev same : (c : goal.After-rests) → length c.args.targets.items ≡ length (rests_made c.rests.inside.count c.rests.inside.text.items)
same c = c.requires.same ∙ ap length (sym c.rests.view_is)

pub invariant_of-result : goal.invariant_of-result
invariant_of-result c =
    let small : (i d : ℕ) → i < length c.args.targets.items → get_or c.args.targets.items i d < 2 ^ 64 = search rules in
    (of_rests _ _ _ c.rests.invariant (same c) small, c.requires.fit)

pub returns : goal.returns
returns c = rw (← c.rests.view_is) (ap (λ (ss : List Spend). with_spends ss) (spends_are _ _ _ c.rests.invariant (same c))) where
  with_spends : List Spend → ProofMessage
  with_spends ss = record { naming = FixedPosition; lean = c.args.lean; proof = record { spends = ss; hashes = c.args.hashes.items } }
