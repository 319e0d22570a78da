-- What a message claims of a block's external inputs, over roots and known digests, and how it is told that its proof is refused.
use Rattle.std.specs.Prelude.{◌≡◌, ℕ, List, length}
use Rattle.uo_digest.specs.declared.digest.Digest.{Digest}
use Rattle.forest_place.specs.declared.place.Place.{Place}
use Rattle.forest_roots.specs.Stump.{Stump, root_in}
use Rattle.proof_shape.specs.Targeted.{Targeted}
use Rattle.proof_verify.specs.declared.fault.ProofFault.{ProofFault}
use Rattle.proof_verify.specs.Verified.{IsProofFault}
use Rattle.cache_model.specs.Cache.{look}
use Rattle.block_rules.specs.declared.chain.Outside.{Outside}
use Rattle.block_rules.specs.declared.fault.RuleFault.{RuleFault}
use Rattle.block_rules.specs.declared.fault.RuleFault.TheVariants.{Refused, NoMemory}
use Rattle.block_rules.specs.declared.refusal.Refusal.TheVariants.{Proof}
use Rattle.node_rules.specs.Messages.{Message, points_of}
use Rattle.node_rules.specs.Accepting.{View, leaves_of}
use Rattle.node_rules.specs.Judged.{AreNamed, AreHashes}
use Rattle.node_rules.specs.Refusing.{proof_refusal}

-- what is known of a forest: the roots, and the digests of some places
abbrev pub view_by : Stump → List (Place × Digest) → View
view_by f known = record { n = f.leaves; roots = root_in f; known = look known }

-- there is a spend for each external input, the targets have shape, and there are as many hashes as are asked for; these are the leaves that are
-- claimed, and the hashes of all needed places
pub record IsFilledOut (H : List ℕ → Digest) (v : View) (ext : List Outside) (m : Message) (t : Targeted)
    (leaves hashes : List Digest) : Type 0 where
  pub count : length m.proof.spends ≡ length ext
  pub named : AreNamed v.n m t
  pub leaves_are : leaves ≡ leaves_of H (points_of ext) m
  pub filled : AreHashes m t v.known hashes

-- how it is told that a proof is refused. Nothing is said of want of memory
abbrev pub IsProofRefused : (List ℕ → Digest) → Stump → List Place → List Digest → List Digest → RuleFault → Type 0
IsProofRefused H f ts leaves hashes (Refused why) = (fault : ProofFault) × IsProofFault H f ts leaves hashes fault
    × (why ≡ Proof (proof_refusal fault))
IsProofRefused H f ts leaves hashes NoMemory = Unit {0}
