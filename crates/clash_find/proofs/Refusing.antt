-- What is refused of the targets or the hashes of a message is a fault of its proof.
use Rattle.std.proofs.Common.{◌≡◌, ◌≢◌, ℕ, List, length, Option, Some, None, Err, sym, ap, ◌∙◌}
use Rattle.std.proofs.lemmas.List.{length-map}
use Rattle.std.proofs.lemmas.Option.{none-some}
use Rattle.uo_digest.specs.declared.digest.Digest.{Digest}
use Rattle.forest_model.specs.Cover.{need}
use Rattle.proof_shape.specs.Targeted.{Targeted}
use Rattle.block_rules.specs.declared.chain.Outside.{Outside}
use Rattle.block_rules.specs.declared.fault.RuleFault.TheVariants.{Refused}
use Rattle.block_rules.specs.declared.refusal.Refusal.{Refusal}
use Rattle.block_rules.specs.declared.refusal.Refusal.TheVariants as Why
use Rattle.node_rules.specs.Messages.{Message, points_of, targets}
use Rattle.node_rules.specs.Accepting.{View, proof_fault}
use Rattle.node_rules.specs.Judged.{AreNamed, TargetsJudged, HashesJudged, AreHashes}
use Rattle.node_rules.proofs.Faults.{length-named}
use Rattle.node_rules.proofs.Claiming.{targets_told, hashes_told}
use Rattle.block_rules.specs.declared.refusal.ProofRefusal.{ProofRefusal}
use Rattle.std.specs.Prelude.{option_map}

module _ (H : List ℕ → Digest) (n : ℕ) (ext : List Outside) (m : Message) (known : ℕ → ℕ → Option Digest) (roots : ℕ → Option Digest) where
  abbrev view : View
  view = record { n = n; roots = roots; known = known }

  -- a first refusal is one
  is_one : (x : Option ProofRefusal) (why : Refusal) → option_map Why.Proof x ≡ Some why → x ≢ None
  is_one x why h e = none-some why (sym (ap (option_map Why.Proof) e) ∙ h)

  pub no_shape : (why : Refusal) → TargetsJudged n m (Err (Refused why)) → proof_fault H view (points_of ext) m ≢ None
  no_shape why h = is_one (proof_fault H view (points_of ext) m) why (targets_told H view ext m (Refused why) h)

  pub no_count : (t : Targeted) (why : Refusal) → AreNamed n m t → HashesJudged m t known (Err (Refused why))
      → proof_fault H view (points_of ext) m ≢ None
  no_count t why a h = is_one (proof_fault H view (points_of ext) m) why (hashes_told H view ext m t a (Refused why) h)

-- ---- what the calls on the way ask for, and what they give

pub targets_long : (n : ℕ) (m : Message) (t : Targeted) → AreNamed n m t → length t.targets ≡ length m.proof.spends
targets_long n m t a = sym (length-map t.targets Some) ∙ (ap length (sym a.places) ∙ length-named n m)

pub hashes_long : (H : List ℕ → Digest) (m : Message) (t : Targeted) (known : ℕ → ℕ → Option Digest) (hashes seen : List Digest) → seen ≡ hashes
    → AreHashes m t known hashes → length seen ≡ length (need t.leaves t.targets)
hashes_long H m t known hashes seen same a = ap length (same ∙ a.hashes_are H) ∙ length-map (need t.leaves t.targets) _
