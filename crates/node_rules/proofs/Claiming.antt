-- What was judged of a message: what it claims, and the check of its proof.
use Rattle.std.proofs.Common.{◌≡◌, ℕ, List, [], length, Option, Some, None, Err, sym, ap}
use Rattle.std.proofs.Common.{ap₂, ◌∙◌, subst}
use Rattle.std.specs.Prelude.{option_map}
use Rattle.std.proofs.lemmas.List.{length-map}
use Rattle.uo_digest.specs.declared.digest.Digest.{Digest}
use Rattle.forest_place.specs.declared.place.Place.{Place}
use Rattle.forest_place.specs.Places.{places}
use Rattle.forest_model.specs.Cover.{need}
use Rattle.forest_model.specs.Evaluation.{IsAccepted, asked, nothing_known}
use Rattle.forest_roots.specs.Stump.{Stump, root_in}
use Rattle.proof_shape.specs.Targeted.{Targeted}
use Rattle.proof_verify.specs.declared.fault.ProofFault.{ProofFault}
use Rattle.proof_verify.specs.declared.fault.ProofFault.TheVariants as Found
use Rattle.proof_verify.specs.Verified.{IsProofFault}
use Rattle.proof_wire.specs.BlockProof.{BlockProof, targets_of}
use Rattle.block_rules.specs.declared.chain.Outside.{Outside}
use Rattle.block_rules.specs.declared.fault.RuleFault.{RuleFault}
use Rattle.block_rules.specs.declared.fault.RuleFault.TheVariants.{Refused, NoMemory}
use Rattle.block_rules.specs.declared.refusal.Refusal.TheVariants as Why
use Rattle.block_rules.specs.declared.refusal.ProofRefusal.{ProofRefusal}
use Rattle.block_rules.specs.declared.refusal.ProofRefusal.TheVariants as Fault
use Rattle.forest_place.specs.Named.{place_by}
use Rattle.node_rules.specs.Messages.{Message, in_full, named, targets, points_of}
use Rattle.node_rules.specs.Accepting.{View, shape_fault, leaves_of, proof_fault}
use Rattle.node_rules.specs.Judged.{IsFirst, AreNamed, AreHashes, TargetsJudged, HashesJudged}
use Rattle.node_rules.specs.Refusing.{proof_refusal}
use Rattle.std.specs.Prelude.{false}
use Rattle.forest_place.specs.declared.naming.Naming.{Naming}
use Rattle.leaf_record.specs.Leaf.{Outpoint}
use Rattle.cache_model.specs.Cache.{look}
use Rattle.proof_verify.proofs.Values.{asked_all}
use Rattle.node_rules.proofs.Faults.{passes}
use Rattle.node_rules.proofs.Serving.{same_fault}
use Rattle.node_rules.proofs.Telling.{count_told, empty_told, other_told}
use Rattle.node_rules.proofs.ClaimedLeaves.{leaves-long}
use Rattle.node_rules.proofs.Told.{targets_are, named_all}
use Rattle.node_rules.proofs.Firsts.{told-in, told-behind}
use Rattle.node_rules.specs.Accepting.{count_fault}
use Rattle.node_rules.specs.Claimed.{IsFilledOut, IsProofRefused, view_by}

-- ---- what targets and hashes are refused for

module _ (H : List ℕ → Digest) (v : View) (ext : List Outside) (m : Message) where
  abbrev fault : Option ProofRefusal
  fault = proof_fault H v (points_of ext) m

  pub targets_told : (e : RuleFault) → TargetsJudged v.n m (Err e) → IsFirst (option_map Why.Proof fault) e
  targets_told e h = told-in (shape_fault v.n [] 0 (named v.n m)) _ e h

  pub hashes_told : (t : Targeted) → AreNamed v.n m t → (e : RuleFault) → HashesJudged m t v.known (Err e) → IsFirst (option_map Why.Proof fault) e
  hashes_told t judged e h =
      told-behind (shape_fault v.n [] 0 (named v.n m)) _ e judged.passes
      (told-in (count_fault v.n (targets v.n m) v.known m) _ e
      (subst (λ (x : Targeted). HashesJudged m x v.known (Err e)) (targets_are v.n m t judged) h))

-- ---- the fault of a message in full

module _ (H : List ℕ → Digest) (f : Stump) (known : ℕ → ℕ → Option Digest) (points : List Outpoint) (by : Naming) (p : BlockProof) where
  abbrev given : Message
  given = record { naming = by; lean = false; proof = p }

  abbrev seen : View
  seen = record { n = f.leaves; roots = root_in f; known = known }

  pub full_told : shape_fault f.leaves [] 0 (named f.leaves given) ≡ None → (fault : ProofFault)
      → IsProofFault H f (targets f.leaves given) (leaves_of H points given) p.hashes fault
      → proof_fault H seen points given ≡ Some (proof_refusal fault)
  full_told shaped fault = by_fault fault
    where
      all_asked : length (asked f.leaves (targets f.leaves given) nothing_known) ≡ length (need f.leaves (targets f.leaves given))
      all_asked = ap length (asked_all f.leaves (targets f.leaves given))

      by_fault : (fault : ProofFault) → IsProofFault H f (targets f.leaves given) (leaves_of H points given) p.hashes fault
          → proof_fault H seen points given ≡ Some (proof_refusal fault)
      by_fault (Found.HashCount want got) (wanted, had, other) =
          let w : length (asked f.leaves (targets f.leaves given) nothing_known) ≡ want = all_asked ∙ sym wanted in
          count_told H seen points given shaped (λ e. other (had ∙ (e ∙ w))) ∙ ap₂ (λ a b. Some (Fault.HashCount a b)) w (sym had)
      by_fault (Found.EmptyRoot row) (count, greatest) = empty_told H seen points given shaped row (count ∙ sym all_asked) greatest
      by_fault (Found.RootDiffers row had computed) (count, never, greatest, was, is) =
          other_told H seen points given shaped row (count ∙ sym all_asked) never greatest

-- ---- the check of the proof of a message that was read, over roots and held digests

module _ (H : List ℕ → Digest) (f : Stump) (hs : List (Place × Digest)) (ext : List Outside) (m : Message) (t : Targeted)
    (leaves hashes : List Digest) where
  abbrev v : View
  v = view_by f hs

  abbrev p : BlockProof
  p = m.proof

  abbrev ts : List Place
  ts = targets f.leaves m

  -- the message with the hashes of all needed places
  abbrev full : Message
  full = in_full m hashes

  module _ (c : IsFilledOut H v ext m t leaves hashes) where
    pub same_targets : t ≡ record { leaves = f.leaves; targets = ts }
    same_targets = targets_are f.leaves m t c.named

    same_leaves : leaves ≡ leaves_of H (points_of ext) full
    same_leaves = c.leaves_are

    pub read_count : length t.targets ≡ length ext
    read_count =
        sym (length-map t.targets Some)
        ∙ (ap length (sym c.named.places) ∙ (length-map (targets_of p.spends) (place_by m.naming f.leaves)
        ∙ (length-map p.spends (λ s. s.target) ∙ c.count)))

    pub read_leaves : length leaves ≡ length t.targets
    read_leaves = ap length same_leaves ∙ (leaves-long H ext full c.count ∙ sym read_count)

    -- it is judged as in full
    serves : proof_fault H v (points_of ext) m ≡ proof_fault H v (points_of ext) full
    serves = same_fault H v (points_of ext) m hashes (subst (λ x. AreHashes m x v.known hashes) same_targets c.filled)

    -- a fault of the proof is that of the message
    read_fault : (fault : ProofFault) → IsProofFault H f t.targets leaves hashes fault → proof_fault H v (points_of ext) m ≡ Some (proof_refusal fault)
    read_fault fault is = serves ∙ full_told H f (look hs) (points_of ext) m.naming full.proof c.named.passes fault
        (subst (λ xs. IsProofFault H f ts xs hashes fault) same_leaves
        (subst (λ (x : Targeted). IsProofFault H f x.targets leaves hashes fault) same_targets is))

    pub read_passes : IsAccepted H f.leaves (root_in f) t.targets nothing_known leaves hashes → proof_fault H v (points_of ext) m ≡ None
    read_passes a =
        serves
        ∙ passes H v (points_of ext) full
        (subst (λ xs. IsAccepted H f.leaves (root_in f) ts nothing_known xs hashes) same_leaves
        (subst (λ (x : Targeted). IsAccepted H f.leaves (root_in f) x.targets nothing_known leaves hashes) same_targets a))
        (named_all f.leaves m t c.named)

    -- a fault is that of the message
    pub refused_first : (fault : RuleFault) → IsProofRefused H f t.targets leaves hashes fault
        → IsFirst (option_map Why.Proof (proof_fault H v (points_of ext) m)) fault
    refused_first (Refused why) is = ap (option_map Why.Proof) (read_fault is.0 is.1) ∙ ap Some (sym is.2)
    refused_first NoMemory is = tt
