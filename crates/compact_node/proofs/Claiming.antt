-- What was judged of a message: what it claims, the check of its proof, and what is deleted.
use Rattle.std.proofs.Common.{◌≡◌, ℕ, ◌+◌, ◌*◌, ◌≤◌, Bool, List, [], ◌∷◌, ◌++◌, map, length, get_or, Option, Some, None, Err, sym, ap}
use Rattle.std.proofs.Common.{◌∙◌, subst, arith}
use Rattle.std.specs.Prelude.{option_map}
use Rattle.std.specs.Option.{option_or}
use Rattle.std.proofs.lemmas.Nat.{mul-le}
use Rattle.std.proofs.lemmas.Option.{none-some}
use Rattle.uo_base.proofs.Lists.{filter_none}
use Rattle.uo_digest.specs.declared.digest.Digest.{Digest}
use Rattle.forest_place.specs.declared.place.Place.{Place}
use Rattle.forest_place.specs.Forest.{root_off}
use Rattle.forest_place.specs.Places.{places}
use Rattle.forest_place.specs.Position.{rows}
use Rattle.forest_model.specs.Cover.{is_needed, need}
use Rattle.forest_model.specs.Evaluation.{IsAccepted, hash_of, nothing_known}
use Rattle.forest_roots.specs.Stump.{Stump, IsStump, root_in}
use Rattle.proof_shape.specs.Targeted.{Targeted}
use Rattle.proof_shape.proofs.Untargeted.{none_covered, none_needed}
use Rattle.proof_verify.specs.declared.fault.ProofFault.{ProofFault}
use Rattle.proof_verify.specs.declared.fault.ProofFault.TheVariants as Found
use Rattle.proof_verify.specs.Verified.{IsProofFault, IsDeleted, AreRootsAfter}
use Rattle.block_rules.specs.declared.chain.Found.{Found as FoundOutput}
use Rattle.block_rules.specs.declared.chain.Outside.{Outside}
use Rattle.block_rules.specs.declared.fault.RuleFault.{RuleFault}
use Rattle.block_rules.specs.declared.fault.RuleFault.TheVariants.{Refused, NoMemory}
use Rattle.block_rules.specs.declared.refusal.Refusal.{Refusal}
use Rattle.block_rules.specs.declared.refusal.Refusal.TheVariants as Why
use Rattle.block_rules.specs.Steps.{first_of}
use Rattle.node_rules.specs.Messages.{Message, named, targets, points_of, known_to}
use Rattle.node_rules.specs.Accepting.{View, proof_fault}
use Rattle.node_rules.specs.Reading.{Handed, nothing, unread, read, handed_in}
use Rattle.node_rules.specs.Judged.{IsFirst, IsMessageRead}
use Rattle.node_rules.specs.Judging.{message_steps, view_step}
use Rattle.node_rules.proofs.Faults.{passes}
use Rattle.compact_node.specs.After.{stump_without}
use Rattle.compact_node.specs.Node.{places_spent, hashes_over, hashes_spent}
use Rattle.node_rules.specs.Claimed.{view_by, IsFilledOut, IsProofRefused}
use Rattle.node_rules.proofs.Claiming.{same_targets, read_count, read_leaves, read_passes, refused_first}
use Rattle.compact_node.specs.Judged.{steps_over, IsClaim}
use Rattle.std.specs.Prelude.{Result, Ok, IfErr}
use Rattle.block_rules.proofs.Firsts.{first_of-append}
use Rattle.node_rules.proofs.Firsts.{first-behind}
use Rattle.compact_node.proofs.Deletions.{is_without}
use Rattle.node_rules.proofs.Told.{targets_are}

need-none : (n : ℕ) → need n [] ≡ []
need-none n = filter_none (is_needed n []) (places n) (λ i d lt. none_needed n (get_or (places n) i d))

-- ---- of whatever was handed in

first-append : (xs : List (Option Refusal)) (y : Option Refusal) → first_of xs ≡ None → first_of (xs ++ y ∷ []) ≡ option_or y None
first-append xs y e = first_of-append xs (y ∷ []) ∙ ap (λ z. option_or z (option_or y None)) e

-- the last step, where those on the message pass
proof_step : (H : List ℕ → Digest) (v : View) (ext : List Outside) (handed : Handed) (fault : RuleFault) → first_of (message_steps ext handed) ≡ None
    → IsFirst (view_step H v ext handed) fault → IsFirst (first_of (steps_over H v ext handed)) fault
proof_step H v ext handed fault passes e =
    first-behind (message_steps ext handed) (view_step H v ext handed ∷ []) fault passes (only (view_step H v ext handed) fault e)
  where
    only : (x : Option Refusal) (fault : RuleFault) → IsFirst x fault → IsFirst (first_of (x ∷ [])) fault
    only x (Refused why) e = ap (λ z. option_or z None) e
    only x NoMemory e = tt

-- nothing is wrong with a proof of nothing
nothing_wrong : (H : List ℕ → Digest) (f : Stump) (fault : ProofFault) → IsProofFault H f [] [] [] fault → ⊥
nothing_wrong H f (Found.HashCount want got) (wanted, given, other) = other (given ∙ sym (wanted ∙ ap length (need-none f.leaves)))
nothing_wrong H f (Found.EmptyRoot row) (count, greatest) =
    none-some greatest.beneath (sym (none_covered row (root_off f.leaves row)) ∙ greatest.covered)
nothing_wrong H f (Found.RootDiffers row had computed) (count, never, greatest, was, is) =
    none-some greatest.beneath (sym (none_covered row (root_off f.leaves row)) ∙ greatest.covered)

-- the hashes of all needed places
read_hashes : (H : List ℕ → Digest) (v : View) (ext : List Outside) (m : Message) (t : Targeted) (leaves hashes : List Digest)
    → IsFilledOut H v ext m t leaves hashes → hashes ≡ hashes_over H v m
read_hashes H v ext m t leaves hashes c = c.filled.hashes_are H ∙ ap
    (λ (x : Targeted). map (λ q. hash_of H x.leaves x.targets (known_to m.lean v.known) m.proof.hashes q.row q.off) (need x.leaves x.targets))
    (targets_are v.n m t c.named)

-- the steps on the message pass, and this is left of the roots
pub record IsTaken (H : List ℕ → Digest) (v : View) (f : Stump) (ext : List Outside) (handed : Handed) (g : Stump) : Type
    0 where
  pub passes : first_of (steps_over H v ext handed) ≡ None
  pub roots : g ≡ stump_without H f (places_spent f.leaves handed) (hashes_spent H v handed)

module _ (H : List ℕ → Digest) (f : Stump) (hs : List (Place × Digest)) (ext : List Outside) (found : List FoundOutput)
    (t : Targeted) (leaves hashes : List Digest) where
  abbrev view : View
  view = view_by f hs

  abbrev IsClaimed : Handed → Type 0
  IsClaimed handed = IsClaim H view ext handed found t leaves hashes

  pub claim_targets : (handed : Handed) → IsClaimed handed → t ≡ record { leaves = f.leaves; targets = places_spent f.leaves handed }
  claim_targets nothing c = c.claims.0
  claim_targets (unread why) c = absurd c.claims
  claim_targets (read m) c = same_targets H f hs ext m t leaves hashes c.claims

  claim_hashes : (handed : Handed) → IsClaimed handed → hashes ≡ hashes_spent H view handed
  claim_hashes nothing c = c.claims.2
  claim_hashes (unread why) c = absurd c.claims
  claim_hashes (read m) c = read_hashes H view ext m t leaves hashes c.claims

  -- what holds of the targets and the hashes of a claim holds of what is spent
  pub claim_is : (handed : Handed) → IsClaimed handed → (X : List Place → List Digest → Type 0) → X t.targets hashes
      → X (places_spent f.leaves handed) (hashes_spent H view handed)
  claim_is handed c X x = subst (λ ys. X (places_spent f.leaves handed) ys) (claim_hashes handed c)
      (subst (λ (y : Targeted). X y.targets hashes) (claim_targets handed c) x)

  pub claim_leaves : (handed : Handed) → IsClaimed handed → length leaves ≡ length t.targets
  claim_leaves nothing c = ap length c.claims.1 ∙ sym (ap (λ (x : Targeted). length x.targets) c.claims.0)
  claim_leaves (unread why) c = absurd c.claims
  claim_leaves (read m) c = read_leaves H f hs ext m t leaves hashes c.claims

  pub claim_few : (handed : Handed) → IsClaimed handed → length t.targets ≤ length ext
  claim_few nothing c = let e = ap (λ (x : Targeted). length x.targets) c.claims.0 in omega (arith, e)
  claim_few (unread why) c = absurd c.claims
  claim_few (read m) c = let e = read_count H f hs ext m t leaves hashes c.claims in omega (arith, e)

  -- a fault of the proof is the first step that fails
  pub claim_refused : (handed : Handed) → IsClaimed handed → (fault : RuleFault) → IsProofRefused H f t.targets leaves hashes fault
      → IsFirst (first_of (steps_over H view ext handed)) fault
  claim_refused handed c NoMemory is = tt
  claim_refused nothing c (Refused why) is =
      absurd (nothing_wrong H f is.0
      (subst (λ xs. IsProofFault H f [] [] xs is.0) c.claims.2 (subst (λ xs. IsProofFault H f [] xs hashes is.0) c.claims.1
      (subst (λ (x : Targeted). IsProofFault H f x.targets leaves hashes is.0) c.claims.0 is.1))))
  claim_refused (unread why) c (Refused because) is = absurd c.claims
  claim_refused (read m) c (Refused why) is =
      proof_step H view ext (read m) (Refused why) c.passes (refused_first H f hs ext m t leaves hashes c.claims (Refused why) is)

  claim_passes : (handed : Handed) → IsClaimed handed → IsAccepted H f.leaves (root_in f) t.targets nothing_known leaves hashes
      → first_of (steps_over H view ext handed) ≡ None
  claim_passes nothing c a = first-append (message_steps ext nothing) (view_step H view ext nothing) c.passes
  claim_passes (unread why) c a = absurd c.claims
  claim_passes (read m) c a =
      first-append (message_steps ext (read m)) (view_step H view ext (read m)) c.passes
      ∙ ap (λ z. option_or z None) (ap (option_map Why.Proof) (read_passes H f hs ext m t leaves hashes c.claims a))

  -- an accepted proof deletes what was handed in
  pub claim_taken : (handed : Handed) → IsClaimed handed → (tells : Bool) (pairs : List (Place × Digest)) (g : Stump) → IsStump f → IsStump g
      → IsDeleted tells H f t.targets leaves hashes pairs g → IsTaken H view f ext handed g
  claim_taken handed c tells pairs g s u d = record {
    passes = claim_passes handed c d.accepted;
    roots = is_without H f (places_spent f.leaves handed) (hashes_spent H view handed) g s u
        (claim_is handed c (λ xs ys. AreRootsAfter H f xs ys g) d.roots);
  }

  -- a step for each leaf, and two a row
  pub claim_steps : (handed : Handed) → IsClaimed handed → (start before after : ℕ) → before ≤ start + length ext
      → after ≤ before + 2 * (length t.targets * rows t.leaves) →
      after ≤ start + length ext + 2 * (length ext * rows f.leaves)
  claim_steps handed c start before after le more =
      let n : t.leaves ≡ f.leaves = ap (λ (x : Targeted). x.leaves) (claim_targets handed c) in
      let same : length t.targets * rows t.leaves ≡ length t.targets * rows f.leaves = ap (λ k. length t.targets * rows k) n in
      let less : length t.targets * rows f.leaves ≤ length ext * rows f.leaves =
      mul-le (length t.targets) (rows f.leaves) (length ext) (rows f.leaves) (claim_few handed c) (let z : rows f.leaves ≤ rows f.leaves =
      omega arith in z) in
      omega (arith, le, more, same, less)

-- ---- what claims are refused for

-- or that on its proof
proof_first : (H : List ℕ → Digest) (v : View) (ext : List Outside) (bytes : Option (List ℕ)) (m : Message) (fault : RuleFault)
    → IsMessageRead ext bytes (Some m) →
    IsFirst (option_map Why.Proof (proof_fault H v (points_of ext) m)) fault
    → IsFirst (first_of (steps_over H v ext (handed_in bytes))) fault
proof_first H v ext bytes m fault judged e =
    proof_step H v ext (handed_in bytes) fault judged.passes (subst (λ h. IsFirst (view_step H v ext h) fault) (sym judged.is) e)

pub proof_errs : {T : Type 0} (H : List ℕ → Digest) (v : View) (ext ext' : List Outside) (bytes : Option (List ℕ))
    (message : Option Message) (m : Message) (result : Result T RuleFault) →
    IsMessageRead ext bytes message → message ≡ Some m → ext' ≡ ext
    → IfErr result (λ fault. IsFirst (option_map Why.Proof (proof_fault H v (points_of ext') m)) fault) →
    IfErr result (λ fault. IsFirst (first_of (steps_over H v ext (handed_in bytes))) fault)
proof_errs H v ext ext' bytes message m (Ok x) judged is same e = tt
proof_errs H v ext ext' bytes message m (Err fault) judged is same e =
    proof_first H v ext bytes m fault (subst (λ x. IsMessageRead ext bytes x) is judged)
    (subst (λ x. IsFirst (option_map Why.Proof (proof_fault H v (points_of x) m)) fault) same e)
