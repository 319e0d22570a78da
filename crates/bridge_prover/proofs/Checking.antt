-- What the roots of a forest say of the proof in a message, from what each call answered.
use Rattle.std.proofs.Common.{◌≡◌, ℕ, Bool, List, length, Option, refl, sym, ap, ◌∙◌, subst}
use Rattle.std.specs.Prelude.{option_map}
use Rattle.std.proofs.Math.Path.{fun_ext}
use Rattle.std.proofs.lemmas.List.{length-map}
use Rattle.uo_digest.specs.declared.digest.Digest.{Digest}
use Rattle.forest_place.specs.declared.place.Place.{Place}
use Rattle.forest_model.specs.Standing.{root}
use Rattle.forest_model.specs.Right.{entries}
use Rattle.forest_roots.specs.Stump.{Stump, StandsFor}
use Rattle.proof_shape.specs.Targeted.{Targeted}
use Rattle.proof_verify.specs.Verified.{IsDeleted}
use Rattle.leaf_record.specs.Leaf.{leaf_text}
use Rattle.leaf_record.specs.History.{History}
use Rattle.block_rules.specs.declared.chain.Outside.{Outside}
use Rattle.block_rules.specs.declared.fault.RuleFault.{RuleFault}
use Rattle.block_rules.specs.declared.refusal.Refusal.TheVariants as Why
use Rattle.block_rules.specs.declared.refusal.ProofRefusal.TheVariants as Proof
use Rattle.cache_model.specs.Cache.{look}
use Rattle.cache_model.specs.Known.{known_at}
use Rattle.node_rules.specs.Messages.{Message, named, targets, points_of}
use Rattle.node_rules.specs.Accepting.{proof_fault}
use Rattle.node_rules.specs.Known.{view_of}
use Rattle.node_rules.specs.Judged.{AreNamed}
use Rattle.node_rules.proofs.Faults.{passes}
use Rattle.node_rules.specs.Judged.{IsFirst}
use Rattle.bridge_prover.specs.Shown.{AreKnown, IsChecked, view_in}
use Rattle.std.proofs.Common.{◌+◌, ◌*◌, ◌≤◌, arith}
use Rattle.forest_place.specs.Position.{rows}
use Rattle.node_rules.specs.Claimed.{IsFilledOut, view_by}
use Rattle.node_rules.proofs.Agreeing.{fault_alike}
use Rattle.node_rules.proofs.Claiming.{read_count, read_passes}

module _ (H : List ℕ → Digest) (es : List (Option Digest)) (f : Stump) (stands : StandsFor H es f) (known : List (Place × Digest))
    (ext : List Outside) (m : Message) where
  -- the roots judge as the entries do
  same-here : proof_fault H (view_by f known) (points_of ext) m ≡ proof_fault H (view_in H es (look known)) (points_of ext) m
  same-here = fault_alike H (view_by f known) (view_in H es (look known))
      (record { n = stands.leaves; roots = stands.roots; known = λ row off. refl }) (points_of ext) m

  pub first_here : (fault : RuleFault) → IsFirst (option_map Why.Proof (proof_fault H (view_by f known) (points_of ext) m)) fault
      → IsFirst (option_map Why.Proof (proof_fault H (view_in H es (look known)) (points_of ext) m)) fault
  first_here fault h = subst (λ x. IsFirst (option_map Why.Proof x) fault) same-here h

  module _ (t : Targeted) (leaves hashes : List Digest) (c : IsFilledOut H (view_by f known) ext m t leaves hashes) where
    pub checked_by : (tells : Bool) (pairs : List (Place × Digest)) (g : Stump) → IsDeleted tells H f t.targets leaves hashes pairs g
        → IsChecked H es (look known) ext m t hashes
    checked_by tells pairs g d = record {
      passes = sym same-here ∙ read_passes H f known ext m t leaves hashes c d.accepted;
      named = subst (λ n. AreNamed n m t) stands.leaves c.named;
      full = c.filled;
    }

    -- a step for each leaf, and two a row
    pub check_steps : (start told after : ℕ) → told ≤ start + length ext → after ≤ told + 2 * (length t.targets * rows t.leaves)
        → after ≤ start + length ext + 2 * (length ext * rows (length es))
    check_steps start told after a b =
        let by_leaves = subst (λ k. after ≤ told + 2 * (k * rows t.leaves)) (read_count H f known ext m t leaves hashes c) b in
        let by_rows = subst (λ n. after ≤ told + 2 * (length ext * rows n)) (c.named.leaves ∙ stands.leaves) by_leaves in
        omega (arith, a, by_rows)

-- ---- by a history

pub same_known : (H : List ℕ → Digest) (scripts : List (List ℕ)) (us : History) (known : List (Place × Digest))
    → AreKnown H scripts us known → look known ≡ known_at H scripts us
same_known H scripts us known k = fun_ext (λ row. fun_ext (λ off. k.each row off))

pub fault_same : (H : List ℕ → Digest) (scripts : List (List ℕ)) (es : List (Option Digest)) (us : History)
    (known : List (Place × Digest)) (ext : List Outside) (m : Message) → es ≡ entries H leaf_text us → AreKnown H scripts us known →
    proof_fault H (view_in H es (look known)) (points_of ext) m ≡ proof_fault H (view_of H scripts us) (points_of ext) m
fault_same H scripts es us known ext m e k =
    ap (λ x. proof_fault H (view_in H x (look known)) (points_of ext) m) e
    ∙ (ap (λ x. proof_fault H (view_in H (entries H leaf_text us) x) (points_of ext) m) (same_known H scripts us known k)
    ∙ ap (λ n. proof_fault H (record { n = n; roots = root H (entries H leaf_text us); known = known_at H scripts us }) (points_of ext) m)
    (length-map us (option_map (λ r. H (leaf_text r)))))
