-- Messages that name the same places, and say the same besides, are judged alike.
use Rattle.std.proofs.Common.{◌≡◌, ℕ, Bool, false, cond, not, ◌&&◌, ◌||◌, List, [], ◌∷◌, ◌++◌, map, length, Option, Some, None, is_none, refl, sym}
use Rattle.std.proofs.Common.{ap, ◌∙◌}
use Rattle.std.specs.Prelude.{◌==◌, option_map}
use Rattle.std.proofs.lemmas.List.{length-map}
use Rattle.uo_digest.specs.declared.digest.Digest.{Digest}
use Rattle.forest_place.specs.declared.place.Place.{Place}
use Rattle.forest_model.specs.Evaluation.{asked, evaluation}
use Rattle.forest_model.specs.Standing.{digest_at}
use Rattle.forest_model.specs.Right.{entries}
use Rattle.block_codec.specs.Block.{Block}
use Rattle.cache_model.specs.Known.{known_at}
use Rattle.leaf_record.specs.Leaf.{Outpoint, Rest, leaf_text}
use Rattle.leaf_record.specs.History.{somes, History}
use Rattle.proof_wire.specs.BlockProof.{Spend, rests_of}
use Rattle.block_rules.specs.declared.chain.Chain.{Chain}
use Rattle.block_rules.specs.declared.chain.Outside.{Outside}
use Rattle.block_rules.specs.declared.refusal.Refusal.{Refusal}
use Rattle.block_rules.specs.declared.refusal.Refusal.TheVariants as Why
use Rattle.block_rules.specs.declared.refusal.ProofRefusal.{ProofRefusal}
use Rattle.block_rules.specs.declared.refusal.ProofRefusal.TheVariants.{HashCount}
use Rattle.block_rules.specs.Blocks.{external, new_records}
use Rattle.block_rules.specs.Money.{found_of}
use Rattle.block_rules.specs.Rules.{block_steps}
use Rattle.block_rules.specs.Steps.{unless, first_of}
use Rattle.node_rules.specs.Messages.{Message, named, points_of, claimed, known_to}
use Rattle.node_rules.specs.Accepting.{View, shape_fault, first_slot, empty_root, root_differs, proof_fault}
use Rattle.node_rules.specs.Known.{view_of}
use Rattle.node_rules.specs.Right.{entry_number_at, all_stand, same_digests, is_right}
use Rattle.node_rules.specs.Reading.{Handed, nothing, unread, read}
use Rattle.node_rules.specs.Judging.{Rules, Evidence, spends_nothing, wrong_unless, compact, full, is_forged, entries_shown, refusal}
use Rattle.node_rules.specs.Machine.{BlockCame, Level, State, chain_of, full_judge, view_judge, by_evidence, step, verdict_over, verdict_by}

-- among n entries two messages name the same places, and say the same besides
pub record IsAlike (n : ℕ) (m k : Message) : Type 0 where
  pub lean : m.lean ≡ k.lean
  pub places : named n m ≡ named n k
  pub rests : rests_of m.proof.spends ≡ rests_of k.proof.spends
  pub hashes : m.proof.hashes ≡ k.proof.hashes

-- the same of what is handed in
abbrev pub AreAlike : ℕ → Handed → Handed → Type 0
AreAlike n nothing other = other ≡ nothing
AreAlike n (unread why) other = other ≡ unread why
AreAlike n (read m) other = (k : Message) × (other ≡ read k) × IsAlike n m k

-- what is the same of messages that are alike is so of what is handed in
pub lifted : {X : Type 0} (n : ℕ) (f : Handed → X) → ((m k : Message) → IsAlike n m k → f (read m) ≡ f (read k)) → (handed other : Handed)
    → AreAlike n handed other → f handed ≡ f other
lifted n f same nothing other e = ap f (sym e)
lifted n f same (unread why) other e = ap f (sym e)
lifted n f same (read m) other (k, e, alike) = same m k alike ∙ ap f (sym e)

count : {n : ℕ} (m k : Message) → IsAlike n m k → length m.proof.spends ≡ length k.proof.spends
count m k alike = sym (length-map m.proof.spends (λ (s : Spend). s.rest)) ∙ ap length alike.rests ∙ length-map k.proof.spends (λ (s : Spend). s.rest)

module _ (H : List ℕ → Digest) where
  -- ---- by a view

  module _ (v : View) (points : List Outpoint) where
    abbrev fault_of : List (Option Place) → Bool → List Rest → List Digest → Option ProofRefusal
    fault_of named lean rests hashes =
        let ts = somes named in
        let known = known_to lean v.known in
        let wanted = length (asked v.n ts known) in
        let leaves = map (λ leaf. H (leaf_text leaf)) (claimed points rests) in
        first_of (
        shape_fault v.n [] 0 named
        ∷ unless (length hashes == wanted) (HashCount wanted (length hashes))
        ∷ first_slot (λ row c. empty_root (v.roots row) row) v.n ts v.n
        ∷ first_slot (λ row c. root_differs (v.roots row) (evaluation H v.n ts known leaves hashes c) row) v.n ts v.n
        ∷ []
        )

    pub same_fault : (m k : Message) → IsAlike v.n m k → proof_fault H v points m ≡ proof_fault H v points k
    same_fault m k alike =
        ap (λ (x : List (Option Place)). fault_of x m.lean (rests_of m.proof.spends) m.proof.hashes) alike.places
        ∙ ap (λ (x : Bool). fault_of (named v.n k) x (rests_of m.proof.spends) m.proof.hashes) alike.lean
        ∙ ap (λ (x : List Rest). fault_of (named v.n k) k.lean x m.proof.hashes) alike.rests
        ∙ ap (λ (x : List Digest). fault_of (named v.n k) k.lean (rests_of k.proof.spends) x) alike.hashes

  abbrev steps_of : List Outside → ℕ → List (Option Refusal)
  steps_of ext got = unless (spends_nothing ext || not false) Why.NoProof ∷ None ∷ unless (got == length ext) (Why.Spends got (length ext)) ∷ []

  abbrev compact_of : List Outside → Option ProofRefusal → ℕ → List Rest → Evidence
  compact_of ext fault got rests = record { steps = steps_of ext got ++ (option_map Why.Proof fault ∷ []); found = map found_of rests; numbers = [] }

  pub same_compact : (v : View) (ext : List Outside) (m k : Message) → IsAlike v.n m k → compact H v ext (read m) ≡ compact H v ext (read k)
  same_compact v ext m k alike =
      ap (λ (x : Option ProofRefusal). compact_of ext x (length m.proof.spends) (rests_of m.proof.spends)) (same_fault v (points_of ext) m k alike)
      ∙ ap (λ (x : ℕ). compact_of ext (proof_fault H v (points_of ext) k) x (rests_of m.proof.spends)) (count m k alike)
      ∙ ap (λ (x : List Rest). compact_of ext (proof_fault H v (points_of ext) k) (length k.proof.spends) x) alike.rests

  -- over a view the verdict is the same, with its details
  pub same_verdict : (rules : Rules) (chain : Chain) (v : View) (b : Block) (handed other : Handed) → AreAlike v.n handed other
      → verdict_over H rules chain v b handed ≡ verdict_over H rules chain v b other
  same_verdict rules chain v b handed other alike =
      let ext = external b chain.blocks in
      ap (λ (e : Evidence). verdict_by chain b (length (new_records b chain.blocks)) (refusal rules chain b e))
      (lifted v.n (compact H v ext) (same_compact v ext) handed other alike)

  -- ---- by the whole history

  module _ (us : History) where
    abbrev right_of : (ℕ → ℕ → Option Digest) → List Outpoint → ℕ → List (Option Place) → Bool → List Rest → List Digest → Bool
    right_of known points got named lean rests hashes =
        let n = length us in
        let es = entries H leaf_text us in
        (got == length points)
        && (all_stand H us named (claimed points rests)
        && same_digests hashes (map (λ p. digest_at H es p.row p.off) (asked n (somes named) (known_to lean known))))

    same_right : (known : ℕ → ℕ → Option Digest) (points : List Outpoint) (m k : Message) → IsAlike (length us) m k
        → is_right H us known points m ≡ is_right H us known points k
    same_right known points m k alike =
        ap (λ (x : ℕ). right_of known points x (named (length us) m) m.lean (rests_of m.proof.spends) m.proof.hashes) (count m k alike)
        ∙ ap (λ (x : List (Option Place)). right_of known points (length k.proof.spends) x m.lean (rests_of m.proof.spends) m.proof.hashes)
        alike.places
        ∙ ap (λ (x : Bool). right_of known points (length k.proof.spends) (named (length us) k) x (rests_of m.proof.spends) m.proof.hashes) alike.lean
        ∙ ap (λ (x : List Rest). right_of known points (length k.proof.spends) (named (length us) k) k.lean x m.proof.hashes) alike.rests
        ∙ ap (λ (x : List Digest). right_of known points (length k.proof.spends) (named (length us) k) k.lean (rests_of k.proof.spends) x)
        alike.hashes

    same_shown : (m k : Message) → IsAlike (length us) m k → entries_shown H us (read m) ≡ entries_shown H us (read k)
    same_shown m k alike = ap (λ (x : List (Option Place)). somes (map (entry_number_at (entries H leaf_text us)) (somes x))) alike.places

    abbrev full_of : List Outside → Option ProofRefusal → Bool → ℕ → List Rest → List ℕ → Evidence
    full_of ext fault right got rests numbers =
        record { steps = steps_of ext got ++ (wrong_unless right fault ∷ []); found = map found_of rests; numbers = numbers }

    same_full : (scripts : List (List ℕ)) (ext : List Outside) (m k : Message) → IsAlike (length us) m k
        → full H scripts us ext (read m) ≡ full H scripts us ext (read k)
    same_full scripts ext m k alike =
        let known = known_at H scripts us in
        let v = view_of H scripts us in
        let points = points_of ext in
        ap (λ (x : Option ProofRefusal). full_of ext x (is_right H us known points m) (length m.proof.spends) (rests_of m.proof.spends)
        (entries_shown H us (read m))) (same_fault v points m k alike)
        ∙ ap (λ (x : Bool). full_of ext (proof_fault H v points k) x (length m.proof.spends) (rests_of m.proof.spends)
        (entries_shown H us (read m))) (same_right known points m k alike)
        ∙ ap (λ (x : ℕ). full_of ext (proof_fault H v points k) (is_right H us known points k) x (rests_of m.proof.spends)
        (entries_shown H us (read m))) (count m k alike)
        ∙ ap (λ (x : List Rest). full_of ext (proof_fault H v points k) (is_right H us known points k) (length k.proof.spends) x
        (entries_shown H us (read m))) alike.rests
        ∙ ap (λ (x : List ℕ). full_of ext (proof_fault H v points k) (is_right H us known points k) (length k.proof.spends)
        (rests_of k.proof.spends) x) (same_shown m k alike)

    abbrev forged_of : Rules → Chain → Block → List Outside → ℕ → Option ProofRefusal → Bool → Bool
    forged_of rules chain b ext got fault right = is_none (first_of (block_steps rules.net rules.limits chain b ++ steps_of ext got))
        && (is_none fault && not right)

    -- forgery is judged alike
    pub same_forged : (scripts : List (List ℕ)) (rules : Rules) (chain : Chain) (b : Block) (handed other : Handed)
        → AreAlike (length us) handed other
        → is_forged H scripts rules chain us b handed ≡ is_forged H scripts rules chain us b other
    same_forged scripts rules chain b handed other alike = lifted (length us) (is_forged H scripts rules chain us b) of handed other alike
      where
        of : (m k : Message) → IsAlike (length us) m k
            → is_forged H scripts rules chain us b (read m) ≡ is_forged H scripts rules chain us b (read k)
        of m k alike =
            let ext = external b chain.blocks in
            let known = known_at H scripts us in
            let v = view_of H scripts us in
            let points = points_of ext in
            ap (λ (x : ℕ). forged_of rules chain b ext x (proof_fault H v points m) (is_right H us known points m)) (count m k alike)
            ∙ ap (λ (x : Option ProofRefusal). forged_of rules chain b ext (length k.proof.spends) x (is_right H us known points m))
            (same_fault v points m k alike)
            ∙ ap (λ (x : Bool). forged_of rules chain b ext (length k.proof.spends) (proof_fault H v points k) x)
            (same_right known points m k alike)

  -- ---- the machines

  module _ (scripts : List (List ℕ)) (rules : Rules) where
    pub same_full_judge : (l : Level) (b : Block) (handed other : Handed) → AreAlike (length l.history) handed other
        → full_judge H scripts rules l b handed ≡ full_judge H scripts rules l b other
    same_full_judge l b handed other alike =
        let us = l.history in
        let ext = external b l.blocks in
        ap (λ (x : Bool). cond x None (Some (full H scripts us ext handed))) (same_forged us scripts rules (chain_of l) b handed other alike)
        ∙ ap (λ (x : Evidence). cond (is_forged H scripts rules (chain_of l) us b other) None (Some x))
        (lifted (length us) (full H scripts us ext) (same_full us scripts ext) handed other alike)

    pub same_view_judge : (l : Level) (b : Block) (handed other : Handed) → AreAlike (length l.history) handed other
        → view_judge H scripts l b handed ≡ view_judge H scripts l b other
    same_view_judge l b handed other alike =
        let us = l.history in
        let ext = external b l.blocks in
        let v = view_of H scripts us in
        ap (λ (x : Evidence). Some (record { steps = x.steps; found = x.found; numbers = entries_shown H us handed }))
        (lifted (length us) (compact H v ext) (same_compact v ext) handed other alike)
        ∙ ap (λ (x : List ℕ). Some (record (compact H v ext other) { numbers = x }))
        (lifted (length us) (entries_shown H us) (same_shown us) handed other alike)

    pub same_full_step : (s : State) (b : Option Block) (handed other : Handed) → AreAlike (length s.now.history) handed other
        → step rules (full_judge H scripts rules) s (BlockCame b handed) ≡ step rules (full_judge H scripts rules) s (BlockCame b other)
    same_full_step s None handed other alike = refl
    same_full_step s (Some b) handed other alike = ap (by_evidence rules s b) (same_full_judge s.now b handed other alike)

    pub same_view_step : (s : State) (b : Option Block) (handed other : Handed) → AreAlike (length s.now.history) handed other
        → step rules (view_judge H scripts) s (BlockCame b handed) ≡ step rules (view_judge H scripts) s (BlockCame b other)
    same_view_step s None handed other alike = refl
    same_view_step s (Some b) handed other alike = ap (by_evidence rules s b) (same_view_judge s.now b handed other alike)
