-- What a message is made of: what is drafted of it before the index changes, and the message itself.
use Rattle.std.proofs.Common.{◌≡◌, ℕ, ◌^◌, ◌≤◌, Bool, true, false, List, [], ◌∷◌, map, length, All, Option, Some, None, refl, sym, ap, ap₂, ◌∙◌}
use Rattle.std.proofs.Common.{subst}
use Rattle.std.specs.Prelude.{◌==◌, is_some, option_map}
use Rattle.std.specs.List.Sorted.{IsPermutation}
use Rattle.std.proofs.lemmas.Bool.{false≢true}
use Rattle.uo_digest.specs.declared.digest.Digest.{Digest}
use Rattle.forest_place.specs.declared.place.Place.{Place}
use Rattle.leaf_record.specs.Leaf.{Rest}
use Rattle.proof_shape.specs.Targeted.{Targeted}
use Rattle.block_rules.specs.declared.chain.Outside.{Outside}
use Rattle.proof_wire.specs.BlockProof.{message_text}
use Rattle.node_rules.specs.Proving.{written_text}
use Rattle.live_forest.specs.State.{is_live}
use Rattle.output_index.specs.Held.{is_live as is_held_live}
use Rattle.bridge_prover.specs.declared.message.Draft.{Draft}
use Rattle.bridge_prover.specs.Bridge.{BridgeState, message_by}
use Rattle.bridge_prover.specs.Own.{leaves_in}
use Rattle.bridge_prover.specs.Draft.{drafted, draft_of, draft_beside, IsDraft}
use Rattle.bridge_prover.specs.Watched.{scripts_of, kept_in, places_in}
use Rattle.bridge_prover.proofs.Leaving.{message_told}
use Rattle.bridge_prover.proofs.Showing.{rests_each, whole_proof}

module _ (s : BridgeState) (rests : List Rest) where
  pub draft_none : (ext : List Outside) → ext ≡ [] → None ≡ draft_beside s ext rests
  draft_none ext none = rw none refl

  draft_is : (lean : Bool) (kept : Targeted) → lean ≡ is_some s.watch → kept.leaves ≡ length s.entries
      → kept.targets ≡ places_in s.entries (kept_in (scripts_of s.watch) s.held)
      → ◌≡◌ {A = Draft} (record { lean = lean; kept = kept; rests = rests }) (draft_of s rests)
  draft_is lean kept l n t =
      let there : Targeted = record { leaves = length s.entries; targets = places_in s.entries (kept_in (scripts_of s.watch) s.held) } in
      let same : kept ≡ there = ap₂ (λ (k : ℕ) (ps : List Place). let x : Targeted = record { leaves = k; targets = ps } in x) n t in
      ap₂ (λ (b : Bool) (k : Targeted). let d : Draft = record { lean = b; kept = k; rests = rests } in d) l same

  pub draft_some : (ext : List Outside) (lean : Bool) (kept : Targeted) → (length ext == 0) ≡ false → lean ≡ is_some s.watch
      → kept.leaves ≡ length s.entries → kept.targets ≡ places_in s.entries (kept_in (scripts_of s.watch) s.held)
      → ◌≡◌ {A = Option Draft} (Some (record { lean = lean; kept = kept; rests = rests })) (draft_beside s ext rests)
  draft_some [] lean kept some l n t = absurd (false≢true (sym some))
  draft_some (at ∷ ext) lean kept some l n t = ap Some (draft_is lean kept l n t)

module _ (H : List ℕ → Digest) (s : BridgeState) (numbers spent : List ℕ) (rests : List Rest)
    (held : All (λ i. is_held_live i s.held ≡ true) numbers) (shown : rests ≡ map (λ leaf. leaf.rest) (leaves_in s.held numbers)) where
  pub draft_fits : (ext : List Outside) (draft : Option Draft) → draft ≡ draft_beside s ext rests → IsDraft s.entries numbers draft
  draft_fits [] draft is = rw is tt
  draft_fits (at ∷ ext) draft is = subst (IsDraft s.entries numbers) (sym is) (refl, rests_each s.held numbers rests held shown)

  module _ (few : length s.entries ≤ 2 ^ 40) (live : All (λ i. is_live s.entries i ≡ true) numbers) (perm : IsPermutation numbers spent) where
    message_is : drafted H s.entries numbers spent (draft_of s rests) ≡ message_by H s.watch s.entries s.held numbers
    message_is = whole_proof H s.entries few s.held (places_in s.entries (kept_in (scripts_of s.watch) s.held)) (is_some s.watch) numbers spent
        rests live held perm shown
        ∙ message_told H s numbers

    pub draft_told : (ext : List Outside) (draft : Option Draft) → draft ≡ draft_beside s ext rests
        → option_map (λ d. message_text (drafted H s.entries numbers spent d)) draft
        ≡ written_text ext (message_by H s.watch s.entries s.held numbers)
    draft_told [] draft is = rw is refl
    draft_told (at ∷ ext) draft is = ap (option_map (λ (d : Draft). message_text (drafted H s.entries numbers spent d))) is
        ∙ ap (λ m. Some (message_text m)) message_is
