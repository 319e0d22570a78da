-- A bridge with a watch list: what is known to it is what is known by the history, and what its messages leave out.
use Rattle.std.proofs.Common.{◌≡◌, ℕ, Bool, true, false, cond, List, [], ◌∷◌, map, length, get_or, Option, Some, None, refl, sym}
use Rattle.std.proofs.Common.{ap, ap₂, ◌∙◌, subst}
use Rattle.std.specs.Prelude.{◌&&◌, not, is_some, is_none, option_map, slice_get, if◌then◌else◌, IsSome, Result, Ok, Err, IfOk}
use Rattle.std.specs.List.{filter}
use Rattle.std.proofs.lemmas.Bool.{false≢true}
use Rattle.std.proofs.lemmas.List.{length-map}
use Rattle.std.proofs.lemmas.Result.{IfOk-weaker}
use Rattle.uo_digest.specs.declared.digest.Digest.{Digest}
use Rattle.forest_place.specs.declared.place.Place.{Place}
use Rattle.forest_model.specs.Cover.{HasShape, need}
use Rattle.forest_model.specs.EntryPlace.{entry_place}
use Rattle.forest_model.specs.Evaluation.{asked}
use Rattle.forest_model.specs.Right.{entries}
use Rattle.forest_model.specs.Standing.{digest_at}
use Rattle.leaf_record.specs.Leaf.{leaf_text}
use Rattle.leaf_record.specs.History.{History, somes}
use Rattle.cache_model.specs.Known.{is_known, kept, kept_places}
use Rattle.cache_model.specs.Cache.{held}
use Rattle.cache_model.specs.Lists.{kept_leaves, IsCacheOf}
use Rattle.cache_model.proofs.Histories.{known_is, is_ordered}
use Rattle.cache_model.proofs.Known.{none_known}
use Rattle.proof_wire.specs.BlockProof.{BlockProof}
use Rattle.node_rules.specs.Messages.{sent, targets}
use Rattle.node_rules.specs.Judging.{known_for}
use Rattle.node_rules.specs.Machine.{State}
use Rattle.node_rules.proofs.Righting.{got_back, got_entry}
use Rattle.live_forest.specs.State as forest
use Rattle.output_index.specs.Held.{Held, held_at, is_live}
use Rattle.output_index.specs.Indexed.{IsIndexOf}
use Rattle.output_index.proofs.HeldLaws.{live_is_held}
use Rattle.output_index.proofs.Standing.{live_is_there}
use Rattle.proof_shape.specs.Targeted.{Targeted}
use Rattle.bridge_prover.specs.Bridge.{BridgeState, spends_by, proof_by, message_by}
use Rattle.bridge_prover.specs.Laws.{KnownIsOwn}
use Rattle.bridge_prover.specs.Standing.{IsBridge, Stands}
use Rattle.bridge_prover.specs.Watched.{scripts_of, noted_in, kept_in, places_in, known_list, known_in}
use Rattle.bridge_prover.proofs.Gathering.{somes-found}
use Rattle.bridge_prover.proofs.Kept.{kept_shape}
use Rattle.bridge_prover.proofs.Noting.{kept_same, kept_rise, kept_live, kept-live}
use Rattle.bridge_prover.proofs.Rising.{all_mapped}
use Rattle.bridge_prover.proofs.Showing.{proof_beside}

-- ---- by the history

module _ (H : List ℕ → Digest) (hs : List Held) (us : History) (index : IsIndexOf hs us) where
  long : length (entries H leaf_text us) ≡ length us
  long = length-map us (option_map (λ r. H (leaf_text r)))

  places_same : (scripts : List (List ℕ)) → places_in (entries H leaf_text us) (kept_in scripts hs) ≡ kept_places H scripts us
  places_same scripts = ap (places_in (entries H leaf_text us)) (kept_same scripts hs us index)
      ∙ somes-found (entry_place (entries H leaf_text us)) (kept scripts us)

  pub known_same : (watch : Option (List (List ℕ))) → known_in H watch (entries H leaf_text us) hs ≡ known_for H watch us
  known_same None = refl
  known_same (Some scripts) =
      let by : ℕ → List Place → ℕ → ℕ → Option Digest =
      λ n ps row off. if is_known n ps (record { row = row; off = off }) then digest_at H (entries H leaf_text us) row off else None in
      ap₂ by long (places_same scripts)

  list_same : (scripts : List (List ℕ)) → IsCacheOf H scripts us (kept_leaves H scripts us) (known_list H scripts (entries H leaf_text us) hs)
  list_same scripts = record { of_kept = refl; of_held = ap (held H (entries H leaf_text us)) (places_same scripts) }

module _ (H : List ℕ → Digest) (s : BridgeState) (t : State) (stands : Stands H t s) where
  -- it is that of a cache
  as_cache : IsCacheOf H (scripts_of s.watch) t.now.history (kept_leaves H (scripts_of s.watch) t.now.history)
      (known_list H (scripts_of s.watch) s.entries s.held)
  as_cache =
      let us = t.now.history in
      let scripts = scripts_of s.watch in
      subst (λ es. IsCacheOf H scripts us (kept_leaves H scripts us) (known_list H scripts es s.held)) (sym stands.entries)
      (list_same H s.held us stands.index scripts)

pub known_is_own : KnownIsOwn
known_is_own H s is = (
  λ t stands row off. known_is H (scripts_of s.watch) t.now.history _ _ (as_cache H s t stands) row off,
  (is_ordered H (scripts_of s.watch) is.levels.now.history _ _ (as_cache H s is.levels is.stands)).1,
)

-- ---- what the calls ask for

module _ (H : List ℕ → Digest) (s : BridgeState) (is : IsBridge H s) where
  -- what is live in the index is live in the forest
  pub lives_stand : (i : ℕ) → is_live i s.held ≡ true → forest.is_live s.entries i ≡ true
  lives_stand i live =
      let us = is.levels.now.history in
      let there = live_is_there i s.held us is.rise is.stands.index live in
      by (held_at i s.held) (live_is_held i s.held live) there
    where
      by : (x : Option Held) → IsSome x → option_map Some (option_map (λ (h : Held). h.leaf) x) ≡ slice_get is.levels.now.history i
          → forest.is_live s.entries i ≡ true
      by None h e = absurd (false≢true h)
      by (Some x) h e =
          ap (λ es. is_some (get_or es i None)) is.stands.entries
          ∙ ap is_some (got_entry (λ r. H (leaf_text r)) is.levels.now.history i
          ∙ ap (option_map (λ r. H (leaf_text r))) (got_back is.levels.now.history i x.leaf (sym e)))

  module _ (numbers : List ℕ) (noted : numbers ≡ noted_in (scripts_of s.watch) s.held) where
    pub lives_are : filter (λ i. is_live i s.held) numbers ≡ kept_in (scripts_of s.watch) s.held
    lives_are = ap (filter (λ i. is_live i s.held)) noted ∙ kept-live (scripts_of s.watch) s.held is.rise

    pub places_shaped : HasShape (length s.entries) (places_in s.entries (filter (λ i. is_live i s.held) numbers))
    places_shaped =
        subst (λ ns. HasShape (length s.entries) (places_in s.entries ns)) (sym lives_are)
        (kept_shape s.entries (kept_in (scripts_of s.watch) s.held)
        (all_mapped (λ i. is_live i s.held ≡ true) (λ i. forest.is_live s.entries i ≡ true) lives_stand (kept_in (scripts_of s.watch) s.held)
        (kept_live (scripts_of s.watch) s.held))
        (kept_rise (scripts_of s.watch) s.held is.rise))

-- ---- what is left out

module _ (H : List ℕ → Digest) (es : List (Option Digest)) where
  abbrev at : Place → Option Digest
  at p = digest_at H es p.row p.off

  abbrev Left : (Place → Bool) → Place → Bool
  Left known q = is_none (if known q then at q else None)

  abbrev Right : (Place → Bool) → Place → Bool
  Right known q = not (known q)

  -- where nothing stands at a place, there is nothing to leave out
  left_out : (known : Place → Bool) (ps : List Place) → somes (map at (filter (λ p. is_none (if known p then at p else None)) ps))
      ≡ somes (map at (filter (λ p. not (known p)) ps))
  left_out known [] = refl
  left_out known (p ∷ ps) = by (known p) (at p) refl (left_out known ps)
    where
      by : (b : Bool) (x : Option Digest) → at p ≡ x → somes (map at (filter (Left known) ps)) ≡ somes (map at (filter (Right known) ps)) →
          somes (map at (cond (is_none (if b then at p else None)) (p ∷ filter (Left known) ps) (filter (Left known) ps)))
          ≡ somes (map at (cond (not b) (p ∷ filter (Right known) ps) (filter (Right known) ps)))
      by false None e r = rw e r
      by false (Some d) e r = rw e (ap (λ ds. d ∷ ds) r)
      by true None e r = rw e (rw e r)
      by true (Some d) e r = rw e r

  all_asked : (known : Place → Bool) → ((p : Place) → known p ≡ false) → (ps : List Place) → filter (λ p. true) ps ≡ filter (λ p. not (known p)) ps
  all_asked known none [] = refl
  all_asked known none (p ∷ ps) = ap (λ qs. p ∷ qs) (all_asked known none ps)
      ∙ sym (ap (λ b. cond (not b) (p ∷ filter (λ q. not (known q)) ps) (filter (λ q. not (known q)) ps)) (none p))

  -- without a list no entry is kept, since none is watched
  none_kept : (hs : List Held) → kept_in [] hs ≡ []
  none_kept [] = refl
  none_kept (h ∷ hs) = by h.live (none_kept hs)
    where
      by : (b : Bool) → kept_in [] hs ≡ [] → map (λ (x : Held). x.number)
          (cond (b && false) (h ∷ filter (λ (x : Held). x.live && false) hs) (filter (λ (x : Held). x.live && false) hs)) ≡ []
      by true r = r
      by false r = r

  -- the hashes over what is needed, less the known ones
  hashes_same : (watch : Option (List (List ℕ))) (hs : List Held) (ts : List Place) → somes (map at (asked (length es) ts (known_in H watch es hs)))
      ≡ somes (map at (filter (λ p. not (is_known (length es) (places_in es (kept_in (scripts_of watch) hs)) p)) (need (length es) ts)))
  hashes_same None hs ts =
      let none : (p : Place) → is_known (length es) (places_in es (kept_in [] hs)) p ≡ false =
      λ p. ap (λ ns. is_known (length es) (places_in es ns) p) (none_kept hs) ∙ none_known (length es) p in
      ap (λ ps. somes (map at ps)) (all_asked (is_known (length es) (places_in es (kept_in [] hs))) none (need (length es) ts))
  hashes_same (Some scripts) hs ts = left_out (is_known (length es) (places_in es (kept_in scripts hs))) (need (length es) ts)

  pub proof_same_beside : (watch : Option (List (List ℕ))) (hs : List Held) (numbers : List ℕ)
      → proof_beside H (places_in es (kept_in (scripts_of watch) hs)) es hs numbers ≡ proof_by H watch es hs numbers
  proof_same_beside watch hs numbers = ap (λ ds. (let p : BlockProof = record { spends = spends_by es hs numbers; hashes = ds } in p))
      (sym (hashes_same watch hs (targets (length es) (sent false (record { spends = spends_by es hs numbers; hashes = [] })))))

-- ---- what the calls answer

module _ (H : List ℕ → Digest) (s : BridgeState) where
  -- the targets of what is watched
  pub kept_found : {E : Type 0} (inner : BridgeState) → inner ≡ s → IsBridge H inner → (numbers : List ℕ)
      → numbers ≡ noted_in (scripts_of inner.watch) inner.held → (r : Result Targeted E) →
      IfOk r (λ t. t.targets ≡ places_in inner.entries (filter (λ i. is_live i inner.held) numbers))
      → IfOk r (λ t. t.targets ≡ places_in s.entries (kept_in (scripts_of s.watch) s.held))
  kept_found inner same is numbers noted r =
      IfOk-weaker r (λ (t : Targeted). t.targets ≡ places_in inner.entries (filter (λ i. is_live i inner.held) numbers))
      (λ (t : Targeted). t.targets ≡ places_in s.entries (kept_in (scripts_of s.watch) s.held))
      (λ (t : Targeted) e. e ∙ (ap (places_in inner.entries) (lives_are H inner is numbers noted)
      ∙ ap (λ (x : BridgeState). places_in x.entries (kept_in (scripts_of x.watch) x.held)) same))

  -- the message
  pub message_told : (numbers : List ℕ)
      → sent (is_some s.watch) (proof_beside H (places_in s.entries (kept_in (scripts_of s.watch) s.held)) s.entries s.held numbers)
      ≡ message_by H s.watch s.entries s.held numbers
  message_told numbers = ap (sent (is_some s.watch)) (proof_same_beside H s.entries s.watch s.held numbers)

  -- what is known
  pub known_found : {X E : Type 0} (items : X → List (Place × Digest)) (P : List (Place × Digest) → Type 0)
      → P (known_list H (scripts_of s.watch) s.entries s.held) → (kept : List Place)
      → kept ≡ places_in s.entries (kept_in (scripts_of s.watch) s.held) → (r : Result X E) → IfOk r (λ known. items known ≡ held H s.entries kept)
      → IfOk r (λ known. P (items known))
  known_found items P holds kept at (Ok known) e = subst P (sym (e ∙ ap (held H s.entries) at)) holds
  known_found items P holds kept at (Err fault) e = tt
