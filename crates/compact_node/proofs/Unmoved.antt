-- What a node that watches nothing keeps and holds behind additions: nothing.
use Rattle.std.proofs.Common.{◌≡◌, ℕ, List, [], ◌∷◌, None, refl, sym, ap, ap₂, ◌∙◌}
use Rattle.uo_digest.specs.declared.digest.Digest.{Digest}
use Rattle.forest_place.specs.declared.place.Place.{Place}
use Rattle.forest_roots.specs.Stump.{Stump}
use Rattle.forest_roots.specs.Joined.{joins_of}
use Rattle.leaf_record.specs.Leaf.{Leaf, leaf_text}
use Rattle.cache_model.specs.declared.kept.Kept.{Kept}
use Rattle.cache_model.specs.Lists.{moved_leaves, leaf_places}
use Rattle.cache_model.specs.Steps.{held_deleted}
use Rattle.cache_update.proofs.Idle.{none_added, none_deleted}
use Rattle.compact_node.specs.After.{with_leaf, kept_with_all, held_with_all}

module _ (H : List ℕ → Digest) where
  none_kept : (f : Stump) (new : List Leaf) → kept_with_all H [] f new [] ≡ []
  none_kept f [] = refl
  none_kept f (leaf ∷ leaves) = none_kept (with_leaf H f (H (leaf_text leaf))) leaves

  none_held : (f : Stump) (new : List Leaf) → held_with_all H [] f new [] ≡ []
  none_held f [] = refl
  none_held f (leaf ∷ leaves) =
      let g = with_leaf H f (H (leaf_text leaf)) in
      ap (held_with_all H [] g leaves) (sym (none_added (joins_of H f (H (leaf_text leaf))) (H (leaf_text leaf)) f.leaves None [] refl refl))
      ∙ none_held g leaves

  module _ (scripts : List (List ℕ)) (f : Stump) (new : List Leaf) (n : ℕ) (ts : List Place) (ks ks' : List Kept) (hs hs' : List (Place × Digest))
      (unwatched : scripts ≡ []) (kept : ks ≡ []) (held : hs ≡ []) where
    pub unwatched_kept : ks' ≡ ks → ks' ≡ kept_with_all H scripts f new (moved_leaves n ts ks)
    unwatched_kept same =
        same ∙ (kept ∙ (sym (none_kept f new) ∙ ap₂ (λ (xs : List (List ℕ)) (ys : List Kept). kept_with_all H xs f new (moved_leaves n ts ys))
        (sym unwatched) (sym kept)))

    pub unwatched_held : (pairs : List (Place × Digest)) → hs' ≡ hs
        → hs' ≡ held_with_all H scripts f new (held_deleted n ts pairs (leaf_places (moved_leaves n ts ks)) hs)
    unwatched_held pairs same =
        same ∙ (held ∙ (sym (none_held f new)
        ∙ ap₂ (λ (xs : List (List ℕ)) (ys : List (Place × Digest)). held_with_all H xs f new ys) (sym unwatched)
        (sym held ∙ none_deleted n ts pairs ks hs kept held)))
