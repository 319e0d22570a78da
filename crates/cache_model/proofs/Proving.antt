-- The proof of a kept entry, read off what is held on its way up.
use Rattle.std.proofs.Common.{◌≡◌, ℕ, ◌-◌, ◌^◌, ◌<◌, Bool, true, false, List, [], ◌∷◌, map, length, get_or, filter_map, Option, Some, None, refl, sym}
use Rattle.std.proofs.Common.{ap, ◌∙◌, subst, ⊎_elim, arith}
use Rattle.std.specs.Prelude.{option_map}
use Rattle.std.specs.List.{cons_option}
use Rattle.std.proofs.lemmas.Bool.{cases_Bool, or_cases, false≢true}
use Rattle.std.proofs.lemmas.Option.{none-some, same_Some}
use Rattle.uo_digest.specs.declared.digest.Digest.{Digest}
use Rattle.forest_place.specs.declared.place.Place.{Place}
use Rattle.forest_place.specs.Forest.{InForest}
use Rattle.forest_place.specs.Places.{is_at, has_place}
use Rattle.forest_place.proofs.Listed.{same_from_is_at}
use Rattle.forest_place.proofs.Positions.{row_small}
use Rattle.forest_model.specs.Content.{Tree, leaf, digest_of}
use Rattle.forest_model.specs.Standing.{tree_at}
use Rattle.forest_model.specs.Cover.{need}
use Rattle.forest_model.proofs.Climbs.{tree_at-forest}
use Rattle.forest_model.proofs.EntryPlaces.{entry_place-leaf}
use Rattle.forest_model.proofs.Lists.{need_had}
use Rattle.forest_model.proofs.Living.{needed_stands}
use Rattle.leaf_record.specs.Leaf.{leaf_text}
use Rattle.cache_model.specs.Cache.{held, look}
use Rattle.forest_model.specs.Right.{entries}
use Rattle.cache_model.specs.declared.kept.Kept.{Kept}
use Rattle.cache_model.specs.Lists.{leaf_key}
use Rattle.cache_model.specs.Undo.{find, is_same_number, is_before_number}
use Rattle.cache_model.specs.Climbed.{beside_way, IsProofOf, ProofIsClimbed}
use Rattle.cache_model.proofs.Lists.{watch, there, leaf_at, leaves_are, places_are, same_count}
use Rattle.cache_model.proofs.Logs.{found_key}
use Rattle.cache_model.proofs.Undoing.{number_order}
use Rattle.cache_model.proofs.Climbing.{siblings, need_alone, way_held}
use Rattle.cache_model.proofs.Keeping.{numbers, watched_place, watched_places, IsKept, place_kept}
use Rattle.cache_model.proofs.Looking.{look_held, look_within, need_known, proof_right}

module _ (H : List ℕ → Digest) (es : List (Option Digest)) (w : ℕ → Bool) (i : ℕ) (d : Digest) (q : Place) (s : IsKept es w i d q) where
  abbrev all_held : List (Place × Digest)
  all_held = held H es (watched_places es w)

  within : InForest (length es) q.row q.off
  within = tree_at-forest es q.row q.off (leaf i d) s.stands

  stand : (r o : ℕ) → has_place (q ∷ []) r o ≡ true → InForest (length es) r o → (t : Tree) × (tree_at es r o ≡ Some t)
  stand r o h f =
      ⊎_elim
      (λ t. (leaf i d, ap (λ (p : Place). tree_at es p.row p.off) (sym (same_from_is_at r o q t)) ∙ s.stands))
      (λ f. absurd (false≢true f))
      (or_cases (is_at r o q) false h)

  -- each needed place has a digest
  each_held : (a b : ℕ) → has_place (need (length es) (q ∷ [])) a b ≡ true → (x : Digest) × (look all_held a b ≡ Some x)
  each_held a b h =
      let v = need_known H es w i d q s a b h in
      let u = need_had (length es) (q ∷ []) a b h in
      let t = needed_stands es (q ∷ []) stand a b u.0 u.1 in
      (digest_of H t.0, look_held H es w a b v.0 v.1 ∙ ap (option_map (digest_of H)) t.1)

  pub climbed : length es < 2 ^ 40 → IsProofOf H es i (beside_way (40 - q.row) all_held q.row q.off)
  climbed few =
      let row : q.row < 40 = row_small (length es) q.row q.off 40 within few in
      let same : siblings (length es) (40 - q.row) q.row q.off ≡ need (length es) (q ∷ []) =
      need_alone (length es) q (40 - q.row) within (λ r o i. let z = row_small (length es) r o 40 i few in omega (arith, row, z)) in
      record {
        place = q;
        stands = entry_place-leaf es i q.row q.off d s.stands;
        right = way_held (length es) q all_held (40 - q.row) q.row q.off (λ a b h. each_held a b (subst (λ ps. has_place ps a b ≡ true) same h))
            (λ a b d e. look_within H es w a b d e)
            ∙ (ap (map (λ (p : Place). look all_held p.row p.off)) same ∙ proof_right H es w i d q s);
      }

-- what is found comes from one element
found_from : {X : Type 0} (f : X → Option Kept) (i : ℕ) (xs : List X) (v : Kept) → find is_same_number leaf_key i (filter_map f xs) ≡ Some v
    → (x : X) × (f x ≡ Some v)
found_from f i [] v e = absurd (none-some v e)
found_from {X = X} f i (x ∷ xs) v e = by_first (f x) refl e (found_from f i xs v)
  where
    by_first : (y : Option Kept) → f x ≡ y → find is_same_number leaf_key i (cons_option y (filter_map f xs)) ≡ Some v
        → (find is_same_number leaf_key i (filter_map f xs) ≡ Some v → (z : X) × (f z ≡ Some v)) → (z : X) × (f z ≡ Some v)
    by_first None g e rest = rest e
    by_first (Some y) g e rest =
        ⊎_elim
        (λ t. (x, g ∙ rw t at e))
        (λ t. rest (rw t at e))
        (cases_Bool (is_same_number i y.number))

pub proof_climbed : ProofIsClimbed
proof_climbed H scripts us ks hs number hashes few s e = by_found (find is_same_number leaf_key number ks) refl e
  where
    by_found : (x : Option Kept) → find is_same_number leaf_key number ks ≡ x
        → option_map (λ (p : Place). beside_way (40 - p.row) hs p.row p.off) (option_map (λ (k : Kept). k.place) x) ≡ Some hashes
        → IsProofOf H (entries H leaf_text us) number hashes
    by_found None g e = absurd (none-some hashes e)
    by_found (Some k) g e =
        let from = found_from (leaf_at H scripts us) number (numbers (length us)) k
        (ap (find is_same_number leaf_key number) (sym (s.of_kept ∙ leaves_are H scripts us)) ∙ g) in
        let is = there (λ leaf. H (leaf_text leaf)) from.0 (get_or us from.0 None) (watched_place (entries H leaf_text us) (watch scripts us) from.0)
        k
        from.1 in
        let kept = place_kept (entries H leaf_text us) (watch scripts us) from.0 k.place is.1 in
        let same : from.0 ≡ number = sym is.0 ∙ found_key is_same_number is_before_number leaf_key number_order number ks k g in
        let all : hs ≡ held H (entries H leaf_text us) (watched_places (entries H leaf_text us) (watch scripts us)) =
        s.of_held ∙ ap (held H (entries H leaf_text us)) (sym (places_are H scripts us)) in
        let proof = climbed H (entries H leaf_text us) (watch scripts us) from.0 kept.0 k.place kept.1
        (subst (λ n. n < 2 ^ 40) (sym (same_count H us)) few) in
        subst (λ (n : ℕ). IsProofOf H (entries H leaf_text us) n hashes) same
        (subst (IsProofOf H (entries H leaf_text us) from.0) (same_Some (beside_way (40 - k.place.row) hs k.place.row k.place.off) hashes e)
        (subst (λ xs. IsProofOf H (entries H leaf_text us) from.0 (beside_way (40 - k.place.row) xs k.place.row k.place.off)) (sym all) proof))
