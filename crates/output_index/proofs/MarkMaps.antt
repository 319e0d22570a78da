-- The newest entries of marks, which lie in many maps.
use Rattle.std.proofs.Common.{◌≡◌, ◌≢◌, ℕ, zero, suc, ◌<◌, List, [], ◌∷◌, ◌++◌, Option, Some, None, set, get_or, length, refl, sym, ap, ◌∙◌, subst}
use Rattle.std.proofs.Common.{⊎_elim}
use Rattle.std.specs.Prelude.{slice_get, IsSome, option_map}
use Rattle.std.specs.BTreeMap as tree
use Rattle.std.specs.BTreeMap.{BTreeMap}
use Rattle.std.specs.Ordering.{nat_cmp}
use Rattle.std.proofs.lemmas.Bool.{cases_eq, false≢true}
use Rattle.std.proofs.lemmas.Option.{slice_get_within, slice_get_read}
use Rattle.output_index.proofs.Replacing.{get-set_same, get-set_other}
use Rattle.output_index.specs.Overflow.{maps_in, map_of, found_in, in_maps}

-- what is found in one of the maps
abbrev pub in_map : Option (BTreeMap ℕ ℕ) → ℕ → Option ℕ
in_map None m = None
in_map (Some one) m = tree.get nat_cmp one m

get-map : (i : ℕ) (maps : List (BTreeMap ℕ ℕ)) → slice_get (maps_in maps) i ≡ option_map (λ one. one.entries) (slice_get maps i)
get-map i [] = refl
get-map zero (one ∷ maps) = refl
get-map (suc i) (one ∷ maps) = get-map i maps

pub at-maps : (maps : List (BTreeMap ℕ ℕ)) (m : ℕ) → in_maps (maps_in maps) m ≡ in_map (slice_get maps (map_of m)) m
at-maps maps m = ap (λ s. found_in s m) (get-map (map_of m) maps) ∙ by_case (slice_get maps (map_of m))
  where
    by_case : (x : Option (BTreeMap ℕ ℕ)) → found_in (option_map (λ one. one.entries) x) m ≡ in_map x m
    by_case None = refl
    by_case (Some one) = refl

pub at-map : (maps : List (BTreeMap ℕ ℕ)) (one : BTreeMap ℕ ℕ) (i m : ℕ) → map_of m ≡ i → i < length maps → one ≡ get_or maps i one
    → in_maps (maps_in maps) m ≡ tree.get nat_cmp one m
at-map maps one i m s l h = at-maps maps m ∙ ap (λ x. in_map x m) (ap (slice_get maps) s ∙ slice_get_read maps (length maps) i one refl l h)

-- a mark that is found has its map
pub map-within : (maps : List (BTreeMap ℕ ℕ)) (m : ℕ) → IsSome (in_maps (maps_in maps) m) → map_of m < length maps
map-within maps m h = by_case (slice_get maps (map_of m)) refl (subst IsSome (at-maps maps m) h)
  where
    by_case : (x : Option (BTreeMap ℕ ℕ)) → slice_get maps (map_of m) ≡ x → IsSome (in_map x m) → map_of m < length maps
    by_case None q h = absurd (false≢true h)
    by_case (Some one) q h = slice_get_within maps (map_of m) one q

-- another map in the place of one
pub at-set : (maps : List (BTreeMap ℕ ℕ)) (one : BTreeMap ℕ ℕ) (i m : ℕ) → map_of m ≡ i → i < length maps
    → in_maps (maps_in (set maps i one)) m ≡ tree.get nat_cmp one m
at-set maps one i m s l = at-maps (set maps i one) m ∙ ap (λ x. in_map x m) (ap (slice_get (set maps i one)) s ∙ get-set_same i one maps l)

-- which differs from it at one mark alone
pub others-set : (maps : List (BTreeMap ℕ ℕ)) (old new : BTreeMap ℕ ℕ) (i mark : ℕ) → map_of mark ≡ i → i < length maps → old ≡ get_or maps i old
    → ((m : ℕ) → m ≢ mark → tree.get nat_cmp new m ≡ tree.get nat_cmp old m) →
    (m : ℕ) → m ≢ mark → in_maps (maps_in (set maps i new)) m ≡ in_maps (maps_in maps) m
others-set maps old new i mark s l h others m o =
    ⊎_elim
    (λ e. at-set maps new i m e l ∙ (others m o ∙ sym (at-map maps old i m e l h)))
    (λ e. at-maps (set maps i new) m ∙ (ap (λ x. in_map x m) (get-set_other i (map_of m) new maps e) ∙ sym (at-maps maps m)))
    (cases_eq (map_of m) i)

-- all maps are empty
pub none-in : (maps : List (BTreeMap ℕ ℕ)) (one : BTreeMap ℕ ℕ) → ((m : ℕ) → tree.get nat_cmp one m ≡ None)
    → ((m : ℕ) → in_maps (maps_in maps) m ≡ None) → (m : ℕ) → in_maps (maps_in (maps ++ one ∷ [])) m ≡ None
none-in maps one empty h m = at-maps (maps ++ one ∷ []) m ∙ by_place (map_of m) maps (sym (at-maps maps m) ∙ h m)
  where
    by_place : (i : ℕ) (maps : List (BTreeMap ℕ ℕ)) → in_map (slice_get maps i) m ≡ None → in_map (slice_get (maps ++ one ∷ []) i) m ≡ None
    by_place zero [] h = empty m
    by_place (suc i) [] h = refl
    by_place zero (x ∷ maps) h = h
    by_place (suc i) (x ∷ maps) h = by_place i maps h
