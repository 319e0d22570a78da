-- The digests beside a way up, row by row.
use Rattle.std.proofs.Common.{◌≡◌, ℕ, suc, ◌+◌, ◌-◌, ◌/◌, ◌<◌, ◌≤◌, List, [], ◌∷◌, ◌++◌, length, get_or, Option, Some, None, sym, ap, ap₂}
use Rattle.std.proofs.Common.{◌∙◌, arith, eq-eqb, ne_eqb, Result, Ok, Err, Vec, Global}
use Rattle.std.specs.Prelude.{option_map, IfOk, IfSome}
use Rattle.std.proofs.lemmas.List.{append_assoc, append-nil, get_or_default}
use Rattle.uo_digest.specs.declared.digest.Digest.{Digest}
use Rattle.forest_place.specs.declared.place.Place.{Place}
use Rattle.forest_place.specs.Forest.{sibling_off}
use Rattle.cache_model.specs.Cache.{look}
use Rattle.cache_model.specs.declared.kept.Kept.{Kept}
use Rattle.cache_model.specs.Lists.{leaf_key, AscendByNumber}
use Rattle.cache_model.specs.Search.{IsSplit}
use Rattle.cache_model.specs.Undo.{find, is_same_number, is_before_number}
use Rattle.cache_model.specs.Climbed.{led, beside_way}
use Rattle.cache_model.proofs.Undoing.{number_order}
use Rattle.cache_model.proofs.Searching.{find_split, find_at, none_at, none_end}

module _ (hs : List (Place × Digest)) (all xs : List Digest) (r o : ℕ) (h : xs ++ beside_way (40 - r) hs r o ≡ all) where
  next : r < 40 → beside_way (40 - r) hs r o ≡ led (look hs r (sibling_off o)) (beside_way (40 - (r + 1)) hs (r + 1) (o / 2))
  next lt =
      let e : 40 - r ≡ suc (40 - (r + 1)) = omega (arith, lt) in
      let f : suc r ≡ r + 1 = omega arith in
      ap (λ k. beside_way k hs r o) e ∙ ap (λ j. led (look hs r (sibling_off o)) (beside_way (40 - (r + 1)) hs j (o / 2))) f

  at_sibling : (q : Place) → q.row ≡ r → q.off ≡ sibling_off o → look hs q.row q.off ≡ look hs r (sibling_off o)
  at_sibling q a b = ap₂ (look hs) a b

  -- a digest more
  pub way_on : (q : Place) (d : Digest) (x : Option Digest) (ys : List Digest) → r < 40 → q.row ≡ r → q.off ≡ sibling_off o → x ≡ look hs q.row q.off
      → x ≡ Some d → ys ≡ xs ++ d ∷ [] → ys ++ beside_way (40 - (r + 1)) hs (r + 1) (o / 2) ≡ all
  way_on q d x ys lt a b f g e =
      let rest = beside_way (40 - (r + 1)) hs (r + 1) (o / 2) in
      ap (λ zs. zs ++ beside_way (40 - (r + 1)) hs (r + 1) (o / 2)) e
      ∙ (append_assoc xs (d ∷ []) (beside_way (40 - (r + 1)) hs (r + 1) (o / 2))
      ∙ (ap (λ y. xs ++ led y (beside_way (40 - (r + 1)) hs (r + 1) (o / 2))) (sym g ∙ (f ∙ at_sibling q a b))
      ∙ (ap (λ zs. xs ++ zs) (sym (next lt)) ∙ h)))

  -- none is held
  pub way_ends : (q : Place) (x : Option Digest) → r < 40 → q.row ≡ r → q.off ≡ sibling_off o → x ≡ look hs q.row q.off → x ≡ None → xs ≡ all
  way_ends q x lt a b f g =
      sym (append-nil xs)
      ∙ (ap (λ y. xs ++ led y (beside_way (40 - (r + 1)) hs (r + 1) (o / 2))) (sym g ∙ (f ∙ at_sibling q a b))
      ∙ (ap (λ zs. xs ++ zs) (sym (next lt)) ∙ h))

  -- no row is left
  pub way_top : 40 ≤ r → xs ≡ all
  way_top ge =
      let e : 40 - r ≡ 0 = omega (arith, ge) in
      sym (append-nil xs) ∙ (ap (λ k. xs ++ beside_way k hs r o) (sym e) ∙ h)

-- what is found of a number
module _ (ks : List Kept) (number i : ℕ) (s : IsSplit is_before_number leaf_key number ks i) where
  pub entry_end : length ks ≤ i → None ≡ find is_same_number leaf_key number ks
  entry_end ge = sym (none_end is_same_number is_before_number leaf_key number_order number ks i s ge)

  pub entry_there : (d e : Kept) → e ≡ get_or ks i e → i < length ks → (get_or ks i d).number ≡ number
      → Some e ≡ find is_same_number leaf_key number ks
  entry_there d e is lt same =
      ap Some (is ∙ get_or_default ks i e d lt)
      ∙ sym (find_split is_same_number is_before_number leaf_key number_order number ks i s
      ∙ find_at is_same_number is_before_number leaf_key number_order number ks i d lt (eq-eqb number (get_or ks i d).number (sym same)))

  pub entry_other : (d : Kept) → AscendByNumber ks → i < length ks → ((get_or ks i d).number ≡ number → ⊥)
      → None ≡ find is_same_number leaf_key number ks
  entry_other d a lt other =
      sym (none_at is_same_number is_before_number leaf_key number_order number ks i d a s lt
      (ne_eqb number (get_or ks i d).number (λ e. other (sym e))))

-- what holds of an answer that was told, if one was
pub law_told : {E : Type 0} (r : Result (Option (Vec Digest Global)) E) (x : Option (List Digest)) (P : List Digest → Type 0)
    → IfOk r (λ proof. option_map (λ (v : Vec Digest Global). v.items) proof ≡ x) → ((hashes : List Digest) → x ≡ Some hashes → P hashes)
    → IfOk r (λ proof. IfSome proof (λ (v : Vec Digest Global). P v.items))
law_told (Ok None) x P e f = tt
law_told (Ok (Some v)) x P e f = f v.items (sym e)
law_told (Err error) x P e f = tt
