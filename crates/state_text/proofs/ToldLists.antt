-- A list of what is told of the places of a forest.
use Rattle.std.proofs.Common.{◌≡◌, ℕ, true, false, List, [], ◌∷◌, length, Option, Some, None, refl, sym, ap, ap₂, ◌∙◌, subst, arith, ⊎_elim, inl, inr}
use Rattle.std.specs.Prelude.{◌⊎◌, filter, filter_map, is_some, option_map}
use Rattle.std.specs.List.{AllByRecursion}
use Rattle.std.proofs.lemmas.Bool.{cases_Bool, false≢true, or_cases, or_left, or_right}
use Rattle.std.proofs.lemmas.Option.{none-some, same_Some}
use Rattle.uo_digest.specs.declared.digest.Digest.{Digest}
use Rattle.forest_place.specs.declared.place.Place.{Place}
use Rattle.forest_place.specs.Forest.{InForest}
use Rattle.forest_place.specs.Places.{is_at, has_place, places, IsAscending}
use Rattle.forest_place.proofs.Listed.{place, same_from_is_at, filter_has, filter_had, places_have, places_had}
use Rattle.forest_place.proofs.Before.{means_before}
use Rattle.forest_place.proofs.Ascending.{ascending-filter, places_ascending, same_ascending}
use Rattle.cache_model.specs.Cache.{look}
use Rattle.cache_model.specs.Lists.{AscendByPlace}
use Rattle.cache_model.specs.Undo.{find, is_same_place, held_key}
use Rattle.state_text.specs.Told.{told_list}
use Rattle.state_text.proofs.Merging.{places_in}

-- the place is one of the forest, and this is told of it
abbrev pub IsHeld : ℕ → (Place → Option Digest) → Place × Digest → Type 0
IsHeld n at h = InForest n h.0.row h.0.off × (at h.0 ≡ Some h.1)

-- each place of the forest of which a digest is told, with the digest, in ascending order
pub record AreHeld (n : ℕ) (at : Place → Option Digest) (hs : List (Place × Digest)) : Type 0 where
  pub ascending : IsAscending (places_in hs)
  pub sound : AllByRecursion (IsHeld n at) hs
  pub all : (p : Place) (d : Digest) → InForest n p.row p.off → at p ≡ Some d → has_place (places_in hs) p.row p.off ≡ true

module _ (at : Place → Option Digest) where
  abbrev told : Place → Option (Place × Digest)
  told p = option_map (λ d. (p, d)) (at p)

  abbrev IsTold : Place × Digest → Type 0
  IsTold h = at h.0 ≡ Some h.1

  -- the places of the list
  told_places : (ps : List Place) → places_in (filter_map told ps) ≡ filter (λ p. is_some (at p)) ps
  told_places [] = refl
  told_places (p ∷ ps) = by_one (at p) refl (told_places ps)
    where
      by_one : (x : Option Digest) → at p ≡ x → places_in (filter_map told ps) ≡ filter (λ q. is_some (at q)) ps
          → places_in (filter_map told (p ∷ ps)) ≡ filter (λ q. is_some (at q)) (p ∷ ps)
      by_one None e rest = rw e rest
      by_one (Some d) e rest = rw e (ap (λ qs. p ∷ qs) rest)

  told_sound : (ps : List Place) → AllByRecursion IsTold (filter_map told ps)
  told_sound [] = tt
  told_sound (p ∷ ps) = by_one (at p) refl (told_sound ps)
    where
      by_one : (x : Option Digest) → at p ≡ x → AllByRecursion IsTold (filter_map told ps) → AllByRecursion IsTold (filter_map told (p ∷ ps))
      by_one None e rest = rw e rest
      by_one (Some d) e rest = rw e (e, rest)

  look_here : (p : Place) (d : Digest) (hs : List (Place × Digest)) (r o : ℕ) → is_at r o p ≡ true → look ((p, d) ∷ hs) r o ≡ Some d
  look_here p d hs r o e = rw e refl

  look_later : (p : Place) (d : Digest) (hs : List (Place × Digest)) (r o : ℕ) → is_at r o p ≡ false → look ((p, d) ∷ hs) r o ≡ look hs r o
  look_later p d hs r o e = rw e refl

  -- nothing stands where nothing is told
  none_told : (ps : List Place) (r o : ℕ) → at (place r o) ≡ None → look (filter_map told ps) r o ≡ None
  none_told [] r o e = refl
  none_told (p ∷ ps) r o e = by_one (at p) refl (none_told ps r o e)
    where
      by_one : (x : Option Digest) → at p ≡ x → look (filter_map told ps) r o ≡ None → look (filter_map told (p ∷ ps)) r o ≡ None
      by_one None f rest = rw f rest
      by_one (Some d) f rest =
          ⊎_elim
          (λ here. absurd (none-some d (sym e ∙ (ap at (sym (same_from_is_at r o p here)) ∙ f))))
          (λ other. rw f (look_later p d (filter_map told ps) r o other ∙ rest))
          (cases_Bool (is_at r o p))

  -- what stands in it at a place
  told_look : (ps : List Place) (r o : ℕ) → has_place ps r o ≡ true → look (filter_map told ps) r o ≡ at (place r o)
  told_look [] r o h = absurd (false≢true h)
  told_look (p ∷ ps) r o h = by_one (at p) refl (cases_Bool (is_at r o p)) (λ there. told_look ps r o there)
    where
      there : is_at r o p ≡ false → has_place ps r o ≡ true
      there other = ⊎_elim (λ t. absurd (false≢true (sym other ∙ t))) (λ t. t) (or_cases (is_at r o p) (has_place ps r o) h)

      by_one : (x : Option Digest) → at p ≡ x → (is_at r o p ≡ true) ⊎ (is_at r o p ≡ false)
          → (has_place ps r o ≡ true → look (filter_map told ps) r o ≡ at (place r o)) → look (filter_map told (p ∷ ps)) r o ≡ at (place r o)
      by_one None e (inl here) rest = let f : at (place r o) ≡ None = ap at (sym (same_from_is_at r o p here)) ∙ e in
          rw e (none_told ps r o f ∙ sym f)
      by_one (Some d) e (inl here) rest = let f : at (place r o) ≡ Some d = ap at (sym (same_from_is_at r o p here)) ∙ e in
          rw e (look_here p d (filter_map told ps) r o here ∙ sym f)
      by_one None e (inr other) rest = rw e (rest (there other))
      by_one (Some d) e (inr other) rest = rw e (look_later p d (filter_map told ps) r o other ∙ rest (there other))

-- two lists over the same places that are told are the same
same_held : (at : Place → Option Digest) (xs ys : List (Place × Digest)) → places_in xs ≡ places_in ys → AllByRecursion (λ h. at h.0 ≡ Some h.1) xs
    → AllByRecursion (λ h. at h.0 ≡ Some h.1) ys → xs ≡ ys
same_held at [] [] e a b = refl
same_held at [] (y ∷ ys) e a b = absurd (omega (arith, ap length e))
same_held at (x ∷ xs) [] e a b = absurd (omega (arith, ap length e))
same_held at (x ∷ xs) (y ∷ ys) e a b =
    let first : x.0 ≡ y.0 = cc in
    let others : places_in xs ≡ places_in ys = cc in
    let digest : x.1 ≡ y.1 = same_Some x.1 y.1 (sym a.0 ∙ (ap at first ∙ b.0)) in
    ap₂ (λ (h : Place × Digest) (hs : List (Place × Digest)). h ∷ hs) (ap₂ (λ (p : Place) (d : Digest). (p, d)) first digest)
    (same_held at xs ys others a.1 b.1)

told_of_held : (n : ℕ) (at : Place → Option Digest) (hs : List (Place × Digest)) → AllByRecursion (IsHeld n at) hs
    → AllByRecursion (λ h. at h.0 ≡ Some h.1) hs
told_of_held n at [] a = tt
told_of_held n at (h ∷ hs) a = (a.0.1, told_of_held n at hs a.1)

within_held : (n : ℕ) (at : Place → Option Digest) (hs : List (Place × Digest)) → AllByRecursion (IsHeld n at) hs → (r o : ℕ)
    → has_place (places_in hs) r o ≡ true → InForest n r o × (is_some (at (place r o)) ≡ true)
within_held n at [] a r o h = absurd (false≢true h)
within_held n at (x ∷ hs) a r o h =
    ⊎_elim
    (λ here. let same = same_from_is_at r o x.0 here in
    subst (λ (p : Place). InForest n p.row p.off × (is_some (at p) ≡ true)) same (a.0.0, ap is_some a.0.1))
    (λ there. within_held n at hs a.1 r o there)
    (or_cases (is_at r o x.0) (has_place (places_in hs) r o) h)

some_of : (x : Option Digest) → is_some x ≡ true → (d : Digest) × (x ≡ Some d)
some_of None e = absurd (false≢true e)
some_of (Some d) e = (d, refl)

module _ (n : ℕ) (at : Place → Option Digest) where
  pub told_ascending : IsAscending (places_in (told_list n at))
  told_ascending = subst IsAscending (sym (told_places at (places n))) (ascending-filter (λ p. is_some (at p)) (places n) (places_ascending n))

  pub look_told : (r o : ℕ) → InForest n r o → look (told_list n at) r o ≡ at (place r o)
  look_told r o within = told_look at (places n) r o (places_have n r o within)

  -- what is held of each place of which something is told is the list
  pub listed : (hs : List (Place × Digest)) → AreHeld n at hs → hs ≡ told_list n at
  listed hs are =
      let same : places_in hs ≡ filter (λ p. is_some (at p)) (places n) =
      same_ascending (places_in hs) (filter (λ p. is_some (at p)) (places n)) are.ascending
      (ascending-filter (λ p. is_some (at p)) (places n) (places_ascending n))
      (λ r o h. let w = within_held n at hs are.sound r o h in filter_has (λ p. is_some (at p)) (places n) r o (places_have n r o w.0) w.1)
      (λ r o h.
      let w = filter_had (λ p. is_some (at p)) (places n) r o h in
      let d = some_of (at (place r o)) w.1 in
      are.all (place r o) d.0 (places_had n r o w.0) d.1) in
      same_held at hs (told_list n at) (same ∙ sym (told_places at (places n))) (told_of_held n at hs are.sound) (told_sound at (places n))

-- ---- the order of a cache

found_has : (p : Place) (hs : List (Place × Digest)) (h : Place × Digest) → find is_same_place held_key p hs ≡ Some h
    → has_place (places_in hs) p.row p.off ≡ true
found_has p [] h e = absurd cc
found_has p (x ∷ hs) h e =
    ⊎_elim
    (λ here. or_left (is_at p.row p.off x.0) _ here)
    (λ other. or_right (is_at p.row p.off x.0) _ (found_has p hs h (rw other at e)))
    (cases_Bool (is_same_place p x.0))

pub places_ascend : (hs : List (Place × Digest)) → IsAscending (places_in hs) → AscendByPlace hs
places_ascend [] a = tt
places_ascend (x ∷ hs) a = (λ p h e. means_before x.0 p (a.0 p (found_has p hs h e)), places_ascend hs a.1)
