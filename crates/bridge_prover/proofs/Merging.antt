-- Two ascending lists of places as one: what is covered and what is needed are what is known.
use Rattle.std.proofs.Common.{◌≡◌, ℕ, ◌+◌, ◌<◌, ◌≤◌, Bool, true, false, cond, List, [], ◌∷◌, ◌++◌, length, get_or, take, drop, append-nil, refl, sym}
use Rattle.std.proofs.Common.{ap, ap₂, ◌∙◌, subst, ⊎_elim, inl, inr}
use Rattle.std.specs.Prelude.{◌⊎◌, ◌&&◌, ◌||◌, not, is_some, filter_map, Option, None, option_map, if◌then◌else◌}
use Rattle.std.specs.List.{filter, cons_option}
use Rattle.std.proofs.lemmas.Bool.{cases_Bool, and_parts, false≢true, not-true}
use Rattle.std.proofs.lemmas.List.{drop_all, take_more}
use Rattle.std.proofs.lemmas.List.Elements.{filter_map-append}
use Rattle.uo_digest.specs.declared.digest.Digest.{Digest}
use Rattle.forest_place.specs.declared.place.Place.{Place}
use Rattle.forest_place.specs.Forest.{InForest, is_root, sibling_off}
use Rattle.forest_place.specs.Places.{has_place, places, IsBefore, IsAscending}
use Rattle.forest_place.proofs.Listed.{filter_has, filter_had, places_have, places_had, has_first}
use Rattle.forest_place.proofs.Before.{means_before, comes_later}
use Rattle.forest_place.proofs.Ascending.{ascending-filter, places_ascending, same_ascending}
use Rattle.forest_model.specs.Cover.{cover, is_needed, need}
use Rattle.forest_model.specs.Standing.{digest_at}
use Rattle.forest_model.proofs.Lists.{need_had}
use Rattle.cache_model.specs.Known.{is_known}
use Rattle.cache_model.specs.Cache.{held}
use Rattle.proof_shape.specs.Survey.{IsCoverOf}
use Rattle.proof_shape.proofs.Needing.{ascending_from_rises}
use Rattle.proof_shape.proofs.Ordered.{has_at}
use Rattle.bridge_prover.specs.Judged.{merged}

-- ---- one list at its end

merged-nil : (xs : List Place) → merged xs [] ≡ xs
merged-nil [] = refl
merged-nil (x ∷ xs) = ap (λ zs. x ∷ zs) (merged-nil xs)

pub merge_ends : (out left right : List Place) (i j : ℕ) → out ++ merged (drop i left) (drop j right) ≡ merged left right
    → (length left ≤ i) ⊎ (length right ≤ j) → (out ++ drop i left) ++ drop j right ≡ merged left right
merge_ends out left right i j whole (inl none) =
    let e : drop i left ≡ [] = drop_all i left none in
    ap (λ x. (out ++ x) ++ drop j right) e ∙ (ap (λ x. x ++ drop j right) (append-nil out)
    ∙ (ap (λ x. out ++ merged x (drop j right)) (sym e) ∙ whole))
merge_ends out left right i j whole (inr none) =
    let e : drop j right ≡ [] = drop_all j right none in
    ap (λ x. (out ++ drop i left) ++ x) e ∙ (append-nil (out ++ drop i left)
    ∙ (ap (λ x. out ++ x) (sym (merged-nil (drop i left))) ∙ (ap (λ x. out ++ merged (drop i left) x) (sym e) ∙ whole)))

-- ---- two parts of an ascending list

-- the place comes before all of the list
abbrev IsFirst : Place → List Place → Type 0
IsFirst x zs = (z : Place) → has_place zs z.row z.off ≡ true → IsBefore x z

lead_left : (x : Place) (xs ys : List Place) → IsFirst x ys → merged (x ∷ xs) ys ≡ x ∷ merged xs ys
lead_left x xs [] first = refl
lead_left x xs (y ∷ ys) first = let t = means_before x y (first y (has_first y ys)) in rw t refl

lead_right : (x : Place) (xs ys : List Place) → IsFirst x xs → merged xs (x ∷ ys) ≡ x ∷ merged xs ys
lead_right x [] ys first = refl
lead_right x (z ∷ xs) ys first = let f = comes_later x z (first z (has_first z xs)) in rw f refl

module _ (p q : Place → Bool) (apart : (x : Place) → q x ≡ true → p x ≡ false) where
  first_of_part : (t : Place → Bool) (x : Place) (xs : List Place) → IsFirst x xs → IsFirst x (filter t xs)
  first_of_part t x xs first z h = first z (filter_had t xs z.row z.off h).0

  both_parts : (xs : List Place) → IsAscending xs → merged (filter p xs) (filter q xs) ≡ filter (λ x. p x || q x) xs
  both_parts [] a = refl
  both_parts (x ∷ xs) a =
      let rest : merged (filter p xs) (filter q xs) ≡ filter (λ y. p y || q y) xs = both_parts xs a.1 in
      by_case (p x) (q x) refl refl rest
    where
      by_case : (b c : Bool) → p x ≡ b → q x ≡ c → merged (filter p xs) (filter q xs) ≡ filter (λ y. p y || q y) xs
          → merged (cond b (x ∷ filter p xs) (filter p xs)) (cond c (x ∷ filter q xs) (filter q xs))
          ≡ cond (b || c) (x ∷ filter (λ y. p y || q y) xs) (filter (λ y. p y || q y) xs)
      by_case true true e f rest = absurd (false≢true (sym (apart x f) ∙ e))
      by_case true false e f rest = lead_left x (filter p xs) (filter q xs) (first_of_part q x xs a.0) ∙ ap (λ zs. x ∷ zs) rest
      by_case false true e f rest = lead_right x (filter p xs) (filter q xs) (first_of_part p x xs a.0) ∙ ap (λ zs. x ∷ zs) rest
      by_case false false e f rest = rest

-- ---- what is known

-- what is needed is not covered
needed_apart : (n : ℕ) (ts : List Place) (x : Place) → is_needed n ts x ≡ true → is_some (cover ts x.row x.off) ≡ false
needed_apart n ts x e =
    let a = and_parts (not (is_root n x.row x.off) && not (is_some (cover ts x.row x.off))) (is_some (cover ts x.row (sibling_off x.off))) e in
    let b = and_parts (not (is_root n x.row x.off)) (not (is_some (cover ts x.row x.off))) a.0 in
    not-true (is_some (cover ts x.row x.off)) b.1

abbrev is_covered : List Place → Place → Bool
is_covered ts p = is_some (cover ts p.row p.off)

covered_is : (n : ℕ) (ts cs : List Place) → IsCoverOf n ts cs → cs ≡ filter (is_covered ts) (places n)
covered_is n ts cs c =
    same_ascending cs (filter (is_covered ts) (places n)) (ascending_from_rises n cs c.within c.rises)
    (ascending-filter (is_covered ts) (places n) (places_ascending n))
    (λ r o h. let within = c.within r o h in
    filter_has (is_covered ts) (places n) r o (places_have n r o within) (sym (c.covered (record { row = r; off = o }) within) ∙ h))
    (λ r o h. let w = filter_had (is_covered ts) (places n) r o h in c.covered (record { row = r; off = o }) (places_had n r o w.0) ∙ w.1)

pub known_are : (n : ℕ) (ts cs ns out : List Place) → IsCoverOf n ts cs → ns ≡ need n ts → out ≡ merged cs ns
    → out ≡ filter (is_known n ts) (places n)
known_are n ts cs ns out c e is = is ∙ (ap₂ merged (covered_is n ts cs c) e
    ∙ both_parts (is_covered ts) (is_needed n ts) (needed_apart n ts) (places n) (places_ascending n))

-- ---- with their digests

told_of : {X Y : Type 0} (t : X → Bool) (f : X → Option Y) (xs : List X) → filter_map f (filter t xs) ≡ filter_map (λ x. if t x then f x else None) xs
told_of t f [] = refl
told_of t f (x ∷ xs) = ⊎_elim (λ e. rw e (ap (cons_option (f x)) (told_of t f xs))) (λ e. rw e (told_of t f xs)) (cases_Bool (t x))

abbrev pub with_digest : (List ℕ → Digest) → List (Option Digest) → Place → Option (Place × Digest)
with_digest H es p = option_map (λ d. (p, d)) (digest_at H es p.row p.off)

pub paired_alone : (H : List ℕ → Digest) (es : List (Option Digest)) (p : Place) (x : Option Digest) → x ≡ digest_at H es p.row p.off
    → filter_map (λ q. option_map (λ d. (q, d)) x) (p ∷ []) ≡ filter_map (with_digest H es) (p ∷ [])
paired_alone H es p x e = ap (λ y. cons_option (option_map (λ d. (p, d)) y) []) e

pub held_are : (H : List ℕ → Digest) (es : List (Option Digest)) (ts ps : List Place) (known : List (Place × Digest))
    → ps ≡ filter (is_known (length es) ts) (places (length es)) → known ≡ filter_map (with_digest H es) ps → known ≡ held H es ts
held_are H es ts ps known are is = is ∙ (ap (filter_map (with_digest H es)) are
    ∙ told_of (is_known (length es) ts) (with_digest H es) (places (length es)))

-- each needed place is one of the forest
pub needed_within : (n : ℕ) (ts ns : List Place) (i : ℕ) (d : Place) → ns ≡ need n ts → i < length ns
    → InForest n (get_or ns i d).row (get_or ns i d).off
needed_within n ts ns i d e lt =
    let p = get_or ns i d in
    (need_had n ts p.row p.off (subst (λ xs. has_place xs p.row p.off ≡ true) e (has_at ns i d lt))).0

pub known_more : {X Y : Type 0} (f : X → Option Y) (xs : List X) (i : ℕ) (d : X) (old new : List Y) → i < length xs → old ≡ filter_map f (take i xs)
    → new ≡ old ++ filter_map f (get_or xs i d ∷ []) → new ≡ filter_map f (take (i + 1) xs)
known_more f xs i d old new lt was e = e ∙ (ap (λ ys. ys ++ filter_map f (get_or xs i d ∷ [])) was
    ∙ (sym (filter_map-append f (take i xs) (get_or xs i d ∷ [])) ∙ ap (filter_map f) (sym (take_more xs i d lt))))
