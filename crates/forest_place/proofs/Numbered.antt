-- The place that has a number, by any numbering of places.
use Rattle.std.proofs.Common.{◌≡◌, ℕ, Bool, true, List, [], ◌∷◌, Option, Some, None, sym, ap, ◌∙◌, ⊎_elim, eq-eqb, refl}
use Rattle.std.specs.Prelude.{◌==◌, find}
use Rattle.std.proofs.lemmas.Bool.{cases_Bool, eqb-true, false≢true, or_cases, or_left, or_right, true≢false}
use Rattle.std.proofs.lemmas.Option.{none-some, same_Some}
use Rattle.forest_place.specs.declared.place.Place.{Place}
use Rattle.forest_place.specs.Forest.{InForest}
use Rattle.forest_place.specs.Places.{is_at, has_place, places}
use Rattle.forest_place.proofs.Listed.{places_have, places_had, is_at-same, same_from_is_at}

-- what is found is in the list, and passes
find_had : (t : Place → Bool) (ps : List Place) (p : Place) → find t ps ≡ Some p → (has_place ps p.row p.off ≡ true) × (t p ≡ true)
find_had t [] p e = absurd (none-some p e)
find_had t (q ∷ ps) p e =
    ⊎_elim
    (λ here. let same : q ≡ p = same_Some q p (rw here at e) in
    (or_left (is_at p.row p.off q) (has_place ps p.row p.off) (ap (λ x. is_at p.row p.off x) same ∙ is_at-same p.row p.off), sym (ap t same) ∙ here))
    (λ other. let w = find_had t ps p (rw other at e) in (or_right (is_at p.row p.off q) (has_place ps p.row p.off) w.0, w.1))
    (cases_Bool (t q))

-- nothing is found where nothing passes
find_none : (t : Place → Bool) (ps : List Place) (r o : ℕ) → find t ps ≡ None → has_place ps r o ≡ true → t (record { row = r; off = o }) ≡ true → ⊥
find_none t [] r o e h k = false≢true h
find_none t (q ∷ ps) r o e h k =
    ⊎_elim
    (λ passes. none-some q (sym (rw passes at e)))
    (λ fails. ⊎_elim
    (λ here. true≢false (sym k ∙ (sym (ap t (same_from_is_at r o q here)) ∙ fails)))
    (λ there. find_none t ps r o (rw fails at e) there k)
    (or_cases (is_at r o q) (has_place ps r o) h))
    (cases_Bool (t q))

-- the place of the forest that has a number, where no other has it
pub found_with : (number_of : Place → ℕ) (n : ℕ) (p : Place) → ((q : Place) → InForest n q.row q.off → number_of q ≡ number_of p → q ≡ p)
    → InForest n p.row p.off → find (λ q. number_of q == number_of p) (places n) ≡ Some p
found_with number_of n p alone h = by_found (find (λ q. number_of q == number_of p) (places n)) refl
  where
    by_found : (x : Option Place) → find (λ q. number_of q == number_of p) (places n) ≡ x → x ≡ Some p
    by_found None e = absurd (find_none (λ q. number_of q == number_of p) (places n) p.row p.off e (places_have n p.row p.off h) (eq-eqb _ _ refl))
    by_found (Some q) e =
        let w = find_had (λ q. number_of q == number_of p) (places n) q e in
        ap Some (alone q (places_had n q.row q.off w.0) (eqb-true _ _ w.1))

pub some_with : (number_of : Place → ℕ) (n number : ℕ) (p : Place) → find (λ q. number_of q == number) (places n) ≡ Some p → InForest n p.row p.off
    × (number_of p ≡ number)
some_with number_of n number p e =
    let w = find_had (λ q. number_of q == number) (places n) p e in
    (places_had n p.row p.off w.0, eqb-true _ _ w.1)

-- and none where none has it
pub none_with : (number_of : Place → ℕ) (n number : ℕ) → ((q : Place) → InForest n q.row q.off → number_of q ≡ number → ⊥)
    → find (λ q. number_of q == number) (places n) ≡ None
none_with number_of n number h = by_found (find (λ q. number_of q == number) (places n)) refl
  where
    by_found : (x : Option Place) → find (λ q. number_of q == number) (places n) ≡ x → x ≡ None
    by_found None e = refl
    by_found (Some q) e = let w = some_with number_of n number q e in absurd (h q w.0 w.1)
