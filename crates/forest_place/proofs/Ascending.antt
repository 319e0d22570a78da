-- The order of places.
use Rattle.std.proofs.Common.{◌≡◌, ℕ, zero, suc, ◌/◌, ◌^◌, Bool, true, List, [], ◌∷◌, ◌++◌, filter, refl, sym, ◌∙◌, subst, ap₂, ⊎_elim, inl, inr}
use Rattle.std.proofs.Common.{arith}
use Rattle.std.proofs.lemmas.Bool.{cases_Bool, false≢true, or_cases, or_left, or_right, false_from_ne_true}
use Rattle.std.proofs.lemmas.List.Folds.{list_any-append}
use Rattle.forest_place.specs.declared.place.Place.{Place}
use Rattle.forest_place.specs.Places.{is_at, has_place, IsDistinct, IsBefore, IsAscending, places, places_from, row_places}
use Rattle.forest_place.proofs.Before.{before_itself, before_both}
use Rattle.forest_place.proofs.Listed.{place, is_at-same, same_from_is_at, filter_had, row_had, rows_had}

pub distinct_from_ascending : (ps : List Place) → IsAscending ps → IsDistinct ps
distinct_from_ascending [] h = tt
distinct_from_ascending (p ∷ ps) h = (false_from_ne_true _ (λ again. before_itself p (h.0 p again)), distinct_from_ascending ps h.1)

pub ascending-append : (ps qs : List Place) → IsAscending ps → IsAscending qs
    → ((p q : Place) → has_place ps p.row p.off ≡ true → has_place qs q.row q.off ≡ true → IsBefore p q) → IsAscending (ps ++ qs)
ascending-append [] qs h k f = k
ascending-append (p ∷ ps) qs h k f = (
  (λ q i. ⊎_elim (h.0 q) (f p q (or_left (is_at p.row p.off p) (has_place ps p.row p.off) (is_at-same p.row p.off)))
      (or_cases (has_place ps q.row q.off) (has_place qs q.row q.off) (sym (list_any-append (is_at q.row q.off) ps qs) ∙ i))),
  ascending-append ps qs h.1 k (λ a b i j. f a b (or_right (is_at a.row a.off p) (has_place ps a.row a.off) i) j),
)

pub ascending-filter : (t : Place → Bool) (ps : List Place) → IsAscending ps → IsAscending (filter t ps)
ascending-filter t [] h = tt
ascending-filter t (p ∷ ps) h =
    let rest = ascending-filter t ps h.1 in
    ⊎_elim
    (λ e. rw e ((λ q i. h.0 q (filter_had t ps q.row q.off i).0), rest))
    (λ e. rw e rest)
    (cases_Bool (t p))

pub row_ascending : (row k m : ℕ) → IsAscending (row_places row k m)
row_ascending row k zero = tt
row_ascending row k (suc m) = ((λ q i. let e = row_had row (suc k) m q.row q.off i in inr (e.0, omega (arith, e.1))), row_ascending row (suc k) m)

pub rows_ascending : (n k row : ℕ) → IsAscending (places_from n k row)
rows_ascending n zero row = tt
rows_ascending n (suc k) row =
    ascending-append (row_places row 0 (n / 2 ^ row)) (places_from n k (suc row)) (row_ascending row 0 (n / 2 ^ row)) (rows_ascending n k (suc row))
    (λ p q i j.
    let a = row_had row 0 (n / 2 ^ row) p.row p.off i in
    let b = rows_had n k (suc row) q.row q.off j in
    inl (omega (arith, a.0, b.1)))

-- behind equal first places, a place of the one list is in the other
behind_first : (p q : Place) (ps qs : List Place) → p ≡ q → IsAscending (p ∷ ps)
    → ((r o : ℕ) → has_place (p ∷ ps) r o ≡ true → has_place (q ∷ qs) r o ≡ true) → (r o : ℕ) → has_place ps r o ≡ true → has_place qs r o ≡ true
behind_first p q ps qs e a f r o i =
    ⊎_elim
    (λ at. absurd (before_itself p (subst (IsBefore p) (sym (same_from_is_at r o q at) ∙ sym e) (a.0 (place r o) i))))
    (λ later. later)
    (or_cases (is_at r o q) (has_place qs r o) (f r o (or_right (is_at r o p) (has_place ps r o) i)))

pub places_ascending : (n : ℕ) → IsAscending (places n)
places_ascending n = rows_ascending n n 0

-- two ascending lists with the same places are one
pub same_ascending : (ps qs : List Place) → IsAscending ps → IsAscending qs → ((r o : ℕ) → has_place ps r o ≡ true → has_place qs r o ≡ true)
    → ((r o : ℕ) → has_place qs r o ≡ true → has_place ps r o ≡ true) → ps ≡ qs
same_ascending [] [] a b f g = refl
same_ascending [] (q ∷ qs) a b f g = absurd
    (false≢true (g q.row q.off (or_left (is_at q.row q.off q) (has_place qs q.row q.off) (is_at-same q.row q.off))))
same_ascending (p ∷ ps) [] a b f g = absurd
    (false≢true (f p.row p.off (or_left (is_at p.row p.off p) (has_place ps p.row p.off) (is_at-same p.row p.off))))
same_ascending (p ∷ ps) (q ∷ qs) a b f g =
    let here : p ≡ q =
    ⊎_elim
    (λ same. sym (same_from_is_at p.row p.off q same))
    (λ later. ⊎_elim
    (λ same. same_from_is_at q.row q.off p same)
    (λ later'. absurd (before_both p q (a.0 q later') (b.0 p later)))
    (or_cases (is_at q.row q.off p) (has_place ps q.row q.off)
    (g q.row q.off (or_left (is_at q.row q.off q) (has_place qs q.row q.off) (is_at-same q.row q.off)))))
    (or_cases (is_at p.row p.off q) (has_place qs p.row p.off)
    (f p.row p.off (or_left (is_at p.row p.off p) (has_place ps p.row p.off) (is_at-same p.row p.off)))) in
    ap₂ (λ x xs. x ∷ xs) here (same_ascending ps qs a.1 b.1 (behind_first p q ps qs here a f) (behind_first q p qs ps (sym here) b g))
