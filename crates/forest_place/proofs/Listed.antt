-- Lists of places: what is in one.
use Rattle.std.proofs.Common.{◌≡◌, ℕ, zero, suc, ◌+◌, ◌/◌, ◌^◌, ◌<◌, ◌≤◌, Bool, true, false, List, [], ◌∷◌, ◌++◌, filter, refl, sym, ap, ◌∙◌, subst}
use Rattle.std.proofs.Common.{ap₂, ⊎_elim, arith, eq-eqb}
use Rattle.std.specs.Prelude.{◌==◌}
use Rattle.std.proofs.lemmas.Bool.{cases_Bool, and_from, and_parts, false≢true, eqb-true, or_cases, or_left, or_right, cases_eq}
use Rattle.std.proofs.lemmas.List.Folds.{list_any-append}
use Rattle.forest_place.specs.declared.place.Place.{Place}
use Rattle.forest_place.specs.Forest.{InForest}
use Rattle.forest_place.specs.Places.{is_at, has_place, AreWithin, places, places_from, row_places}
use Rattle.forest_place.proofs.Parts.{row_below}

-- tests that are true together are one
pub same_Bools : (a b : Bool) → (a ≡ true → b ≡ true) → (b ≡ true → a ≡ true) → a ≡ b
same_Bools true true f g = refl
same_Bools true false f g = absurd (false≢true (f refl))
same_Bools false true f g = absurd (false≢true (g refl))
same_Bools false false f g = refl

abbrev pub place : ℕ → ℕ → Place
place r o = record { row = r; off = o }

pub is_at-same : (r o : ℕ) → is_at r o (record { row = r; off = o }) ≡ true
is_at-same r o = and_from (r == r) (o == o) (eq-eqb r r refl) (eq-eqb o o refl)

pub same_from_is_at : (r o : ℕ) (p : Place) → is_at r o p ≡ true → p ≡ record { row = r; off = o }
same_from_is_at r o p h =
    let e = and_parts (p.row == r) (p.off == o) h in
    let a : p.row ≡ r = eqb-true _ _ e.0 in
    let b : p.off ≡ o = eqb-true _ _ e.1 in
    ap₂ (λ (x y : ℕ). let q : Place = record { row = x; off = y } in q) a b

pub is_at-turned : (p q : Place) → is_at p.row p.off q ≡ true → is_at q.row q.off p ≡ true
is_at-turned p q h = subst (λ (x : Place). is_at x.row x.off p ≡ true) (sym (same_from_is_at p.row p.off q h)) (is_at-same p.row p.off)

-- the first place of a list, and the others
pub has_first : (p : Place) (ps : List Place) → has_place (p ∷ ps) p.row p.off ≡ true
has_first p ps = or_left (is_at p.row p.off p) (has_place ps p.row p.off) (is_at-same p.row p.off)

pub within_rest : (n : ℕ) (p : Place) (ps : List Place) → AreWithin n (p ∷ ps) → AreWithin n ps
within_rest n p ps h r o i = h r o (or_right (is_at r o p) (has_place ps r o) i)

-- the places of the first of two lists
pub has_left : (ps qs : List Place) (r o : ℕ) → has_place ps r o ≡ true → has_place (ps ++ qs) r o ≡ true
has_left ps qs r o h = list_any-append (is_at r o) ps qs ∙ or_left (has_place ps r o) (has_place qs r o) h

-- a filter keeps the places that pass
pub filter_has : (p : Place → Bool) (xs : List Place) (r o : ℕ) → has_place xs r o ≡ true → p (place r o) ≡ true → has_place (filter p xs) r o ≡ true
filter_has p [] r o h k = absurd (false≢true h)
filter_has p (x ∷ xs) r o h k =
    ⊎_elim
    (λ here. let e : p x ≡ true = ap p (same_from_is_at r o x here) ∙ k in rw e (or_left (is_at r o x) (has_place (filter p xs) r o) here))
    (λ there. ⊎_elim
    (λ e. rw e (or_right (is_at r o x) (has_place (filter p xs) r o) (filter_has p xs r o there k)))
    (λ e. rw e (filter_has p xs r o there k))
    (cases_Bool (p x)))
    (or_cases (is_at r o x) (has_place xs r o) h)

pub filter_had : (p : Place → Bool) (xs : List Place) (r o : ℕ) → has_place (filter p xs) r o ≡ true → (has_place xs r o ≡ true)
    × (p (place r o) ≡ true)
filter_had p [] r o h = absurd (false≢true h)
filter_had p (x ∷ xs) r o h =
    ⊎_elim
    (λ e. ⊎_elim
    (λ here. (or_left (is_at r o x) (has_place xs r o) here, sym (ap p (same_from_is_at r o x here)) ∙ e))
    (λ there. let k = filter_had p xs r o there in (or_right (is_at r o x) (has_place xs r o) k.0, k.1))
    (or_cases (is_at r o x) (has_place (filter p xs) r o) (rw e at h)))
    (λ e. let k = filter_had p xs r o (rw e at h) in (or_right (is_at r o x) (has_place xs r o) k.0, k.1))
    (cases_Bool (p x))

-- the places of one row
pub row_has : (row k m o : ℕ) → k ≤ o → o < k + m → has_place (row_places row k m) row o ≡ true
row_has row k zero o h i = absurd (omega arith)
row_has row k (suc m) o h i =
    ⊎_elim
    (λ e. or_left (is_at row o (place row k)) (has_place (row_places row (suc k) m) row o)
    (subst (λ x. is_at row x (place row k) ≡ true) e (is_at-same row k)))
    (λ ne. or_right (is_at row o (place row k)) (has_place (row_places row (suc k) m) row o)
    (row_has row (suc k) m o (omega (arith, ne)) (omega arith)))
    (cases_eq k o)

pub row_had : (row k m r o : ℕ) → has_place (row_places row k m) r o ≡ true → (row ≡ r) × (k ≤ o) × (o < k + m)
row_had row k zero r o h = absurd (false≢true h)
row_had row k (suc m) r o h =
    ⊎_elim
    (λ here. let e = and_parts (row == r) (k == o) here in let a : row ≡ r = eqb-true _ _ e.0 in let b : k ≡ o = eqb-true _ _ e.1 in
    (a, omega arith, omega arith))
    (λ there. let e = row_had row (suc k) m r o there in (e.0, omega (arith, e.1), omega (arith, e.2)))
    (or_cases (is_at r o (place row k)) (has_place (row_places row (suc k) m) r o) h)

-- the places of the rows
pub rows_have : (n k row r o : ℕ) → InForest n r o → row ≤ r → r < row + k → has_place (places_from n k row) r o ≡ true
rows_have n zero row r o h a b = absurd (omega arith)
rows_have n (suc k) row r o h a b =
    list_any-append (is_at r o) (row_places row 0 (n / 2 ^ row)) (places_from n k (suc row)) ∙
    ⊎_elim
    (λ e. or_left (has_place (row_places row 0 (n / 2 ^ row)) r o) _
    (subst (λ x. has_place (row_places row 0 (n / 2 ^ row)) x o ≡ true) e
    (row_has row 0 (n / 2 ^ row) o (omega arith) (let q : o < n / 2 ^ row = subst (λ x. InForest n x o) (sym e) h in omega arith))))
    (λ ne. or_right (has_place (row_places row 0 (n / 2 ^ row)) r o) _ (rows_have n k (suc row) r o h (omega (arith, ne)) (omega arith)))
    (cases_eq row r)

pub rows_had : (n k row r o : ℕ) → has_place (places_from n k row) r o ≡ true → InForest n r o × (row ≤ r)
rows_had n zero row r o h = absurd (false≢true h)
rows_had n (suc k) row r o h =
    ⊎_elim
    (λ here. let e = row_had row 0 (n / 2 ^ row) r o here in (subst (λ x. InForest n x o) e.0 (omega (arith, e.2)), omega (arith, e.0)))
    (λ there. let e = rows_had n k (suc row) r o there in (e.0, omega (arith, e.1)))
    (or_cases (has_place (row_places row 0 (n / 2 ^ row)) r o) (has_place (places_from n k (suc row)) r o)
    (sym (list_any-append (is_at r o) (row_places row 0 (n / 2 ^ row)) (places_from n k (suc row))) ∙ h))

-- the places of the forest
pub places_have : (n r o : ℕ) → InForest n r o → has_place (places n) r o ≡ true
places_have n r o h = rows_have n n 0 r o h (omega arith) (omega (arith, row_below n r o h))

pub places_had : (n r o : ℕ) → has_place (places n) r o ≡ true → InForest n r o
places_had n r o h = (rows_had n n 0 r o h).0
