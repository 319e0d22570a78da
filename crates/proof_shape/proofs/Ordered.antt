-- Positions in ascending order.
use Rattle.std.proofs.Common.{◌≡◌, ℕ, suc, ◌+◌, ◌<◌, ◌≤◌, true, false, ◌||◌, List, [], ◌∷◌, ◌++◌, length, get_or, take, refl, sym, ap, ◌∙◌, subst}
use Rattle.std.proofs.Common.{ap₂, ⊎_elim, inl, inr, arith, eq-eqb, ne_eqb, eqb-true}
use Rattle.std.specs.Prelude.{◌==◌, ◌⊎◌, Result, Ok, Err, is_ok, MatchResult}
use Rattle.std.specs.List.{AllByRecursion, IsDistinct}
use Rattle.std.specs.List.Sorted.{IsNonDecreasing, IsStrictlyIncreasing, IsPermutation}
use Rattle.std.proofs.lemmas.Bool.{cases_Bool, cases_lt, cases_eq, false≢true, true≢false, false_from_ne_true, or_cases, or_parts}
use Rattle.std.proofs.lemmas.Bool.{or_from}
use Rattle.std.proofs.lemmas.List.Folds.{list_any_at, list_any-append}
use Rattle.std.proofs.lemmas.List.{take_more}
use Rattle.std.proofs.lemmas.List.Sorted.{list_any-IsPermutation, IsPermutation-sym}
use Rattle.std.proofs.lemmas.List.Kept.{AllPairs-from_increasing}
use Rattle.std.proofs.lemmas.Map.Keys.{IsDistinct-from_apart, IsDistinct-IsPermutation, IsDistinct-head, IsDistinct-tail, IsDistinct-cons}
use Rattle.std.proofs.lemmas.Map.Keys.{IsStrictlyIncreasing-from_distinct}
use Rattle.forest_place.specs.declared.place.Place.{Place}
use Rattle.forest_place.specs.Forest.{InForest}
use Rattle.forest_place.specs.Places.{is_at, has_place, IsDistinct as HasNoRepeat, AreWithin}
use Rattle.forest_place.specs.Position.{position, positions_of}
use Rattle.forest_place.proofs.Listed.{place, is_at-same, same_from_is_at, has_first, within_rest}
use Rattle.forest_place.proofs.Positions.{one_position}
use Rattle.proof_shape.specs.Shape.{has_number}

pub has_where : (xs : List ℕ) (y : ℕ) → has_number xs y ≡ true → (k : ℕ) × (k < length xs) × (get_or xs k 0 ≡ y)
has_where [] y h = absurd (false≢true h)
has_where (x ∷ xs) y h =
    ⊎_elim
    (λ here. (0, omega arith, eqb-true x y here))
    (λ there. let w = has_where xs y there in (suc w.0, omega (arith, w.1), w.2))
    (or_cases (x == y) (has_number xs y) h)

-- numbers that ascend without repeats do not fall
pub sorted_from_rising : (xs : List ℕ) → IsStrictlyIncreasing xs → IsNonDecreasing xs
sorted_from_rising xs rising i j d le lt =
    ⊎_elim
    (λ same. let e = ap (λ k. get_or xs k d) same in omega (arith, e))
    (λ other. let z = AllPairs-from_increasing xs rising i j d (omega (arith, le, other)) lt in omega (arith, z))
    (cases_eq i j)

-- what stands past a bound in a list is in another one that has all from an index on, where what stands before that is not past it
pub past_has : (xs ys : List ℕ) (i last : ℕ) → ((k : ℕ) → i ≤ k → k < length xs → has_number ys (get_or xs k 0) ≡ true)
    → ((k : ℕ) → k < length xs → last < get_or xs k 0 → i ≤ k) → (x : ℕ) → last < x → has_number xs x ≡ true → has_number ys x ≡ true
past_has xs ys i last same behind x lt h =
    let w = has_where xs x h in
    subst (λ y. has_number ys y ≡ true) w.2 (same w.0 (behind w.0 w.1 (omega (arith, lt, w.2))) w.1)

-- what a search in ascending numbers answers
pub found_is : (xs : List ℕ) (x : ℕ) (r : Result ℕ ℕ) → MatchResult r (λ i. (i < length xs) × (get_or xs i 0 ≡ x))
    (λ i. (i ≤ length xs) × ((k : ℕ) → k < i → get_or xs k 0 < x) × ((k : ℕ) → i ≤ k → k < length xs → x < get_or xs k 0)) → is_ok r ≡ has_number xs x
found_is xs x (Ok i) h = sym (list_any_at (λ y. y == x) xs i 0 h.0 (eq-eqb _ _ h.1))
found_is xs x (Err i) h =
    sym (false_from_ne_true (has_number xs x) (λ t.
    let w = has_where xs x t in
    ⊎_elim
    (λ lt. let z = h.1 w.0 lt in absurd (omega (arith, z, w.2)))
    (λ ge. let z = h.2 w.0 ge w.1 in absurd (omega (arith, z, w.2)))
    (cases_lt w.0 i)))

-- a place of a list, by its index
pub has_at : (ps : List Place) (i : ℕ) (d : Place) → i < length ps → has_place ps (get_or ps i d).row (get_or ps i d).off ≡ true
has_at ps i d h = list_any_at (is_at (get_or ps i d).row (get_or ps i d).off) ps i d h (is_at-same (get_or ps i d).row (get_or ps i d).off)

-- the positions of one place more
pub positions_more : (n : ℕ) (ps : List Place) (i : ℕ) (d : Place) → i < length ps
    → positions_of n (take (i + 1) ps) ≡ positions_of n (take i ps) ++ position n (get_or ps i d).row (get_or ps i d).off ∷ []
positions_more n ps i d h = ap (positions_of n) (take_more ps i d h) ∙ positions_append n (take i ps) (get_or ps i d ∷ [])
  where
    positions_append : (n : ℕ) (xs ys : List Place) → positions_of n (xs ++ ys) ≡ positions_of n xs ++ positions_of n ys
    positions_append n [] ys = refl
    positions_append n (x ∷ xs) ys = ap (λ l. position n x.row x.off ∷ l) (positions_append n xs ys)

-- a position is in the list where its place is
pub number_is : (n : ℕ) (ps : List Place) (q : Place) → AreWithin n ps → InForest n q.row q.off
    → has_number (positions_of n ps) (position n q.row q.off) ≡ has_place ps q.row q.off
number_is n [] q h k = refl
number_is n (p ∷ ps) q h k =
    ap₂ (λ x y. x || y) (same (cases_Bool (is_at q.row q.off p))) (number_is n ps q (within_rest n p ps h) k)
  where
    same : (is_at q.row q.off p ≡ true) ⊎ (is_at q.row q.off p ≡ false) → (position n p.row p.off == position n q.row q.off) ≡ is_at q.row q.off p
    same (inl e) = eq-eqb _ _ (ap (λ (x : Place). position n x.row x.off) (same_from_is_at q.row q.off p e)) ∙ sym e
    same (inr e) = ne_eqb _ _ (λ z. let one = one_position n p q (h p.row p.off (has_first p ps)) k z in
        false≢true (sym e ∙ (ap (λ (x : Place). is_at q.row q.off x) one ∙ is_at-same q.row q.off))) ∙ sym e

pub sorted_number_is : (n : ℕ) (ps : List Place) (ys : List ℕ) (q : Place) → AreWithin n ps → IsPermutation (positions_of n ps) ys
    → InForest n q.row q.off → has_number ys (position n q.row q.off) ≡ has_place ps q.row q.off
sorted_number_is n ps ys q h perm k = sym (list_any-IsPermutation (λ y. y == position n q.row q.off) (positions_of n ps) ys perm)
    ∙ number_is n ps q h k

eqb_flips : (x y : ℕ) → (x == y) ≡ (y == x)
eqb_flips x y = by_case (cases_Bool (x == y))
  where
    by_case : (x == y ≡ true) ⊎ (x == y ≡ false) → (x == y) ≡ (y == x)
    by_case (inl e) = e ∙ sym (eq-eqb y x (sym (eqb-true x y e)))
    by_case (inr e) = e ∙ sym (ne_eqb y x (λ z. true≢false (sym (eq-eqb x y (sym z)) ∙ e)))

none_equal : (x : ℕ) (ys : List ℕ) → AllByRecursion (λ y. x == y ≡ false) ys → has_number ys x ≡ false
none_equal x [] h = refl
none_equal x (y ∷ ys) h = or_from (y == x) (has_number ys x) (eqb_flips y x ∙ h.0) (none_equal x ys h.1)

all_differ : (x : ℕ) (ys : List ℕ) → has_number ys x ≡ false → AllByRecursion (λ y. x == y ≡ false) ys
all_differ x [] h = tt
all_differ x (y ∷ ys) h = let w = or_parts (y == x) (has_number ys x) h in (eqb_flips x y ∙ w.0, all_differ x ys w.1)

-- places are distinct where their positions are
distinct_places : (n : ℕ) (ps : List Place) → AreWithin n ps → IsDistinct (λ (x y : ℕ). x == y) (positions_of n ps) → HasNoRepeat ps
distinct_places n [] h d = tt
distinct_places n (p ∷ ps) h d = (
  sym (number_is n ps p (within_rest n p ps h) (h p.row p.off (has_first p ps)))
      ∙ none_equal (position n p.row p.off) (positions_of n ps)
      (IsDistinct-head (λ (x y : ℕ). x == y) (position n p.row p.off) (positions_of n ps) d),
  distinct_places n ps (within_rest n p ps h) (IsDistinct-tail (λ (x y : ℕ). x == y) (position n p.row p.off) (positions_of n ps) d),
)

distinct_positions : (n : ℕ) (ps : List Place) → AreWithin n ps → HasNoRepeat ps → IsDistinct (λ (x y : ℕ). x == y) (positions_of n ps)
unfolding IsDistinct
distinct_positions n [] h d = tt
distinct_positions n (p ∷ ps) h d =
    IsDistinct-cons (λ (x y : ℕ). x == y) (position n p.row p.off) (positions_of n ps)
    (all_differ (position n p.row p.off) (positions_of n ps) (number_is n ps p (within_rest n p ps h) (h p.row p.off (has_first p ps)) ∙ d.0))
    (distinct_positions n ps (within_rest n p ps h) d.1)

-- places are distinct exactly where their positions in order rise
pub distinct_from_rising : (n : ℕ) (ps : List Place) (ys : List ℕ) → AreWithin n ps → IsPermutation (positions_of n ps) ys → IsStrictlyIncreasing ys
    → HasNoRepeat ps
distinct_from_rising n ps ys h perm rising =
    distinct_places n ps h (IsDistinct-IsPermutation (λ (x y : ℕ). x == y) eqb_flips ys (positions_of n ps)
    (IsPermutation-sym (positions_of n ps) ys perm)
    (IsDistinct-from_apart (λ (x y : ℕ). x == y) ys
    (λ i j d lt k. ne_eqb _ _ (λ e. let z = AllPairs-from_increasing ys rising i j d lt k in absurd (omega (arith, z, e))))))

pub rising_from_distinct : (n : ℕ) (ps : List Place) (ys : List ℕ) → AreWithin n ps → IsPermutation (positions_of n ps) ys → IsNonDecreasing ys
    → HasNoRepeat ps → IsStrictlyIncreasing ys
rising_from_distinct n ps ys h perm up d =
    IsStrictlyIncreasing-from_distinct ys up
    (IsDistinct-IsPermutation (λ (x y : ℕ). x == y) eqb_flips (positions_of n ps) ys perm (distinct_positions n ps h d))

-- what is in the list up to one index more
pub has_more : (ps : List Place) (i : ℕ) (d : Place) (r o : ℕ) → i < length ps → has_place (take (i + 1) ps) r o ≡ true
    → (has_place (take i ps) r o ≡ true) ⊎ (get_or ps i d ≡ place r o)
has_more ps i d r o h t =
    ⊎_elim (λ a. inl a)
    (λ b. inr (⊎_elim (λ e. same_from_is_at r o (get_or ps i d) e) (λ e. absurd (false≢true e)) (or_cases (is_at r o (get_or ps i d)) false b)))
    (or_cases (has_place (take i ps) r o) (has_place (get_or ps i d ∷ []) r o) (sym (list_any-append (is_at r o) (take i ps) (get_or ps i d ∷ []))
    ∙ (ap (λ l. has_place l r o) (sym (take_more ps i d h)) ∙ t)))
