-- A number sought among others that do not decrease.
use Rattle.std.proofs.Common.{◌≡◌, ℕ, ◌+◌, ◌-◌, ◌<◌, ◌≤◌, true, false, Bool, not, ◌||◌, ◌&&◌, List, length, get_or, min, ◌⊎◌, inl, inr, ⊎_elim, arith}
use Rattle.std.proofs.Common.{is_some, refl, sym, ap, ap₂, ◌∙◌, subst}
use Rattle.std.specs.Prelude.{Ok, Err}
use Rattle.std.proofs.lemmas.Bool.{cases_lt, cases_Bool}
use Rattle.std.specs.Bool.{OnTrue, OnFalse}
use Rattle.std.specs.List.Sorted.{IsNonDecreasing}
use Rattle.forest_place.specs.declared.place.Place.{Place}
use Rattle.forest_place.specs.Forest.{InForest, is_root, sibling_off}
use Rattle.forest_place.proofs.Siblings.{sibling_cases, sibling_within}
use Rattle.forest_place.specs.Position.{position, positions_of}
use Rattle.forest_model.specs.Cover.{cover, is_needed}
use Rattle.proof_shape.specs.Survey.{IsCoverOf}
use Rattle.proof_shape.proofs.Needing.{rises_sorted}
use Rattle.cache_model.specs.Known.{is_known}
use Rattle.cache_update.specs.Brackets.{IsBracket}
use Rattle.cache_update.proofs.Knowing.{tells}

module _ (xs : List ℕ) (x low high m : ℕ) (sorted : IsNonDecreasing xs) (b : IsBracket xs x low high) where
  -- a number that is below, and one that is not
  pub bracket_up : low ≤ m → m < high → get_or xs m 0 < x → IsBracket xs x (m + 1) high
  bracket_up ge lt under = record {
    order = omega (arith, lt);
    within = b.within;
    below = λ k inside. let w = b.within in let s = sorted k m 0 (omega (arith, inside)) (omega (arith, lt, w)) in omega (arith, s, under);
    above = b.above;
  }

  pub bracket_down : low ≤ m → m < high → x ≤ get_or xs m 0 → IsBracket xs x low m
  bracket_down ge lt over = record {
    order = ge;
    within = let w = b.within in omega (arith, lt, w);
    below = b.below;
    above = λ k from inside. let s = sorted m k 0 from inside in omega (arith, s, over);
  }

-- before anything is known
pub bracket_all : (xs : List ℕ) (x : ℕ) → IsBracket xs x 0 (length xs)
bracket_all xs x = record {
  order = omega arith;
  within = omega arith;
  below = λ k lt. absurd (omega (arith, lt));
  above =
      λ k from inside. absurd (omega (arith, from, inside));
}

pub bracket_back : (xs : List ℕ) (x near m : ℕ) → IsNonDecreasing xs → m ≡ min near (length xs) → (near < length xs → x ≤ get_or xs near 0)
    → IsBracket xs x 0 m
bracket_back xs x near m sorted e other = record {
  order = omega arith;
  within = omega (arith, e);
  below = λ k lt. absurd (omega (arith, lt));
  above = λ k from inside. ⊎_elim
      (λ lt. let f : near ≤ k = omega (arith, e, from, lt) in let s = sorted near k 0 f inside in let o = other lt in omega (arith, s, o))
      (λ ge. absurd (omega (arith, e, from, inside, ge)))
      (cases_lt near (length xs));
}

pub bracket_end : (xs : List ℕ) (x low high : ℕ) → IsBracket xs x low high → high ≤ low → IsBracket xs x low low
bracket_end xs x low high b le = let o = b.order in let w = b.within in
    record {
      order = omega arith;
      within = omega (arith, o, w, le);
      below = b.below;
      above =
          λ k from inside. b.above k (omega (arith, from, le)) inside;
    }

-- what stands there tells whether the place is covered
pub tells_there : (n : ℕ) (ts cs : List Place) (xs : List ℕ) (p : Place) (x at : ℕ) → x ≡ position n p.row p.off → IsCoverOf n ts cs
    → xs ≡ positions_of n cs → InForest n p.row p.off → at < length xs → get_or xs at 0 ≡ x →
    true ≡ is_some (cover ts p.row p.off)
tells_there n ts cs xs p x at e s f within lt same = tells n ts cs xs p x (Ok at) e s f within (λ sorted. (lt, same))

pub tells_absent : (n : ℕ) (ts cs : List Place) (xs : List ℕ) (p : Place) (x at : ℕ) → x ≡ position n p.row p.off → IsCoverOf n ts cs
    → xs ≡ positions_of n cs → InForest n p.row p.off → IsBracket xs x at at → (at < length xs → get_or xs at 0 ≡ x → ⊥) →
    false ≡ is_some (cover ts p.row p.off)
tells_absent n ts cs xs p x at e s f within b other = tells n ts cs xs p x (Err at) e s f within (λ sorted. (
  b.within,
  b.below,
  λ k from inside.
      let least = b.above at (omega arith) (omega (arith, from, inside)) in
      let rest = sorted at k from inside in
      ne_lt (get_or xs at 0) (get_or xs k 0) least rest (other (omega (arith, from, inside))),
))
  where
    ne_lt : (a c : ℕ) → x ≤ a → a ≤ c → (a ≡ x → ⊥) → x < c
    ne_lt a c le le' ne = omega (arith, le, le', ne)

-- a number that is one more or one less than an absent one, and stands neither there nor before
pub beside_absent : (xs : List ℕ) (x y at : ℕ) → IsNonDecreasing xs → IsBracket xs x at at → (at < length xs → get_or xs at 0 ≡ x → ⊥)
    → (y ≡ x + 1) ⊎ (y + 1 ≡ x) → (at < length xs → get_or xs at 0 ≡ y → ⊥) → (0 < at → get_or xs (at - 1) 0 ≡ y → ⊥) → IsBracket xs y at at
beside_absent xs x y at sorted b other near here before = record {
  order = omega arith;
  within = b.within;
  below = λ k lt.
      let w = b.within in
      let under = b.below (at - 1) (omega (arith, lt)) in
      let rest = sorted k (at - 1) 0 (omega (arith, lt)) (omega (arith, lt, w)) in
      ⊎_elim
      (λ e. omega (arith, e, under, rest))
      (λ e. lower (get_or xs (at - 1) 0) (get_or xs k 0) e under rest (before (omega (arith, lt))))
      near;
  above = λ k from inside.
      let over = b.above at (omega arith) (omega (arith, from, inside)) in
      let rest = sorted at k 0 from inside in
      ⊎_elim
      (λ e. higher (get_or xs at 0) (get_or xs k 0) e over rest (other (omega (arith, from, inside))))
      (λ e. omega (arith, e, over, rest))
      near;
}
  where
    lower : (a c : ℕ) → y + 1 ≡ x → a < x → c ≤ a → (a ≡ y → ⊥) → c < y
    lower a c e lt le ne = omega (arith, e, lt, le, ne)

    higher : (a c : ℕ) → y ≡ x + 1 → x ≤ a → a ≤ c → (a ≡ x → ⊥) → y ≤ c
    higher a c e le le' ne = omega (arith, e, le, le', ne)

-- whether a place is known, by what stands near its position
known_by : (n : ℕ) (ts : List Place) (p : Place) (b : Bool) → false ≡ is_some (cover ts p.row p.off) → is_root n p.row p.off ≡ false
    → b ≡ is_some (cover ts p.row (sibling_off p.off)) → b ≡ is_known n ts p
known_by n ts p b a r e =
    sym (ap₂ (λ x y. x || (not (is_root n p.row p.off) && not x && y)) (sym a) (sym e) ∙ ap (λ t. false || (not t && not false && b)) r)

module _ (n : ℕ) (ts cs : List Place) (xs : List ℕ) (p : Place) (x at : ℕ) (e : x ≡ position n p.row p.off) (s : IsCoverOf n ts cs)
    (f : xs ≡ positions_of n cs) (within : InForest n p.row p.off) where
  pub known_there : at < length xs → get_or xs at 0 ≡ x → true ≡ is_known n ts p
  known_there lt same = ap (λ b. b || is_needed n ts p) (tells_there n ts cs xs p x at e s f within lt same)

  module _ (b : IsBracket xs x at at) (other : at < length xs → get_or xs at 0 ≡ x → ⊥) where
    absent : false ≡ is_some (cover ts p.row p.off)
    absent = tells_absent n ts cs xs p x at e s f within b other

    pub known_root : is_root n p.row p.off ≡ true → false ≡ is_known n ts p
    known_root r = sym (ap₂ (λ z t. z || (not t && not z && is_some (cover ts p.row (sibling_off p.off)))) (sym absent) r)

    module _ (inner : is_root n p.row p.off ≡ false) (y : ℕ) (g : y ≡ position n p.row (sibling_off p.off)) where
      abbrev beside : Place
      beside = record { row = p.row; off = sibling_off p.off }

      near : (y ≡ x + 1) ⊎ (y + 1 ≡ x)
      near = ⊎_elim
          (λ c. let z = c.1 in inl (omega (arith, e, g, z)))
          (λ c. let z = c.1 in inr (omega (arith, e, g, z)))
          (sibling_cases p.off)

      pub known_beside : (k : ℕ) → k < length xs → get_or xs k 0 ≡ y → true ≡ is_known n ts p
      known_beside k lt same = known_by n ts p true absent inner
          (tells_there n ts cs xs beside y k g s f (sibling_within n p.row p.off within inner) lt same)

      pub known_before : (t : Bool) → (at < length xs → get_or xs at 0 ≡ y → ⊥) → OnTrue t ((0 < at) × (get_or xs (at - 1) 0 ≡ y))
          → OnFalse t (0 < at → get_or xs (at - 1) 0 ≡ y → ⊥) → t ≡ is_known n ts p
      known_before true here there none = let w = b.within in let some = there.0 in known_beside (at - 1) (omega (arith, w, some)) there.1
      known_before false here there none =
          known_by n ts p false absent inner
          (tells_absent n ts cs xs beside y at g s f (sibling_within n p.row p.off within inner)
          (beside_absent xs x y at (subst IsNonDecreasing (sym f) (rises_sorted n cs s.rises)) b other near here none) here)

  -- neither the position of the place nor one beside it stands around the index
  module _ (le : at ≤ length xs) (low : 0 < at → get_or xs (at - 1) 0 + 1 < x) (high : at < length xs → x + 1 < get_or xs at 0) where
    sorted : IsNonDecreasing xs
    sorted = subst IsNonDecreasing (sym f) (rises_sorted n cs s.rises)

    apart : IsBracket xs x at at
    apart = record {
      order = omega arith;
      within = le;
      below = λ k lt. let under = low (omega (arith, lt)) in let rest = sorted k (at - 1) 0 (omega (arith, lt)) (omega (arith, lt, le)) in
          omega (arith, under, rest);
      above = λ k from inside. let over = high (omega (arith, from, inside)) in let rest = sorted at k 0 from inside in omega (arith, over, rest);
    }

    not_there : at < length xs → get_or xs at 0 ≡ x → ⊥
    not_there lt same = let over = high lt in omega (arith, over, same)

    pub known_apart : false ≡ is_known n ts p
    known_apart = ⊎_elim (λ r. known_root apart not_there r) (λ r. by_inner r) (cases_Bool (is_root n p.row p.off))
      where
        by_inner : is_root n p.row p.off ≡ false → false ≡ is_known n ts p
        by_inner r =
            let y = position n p.row (sibling_off p.off) in
            let beside_is = near apart not_there r y refl in
            let here : at < length xs → get_or xs at 0 ≡ y → ⊥ = λ lt same. let over = high lt in
            ⊎_elim (λ z. omega (arith, over, same, z)) (λ z. omega (arith, over, same, z)) beside_is in
            let before : 0 < at → get_or xs (at - 1) 0 ≡ y → ⊥ = λ lt same. let under = low lt in
            ⊎_elim (λ z. omega (arith, under, same, z)) (λ z. omega (arith, under, same, z)) beside_is in
            known_by n ts p false (absent apart not_there) r
            (tells_absent n ts cs xs (beside apart not_there r y refl) y at refl s f (sibling_within n p.row p.off within r)
            (beside_absent xs x y at sorted apart not_there beside_is here before) here)
