-- Lists of places that are short, since each of their places is made of one of a list.
use Rattle.std.proofs.Common.{◌≡◌, ℕ, zero, suc, ◌+◌, ◌*◌, ◌<◌, ◌≤◌, Bool, true, false, List, [], ◌∷◌, ◌++◌, length, refl, sym, ap, ◌∙◌, subst, ap₂}
use Rattle.std.proofs.Common.{⊎_elim, arith}
use Rattle.std.specs.List.{AllByRecursion, IsDistinct}
use Rattle.std.specs.Cmp.{IsEquivalence}
use Rattle.std.proofs.lemmas.Bool.{cases_eq, false≢true, or_left, or_right, or_cases, or_parts}
use Rattle.std.proofs.lemmas.List.{length-append}
use Rattle.std.proofs.lemmas.List.Folds.{list_any-append}
use Rattle.std.proofs.lemmas.Map.Keys.{IsDistinct-cons}
use Rattle.std.proofs.lemmas.Map.Made.{length-le_from_is_member}
use Rattle.forest_place.specs.declared.place.Place.{Place}
use Rattle.forest_place.specs.Places.{has_place, is_at, IsDistinct as HasNoRepeat}
use Rattle.forest_place.proofs.Listed.{same_Bools, is_at-same, same_from_is_at, is_at-turned}

-- two places are one
same_spot : Place → Place → Bool
same_spot p q = is_at p.row p.off q

spots : IsEquivalence same_spot
unfolding same_spot
spots = record {
  refl = λ p. is_at-same p.row p.off;
  symm = λ p q. same_Bools (is_at p.row p.off q) (is_at q.row q.off p) (is_at-turned p q) (is_at-turned q p);
  congr = λ p q r e. let same : q ≡ p = same_from_is_at p.row p.off q e in ap (λ (x : Place). is_at x.row x.off r) (sym same);
}

others : (p : Place) (ps : List Place) → has_place ps p.row p.off ≡ false → AllByRecursion (λ q. same_spot p q ≡ false) ps
unfolding same_spot
others p [] h = tt
others p (q ∷ ps) h = let w = or_parts (is_at p.row p.off q) (has_place ps p.row p.off) h in (w.0, others p ps w.1)

no_repeat : (ps : List Place) → HasNoRepeat ps → IsDistinct same_spot ps
unfolding IsDistinct
no_repeat [] h = tt
no_repeat (p ∷ ps) h = IsDistinct-cons same_spot p ps (others p ps h.0) (no_repeat ps h.1)

-- the places that f makes of one by the numbers below k, and of each of a list
made_of : (ℕ → Place → Place) → ℕ → Place → List Place
made_of f zero t = []
made_of f (suc k) t = f k t ∷ made_of f k t

all_made_of : (ℕ → Place → Place) → ℕ → List Place → List Place
all_made_of f k [] = []
all_made_of f k (t ∷ ts) = made_of f k t ++ all_made_of f k ts

module _ (f : ℕ → Place → Place) where
  made_long : (k : ℕ) (t : Place) → length (made_of f k t) ≡ k
  unfolding made_of
  made_long zero t = refl
  made_long (suc k) t = ap suc (made_long k t)

  all_made_long : (k : ℕ) (ts : List Place) → length (all_made_of f k ts) ≡ length ts * k
  unfolding all_made_of
  all_made_long k [] = let z : 0 ≡ 0 * k = omega arith in z
  all_made_long k (t ∷ ts) =
      let z : suc (length ts) * k ≡ k + length ts * k = omega arith in
      length-append (made_of f k t) (all_made_of f k ts) ∙ (ap₂ (λ x y. x + y) (made_long k t) (all_made_long k ts) ∙ sym z)

  made_have : (b : ℕ) (t : Place) (k : ℕ) → k < b → has_place (made_of f b t) (f k t).row (f k t).off ≡ true
  unfolding made_of
  made_have zero t k lt = absurd (omega (arith, lt))
  made_have (suc b) t k lt =
      ⊎_elim
      (λ (e : k ≡ b). subst (λ x. has_place (f b t ∷ made_of f b t) (f x t).row (f x t).off ≡ true) (sym e)
      (or_left (is_at (f b t).row (f b t).off (f b t)) (has_place (made_of f b t) (f b t).row (f b t).off) (is_at-same (f b t).row (f b t).off)))
      (λ (ne : k ≡ b → ⊥). or_right (is_at (f k t).row (f k t).off (f b t)) (has_place (made_of f b t) (f k t).row (f k t).off)
      (made_have b t k (omega (arith, lt, ne))))
      (cases_eq k b)

  all_made_have : (b : ℕ) (ts : List Place) (q : Place) (k : ℕ) → has_place ts q.row q.off ≡ true → k < b
      → has_place (all_made_of f b ts) (f k q).row (f k q).off ≡ true
  unfolding all_made_of
  all_made_have b [] q k h lt = absurd (false≢true h)
  all_made_have b (t ∷ ts) q k h lt =
      list_any-append (is_at (f k q).row (f k q).off) (made_of f b t) (all_made_of f b ts) ∙
      ⊎_elim
      (λ here.
      let same : t ≡ q = same_from_is_at q.row q.off t here in
      or_left (has_place (made_of f b t) (f k q).row (f k q).off) (has_place (all_made_of f b ts) (f k q).row (f k q).off)
      (subst (λ (x : Place). has_place (made_of f b t) (f k x).row (f k x).off ≡ true) same (made_have b t k lt)))
      (λ there. or_right (has_place (made_of f b t) (f k q).row (f k q).off) (has_place (all_made_of f b ts) (f k q).row (f k q).off)
      (all_made_have b ts q k there lt))
      (or_cases (is_at q.row q.off t) (has_place ts q.row q.off) h)

  -- different places, each of which is made of one of a list by a number below b, are at most b for each of the list
  pub few_made : (b : ℕ) (ts ps : List Place) → HasNoRepeat ps →
      ((q : Place) → has_place ps q.row q.off ≡ true → (t : Place) × (k : ℕ) × (has_place ts t.row t.off ≡ true) × (k < b) × (f k t ≡ q))
      → length ps ≤ length ts * b
  unfolding same_spot
  few_made b ts ps distinct made =
      let few = length-le_from_is_member spots ps (all_made_of f b ts) (no_repeat ps distinct) member in
      let long = all_made_long b ts in
      omega (arith, few, long)
    where
      member : (q : Place) → has_place ps q.row q.off ≡ true → has_place (all_made_of f b ts) q.row q.off ≡ true
      member q h =
          let w = made q h in
          subst (λ (x : Place). has_place (all_made_of f b ts) x.row x.off ≡ true) w.4 (all_made_have b ts w.0 w.1 w.2 w.3)
