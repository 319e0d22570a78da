-- The places right above needed places, and what they cover.
use Rattle.std.proofs.Common.{◌≡◌, ℕ, zero, suc, ◌+◌, ◌*◌, ◌/◌, Bool, true, false, ◌&&◌, ◌||◌, List, [], ◌∷◌, map, is_some, refl, sym, ap, ap₂, ◌∙◌}
use Rattle.std.proofs.Common.{subst, ⊎_elim, inl, inr, arith, eq-eqb, eqb-true}
use Rattle.std.specs.Prelude.{◌⊎◌, ◌==◌}
use Rattle.std.proofs.lemmas.Bool.{cases_Bool, false≢true, false_from_ne_true, or_cases, or_left, or_right, or_from, cases_eq}
use Rattle.std.proofs.Math.Bool.{or-false}
use Rattle.forest_place.specs.declared.place.Place.{Place}
use Rattle.forest_place.specs.Forest.{InForest, sibling_off}
use Rattle.forest_place.specs.Places.{has_place, is_at, AreWithin, up}
use Rattle.forest_place.proofs.Parts.{InForest-up}
use Rattle.forest_place.proofs.Siblings.{sibling_off-left, sibling_off-right}
use Rattle.forest_model.specs.Cover.{cover, need}
use Rattle.forest_model.proofs.Covers.{needed_parts}
use Rattle.forest_model.proofs.Lists.{need_had}
use Rattle.proof_shape.proofs.Needing.{covered_up}
use Rattle.forest_place.proofs.Listed.{same_Bools}

abbrev pub ups : List Place → List Place
ups ns = map up ns

shuffled : (a b c d : Bool) → ((a || b) || (c || d)) ≡ ((a || c) || (b || d))
shuffled true b c d = refl
shuffled false true true d = refl
shuffled false true false d = refl
shuffled false false true d = refl
shuffled false false false d = refl

-- a place is above its two children
half_is : (x o : ℕ) → (x / 2 == o) ≡ ((x == 2 * o) || (x == 2 * o + 1))
half_is x o =
    same_Bools (x / 2 == o) ((x == 2 * o) || (x == 2 * o + 1))
    (λ t. let e : x / 2 ≡ o = eqb-true _ _ t in by_side e (cases_eq x (2 * o)))
    (λ t. ⊎_elim (λ l. let e : x ≡ 2 * o = eqb-true _ _ l in eq-eqb _ _ (omega (arith, e))) (λ r. let e : x ≡ 2 * o + 1 = eqb-true _ _ r in
    eq-eqb _ _ (omega (arith, e))) (or_cases (x == 2 * o) (x == 2 * o + 1) t))
  where
    by_side : x / 2 ≡ o → (x ≡ 2 * o) ⊎ (x ≡ 2 * o → ⊥) → ((x == 2 * o) || (x == 2 * o + 1)) ≡ true
    by_side e (inl l) = or_left (x == 2 * o) (x == 2 * o + 1) (eq-eqb _ _ l)
    by_side e (inr differ) = or_right (x == 2 * o) (x == 2 * o + 1) (eq-eqb _ _ (omega (arith, e, differ)))

suc_is : (a b : ℕ) → (suc a == suc b) ≡ (a == b)
suc_is a b =
    same_Bools (suc a == suc b) (a == b)
    (λ t. let e : suc a ≡ suc b = eqb-true _ _ t in eq-eqb _ _ (omega (arith, e)))
    (λ t. let e : a ≡ b = eqb-true _ _ t in eq-eqb _ _ (omega (arith, e)))

suc_above : (a : ℕ) → (suc a == 0) ≡ false
suc_above a = false_from_ne_true _ (λ t. let e : suc a ≡ 0 = eqb-true _ _ t in omega (arith, e))

up_at : (p : Place) (r o : ℕ) → is_at (suc r) o (up p) ≡ (is_at r (2 * o) p || is_at r (2 * o + 1) p)
up_at p r o = ap₂ (λ x y. x && y) (suc_is p.row r) (half_is p.off o) ∙ spread (p.row == r) (p.off == 2 * o) (p.off == 2 * o + 1)
  where
    spread : (a b c : Bool) → (a && (b || c)) ≡ ((a && b) || (a && c))
    spread true b c = refl
    spread false b c = refl

has_ups : (ns : List Place) (r o : ℕ) → has_place (ups ns) (suc r) o ≡ (has_place ns r (2 * o) || has_place ns r (2 * o + 1))
has_ups [] r o = refl
has_ups (p ∷ ps) r o =
    ap₂ (λ x y. x || y) (up_at p r o) (has_ups ps r o)
    ∙ shuffled (is_at r (2 * o) p) (is_at r (2 * o + 1) p) (has_place ps r (2 * o)) (has_place ps r (2 * o + 1))

none_low : (ns : List Place) (o : ℕ) → has_place (ups ns) 0 o ≡ false
none_low [] o = refl
none_low (p ∷ ps) o = ap₂ (λ x y. x || y) (ap (λ x. x && (p.off / 2 == o)) (suc_above p.row)) (none_low ps o)

cover_low : (ts : List Place) (o : ℕ) → is_some (cover ts 0 o) ≡ has_place ts 0 o
cover_low ts o = ⊎_elim (λ t. rw t refl) (λ e. rw e refl) (cases_Bool (has_place ts 0 o))

-- what they cover above is what the places cover
cover_ups : (ns : List Place) (r o : ℕ) → is_some (cover (ups ns) (suc r) o) ≡ (is_some (cover ns r (2 * o)) || is_some (cover ns r (2 * o + 1)))
cover_ups ns zero o =
    covered_up (ups ns) 0 o ∙
    (ap₂ (λ x y. x || y) (has_ups ns 0 o ∙ ap₂ (λ x y. x || y) (sym (cover_low ns (2 * o))) (sym (cover_low ns (2 * o + 1))))
    (or_from _ _ (cover_low (ups ns) (2 * o) ∙ none_low ns (2 * o)) (cover_low (ups ns) (2 * o + 1) ∙ none_low ns (2 * o + 1))) ∙
    or-false (is_some (cover ns 0 (2 * o)) || is_some (cover ns 0 (2 * o + 1))))
cover_ups ns (suc r) o =
    covered_up (ups ns) (suc r) o ∙
    (ap₂ (λ x y. x || y) (has_ups ns (suc r) o) (ap₂ (λ x y. x || y) (cover_ups ns r (2 * o)) (cover_ups ns r (2 * o + 1))) ∙
    (shuffled (has_place ns (suc r) (2 * o)) (has_place ns (suc r) (2 * o + 1)) _ _ ∙
    sym (ap₂ (λ x y. x || y) (covered_up ns r (2 * o)) (covered_up ns r (2 * o + 1)))))

-- a place that is not among them is covered by them where it is covered by those right above them
pub cover_above : (ns : List Place) (r o : ℕ) → has_place ns r o ≡ false → is_some (cover (ups ns) r o) ≡ is_some (cover ns r o)
cover_above ns zero o e = cover_low (ups ns) o ∙ (none_low ns o ∙ sym (cover_low ns o ∙ e))
cover_above ns (suc r) o e = cover_ups ns r o
    ∙ sym (covered_up ns r o ∙ ap (λ x. x || (is_some (cover ns r (2 * o)) || is_some (cover ns r (2 * o + 1)))) e)

-- needed places are no roots, so that they have places above them
pub ups_within : (n : ℕ) (ts : List Place) → AreWithin n (ups (need n ts))
ups_within n ts zero o h = absurd (false≢true (sym (none_low (need n ts) o) ∙ h))
ups_within n ts (suc r) o h =
    ⊎_elim
    (λ l. let e : (2 * o) / 2 ≡ o = omega arith in subst (λ x. InForest n (suc r) x) e (parent_of (2 * o) l))
    (λ m. let e : (2 * o + 1) / 2 ≡ o = omega arith in subst (λ x. InForest n (suc r) x) e (parent_of (2 * o + 1) m))
    (or_cases (has_place (need n ts) r (2 * o)) (has_place (need n ts) r (2 * o + 1)) (sym (has_ups (need n ts) r o) ∙ h))
  where
    parent_of : (x : ℕ) → has_place (need n ts) r x ≡ true → InForest n (suc r) (x / 2)
    parent_of x it = let w = need_had n ts r x it in InForest-up n r x w.0 (needed_parts n ts r x w.1).0

-- a place above a needed place is covered
pub above_covered : (n : ℕ) (ts : List Place) (r o : ℕ) → is_some (cover (ups (need n ts)) r o) ≡ true → is_some (cover ts r o) ≡ true
above_covered n ts zero o h = absurd (false≢true (sym (cover_low (ups (need n ts)) o ∙ none_low (need n ts) o) ∙ h))
above_covered n ts (suc r) o h =
    covered_up ts r o ∙ or_right (has_place ts (suc r) o) (is_some (cover ts r (2 * o)) || is_some (cover ts r (2 * o + 1)))
    (⊎_elim
    (λ it. ⊎_elim
    (λ left. or_right (is_some (cover ts r (2 * o))) (is_some (cover ts r (2 * o + 1))) (ap (λ x. is_some (cover ts r x)) (sym (sibling_off-left o))
    ∙ beside_needed (2 * o) left))
    (λ right. or_left (is_some (cover ts r (2 * o))) (is_some (cover ts r (2 * o + 1))) (ap (λ x. is_some (cover ts r x)) (sym (sibling_off-right o))
    ∙ beside_needed (2 * o + 1) right))
    (or_cases (has_place (need n ts) r (2 * o)) (has_place (need n ts) r (2 * o + 1)) (sym (has_ups (need n ts) r o) ∙ it)))
    (λ below. ⊎_elim
    (λ left. or_left (is_some (cover ts r (2 * o))) (is_some (cover ts r (2 * o + 1))) (above_covered n ts r (2 * o) left))
    (λ right. or_right (is_some (cover ts r (2 * o))) (is_some (cover ts r (2 * o + 1))) (above_covered n ts r (2 * o + 1) right))
    (or_cases (is_some (cover (ups (need n ts)) r (2 * o))) (is_some (cover (ups (need n ts)) r (2 * o + 1))) below))
    (or_cases (has_place (ups (need n ts)) (suc r) o) (is_some (cover (ups (need n ts)) r (2 * o)) || is_some (cover (ups (need n ts)) r (2 * o + 1)))
    (sym (covered_up (ups (need n ts)) r o) ∙ h)))
  where
    beside_needed : (x : ℕ) → has_place (need n ts) r x ≡ true → is_some (cover ts r (sibling_off x)) ≡ true
    beside_needed x it = ap is_some (needed_parts n ts r x (need_had n ts r x it).1).2.1
