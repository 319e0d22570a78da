-- A block is undone.
use Rattle.std.proofs.Common.{◌≡◌, ℕ, zero, suc, ◌<◌, true, false, List, [], ◌∷◌, ◌++◌, length, get_or, set, take, Option, Some, None, refl, sym, ap}
use Rattle.std.proofs.Common.{◌∙◌, subst, ⊎_elim, arith, ne_eqb, eq-eqb}
use Rattle.std.specs.Prelude.{◌==◌, ◌||◌, Bool}
use Rattle.std.specs.List.{list_any, AllByRecursion}
use Rattle.std.proofs.lemmas.Bool.{cases_eq, cases_Bool, or_from, true≢false}
use Rattle.std.proofs.lemmas.List.{length-set, get_or-set_same, get_or-set_other, take_at, ext_get_or}
use Rattle.uo_digest.specs.declared.digest.Digest.{Digest}
use Rattle.forest_model.specs.Deletion.{entries_without}
use Rattle.forest_model.proofs.Deleting.{length-entries_without}
use Rattle.live_forest.specs.Blocks.{all_restored, UndoingGivesBack}

abbrev has : List (ℕ × Digest) → ℕ → Bool
has ps i = list_any (λ p. p.0 == i) ps

pub length-restored : (ps : List (ℕ × Digest)) (es : List (Option Digest)) → length (all_restored ps es) ≡ length es
length-restored [] es = refl
length-restored (p ∷ ps) es = length-restored ps (set es p.0 (Some p.1)) ∙ length-set es p.0 (Some p.1)

or_parts_false : (a b : Bool) → (a || b) ≡ false → (a ≡ false) × (b ≡ false)
or_parts_false true b h = absurd (true≢false h)
or_parts_false false b h = (refl, h)

-- what is not spent stays
spent_other : (is : List ℕ) (es : List (Option Digest)) (i : ℕ) → list_any (λ j. j == i) is ≡ false
    → get_or (entries_without is es) i None ≡ get_or es i None
spent_other [] es i h = refl
spent_other (j ∷ is) es i h =
    let w = or_parts_false (j == i) (list_any (λ k. k == i) is) h in
    get_or-set_other (entries_without is es) j i None None (λ e. true≢false (sym (eq-eqb j i (sym e)) ∙ w.0)) ∙ spent_other is es i w.1

-- what is made live, or was right before, is right
restored_right : (es : List (Option Digest)) (ps : List (ℕ × Digest)) (xs : List (Option Digest)) (i : ℕ) → length xs ≡ length es → i < length es
    → AllByRecursion (λ p. get_or es p.0 None ≡ Some p.1) ps → (has ps i ≡ false → get_or xs i None ≡ get_or es i None)
    → get_or (all_restored ps xs) i None ≡ get_or es i None
restored_right es [] xs i long lt all before = before refl
restored_right es (p ∷ ps) xs i long lt all before =
    restored_right es ps (set xs p.0 (Some p.1)) i (length-set xs p.0 (Some p.1) ∙ long) lt all.1
    (λ none. ⊎_elim
    (λ same.
    let e : get_or (set xs p.0 (Some p.1)) p.0 None ≡ Some p.1 = get_or-set_same xs p.0 (Some p.1) None (omega (arith, same, long, lt)) in
    subst (λ k. get_or (set xs p.0 (Some p.1)) k None ≡ get_or es k None) same (e ∙ sym all.0))
    (λ other. get_or-set_other xs p.0 i (Some p.1) None (λ e. other (sym e)) ∙ before (or_from (p.0 == i) (has ps i) (ne_eqb p.0 i other) none))
    (cases_eq p.0 i))

pub undone : UndoingGivesBack
undone es added spent restored all_a same =
    let whole : take (length es) (entries_without spent es ++ added) ≡ entries_without spent es =
    take_at (entries_without spent es) added (length es) (length-entries_without spent es) in
    let long : length (all_restored restored (entries_without spent es)) ≡ length es = length-restored restored (entries_without spent es)
    ∙ length-entries_without spent es in
    ap (all_restored restored) whole ∙
    ext_get_or None (all_restored restored (entries_without spent es)) es long
    (λ i lt. restored_right es restored (entries_without spent es) i (length-entries_without spent es) (omega (arith, long, lt)) all_a
    (λ none. ⊎_elim
    (λ is. absurd (true≢false (sym (same i is) ∙ none)))
    (λ is_no. spent_other spent es i is_no)
    (cases_Bool (list_any (λ j. j == i) spent))))

-- one more at the end
set_twice : (xs : List (Option Digest)) (i j : ℕ) → set (set xs i None) j None ≡ set (set xs j None) i None
set_twice [] i j = refl
set_twice (x ∷ xs) zero zero = refl
set_twice (x ∷ xs) zero (suc j) = refl
set_twice (x ∷ xs) (suc i) zero = refl
set_twice (x ∷ xs) (suc i) (suc j) = ap (λ ys. x ∷ ys) (set_twice xs i j)

pub entries_without-push : (is : List ℕ) (i : ℕ) (es : List (Option Digest)) → entries_without (is ++ i ∷ []) es ≡ set (entries_without is es) i None
entries_without-push [] i es = refl
entries_without-push (j ∷ is) i es = ap (λ xs. set xs j None) (entries_without-push is i es) ∙ set_twice (entries_without is es) i j
