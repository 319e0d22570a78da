-- Ascending scripts: what stands before what, and a search.
use Rattle.std.proofs.Common.{◌≡◌, ℕ, zero, suc, ◌-◌, ◌<◌, ◌≤◌, true, ◌+◌, List, [], ◌∷◌, map, length, take, drop, get_or, Some, refl, sym, ap, ◌∙◌}
use Rattle.std.proofs.Common.{subst, arith, ⊎_elim}
use Rattle.std.specs.Prelude.{bytes_eq}
use Rattle.std.specs.Global.{Vec}
use Rattle.std.specs.List.{insert}
use Rattle.std.specs.declared.cmp.Ordering.{Ordering}
use Rattle.std.specs.declared.cmp.Ordering.TheVariants.{Less}
use Rattle.std.specs.Ordering.{nat_cmp, is_lt}
use Rattle.std.specs.Cmp.Lexicographic.{slice_cmp}
use Rattle.std.proofs.lemmas.Cmp.{nat_list_cmp_total}
use Rattle.std.proofs.lemmas.List.{length-drop, length-take-le, get_or-take, get_or_default, take_more}
use Rattle.std.proofs.lemmas.Bool.{cases_Bool}
use Rattle.std.proofs.lemmas.Option.{none-some}
use Rattle.std.proofs.lemmas.List.Edits.{insert_end}
use Rattle.cache_model.specs.Undo.{find}
use Rattle.cache_model.specs.Search.{IsSplit}
use Rattle.leaf_cache.specs.Watched.{AreWatched, ScriptsAscend, is_before_script, script_key, put_script}
use Rattle.leaf_cache.proofs.Scripts.{script_order, put_new, less}
use Rattle.state_text.specs.Ordered.{ScriptsRise, AreScripts}

abbrev order : List ℕ → List ℕ → Ordering
order x y = slice_cmp nat_cmp x y

abbrev bytes_of : List (Vec ℕ) → List (List ℕ)
bytes_of vs = map (λ v. v.items) vs

-- the first comes before all others
first-below : (x : List ℕ) (xs : List (List ℕ)) → ScriptsRise (x ∷ xs) → (j : ℕ) (d : List ℕ) → j < length xs → order x (get_or xs j d) ≡ Less
first-below x [] h j d lt = absurd (omega (arith, lt))
first-below x (y ∷ ys) h zero d lt = h.0
first-below x (y ∷ ys) h (suc j) d lt = nat_list_cmp_total.trans x y (get_or ys j d) h.0 (first-below y ys h.1 j d (omega (arith, lt)))

rise-tail : (x : List ℕ) (xs : List (List ℕ)) → ScriptsRise (x ∷ xs) → ScriptsRise xs
rise-tail x [] h = tt
rise-tail x (y ∷ ys) h = h.1

-- and so does each
pub rises-far : (xs : List (List ℕ)) → ScriptsRise xs → (i j : ℕ) (d : List ℕ) → i < j → j < length xs → order (get_or xs i d) (get_or xs j d) ≡ Less
rises-far [] h i j d lt within = absurd (omega (arith, within))
rises-far (x ∷ xs) h i zero d lt within = absurd (omega (arith, lt))
rises-far (x ∷ xs) h zero (suc j) d lt within = first-below x xs h j d (omega (arith, within))
rises-far (x ∷ xs) h (suc i) (suc j) d lt within = rises-far xs (rise-tail x xs h) i j d (omega (arith, lt)) (omega (arith, within))

-- ---- the order, neighbour by neighbour

-- one that is left has no neighbour
few_rise : (vs : List (Vec ℕ)) → length vs ≤ 1 → ScriptsRise (bytes_of vs)
few_rise [] few = tt
few_rise (v ∷ []) few = tt
few_rise (v ∷ w ∷ vs) few = absurd (omega (arith, few))

pub rise-none : (vs : List (Vec ℕ)) (i : ℕ) → 1 ≤ i → length vs ≤ i → ScriptsRise (bytes_of (drop (i - 1) vs))
rise-none vs i some le = few_rise (drop (i - 1) vs) (omega (arith, length-drop (i - 1) vs))

-- ---- the list of a node

less_is : (a b : List ℕ) → order a b ≡ Less → is_before_script a b ≡ true
less_is a b e = ap is_lt e

before_found : (x : List ℕ) (xs : List (List ℕ)) → ScriptsRise (x ∷ xs) → (k v : List ℕ) → find bytes_eq script_key k xs ≡ Some v
    → is_before_script x k ≡ true
before_found x [] rise k v e = absurd (none-some v e)
before_found x (y ∷ ys) rise k v e =
    ⊎_elim
    (λ here. subst (λ s. is_before_script x s ≡ true) (sym (script_order.same k y here)) (less_is x y rise.0))
    (λ other. script_order.further x y k (less_is x y rise.0) (before_found y ys rise.1 k v (rw other at e)))
    (cases_Bool (bytes_eq k y))

ascend : (xs : List (List ℕ)) → ScriptsRise xs → ScriptsAscend xs
ascend [] rise = tt
ascend (x ∷ xs) rise = ((λ k v e. before_found x xs rise k v e), ascend xs (rise-tail x xs rise))

rise : (xs : List (List ℕ)) → ScriptsAscend xs → ScriptsRise xs
rise [] a = tt
rise (x ∷ []) a = tt
rise (x ∷ y ∷ more) a =
    let found : find bytes_eq script_key y (y ∷ more) ≡ Some y = rw (script_order.itself y) refl in
    (less (order x y) (a.0 y y found), rise (y ∷ more) a.1)

pub scripts_watched : (xs : List (List ℕ)) → AreScripts xs → AreWatched xs
scripts_watched xs s = record { few = s.few; each = s.each; ascend = ascend xs s.rise }

pub watched_scripts : (xs : List (List ℕ)) → AreWatched xs → AreScripts xs
watched_scripts xs w = record { few = w.few; each = w.each; rise = rise xs w.ascend }

-- the next one goes behind those that were put in
pub put_next : (xs : List (List ℕ)) → ScriptsRise xs → (i : ℕ) → i < length xs → put_script (get_or xs i []) (take i xs) ≡ take (i + 1) xs
put_next xs rise i lt =
    let x = get_or xs i [] in
    let long : length (take i xs) ≡ i = length-take-le i xs (omega (arith, lt)) in
    let split : IsSplit is_before_script script_key x (take i xs) i = record {
      within = omega (arith, long);
      low = λ j d less. subst (λ s. is_before_script s x ≡ true) (sym (get_or-take i xs j d less)) (less_is (get_or xs j d) x (far j d less));
      high = λ j d le within. absurd (omega (arith, le, within, long));
    } in
    sym (put_new x (take i xs) i split (λ within. absurd (omega (arith, within, long))))
    ∙ (ap (λ k. insert (take i xs) k x) (sym long) ∙ (insert_end (take i xs) x ∙ sym (take_more xs i [] lt)))
  where
    far : (j : ℕ) (d : List ℕ) → j < i → order (get_or xs j d) (get_or xs i []) ≡ Less
    far j d less = ap (order (get_or xs j d)) (get_or_default xs i [] d lt) ∙ rises-far xs rise j i d less lt
