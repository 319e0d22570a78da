-- What an addition does to roots.
use Rattle.std.proofs.Common.{ne_eqb, ◌≡◌, ℕ, zero, suc, ◌+◌, ◌/◌, ◌%◌, ◌^◌, ◌<◌, ◌≤◌, Bool, true, false, List, [], ◌∷◌, ◌++◌, map, length, get_or}
use Rattle.std.proofs.Common.{set, cond, is_some, Option, Some, None, refl, sym, ap, ap₂, ◌∙◌, subst, ⊎_elim, arith, length-set}
use Rattle.std.specs.Prelude.{count_by, count_ones}
use Rattle.std.specs.List.{range_with_len, sum_by}
use Rattle.std.proofs.lemmas.List.Sums.{sum_by-cons}
use Rattle.std.proofs.lemmas.List.FromFn.{map-range_with_len_more, sum_by-map-range_with_len_more}
use Rattle.std.proofs.lemmas.Bool.{eq-eqb, and_from, true≢false, false≢true, cases_order, cases_lt, cases_eq, false_from_ne_true}
use Rattle.std.proofs.lemmas.List.{get_or-set_same, get_or-set_other, map-id}
use Rattle.uo_digest.specs.declared.digest.Digest.{Digest}
use Rattle.forest_place.specs.Forest.{is_slot}
use Rattle.forest_model.specs.Standing.{root}
use Rattle.forest_model.specs.Addition.{all_slots, joined_slots, carried_digest, join_root, IsAddition}
use Rattle.forest_model.proofs.Adding.{all_slots_small, appended, same_length, slot_cleared, slot_made, slot_stays}
use Rattle.forest_model.proofs.Ones.{all_slots-below, slot_below, joined_slots_are}
use Rattle.forest_roots.specs.declared.joins.Join.{Join}
use Rattle.forest_roots.specs.Joined.{IsAdded, join_at, joins_of, addition_steps}
use Rattle.forest_roots.proofs.Few.{steps_few}
use Rattle.forest_roots.specs.Stump.{Stump, root_in, IsStump, StandsFor}

-- one joined slot more
pub slots_more : (n row : ℕ) → all_slots n row ≡ true → is_slot n row ≡ true → all_slots n (row + 1) ≡ true
slots_more n row all here =
    let e : suc row ≡ row + 1 = omega arith in
    subst (λ x. all_slots n x ≡ true) e (and_from (all_slots n row) (is_slot n row) all here)

-- an addition to roots, of which the rows below one were joined and emptied
pub record IsJoining (H : List ℕ → Digest) (n : ℕ) (old : List (Option Digest)) (d : Digest) (start row : ℕ) (now : List (Option Digest))
    (carried : Digest) (joins : List Join) (steps : ℕ) : Type 0 where
  pub small : row < 40
  pub forty : length now ≡ 40
  pub slots : all_slots n row ≡ true
  pub cleared : (k : ℕ) → k < row → get_or now k None ≡ None
  pub kept : (k : ℕ) → row ≤ k → get_or now k None ≡ get_or old k None
  pub carries : carried ≡ carried_digest H (λ k. get_or old k None) d row
  pub listed : joins ≡ map (join_at H (record { leaves = n; rows = old }) d) (range_with_len 0 row)
  pub counted : steps ≡ start + count_by (λ k. is_some (get_or old k None)) (range_with_len 0 row)

-- before the first row
pub joining_begins : (H : List ℕ → Digest) (n : ℕ) (old : List (Option Digest)) (d : Digest) (start : ℕ) → length old ≡ 40
    → IsJoining H n old d start 0 old d [] start
joining_begins H n old d start forty = record {
  small = omega arith;
  forty = forty;
  slots = refl;
  cleared = λ k lt. absurd (omega arith);
  kept = λ k le. refl;
  carries = refl;
  listed = refl;
  counted = omega arith;
}

-- one row more
pub joined_once : (H : List ℕ → Digest) (n : ℕ) (old : List (Option Digest)) (d : Digest) (start row : ℕ) (now : List (Option Digest))
    (carried : Digest) (joins : List Join) (steps : ℕ) →
    IsJoining H n old d start row now carried joins steps → suc n < 2 ^ 40 → is_slot n row ≡ true →
    (carried' : Digest) (joins' : List Join) (steps' : ℕ) → carried' ≡ join_root H (get_or now row None) carried →
    joins' ≡ joins ++ (record { row = row; left = get_or now row None; result = carried' }) ∷ []
    → steps' ≡ steps + cond (is_some (get_or now row None)) 1 0 →
    IsJoining H n old d start (row + 1) (set now row None) carried' joins' steps'
joined_once H n old d start row now carried joins steps j few slot carried' joins' steps' ec ej es =
    let all = slots_more n row j.slots slot in
    let here : get_or now row None ≡ get_or old row None = j.kept row (omega arith) in
    let result : carried' ≡ carried_digest H (λ k. get_or old k None) d (suc row) = ec ∙ ap₂ (join_root H) here j.carries in
    let one_more : suc row ≡ row + 1 = omega arith in
    record {
      small = all_slots_small n (row + 1) 40 all few;
      forty = length-set now row None ∙ j.forty;
      slots = all;
      cleared = λ k lt. ⊎_elim
          (λ same. let inside : row < length now = omega (arith, j.small, j.forty) in
          subst (λ x. get_or (set now row None) x None ≡ None) (sym same) (get_or-set_same now row None None inside))
          (λ ne. get_or-set_other now row k None None ne ∙ j.cleared k (omega (arith, ne)))
          (cases_eq k row);
      kept = λ k le. get_or-set_other now row k None None (λ e. omega (arith, e)) ∙ j.kept k (omega arith);
      carries = result ∙ ap (carried_digest H (λ k. get_or old k None) d) one_more;
      listed = ej ∙ (ap₂ (λ js x. js ++ x ∷ []) j.listed (ap₂ (λ l r. let q : Join = record { row = row; left = l; result = r } in q) here result)
          ∙ sym (map-range_with_len_more (join_at H (record { leaves = n; rows = old }) d) 0 row row (omega arith)));
      counted = es ∙ (ap₂ (λ s x. s + cond (is_some x) 1 0) j.counted here ∙ count_more (λ k. is_some (get_or old k None)) start row);
    }
  where
    count_more : (p : ℕ → Bool) (a k : ℕ) → a + count_by p (range_with_len 0 k) + cond (p k) 1 0 ≡ a + count_by p (range_with_len 0 (k + 1))
    count_more p a k =
        let g : ℕ → ℕ = λ x. cond (p x) 1 0 in
        let e = sum_by-map-range_with_len_more g (λ x. x) 0 k k (omega arith) in
        let f : sum_by g (range_with_len 0 (k + 1)) ≡ sum_by g (range_with_len 0 k) + g k = sym (ap (sum_by g) (map-id (range_with_len 0 (k + 1))))
        ∙ (e ∙ ap (λ xs. sum_by g xs + g k) (map-id (range_with_len 0 k))) in
        omega (arith, f)

module _ (H : List ℕ → Digest) (n : ℕ) (old : List (Option Digest)) (d : Digest) (start row : ℕ) (now : List (Option Digest)) (c : Digest)
    (joins : List Join) (steps : ℕ) (j : IsJoining H n old d start row now c joins steps) (free : is_slot n row ≡ false) where
  abbrev new : ℕ → Option Digest
  new r = get_or (set now row (Some c)) r None

  new-row : new row ≡ Some c
  new-row = let lt : row < length now = omega (arith, j.small, j.forty) in get_or-set_same now row (Some c) None lt

  new-other : (r : ℕ) → (r ≡ row → ⊥) → new r ≡ get_or now r None
  new-other r ne = get_or-set_other now row r (Some c) None ne

  new-above : (r : ℕ) → row < r → new r ≡ get_or old r None
  new-above r lt = new-other r (λ e. omega (arith, e)) ∙ j.kept r (omega arith)

  -- where not all lower rows are slots, it is above the first free one
  above_row : (r : ℕ) → all_slots n r ≡ false → row < r
  above_row r some =
      ⊎_elim (λ lt. lt)
      (λ ge. absurd (true≢false (sym (all_slots-below n r row ge j.slots) ∙ some)))
      (cases_lt row r)

  only_free : (r : ℕ) → all_slots n r ≡ true → is_slot n r ≡ false → r ≡ row
  only_free r all empty =
      ⊎_elim (λ e. e)
      (⊎_elim
      (λ less. absurd (false≢true (sym empty ∙ slot_below n r row less j.slots)))
      (λ more. absurd (false≢true (sym free ∙ slot_below n row r more all))))
      (cases_order r row)

  -- the roots once the first free row was written
  pub added : IsAddition H n d (λ r. get_or old r None) new
  added = record {
    below = slot_cleared n;
    first_free = λ r all empty.
        let same : r ≡ row = only_free r all empty in
        (slot_made n r all empty, subst (λ x. new x ≡ Some (carried_digest H (λ k. get_or old k None) d x)) (sym same) (new-row ∙ ap Some j.carries));
    above = λ r some. (slot_stays n r some, λ slot. new-above r (above_row r some));
  }

  -- they are as roots are to be
  pub added_stump : suc n < 2 ^ 40 → IsStump (record { leaves = n; rows = old }) → IsStump (record { leaves = suc n; rows = set now row (Some c) })
  added_stump few was = record {
    few = few;
    forty = length-set now row (Some c) ∙ j.forty;
    bare = λ r none.
        ⊎_elim
        (λ same. absurd (true≢false (sym (slot_made n row j.slots free) ∙ (ap (is_slot (suc n)) (sym same) ∙ none))))
        (⊎_elim
        (λ less. new-other r (λ e. omega (arith, e)) ∙ j.cleared r less)
        (λ more. new-above r more ∙ was.bare r (sym (slot_stays n r (not_all r more)) ∙ none)))
        (cases_order r row);
  }
    where
      not_all : (r : ℕ) → row < r → all_slots n r ≡ false
      not_all r lt = false_from_ne_true _ (λ all. false≢true (sym free ∙ slot_below n row r lt all))

  pub joins_are : joins ≡ joins_of H (record { leaves = n; rows = old }) d
  joins_are = j.listed ∙ ap (λ k. map (join_at H (record { leaves = n; rows = old }) d) (range_with_len 0 k))
      (sym (joined_slots_are n row j.slots free))

  pub steps_are : steps ≡ start + addition_steps (record { leaves = n; rows = old })
  steps_are = j.counted ∙ ap (λ k. start + count_by (λ r. is_some (get_or old r None)) (range_with_len 0 k))
      (sym (joined_slots_are n row j.slots free))

-- what is carried depends on the roots of the joined slots alone
carried_digest-same : (H : List ℕ → Digest) (f g : ℕ → Option Digest) (d : Digest) (row : ℕ) → ((r : ℕ) → r < row → f r ≡ g r)
    → carried_digest H f d row ≡ carried_digest H g d row
carried_digest-same H f g d zero h = refl
carried_digest-same H f g d (suc row) h = ap₂ (join_root H) (h row (omega arith)) (carried_digest-same H f g d row (λ r lt. h r (omega arith)))

-- roots that stand for entries stand for them and one more, after an addition
pub stands_added : (H : List ℕ → Digest) (es : List (Option Digest)) (d : Digest) (f g : Stump) → StandsFor H es f → g.leaves ≡ suc f.leaves
    → IsAddition H f.leaves d (root_in f) (root_in g) → StandsFor H (es ++ Some d ∷ []) g
stands_added H es d f g was more a = record {
  leaves = more ∙ (ap suc was.leaves ∙ sym (same_length es d));
  roots = λ r slot. at_row r (all_slots f.leaves r) refl (is_slot f.leaves r) refl (ap (λ n. is_slot n r) (sym more) ∙ slot);
}
  where
    law : IsAddition H f.leaves d (root H es) (root H (es ++ Some d ∷ []))
    law = subst (λ n. IsAddition H n d (root H es) (root H (es ++ Some d ∷ []))) (sym was.leaves) (appended es d H)

    at_row : (r : ℕ) (all : Bool) → all_slots f.leaves r ≡ all → (slot : Bool) → is_slot f.leaves r ≡ slot → is_slot (suc f.leaves) r ≡ true
        → root_in g r ≡ root H (es ++ Some d ∷ []) r
    at_row r true all true slot after = absurd (false≢true (sym (a.below r (and_from (all_slots f.leaves r) (is_slot f.leaves r) all slot)) ∙ after))
    at_row r true all false free after =
        (a.first_free r all free).1 ∙ (ap Some (carried_digest-same H (root_in f) (root H es) d r
        (λ k lt. was.roots k (slot_below f.leaves k r lt all))) ∙ sym (law.first_free r all free).1)
    at_row r false some slot s after =
        let was_slot : is_slot f.leaves r ≡ true = sym (a.above r some).0 ∙ after in
        (a.above r some).1 was_slot ∙ (was.roots r was_slot ∙ sym ((law.above r some).1 was_slot))

-- what an addition of d to f ends in: g, with these joins and after these steps
pub record EndsIn (H : List ℕ → Digest) (f : Stump) (d : Digest) (start : ℕ) (g : Stump) (joins : List Join) (steps : ℕ) : Type 0 where
  pub stump : IsStump g
  pub roots : IsAdded H f d g
  pub joins_are : joins ≡ joins_of H f d
  pub steps_are : steps ≡ start + addition_steps f
  pub steps_listed : steps ≡ start + count_by (λ join. is_some join.left) joins
  pub few : steps + count_ones g.leaves ≤ start + 1 + count_ones f.leaves

-- the steps are those of the joins
steps_of_joins : (H : List ℕ → Digest) (f : Stump) (d : Digest) → addition_steps f ≡ count_by (λ (join : Join). is_some join.left) (joins_of H f d)
steps_of_joins H f d = of_rows (range_with_len 0 (joined_slots f.leaves))
  where
    of_rows : (rows : List ℕ) → count_by (λ row. is_some (root_in f row)) rows
        ≡ count_by (λ (join : Join). is_some join.left) (map (join_at H f d) rows)
    of_rows [] = refl
    of_rows (r ∷ rs) =
        sum_by-cons (λ row. cond (is_some (root_in f row)) 1 0) r rs
        ∙ (ap (λ k. cond (is_some (root_in f r)) 1 0 + k) (of_rows rs)
        ∙ sym (sum_by-cons (λ (join : Join). cond (is_some join.left) 1 0) (join_at H f d r) (map (join_at H f d) rs)))

-- once the first free row was written
pub addition_ends : (H : List ℕ → Digest) (f : Stump) (n : ℕ) (old : List (Option Digest)) (d : Digest) (start row count : ℕ)
    (now : List (Option Digest)) (c : Digest) (joins : List Join) (steps : ℕ) →
    IsJoining H n old d start row now c joins steps → record { leaves = n; rows = old } ≡ f → IsStump (record { leaves = n; rows = old })
    → f.leaves + 1 < 2 ^ 40 → count ≡ n → is_slot count row ≡ false →
    EndsIn H f d start (record { leaves = count + 1; rows = set now row (Some c) }) joins steps
addition_ends H f n old d start row count now c joins steps j view was few same free =
    let one_more : suc n ≡ count + 1 = omega (arith, same) in
    let here : is_slot n row ≡ false = subst (λ x. is_slot x row ≡ false) same free in
    let enough : suc n < 2 ^ 40 = let e : n ≡ f.leaves = ap (λ x. x.leaves) view in omega (arith, e, few) in
    let g : ℕ → Stump = λ x. record { leaves = x; rows = set now row (Some c) } in
    let shape = added H n old d start row now c joins steps j here in
    let before : Stump = record { leaves = n; rows = old } in
    let counted = steps_are H n old d start row now c joins steps j here in
    let whole : EndsIn H before d start (g (suc n)) joins steps =
    record {
      stump = added_stump H n old d start row now c joins steps j here enough was;
      roots = record { leaves = omega arith; roots = shape; stands = λ es stands. stands_added H es d before (g (suc n)) stands refl shape };
      joins_are = joins_are H n old d start row now c joins steps j here;
      steps_are = counted;
      steps_listed = counted ∙ ap (λ k. start + k) (steps_of_joins H before d
          ∙ ap (count_by (λ (join : Join). is_some join.left)) (sym (joins_are H n old d start row now c joins steps j here)));
      few = omega (arith, counted, steps_few before);
    } in
    subst (λ x. EndsIn H f d start (g x) joins steps) one_more (subst (λ x. EndsIn H x d start (g (suc n)) joins steps) view whole)
