-- Additions by the rows from some row on, and a row of them at once.
use Rattle.std.proofs.Common.{◌≡◌, ℕ, zero, suc, ◌+◌, ◌-◌, ◌/◌, ◌%◌, ◌^◌, ◌<◌, Bool, true, false, cond, List, [], ◌∷◌, length, map}
use Rattle.std.proofs.Common.{get_or, Option, Some, None, is_some, refl, sym, ap, ap₂, ◌∙◌, arith, eq-eqb, ne_eqb}
use Rattle.std.specs.Prelude.{◌==◌, ◌&&◌, count_by}
use Rattle.std.specs.List.{range_with_len}
use Rattle.std.proofs.Math.Nat.{pow-suc}
use Rattle.std.proofs.lemmas.Bool.{eqb-true, eqb-false}
use Rattle.std.proofs.lemmas.List.{ext_get_or}
use Rattle.std.proofs.lemmas.List.Sums.{sum_by-cons}
use Rattle.uo_digest.specs.declared.digest.Digest.{Digest}
use Rattle.forest_place.specs.Forest.{is_slot}
use Rattle.forest_place.proofs.Parts.{half_pow}
use Rattle.forest_model.specs.Content.{pair}
use Rattle.forest_model.specs.Addition.{all_slots, join_root, carried_digest}
use Rattle.forest_model.proofs.Ones.{slot_below, joined_slots_are}
use Rattle.forest_roots.specs.Stump.{Stump}
use Rattle.forest_roots.specs.Joined.{addition_steps}
use Rattle.forest_roots.specs.After.{root_with, with_leaf, with_leaves, additions_steps}
use Rattle.forest_roots.specs.Rows.{neighbours, odd_one, digests_over, risen, staying, row_steps}
use Rattle.forest_roots.proofs.Additions.{row_at, rows_long}

-- ---- additions by the rows from some row on, of which the bits of n say which are slots

unfoldable pub carry : (List ℕ → Digest) → ℕ → List (Option Digest) → Digest → List (Option Digest)
carry H n [] d = []
carry H n (x ∷ xs) d = cond (n % 2 == 1) (None ∷ carry H (n / 2) xs (join_root H x d)) (Some d ∷ xs)

unfoldable pub carry_all : (List ℕ → Digest) → ℕ → List (Option Digest) → List Digest → List (Option Digest)
carry_all H n rows [] = rows
carry_all H n rows (d ∷ ds) = carry_all H (n + 1) (carry H n rows d) ds

-- the digests that this takes

unfoldable pub carry_steps : ℕ → List (Option Digest) → ℕ
carry_steps n [] = 0
carry_steps n (x ∷ xs) = cond (n % 2 == 1) (cond (is_some x) 1 0 + carry_steps (n / 2) xs) 0

unfoldable pub carry_all_steps : (List ℕ → Digest) → ℕ → List (Option Digest) → List Digest → ℕ
carry_all_steps H n rows [] = 0
carry_all_steps H n rows (d ∷ ds) = carry_steps n rows + carry_all_steps H (n + 1) (carry H n rows d) ds

steps_free : (n : ℕ) (x : Option Digest) (xs : List (Option Digest)) → n % 2 ≡ 0 → carry_steps n (x ∷ xs) ≡ 0
unfolding carry_steps
steps_free n x xs even = rw (let free : (n % 2 == 1) ≡ false = ne_eqb _ _ (λ e. omega (arith, e, even)) in free) refl

steps_slot : (n : ℕ) (x : Option Digest) (xs : List (Option Digest)) → n % 2 ≡ 1
    → carry_steps n (x ∷ xs) ≡ cond (is_some x) 1 0 + carry_steps (n / 2) xs
unfolding carry_steps
steps_slot n x xs odd = rw (let slot : (n % 2 == 1) ≡ true = eq-eqb _ _ odd in slot) refl

-- ---- a row at once

module _ (H : List ℕ → Digest) where
  carry_free : (n : ℕ) (x : Option Digest) (xs : List (Option Digest)) (d : Digest) → n % 2 ≡ 0 → carry H n (x ∷ xs) d ≡ Some d ∷ xs
  unfolding carry
  carry_free n x xs d even = rw (let free : (n % 2 == 1) ≡ false = ne_eqb _ _ (λ e. omega (arith, e, even)) in free) refl

  carry_slot : (n : ℕ) (x : Option Digest) (xs : List (Option Digest)) (d : Digest) → n % 2 ≡ 1
      → carry H n (x ∷ xs) d ≡ None ∷ carry H (n / 2) xs (join_root H x d)
  unfolding carry
  carry_slot n x xs d odd = rw (let slot : (n % 2 == 1) ≡ true = eq-eqb _ _ odd in slot) refl

  -- two nodes, where the row is no slot
  carry_two : (n : ℕ) (x : Option Digest) (xs : List (Option Digest)) (d e : Digest) → n % 2 ≡ 0
      → carry H (n + 1) (carry H n (x ∷ xs) d) e ≡ None ∷ carry H (n / 2) xs (pair H d e)
  carry_two n x xs d e even =
      let same : (n + 1) / 2 ≡ n / 2 = omega (arith, even) in
      ap (λ (rows : List (Option Digest)). carry H (n + 1) rows e) (carry_free n x xs d even)
      ∙ carry_slot (n + 1) (Some d) xs e (omega (arith, even)) ∙ rw same refl

  -- a row that is no slot, and has no root
  all_free : (n : ℕ) (xs : List (Option Digest)) (ds : List Digest) → n % 2 ≡ 0
      → carry_all H n (None ∷ xs) ds ≡ odd_one ds ∷ carry_all H (n / 2) xs (digests_over H (neighbours ds))
  unfolding carry_all neighbours odd_one
  all_free n xs [] even = refl
  all_free n xs (d ∷ []) even = carry_free n None xs d even
  all_free n xs (d ∷ e ∷ ds) even =
      let half : (n + 1 + 1) / 2 ≡ n / 2 + 1 = omega (arith, even) in
      ap (λ (rows : List (Option Digest)). carry_all H (n + 1 + 1) rows ds) (carry_two n None xs d e even)
      ∙ all_free (n + 1 + 1) (carry H (n / 2) xs (pair H d e)) ds (omega (arith, even)) ∙ rw half refl

  -- some nodes in any row
  pub all_risen : (slot : Bool) (n : ℕ) (x : Option Digest) (xs : List (Option Digest)) (ds : List Digest) → slot ≡ (n % 2 == 1) → 0 < length ds
      → carry_all H n (x ∷ xs) ds ≡ staying slot ds ∷ carry_all H (n / 2) xs (risen H slot x ds)
  unfolding carry_all neighbours odd_one
  all_risen slot n x xs [] is some = absurd (omega (arith, some))
  all_risen true n x xs (d ∷ ds) is some =
      let odd : n % 2 ≡ 1 = eqb-true _ _ (sym is) in
      let half : (n + 1) / 2 ≡ n / 2 + 1 = omega (arith, odd) in
      ap (λ (rows : List (Option Digest)). carry_all H (n + 1) rows ds) (carry_slot n x xs d odd)
      ∙ all_free (n + 1) (carry H (n / 2) xs (join_root H x d)) ds (omega (arith, odd)) ∙ rw half refl
  all_risen false n x xs (d ∷ []) is some =
      let not_odd : n % 2 ≡ 1 → ⊥ = eqb-false _ _ (sym is) in
      carry_free n x xs d (omega (arith, not_odd))
  all_risen false n x xs (d ∷ e ∷ ds) is some =
      let not_odd : n % 2 ≡ 1 → ⊥ = eqb-false _ _ (sym is) in
      let even : n % 2 ≡ 0 = omega (arith, not_odd) in
      let half : (n + 1 + 1) / 2 ≡ n / 2 + 1 = omega (arith, even) in
      ap (λ (rows : List (Option Digest)). carry_all H (n + 1 + 1) rows ds) (carry_two n x xs d e even)
      ∙ all_free (n + 1 + 1) (carry H (n / 2) xs (pair H d e)) ds (omega (arith, even)) ∙ rw half refl

  -- ---- and the digests that it takes

  -- two nodes, where the row is no slot: a digest, and what their pair takes
  steps_two : (n : ℕ) (x : Option Digest) (xs : List (Option Digest)) (d : Digest) → n % 2 ≡ 0
      → carry_steps n (x ∷ xs) + carry_steps (n + 1) (carry H n (x ∷ xs) d) ≡ 1 + carry_steps (n / 2) xs
  steps_two n x xs d even =
      let same : (n + 1) / 2 ≡ n / 2 = omega (arith, even) in
      let second : carry_steps (n + 1) (carry H n (x ∷ xs) d) ≡ 1 + carry_steps (n / 2) xs =
      ap (carry_steps (n + 1)) (carry_free n x xs d even) ∙ steps_slot (n + 1) (Some d) xs (omega (arith, even)) ∙ rw same refl in
      omega (arith, steps_free n x xs even, second)

  -- a row that is no slot
  free_steps : (n : ℕ) (x : Option Digest) (xs : List (Option Digest)) (ds : List Digest) → n % 2 ≡ 0
      → carry_all_steps H n (x ∷ xs) ds ≡ length ds / 2 + carry_all_steps H (n / 2) xs (digests_over H (neighbours ds))
  unfolding carry_all_steps neighbours
  free_steps n x xs [] even = refl
  free_steps n x xs (d ∷ []) even = omega (arith, steps_free n x xs even)
  free_steps n x xs (d ∷ e ∷ ds) even =
      let half : (n + 1 + 1) / 2 ≡ n / 2 + 1 = omega (arith, even) in
      let up = carry H (n / 2) xs (pair H d e) in
      let others : carry_all_steps H (n + 1 + 1) (carry H (n + 1) (carry H n (x ∷ xs) d) e) ds
      ≡ length ds / 2 + carry_all_steps H (n / 2 + 1) up (digests_over H (neighbours ds)) =
      ap (λ (rows : List (Option Digest)). carry_all_steps H (n + 1 + 1) rows ds) (carry_two n x xs d e even)
      ∙ free_steps (n + 1 + 1) None up ds (omega (arith, even)) ∙ rw half refl in
      let one_more : suc (suc (length ds)) / 2 ≡ length ds / 2 + 1 = omega arith in
      omega (arith, others, steps_two n x xs d even, one_more)

  -- some nodes in any row
  pub risen_steps : (slot : Bool) (n : ℕ) (x : Option Digest) (xs : List (Option Digest)) (ds : List Digest) → slot ≡ (n % 2 == 1) → 0 < length ds
      → carry_all_steps H n (x ∷ xs) ds ≡ row_steps slot x (length ds) + carry_all_steps H (n / 2) xs (risen H slot x ds)
  unfolding carry_all_steps
  risen_steps slot n x xs [] is some = absurd (omega (arith, some))
  risen_steps true n x xs (d ∷ ds) is some =
      let odd : n % 2 ≡ 1 = eqb-true _ _ (sym is) in
      let half : (n + 1) / 2 ≡ n / 2 + 1 = omega (arith, odd) in
      let up = carry H (n / 2) xs (join_root H x d) in
      let others : carry_all_steps H (n + 1) (carry H n (x ∷ xs) d) ds
      ≡ length ds / 2 + carry_all_steps H (n / 2 + 1) up (digests_over H (neighbours ds)) =
      ap (λ (rows : List (Option Digest)). carry_all_steps H (n + 1) rows ds) (carry_slot n x xs d odd)
      ∙ free_steps (n + 1) None up ds (omega (arith, odd)) ∙ rw half refl in
      let one_less : suc (length ds) - 1 ≡ length ds = omega arith in
      rw one_less (omega (arith, others, steps_slot n x xs odd))
  risen_steps false n x xs (d ∷ ds) is some =
      let not_odd : n % 2 ≡ 1 → ⊥ = eqb-false _ _ (sym is) in
      free_steps n x xs (d ∷ ds) (omega (arith, not_odd))

-- ---- they are the additions of entries

slot_up : (n row : ℕ) → is_slot n (suc row) ≡ is_slot (n / 2) row
slot_up n row = ap (λ k. k % 2 == 1) (half_pow n row)

pub whole : (n : ℕ) → n / 2 ^ 0 ≡ n
whole n = omega arith

up_odd : (n row : ℕ) → (n % 2 == 1) ≡ true → all_slots n (suc row) ≡ all_slots (n / 2) row
up_odd n zero odd = ap (λ k. k % 2 == 1) (whole n) ∙ odd
up_odd n (suc row) odd = ap₂ (λ a b. a && b) (up_odd n row odd) (slot_up n row)

up_even : (n row : ℕ) → (n % 2 == 1) ≡ false → all_slots n (suc row) ≡ false
up_even n zero even = ap (λ k. k % 2 == 1) (whole n) ∙ even
up_even n (suc row) even = rw (up_even n row even) refl

module _ (H : List ℕ → Digest) where
  carried_up : (f : ℕ → Option Digest) (d : Digest) (row : ℕ)
      → carried_digest H f d (suc row) ≡ carried_digest H (λ k. f (suc k)) (join_root H (f 0) d) row
  carried_up f d zero = refl
  carried_up f d (suc row) = ap (join_root H (f (suc row))) (carried_up f d row)

  -- what an addition leaves in a row
  abbrev at_row : ℕ → (ℕ → Option Digest) → Digest → ℕ → Option Digest
  at_row n f d row = cond (all_slots n row) (cond (is_slot n row) None (Some (carried_digest H f d row))) (f row)

  carry_at : (n : ℕ) (rows : List (Option Digest)) (d : Digest) (row : ℕ) → row < length rows
      → get_or (carry H n rows d) row None ≡ at_row n (λ k. get_or rows k None) d row
  unfolding carry
  carry_at n [] d row lt = absurd (omega (arith, lt))
  carry_at n (x ∷ xs) d zero lt = rw (whole n) (by_test (n % 2 == 1)) where
    by_test : (b : Bool) → get_or (cond b (None ∷ carry H (n / 2) xs (join_root H x d)) (Some d ∷ xs)) 0 None ≡ cond b None (Some d)
    by_test true = refl
    by_test false = refl
  carry_at n (x ∷ xs) d (suc row) lt = by_test (n % 2 == 1) refl (carry_at (n / 2) xs (join_root H x d) row (omega (arith, lt))) where
    by_test : (b : Bool) → (n % 2 == 1) ≡ b
        → get_or (carry H (n / 2) xs (join_root H x d)) row None ≡ at_row (n / 2) (λ k. get_or xs k None) (join_root H x d) row
        → get_or (cond b (None ∷ carry H (n / 2) xs (join_root H x d)) (Some d ∷ xs)) (suc row) None
        ≡ at_row n (λ k. get_or (x ∷ xs) k None) d (suc row)
    by_test true odd above = above ∙ rw (up_odd n row odd, slot_up n row, carried_up (λ k. get_or (x ∷ xs) k None) d row) refl
    by_test false even above = rw (up_even n row even) refl

  carry_long : (n : ℕ) (rows : List (Option Digest)) (d : Digest) → length (carry H n rows d) ≡ length rows
  unfolding carry
  carry_long n [] d = refl
  carry_long n (x ∷ xs) d = by_test (n % 2 == 1) (carry_long (n / 2) xs (join_root H x d)) where
    by_test : (b : Bool) → length (carry H (n / 2) xs (join_root H x d)) ≡ length xs
        → length (cond b (None ∷ carry H (n / 2) xs (join_root H x d)) (Some d ∷ xs)) ≡ suc (length xs)
    by_test true same = ap suc same
    by_test false same = refl

  carry_adds : (f : Stump) (d : Digest) → length f.rows ≡ 40 → with_leaf H f d ≡ record { leaves = f.leaves + 1; rows = carry H f.leaves f.rows d }
  unfolding with_leaf
  carry_adds f d forty =
      let long = carry_long f.leaves f.rows d ∙ forty in
      ap (λ (rows : List (Option Digest)). let z : Stump = record { leaves = f.leaves + 1; rows = rows } in z)
      (ext_get_or None (map (root_with H f d) (range_with_len 0 40)) (carry H f.leaves f.rows d) (rows_long (root_with H f d) 40 ∙ sym long)
      (λ i lt. let small : i < 40 = omega (arith, lt, rows_long (root_with H f d) 40) in
      row_at (root_with H f d) 40 i small ∙ sym (carry_at f.leaves f.rows d i (omega (arith, small, forty)))))

  pub carry_all_adds : (f : Stump) (ds : List Digest) → length f.rows ≡ 40
      → with_leaves H f ds ≡ record { leaves = f.leaves + length ds; rows = carry_all H f.leaves f.rows ds }
  unfolding carry_all
  carry_all_adds f [] forty = let same : f.leaves ≡ f.leaves + 0 = omega arith in
      ap (λ n. let z : Stump = record { leaves = n; rows = f.rows } in z) same
  carry_all_adds f (d ∷ ds) forty =
      let next : Stump = record { leaves = f.leaves + 1; rows = carry H f.leaves f.rows d } in
      let count : f.leaves + 1 + length ds ≡ f.leaves + suc (length ds) = omega arith in
      ap (λ (g : Stump). with_leaves H g ds) (carry_adds f d forty)
      ∙ carry_all_adds next ds (carry_long f.leaves f.rows d ∙ forty)
      ∙ ap (λ n. let z : Stump = record { leaves = n; rows = carry_all H (f.leaves + 1) (carry H f.leaves f.rows d) ds } in z) count

-- ---- and the digests that these take

-- below row k some row is the first that is no slot
abbrev HasFree : ℕ → ℕ → Type 0
HasFree n k = (r : ℕ) × (r < k) × (all_slots n r ≡ true) × (is_slot n r ≡ false)

free_row : (n k : ℕ) → suc n < 2 ^ k → HasFree n k
free_row n zero few = absurd (omega (arith, few))
free_row n (suc k) few = by_test (n % 2 == 1) refl (free_row (n / 2) k) where
  by_test : (b : Bool) → (n % 2 == 1) ≡ b → (suc (n / 2) < 2 ^ k → HasFree (n / 2) k) → HasFree n (suc k)
  by_test true odd later =
      let is : n % 2 ≡ 1 = eqb-true _ _ odd in
      let twice = pow-suc 2 k in
      let up = later (omega (arith, few, is, twice)) in
      (suc up.0, omega (arith, up.1), up_odd n up.0 odd ∙ up.2, slot_up n up.0 ∙ up.3)
  by_test false even later = (0, omega arith, refl, ap (λ k. k % 2 == 1) (whole n) ∙ even)

count_shifted : (p : ℕ → Bool) (a k : ℕ) → count_by p (range_with_len (a + 1) k) ≡ count_by (λ i. p (suc i)) (range_with_len a k)
count_shifted p a zero = refl
count_shifted p a (suc k) =
    let next : a + 1 ≡ suc a = omega arith in
    sum_by-cons (λ i. cond (p i) 1 0) (a + 1) (range_with_len (a + 1 + 1) k)
    ∙ ap₂ (λ i s. cond (p i) 1 0 + s) next (count_shifted p (a + 1) k)
    ∙ sym (sum_by-cons (λ i. cond (p (suc i)) 1 0) a (range_with_len (a + 1) k))

carry_counts : (n : ℕ) (rows : List (Option Digest)) (r : ℕ) → all_slots n r ≡ true → is_slot n r ≡ false → r < length rows
    → carry_steps n rows ≡ count_by (λ k. is_some (get_or rows k None)) (range_with_len 0 r)
carry_counts n [] r all free lt = absurd (omega (arith, lt))
carry_counts n (x ∷ xs) zero all free lt =
    let even : (n % 2 == 1) ≡ false = ap (λ k. k % 2 == 1) (sym (whole n)) ∙ free in
    let not_odd : n % 2 ≡ 1 → ⊥ = eqb-false _ _ even in
    steps_free n x xs (omega (arith, not_odd))
carry_counts n (x ∷ xs) (suc r) all free lt =
    let odd : (n % 2 == 1) ≡ true = ap (λ k. k % 2 == 1) (sym (whole n)) ∙ slot_below n 0 (suc r) (omega arith) all in
    let p : ℕ → Bool = λ k. is_some (get_or (x ∷ xs) k None) in
    let others = carry_counts (n / 2) xs r (sym (up_odd n r odd) ∙ all) (sym (slot_up n r) ∙ free) (omega (arith, lt)) in
    let shifted = count_shifted p 0 r in
    let parts = sum_by-cons (λ i. cond (p i) 1 0) 0 (range_with_len 1 r) in
    omega (arith, steps_slot n x xs (eqb-true _ _ odd), others, shifted, parts)

module _ (H : List ℕ → Digest) where
  addition_counts : (f : Stump) → length f.rows ≡ 40 → suc f.leaves < 2 ^ 40 → addition_steps f ≡ carry_steps f.leaves f.rows
  addition_counts f forty few =
      let free = free_row f.leaves 40 few in
      ap (λ r. count_by (λ k. is_some (get_or f.rows k None)) (range_with_len 0 r)) (joined_slots_are f.leaves free.0 free.2 free.3)
      ∙ sym (carry_counts f.leaves f.rows free.0 free.2 free.3 (omega (arith, free.1, forty)))

  pub additions_count : (f : Stump) (ds : List Digest) → length f.rows ≡ 40 → f.leaves + length ds < 2 ^ 40
      → additions_steps H f ds ≡ carry_all_steps H f.leaves f.rows ds
  unfolding carry_all_steps
  additions_count f [] forty few = refl
  additions_count f (d ∷ ds) forty few =
      let next : Stump = record { leaves = f.leaves + 1; rows = carry H f.leaves f.rows d } in
      ap₂ (λ k l. k + l) (addition_counts f forty (omega (arith, few)))
      (ap (λ (g : Stump). additions_steps H g ds) (carry_adds H f d forty)
      ∙ additions_count next ds (carry_long H f.leaves f.rows d ∙ forty) (omega (arith, few)))
