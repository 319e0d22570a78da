-- Many additions, a row of nodes after the other.
use Rattle.std.proofs.Common.{◌≡◌, ℕ, suc, ◌+◌, ◌*◌, ◌/◌, ◌%◌, ◌^◌, ◌<◌, ◌≤◌, Bool, true, false, List, [], ◌∷◌, ◌++◌, length, take, drop, set}
use Rattle.std.proofs.Common.{get_or, Option, Some, None, refl, sym, ap, ap₂, ◌∙◌, subst, arith, append_assoc, length-set}
use Rattle.std.specs.Prelude.{◌==◌, count_ones}
use Rattle.std.specs.Int.Count.{ones_step}
use Rattle.std.proofs.lemmas.Bool.{eqb-true, eqb-false}
use Rattle.std.proofs.lemmas.List.{take_more_set, take_all, drop-set-lt, take-append-drop, take-append-le, length-take-le}
use Rattle.std.proofs.Math.Seq.{drop-cons, length_front}
use Rattle.uo_digest.specs.declared.digest.Digest.{Digest}
use Rattle.forest_place.proofs.Parts.{parts-suc}
use Rattle.forest_place.proofs.Positions.{row_small}
use Rattle.forest_roots.specs.Stump.{Stump, IsStump}
use Rattle.forest_roots.specs.After.{with_leaves, additions_steps}
use Rattle.forest_roots.specs.Rows.{risen, staying, count_risen, row_steps}
use Rattle.forest_roots.proofs.Additions.{with_leaves-stump}
use Rattle.forest_roots.proofs.Carrying.{whole, carry_all, carry_all_steps, all_risen, risen_steps, carry_all_adds, additions_count}

-- ---- the rows below one have their roots, and so many nodes of that row stand at the front of the list

pub record IsRising (H : List ℕ → Digest) (n : ℕ) (old : List (Option Digest)) (ds : List Digest) (start row : ℕ) (now : List (Option Digest))
    (nodes : List Digest) (count steps : ℕ) : Type 0 where
  pub forty : length now ≡ 40
  pub long : length nodes ≡ length ds
  pub within : count ≤ length ds
  pub parts : n / 2 ^ row + count ≡ (n + length ds) / 2 ^ row
  pub rows : carry_all H n old ds ≡ take row now ++ carry_all H (n / 2 ^ row) (drop row now) (take count nodes)
  pub counted : steps + carry_all_steps H (n / 2 ^ row) (drop row now) (take count nodes) ≡ start + carry_all_steps H n old ds
  pub few : steps + count + count_ones (n / 2 ^ row) + count_ones (n + length ds)
      ≤ start + length ds + count_ones n + count_ones ((n + length ds) / 2 ^ row)

risen_few : (slot : Bool) (count : ℕ) → 0 < count → count_risen slot count ≤ count
risen_few true count some = omega (arith, some)
risen_few false count some = omega (arith, some)

-- each node that goes up takes at most one digest
steps_few : (slot : Bool) (root : Option Digest) (count : ℕ) → 0 < count → row_steps slot root count ≤ count_risen slot count
steps_few true None count some = omega (arith, some)
steps_few true (Some x) count some = omega (arith, some)
steps_few false root count some = omega (arith, some)

-- twice as many as go up are those of the row with its root, but for the one that stays
twice_risen : (slot : Bool) (a b count : ℕ) → slot ≡ (a % 2 == 1) → a + count ≡ b → 2 * count_risen slot count + b % 2 ≡ count + a % 2
twice_risen true a b count is sum = let odd : a % 2 ≡ 1 = eqb-true _ _ (sym is) in omega (arith, odd, sum)
twice_risen false a b count is sum = let even : a % 2 ≡ 1 → ⊥ = eqb-false _ _ (sym is) in omega (arith, even, sum)

module _ (H : List ℕ → Digest) (n : ℕ) (old : List (Option Digest)) (ds : List Digest) (start : ℕ) where
  pub rising_begins : length old ≡ 40 → IsRising H n old ds start 0 old ds (length ds) start
  rising_begins forty = record {
    forty = forty;
    long = refl;
    within = omega arith;
    parts = omega arith;
    rows = rw (whole n, take_all (length ds) ds (omega arith)) refl;
    counted = rw (whole n, take_all (length ds) ds (omega arith)) refl;
    few = rw (whole n, whole (n + length ds)) (omega arith);
  }

  -- where there are nodes, the row is one of the forty
  pub rising_small : (row : ℕ) (now : List (Option Digest)) (nodes : List Digest) (count steps : ℕ)
      → IsRising H n old ds start row now nodes count steps → 0 < count → n + length ds < 2 ^ 40 → row < 40
  rising_small row now nodes count steps r some few = row_small (n + length ds) row 0 40 (omega (arith, r.parts, some)) few

  pub rising_more : (row : ℕ) (now : List (Option Digest)) (nodes : List Digest) (count steps : ℕ)
      → IsRising H n old ds start row now nodes count steps → 0 < count → n + length ds < 2 ^ 40 →
      (slot : Bool) (stays : Option Digest) (lent : List Digest) (count' steps' : ℕ) → slot ≡ (n / 2 ^ row % 2 == 1)
      → stays ≡ staying slot (take count nodes) → length lent ≡ count → count' ≡ count_risen slot count
      → take (count_risen slot count) lent ≡ risen H slot (get_or now row None) (take count nodes)
      → steps' ≡ steps + row_steps slot (get_or now row None) count
      → IsRising H n old ds start (row + 1) (set now row stays) (lent ++ drop count nodes) count' steps'
  rising_more row now nodes count steps r some few slot stays lent count' steps' slot_is stays_is lent_long count_is above steps_are =
      let a = n / 2 ^ row in
      let b = (n + length ds) / 2 ^ row in
      let x = get_or now row None in
      let front = take count nodes in
      let small = rising_small row now nodes count steps r some few in
      let inside : row < length now = omega (arith, small, r.forty) in
      let front_long : length front ≡ count = length-take-le count nodes (omega (arith, r.within, r.long)) in
      let fewer : count' ≤ count = omega (arith, count_is, risen_few slot count some) in
      let next : suc row ≡ row + 1 = omega arith in
      let half_a : a / 2 ≡ n / 2 ^ (row + 1) = sym (parts-suc n row) ∙ ap (λ k. n / 2 ^ k) next in
      let half_b : b / 2 ≡ (n + length ds) / 2 ^ (row + 1) = sym (parts-suc (n + length ds) row) ∙ ap (λ k. (n + length ds) / 2 ^ k) next in
      let twice = twice_risen slot a b count slot_is r.parts in
      let parts : a / 2 + count' ≡ b / 2 = omega (arith, count_is, twice, r.parts) in
      let now' = set now row stays in
      let nodes' = lent ++ drop count nodes in
      let behind : drop (suc row) now ≡ drop (row + 1) now' =
      ap (λ k. drop k now) next ∙ sym (drop-set-lt (row + 1) now row stays (omega arith)) in
      let up : risen H slot x front ≡ take count' nodes' =
      sym above ∙ ap (λ k. take k lent) (sym count_is) ∙ sym (take-append-le count' lent (drop count nodes) (omega (arith, fewer, lent_long))) in
      let most : steps' ≤ steps + count_risen slot count = omega (arith, steps_are, steps_few slot x count some) in
      let spent : carry_all_steps H (n / 2 ^ row) (drop row now) front
      ≡ row_steps slot x count + carry_all_steps H (n / 2 ^ (row + 1)) (drop (row + 1) now') (take count' nodes') =
      ap (λ (rows : List (Option Digest)). carry_all_steps H a rows front) (drop-cons now row None inside)
      ∙ risen_steps H slot a x (drop (suc row) now) front slot_is (omega (arith, front_long, some))
      ∙ ap₂ (λ k l. row_steps slot x k + l) front_long
      (ap (λ k. carry_all_steps H k (drop (suc row) now) (risen H slot x front)) half_a
      ∙ ap₂ (λ (rows : List (Option Digest)) (xs : List Digest). carry_all_steps H (n / 2 ^ (row + 1)) rows xs) behind up) in
      let rest : carry_all H (a / 2) (drop (suc row) now) (risen H slot x front)
      ≡ carry_all H (n / 2 ^ (row + 1)) (drop (row + 1) now') (take count' nodes') =
      ap (λ k. carry_all H k (drop (suc row) now) (risen H slot x front)) half_a
      ∙ ap₂ (λ (rows : List (Option Digest)) (xs : List Digest). carry_all H (n / 2 ^ (row + 1)) rows xs) behind up in
      record {
        forty = length-set now row stays ∙ r.forty;
        long = length_front nodes lent count (lent_long ∙ sym front_long) ∙ r.long;
        within = omega (arith, fewer, r.within);
        parts = ap (λ k. k + count') (sym half_a) ∙ parts ∙ half_b;
        rows = r.rows
            ∙ ap (λ (rows : List (Option Digest)). take row now ++ carry_all H a rows front) (drop-cons now row None inside)
            ∙ ap (λ (rows : List (Option Digest)). take row now ++ rows)
            (all_risen H slot a x (drop (suc row) now) front slot_is (omega (arith, front_long, some)))
            ∙ sym (append_assoc (take row now) (staying slot front ∷ []) (carry_all H (a / 2) (drop (suc row) now) (risen H slot x front)))
            ∙ ap₂ (λ (root : Option Digest) (rows : List (Option Digest)). (take row now ++ root ∷ []) ++ rows) (sym stays_is) rest
            ∙ ap (λ (rows : List (Option Digest)). rows ++ carry_all H (n / 2 ^ (row + 1)) (drop (row + 1) now') (take count' nodes'))
            (sym (take_more_set now row stays inside));
        counted = omega (arith, r.counted, spent, steps_are);
        few = rw (← half_a, ← half_b) (omega (arith, r.few, most, count_is, twice, ones_step a, ones_step b));
      }

-- what the additions end in
pub record Rose (H : List ℕ → Digest) (f : Stump) (ds : List Digest) (start : ℕ) (g : Stump) (steps : ℕ) : Type 0 where
  pub are : g ≡ with_leaves H f ds
  pub stump : IsStump g
  pub counted : steps ≡ start + additions_steps H f ds
  pub few : steps + count_ones g.leaves ≤ start + length ds + count_ones f.leaves

pub rising_ends : (H : List ℕ → Digest) (f : Stump) (n : ℕ) (old : List (Option Digest)) (ds : List Digest) (start row : ℕ)
    (now : List (Option Digest)) (nodes : List Digest) (count steps m : ℕ) → IsRising H n old ds start row now nodes count steps → (0 < count → ⊥)
    → record { leaves = n; rows = old } ≡ f → IsStump (record { leaves = n; rows = old }) → n + length ds < 2 ^ 40 → m ≡ n + length ds
    → Rose H f ds start (record { leaves = m; rows = now }) steps
unfolding carry_all carry_all_steps
rising_ends H f n old ds start row now nodes count steps m r end view was few same =
    let none : count ≡ 0 = omega (arith, end) in
    let before : Stump = record { leaves = n; rows = old } in
    let rows : now ≡ carry_all H n old ds =
    sym (r.rows ∙ ap (λ k. take row now ++ carry_all H (n / 2 ^ row) (drop row now) (take k nodes)) none ∙ take-append-drop row now) in
    let are : record { leaves = m; rows = now } ≡ with_leaves H before ds =
    ap₂ (λ (k : ℕ) (xs : List (Option Digest)). let z : Stump = record { leaves = k; rows = xs } in z) same rows
    ∙ sym (carry_all_adds H before ds was.forty) in
    let all : n / 2 ^ row ≡ (n + length ds) / 2 ^ row = omega (arith, r.parts, none) in
    let ones : count_ones (n / 2 ^ row) ≡ count_ones ((n + length ds) / 2 ^ row) = ap count_ones all in
    let last : count_ones m ≡ count_ones (n + length ds) = ap count_ones same in
    let over : carry_all_steps H (n / 2 ^ row) (drop row now) (take count nodes) ≡ 0 =
    ap (λ k. carry_all_steps H (n / 2 ^ row) (drop row now) (take k nodes)) none in
    let rose : Rose H before ds start (record { leaves = m; rows = now }) steps =
    record {
      are = are;
      stump = subst IsStump (sym are) (with_leaves-stump H before ds was few);
      counted = omega (arith, r.counted, over, additions_count H before ds was.forty few);
      few = omega (arith, r.few, none, ones, last);
    } in
    subst (λ g. Rose H g ds start (record { leaves = m; rows = now }) steps) view rose
