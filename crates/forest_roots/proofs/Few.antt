-- How many steps additions take.
use Rattle.std.proofs.Common.{◌≡◌, ℕ, suc, ◌+◌, ◌≤◌, List, [], ◌∷◌, length, is_some, ap, subst, arith}
use Rattle.std.specs.Prelude.{count_ones}
use Rattle.std.specs.List.{sum_by, range_with_len}
use Rattle.std.proofs.lemmas.List.Sums.{sum_by-cons, count_by-le-length}
use Rattle.std.proofs.lemmas.List.FromFn.{length-range_with_len}
use Rattle.forest_model.specs.Addition.{joined_slots}
use Rattle.forest_model.proofs.Ones.{joined_slots_ones}
use Rattle.forest_roots.specs.Stump.{Stump, root_in}
use Rattle.forest_roots.specs.Joined.{addition_steps}
use Rattle.forest_roots.specs.Laws.{AreMetFrom}

-- one addition
pub steps_few : (f : Stump) → addition_steps f + count_ones (suc f.leaves) ≤ 1 + count_ones f.leaves
steps_few f =
    let most = count_by-le-length (λ row. is_some (root_in f row)) (range_with_len 0 (joined_slots f.leaves)) in
    omega (arith, most, length-range_with_len 0 (joined_slots f.leaves), joined_slots_ones f.leaves)

-- any additions
pub all_few : (n : ℕ) (met : List Stump) → AreMetFrom n met → sum_by addition_steps met + count_ones (n + length met) ≤ length met + count_ones n
all_few n [] h = (let e : n + 0 ≡ n = omega arith in let f : count_ones (n + 0) ≡ count_ones n = ap count_ones e in omega (arith, f))
all_few n (f ∷ fs) h =
    let rest = all_few (suc n) fs h.1 in
    let one = subst (λ k. addition_steps f + count_ones (suc k) ≤ 1 + count_ones k) h.0 (steps_few f) in
    let e : n + suc (length fs) ≡ suc n + length fs = omega arith in
    let same : count_ones (n + suc (length fs)) ≡ count_ones (suc n + length fs) = ap count_ones e in
    omega (arith, rest, one, same, sum_by-cons addition_steps f fs)
