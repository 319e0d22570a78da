-- How many digests an addition takes.
use Rattle.std.proofs.Common.{◌≡◌, ℕ, zero, suc, ◌+◌, ◌≤◌, true, cond, Option, List, length, refl, sym, ap, ap₂, ◌∙◌, ⊎_elim, arith}
use Rattle.std.specs.Prelude.{is_some, count_ones, if◌then◌else◌}
use Rattle.std.specs.List.{count_by, prefix_len, range_with_len}
use Rattle.std.proofs.lemmas.Bool.{cases_Bool}
use Rattle.std.proofs.lemmas.List.Sums.{sum_by-cons, count_by-le-length}
use Rattle.std.proofs.lemmas.List.FromFn.{length-range_with_len}
use Rattle.uo_digest.specs.declared.digest.Digest.{Digest}
use Rattle.forest_place.specs.Forest.{is_slot}
use Rattle.forest_model.specs.Addition.{joined_slots}
use Rattle.forest_model.specs.Standing.{root}
use Rattle.forest_model.proofs.Ones.{joined_slots_ones}
use Rattle.forest_roots.specs.Stump.{Stump, root_in, StandsFor}
use Rattle.forest_roots.specs.Joined.{addition_steps as steps_of_roots}
use Rattle.live_forest.specs.State.{addition_steps}

-- the digests of an addition, in at most k rows from this one: one for each root that is joined and not empty
abbrev pub joins_taken : (ℕ → Option Digest) → ℕ → ℕ → ℕ → ℕ
joins_taken roots n zero row = 0
joins_taken roots n (suc k) row = if is_slot n row then cond (is_some (roots row)) 1 0 + joins_taken roots n k (suc row) else 0

-- they are those of the rows up to the first that is no slot
pub joins_counted : (roots : ℕ → Option Digest) (n k row : ℕ)
    → joins_taken roots n k row ≡ count_by (λ r. is_some (roots r)) (range_with_len row (prefix_len (is_slot n) (range_with_len row k)))
joins_counted roots n zero row = refl
joins_counted roots n (suc k) row =
    ⊎_elim
    (λ slot.
    let e : suc row ≡ row + 1 = omega arith in
    let rest = joins_counted roots n k (suc row)
    ∙ ap (λ r. count_by (λ j. is_some (roots j)) (range_with_len r (prefix_len (is_slot n) (range_with_len r k)))) e in
    let m = prefix_len (is_slot n) (range_with_len (row + 1) k) in
    let more : suc m ≡ 1 + m = omega arith in
    rw slot (ap (λ x. cond (is_some (roots row)) 1 0 + x) rest
    ∙ sym (sum_by-cons (λ j. cond (is_some (roots j)) 1 0) row (range_with_len (row + 1) m))
    ∙ ap (λ x. count_by (λ j. is_some (roots j)) (range_with_len row x)) more))
    (λ free. rw free refl)
    (cases_Bool (is_slot n row))

pub joins_all : (H : List ℕ → Digest) (es : List (Option Digest)) → joins_taken (root H es) (length es) (length es) 0 ≡ addition_steps H es
joins_all H es = joins_counted (root H es) (length es) (length es) 0

-- they are at most one, more the bits set before and less those set after
pub addition_few : (H : List ℕ → Digest) (es : List (Option Digest)) → addition_steps H es + count_ones (suc (length es)) ≤ 1 + count_ones (length es)
addition_few H es =
    let most = count_by-le-length (λ row. is_some (root H es row)) (range_with_len 0 (joined_slots (length es))) in
    omega (arith, most, length-range_with_len 0 (joined_slots (length es)), joined_slots_ones (length es))

-- only the roots of slots are joined
joins_same : (roots others : ℕ → Option Digest) (n k row : ℕ) → ((r : ℕ) → is_slot n r ≡ true → roots r ≡ others r)
    → joins_taken roots n k row ≡ joins_taken others n k row
joins_same roots others n zero row same = refl
joins_same roots others n (suc k) row same =
    ⊎_elim
    (λ slot. rw slot (ap₂ (λ x y. cond (is_some x) 1 0 + y) (same row slot) (joins_same roots others n k (suc row) same)))
    (λ free. rw free refl)
    (cases_Bool (is_slot n row))

pub roots_as_many : (H : List ℕ → Digest) (es : List (Option Digest)) (f : Stump) → StandsFor H es f → steps_of_roots f ≡ addition_steps H es
roots_as_many H es f s =
    sym (joins_counted (root_in f) f.leaves f.leaves 0)
    ∙ joins_same (root_in f) (root H es) f.leaves f.leaves 0 s.roots
    ∙ ap (λ n. joins_taken (root H es) n n 0) s.leaves
    ∙ joins_all H es
