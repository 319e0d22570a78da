-- The trees of parts, where an entry is written, where one is added and where the last ones are cut off.
use Rattle.std.proofs.Common.{◌≡◌, ◌≢◌, ℕ, zero, suc, ◌+◌, ◌-◌, ◌*◌, ◌/◌, ◌^◌, ◌<◌, ◌≤◌, List, set, take, Option, None, sym, ap, ap₂, subst, ⊎_elim}
use Rattle.std.proofs.Common.{arith}
use Rattle.std.specs.Prelude.{option_map}
use Rattle.std.proofs.lemmas.Bool.{cases_Bool}
use Rattle.std.proofs.lemmas.List.{get_or-set_other, get_or-take}
use Rattle.std.proofs.lemmas.Nat.{shr-shr}
use Rattle.uo_digest.specs.declared.digest.Digest.{Digest}
use Rattle.forest_model.specs.Content.{leaf, join, content}
use Rattle.forest_place.specs.Forest.{InForest}
use Rattle.forest_model.specs.Addition.{all_slots}
use Rattle.forest_place.proofs.Parts.{parts-suc, InForest-left, InForest-right, InForest-beneath}
use Rattle.forest_model.proofs.Adding.{parts_more, parts_same}

-- a part without the entry stays as it was
pub content-set_other : (es : List (Option Digest)) (i : ℕ) (x : Option Digest) (row off : ℕ) → i / 2 ^ row ≢ off
    → content (set es i x) row off ≡ content es row off
content-set_other es i x zero off other =
    let e : off ≢ i = λ h. other (omega arith) in
    ap (option_map (leaf off)) (get_or-set_other es i off x None e)
content-set_other es i x (suc row) off other =
    let up = parts-suc i row in
    ap₂ join
    (content-set_other es i x row (2 * off) (λ h. other (omega (arith, up, h))))
    (content-set_other es i x row (2 * off + 1) (λ h. other (omega (arith, up, h))))

-- a whole part of the first n entries has the tree that it has in the list
pub content-take : (es : List (Option Digest)) (n row off : ℕ) → InForest n row off → content (take n es) row off ≡ content es row off
content-take es n zero off h =
    let lt : off < n = omega arith in
    ap (option_map (leaf off)) (get_or-take n es off None lt)
content-take es n (suc row) off h =
    ap₂ join
    (content-take es n row (2 * off) (InForest-left n row off h))
    (content-take es n row (2 * off + 1) (InForest-right n row off h))

-- one more entry is at most one more part
pub parts_most : (n r : ℕ) → suc n / 2 ^ r ≤ n / 2 ^ r + 1
parts_most n r =
    ⊎_elim (λ all. omega (arith, parts_more n r all)) (λ some. omega (arith, parts_same n r some)) (cases_Bool (all_slots n r))

-- the parts of n + 1 entries without the last one are parts of n
pub parts_before : (n r o : ℕ) → InForest (suc n) r o → n / 2 ^ r ≢ o → InForest n r o
parts_before n r o h other = omega (arith, parts_most n r, other)

-- where a part that has an entry is in the forest, so are the smaller ones
pub path_below : (n number a b : ℕ) → a ≤ b → InForest n b (number / 2 ^ b) → InForest n a (number / 2 ^ a)
path_below n number a b le h =
    let k = b - a in
    let e : a + k ≡ b = omega arith in
    let up : InForest n (a + k) (number / 2 ^ (a + k)) = subst (λ x. InForest n x (number / 2 ^ x)) (sym e) h in
    InForest-beneath n k a (number / 2 ^ a) (subst (λ x. InForest n (a + k) x) (sym (shr-shr number a k)) up)
