-- Roots in the room that they take.
use Rattle.std.proofs.Common.{◌≡◌, ℕ, zero, suc, ◌+◌, ◌-◌, ◌*◌, ◌^◌, ◌<◌, ◌≤◌, false, List, [], ◌∷◌, ◌++◌, length, get_or, take, drop, replicate}
use Rattle.std.proofs.Common.{Option, None, refl, sym, ap, ap₂, ◌∙◌, subst, pow-suc, arith}
use Rattle.std.proofs.lemmas.Bool.{false_from_ne_true}
use Rattle.std.proofs.lemmas.List.{drop-replicate, length-take-le}
use Rattle.uo_digest.specs.declared.digest.Digest.{Digest}
use Rattle.forest_place.specs.Forest.{is_slot}
use Rattle.forest_place.proofs.Positions.{slot_small, pow_order}
use Rattle.forest_roots.specs.Stump.{Stump, IsStump, stump_of}

-- the rows up to the highest slot are few
pub rows_few : (n log k : ℕ) → 2 ^ log ≤ n → n < 2 ^ k → log + 1 ≤ k
rows_few n log k low few = let h = pow_order log k (omega (arith, low, few)) in omega (arith, h)

-- they have room for the entries
pub rows_room : (n log : ℕ) → n < 2 * 2 ^ log → n < 2 ^ (log + 1)
rows_room n log h =
    let e : suc log ≡ log + 1 = omega arith in
    subst (λ k. n < 2 ^ k) e (let twice : 2 ^ suc log ≡ 2 ^ log * 2 = pow-suc 2 log in omega (arith, twice, h))

-- and no row above them is a slot
pub no_slot : (n k row : ℕ) → n < 2 ^ k → k ≤ row → is_slot n row ≡ false
no_slot n k row few above = false_from_ne_true _ (λ slot. let h = slot_small n row k slot few in omega (arith, h, above))

-- rows without roots
none_left : (xs : List (Option Digest)) → ((k : ℕ) → get_or xs k None ≡ None) → replicate (length xs) None ≡ xs
none_left [] h = refl
none_left (x ∷ xs) h = ap₂ (λ z zs. z ∷ zs) (sym (h 0)) (none_left xs (λ k. h (suc k)))

-- the first rows, and as many as are left, where these have no root
all_rows : (rows left : ℕ) (xs : List (Option Digest)) → rows + left ≡ length xs → ((k : ℕ) → rows ≤ k → get_or xs k None ≡ None)
    → take rows xs ++ replicate left None ≡ xs
all_rows zero left xs e h = ap (λ n. replicate n None) (let f : left ≡ length xs = omega (arith, e) in f) ∙ none_left xs (λ k. h k (omega arith))
all_rows (suc rows) left [] e h = absurd (omega (arith, e))
all_rows (suc rows) left (x ∷ xs) e h = ap (λ zs. x ∷ zs) (all_rows rows left xs (omega (arith, e)) (λ k le. h (suc k) (omega (arith, le))))

-- the first rows of roots stand for them, where there is no slot above
pub packed_is : (f : Stump) (n rows : ℕ) (slots items : List (Option Digest)) → (let s : Stump = record { leaves = n; rows = slots } in s) ≡ f
    → IsStump (record { leaves = n; rows = slots }) →
    rows ≤ 40 → ((row : ℕ) → rows ≤ row → is_slot n row ≡ false) → items ≡ take rows slots → stump_of n items ≡ f
packed_is f n rows slots items view is few above e =
    let forty : length slots ≡ 40 = is.forty in
    let long : length items ≡ rows = ap length e ∙ length-take-le rows slots (omega (arith, few, forty)) in
    let whole : items ++ replicate (40 - length items) None ≡ slots =
    ap₂ (λ (xs : List (Option Digest)) k. xs ++ replicate (40 - k) None) e long
    ∙ all_rows rows (40 - rows) slots (omega (arith, few, forty)) (λ k le. is.bare k (above k le)) in
    ap (λ (xs : List (Option Digest)). let s : Stump = record { leaves = n; rows = xs } in s) whole ∙ view

-- the rows with those above them
pub unpacked_is : (n k : ℕ) (rows items : List (Option Digest)) → items ≡ rows → k ≡ length rows
    → (let s : Stump = record { leaves = n; rows = items ++ drop k (replicate 40 None) } in s) ≡ stump_of n rows
unpacked_is n k rows items e f =
    ap₂ (λ (xs ys : List (Option Digest)). let s : Stump = record { leaves = n; rows = xs ++ ys } in
    s) e (drop-replicate k 40 None ∙ ap (λ i. replicate (40 - i) None) f)
