-- What is noted from slot to slot, from the greatest down.
use Rattle.std.proofs.Common.{◌≡◌, ℕ, zero, suc, ◌+◌, ◌-◌, ◌*◌, ◌/◌, ◌%◌, ◌^◌, ◌<◌, ◌≤◌, true, false, List, [], ◌∷◌, ◌++◌, length, get_or, Option}
use Rattle.std.proofs.Common.{Some, None, refl, sym, ap, ap₂, ◌∙◌, subst, ⊎_elim, arith, eq-eqb, All}
use Rattle.std.specs.Prelude.{◌==◌, not, nat_le, filter}
use Rattle.std.specs.List.{filter_map, flat_map}
use Rattle.std.proofs.Math.Nat.{pow-suc, div-eq_of_lt}
use Rattle.std.proofs.lemmas.Bool.{cases_lt, eqb-true, le-leb, lt-leb, leb-true, leb-false, not-true, and_parts, and_from}
use Rattle.std.proofs.lemmas.List.{append-nil}
use Rattle.std.proofs.lemmas.List.Elements.{filter-append, filter_map-append, All-head, All-tail}
use Rattle.uo_digest.specs.declared.digest.Digest.{Digest}
use Rattle.forest_place.specs.declared.place.Place.{Place}
use Rattle.forest_place.specs.Forest.{InForest, is_root}
use Rattle.forest_place.specs.Places.{row_places, places_from, places}
use Rattle.forest_place.proofs.Parts.{parts-suc, InForest-root}
use Rattle.forest_place.proofs.Positions.{row_small}
use Rattle.forest_place.proofs.Listed.{same_Bools, rows_have, rows_had, places_have, places_had}
use Rattle.forest_place.proofs.Ascending.{rows_ascending, places_ascending, same_ascending}
use Rattle.forest_model.specs.EntryPlace.{entry_place}
use Rattle.forest_model.specs.Cover.{cover, is_needed}
use Rattle.forest_model.specs.Deletion.{StandAt}
use Rattle.forest_model.proofs.Climbs.{tree_at-root}
use Rattle.forest_model.proofs.Covers.{some_from_test}
use Rattle.forest_model.proofs.Living.{entry_found}
use Rattle.live_forest.specs.State.{is_live}
use Rattle.live_forest.specs.declared.batch.Sibling.{Sibling}
use Rattle.live_forest.specs.Proving.{places_of, standing, proof_of, in_row, beneath, list_of, HasRows, AreMore, width_from, AreFrom, behind}
use Rattle.live_forest.proofs.Parting.{filter_alike, filter_twice, filter_spent, none_spent}
use Rattle.live_forest.proofs.Beneath.{twice, next, in_row-append, in_row-none, not_needed-root, beneath_above, beneath_row, beneath_here}
use Rattle.live_forest.proofs.Beneath.{beneath_nothing, more_nothing}
use Rattle.live_forest.proofs.Covering.{uncovered}

-- ---- how wide the rows are

pub width_under : (n slot row : ℕ) → row ≤ slot → width_from n slot row ≡ n / 2 ^ slot * 2 ^ (slot - row)
width_under n slot row h = let e : nat_le row slot ≡ true = le-leb row slot h in rw e refl

pub width_over : (n slot row : ℕ) → slot < row → width_from n slot row ≡ n / 2 ^ row
width_over n slot row h = let e : nat_le row slot ≡ false = lt-leb row slot h in rw e refl

-- no row above the one to which the slots went down gets wider
width_same : (n slot row : ℕ) → slot < row → width_from n (suc slot) row ≡ width_from n slot row
width_same n slot row over =
    ⊎_elim
    (λ above. width_over n (suc slot) row above ∙ sym (width_over n slot row over))
    (λ upto. let e : row ≡ suc slot = omega (arith, over, upto) in
    let z : suc slot - suc slot ≡ 0 = omega arith in
    let one : n / 2 ^ suc slot * 1 ≡ n / 2 ^ suc slot = omega arith in
    subst (λ r. width_from n (suc slot) r ≡ width_from n slot r) (sym e)
    (width_under n (suc slot) (suc slot) (omega arith)
    ∙ (ap (λ k. n / 2 ^ suc slot * 2 ^ k) z ∙ (one ∙ sym (width_over n slot (suc slot) (omega arith))))))
    (cases_lt (suc slot) row)

width_above : (n slot row : ℕ) → row ≤ slot → width_from n (suc slot) row ≡ 2 * (n / 2 ^ suc slot) * 2 ^ (slot - row)
width_above n slot row h =
    let k : suc slot - row ≡ suc (slot - row) = omega (arith, h) in
    width_under n (suc slot) row (omega (arith, h)) ∙ (ap (λ j. n / 2 ^ suc slot * 2 ^ j) k
    ∙ (ap (λ x. n / 2 ^ suc slot * x) (pow-suc 2 (slot - row)) ∙ twice (n / 2 ^ suc slot) (2 ^ (slot - row))))

module _ (H : List ℕ → Digest) (es : List (Option Digest)) (ts : List Place) where
  -- a row that has no root
  pub from_same : (slot : ℕ) (rows : List (List Sibling)) → length es / 2 ^ slot % 2 ≡ 0 → AreFrom H es ts (suc slot) rows → AreFrom H es ts slot rows
  from_same slot rows even f = record {
    is = λ row. f.is row ∙ ap (in_row H es ts row 0)
        (⊎_elim (λ over. width_same (length es) slot row over) (λ under. wide row under) (cases_lt slot row));
  }
    where
      wide : (row : ℕ) → row ≤ slot → width_from (length es) (suc slot) row ≡ width_from (length es) slot row
      wide row h =
          let half = parts-suc (length es) slot in
          let e : 2 * (length es / 2 ^ suc slot) ≡ length es / 2 ^ slot = omega (arith, half, even) in
          width_above (length es) slot row h ∙ (ap (λ x. x * 2 ^ (slot - row)) e ∙ sym (width_under (length es) slot row h))

  -- a row with a root, of whose slot all is noted
  pub from_more : (slot : ℕ) (q : Place) (old new : List (List Sibling)) → q.row ≡ slot → q.off ≡ length es / 2 ^ slot - 1
      → length es / 2 ^ slot % 2 ≡ 1 → AreFrom H es ts (suc slot) old → AreMore H es ts q old new → AreFrom H es ts slot new
  from_more slot q old new row_is off_is odd f m =
      record { is = λ row. m.is row ∙ (ap (λ xs. xs ++ beneath H es ts q row) (f.is row) ∙ ⊎_elim (over row) (under row) (cases_lt slot row)) }
    where
      half : length es / 2 ^ suc slot ≡ length es / 2 ^ slot / 2
      half = parts-suc (length es) slot

      over : (row : ℕ) → slot < row → in_row H es ts row 0 (width_from (length es) (suc slot) row) ++ beneath H es ts q row
          ≡ in_row H es ts row 0 (width_from (length es) slot row)
      over row h =
          ap₂ (λ xs ys. xs ++ ys) (ap (in_row H es ts row 0) (width_same (length es) slot row h))
          (beneath_above H es ts q row (omega (arith, h, row_is)))
          ∙ append-nil (in_row H es ts row 0 (width_from (length es) slot row))

      under : (row : ℕ) → row ≤ slot → in_row H es ts row 0 (width_from (length es) (suc slot) row) ++ beneath H es ts q row
          ≡ in_row H es ts row 0 (width_from (length es) slot row)
      under row h =
          let w = 2 ^ (slot - row) in
          let low = 2 * (length es / 2 ^ suc slot) in
          let off : q.off ≡ low = omega (arith, off_is, half, odd) in
          let count : low + 1 ≡ length es / 2 ^ slot = omega (arith, half, odd) in
          let deep : q.row - row ≡ slot - row = ap (λ r. r - row) row_is in
          let none : 0 + low * w ≡ low * w = omega arith in
          ap₂ (λ xs ys. xs ++ ys)
          (ap (in_row H es ts row 0) (width_above (length es) slot row h))
          (beneath_row H es ts q row (omega (arith, h, row_is))
          ∙ (ap (λ k. in_row H es ts row (q.off * 2 ^ k) (2 ^ k)) deep ∙ ap (λ o. in_row H es ts row (o * w) w) off))
          ∙ (ap (λ o. in_row H es ts row 0 (low * w) ++ in_row H es ts row o w) (sym none)
          ∙ (sym (in_row-append H es ts row 0 (low * w) w)
          ∙ ap (in_row H es ts row 0) (sym (next low w) ∙ (ap (λ x. x * w) count ∙ sym (width_under (length es) slot row h)))))

-- ---- what lies behind the slots

behind_same : (n slot : ℕ) (all : List ℕ) → n / 2 ^ slot % 2 ≡ 0 → behind n (suc slot) all ≡ behind n slot all
behind_same n slot all even =
    let half = parts-suc n slot in
    filter_alike _ _ all (λ i h.
    let mine = parts-suc i slot in
    same_Bools _ _
    (λ e. let le : n / 2 ^ suc slot ≤ i / 2 ^ suc slot = leb-true _ _ e in le-leb _ _ (omega (arith, half, mine, le, even)))
    (λ e. let le : n / 2 ^ slot ≤ i / 2 ^ slot = leb-true _ _ e in le-leb _ _ (omega (arith, half, mine, le))))

pub behind_even : (n slot : ℕ) (numbers all : List ℕ) → n / 2 ^ slot % 2 ≡ 0 → numbers ≡ behind n (suc slot) all → numbers ≡ behind n slot all
behind_even n slot numbers all even is = is ∙ behind_same n slot all even

-- those in the slot, and those behind it
pub slot_has : (n slot off : ℕ) (numbers all : List ℕ) → n / 2 ^ slot % 2 ≡ 1 → off ≡ n / 2 ^ slot - 1 → numbers ≡ behind n (suc slot) all
    → filter (λ i. nat_le (i / 2 ^ slot) off) numbers ≡ filter (λ i. i / 2 ^ slot == off) all
slot_has n slot off numbers all odd off_is is =
    let half = parts-suc n slot in
    ap (filter (λ i. nat_le (i / 2 ^ slot) off)) is
    ∙ (filter_twice _ _ all ∙ filter_alike _ _ all (λ i h.
    let mine = parts-suc i slot in
    same_Bools _ _
    (λ e. let both = and_parts _ _ e in
    let le : n / 2 ^ suc slot ≤ i / 2 ^ suc slot = leb-true _ _ both.0 in
    let upto : i / 2 ^ slot ≤ off = leb-true _ _ both.1 in
    eq-eqb _ _ (omega (arith, half, mine, le, upto, odd, off_is)))
    (λ e. let there : i / 2 ^ slot ≡ off = eqb-true _ _ e in
    let le : n / 2 ^ suc slot ≤ i / 2 ^ suc slot = omega (arith, half, mine, there, odd, off_is) in
    let upto : i / 2 ^ slot ≤ off = omega (arith, there) in
    and_from _ _ (le-leb _ _ le) (le-leb _ _ upto))))

pub slot_leaves : (n slot off : ℕ) (numbers all : List ℕ) → n / 2 ^ slot % 2 ≡ 1 → off ≡ n / 2 ^ slot - 1 → numbers ≡ behind n (suc slot) all
    → filter (λ i. not (nat_le (i / 2 ^ slot) off)) numbers ≡ behind n slot all
slot_leaves n slot off numbers all odd off_is is =
    let half = parts-suc n slot in
    ap (filter (λ i. not (nat_le (i / 2 ^ slot) off))) is
    ∙ (filter_twice _ _ all ∙ filter_alike _ _ all (λ i h.
    let mine = parts-suc i slot in
    same_Bools _ _
    (λ e. let both = and_parts _ _ e in
    let over : off < i / 2 ^ slot = leb-false _ _ (not-true _ both.1) in
    le-leb _ _ (omega (arith, over, odd, off_is)))
    (λ e. let le : n / 2 ^ slot ≤ i / 2 ^ slot = leb-true _ _ e in
    let above : off < i / 2 ^ slot = omega (arith, le, odd, off_is) in
    let over : nat_le (i / 2 ^ slot) off ≡ false = lt-leb _ _ above in
    let higher : n / 2 ^ suc slot ≤ i / 2 ^ suc slot = omega (arith, half, mine, le) in
    let passed : not (nat_le (i / 2 ^ slot) off) ≡ true = rw over refl in
    and_from _ _ (le-leb _ _ higher) passed)))

-- a slot that has none of all entries
pub slot_nothing : (H : List ℕ → Digest) (es : List (Option Digest)) (ts : List Place) (all : List ℕ) → StandAt es ts all
    → (q : Place) (rows : List (List Sibling)) → is_root (length es) q.row q.off ≡ true → filter (λ i. i / 2 ^ q.row == q.off) all ≡ []
    → AreMore H es ts q rows rows
slot_nothing H es ts all at q rows root none = more_nothing H es ts q rows (λ row h.
    ⊎_elim
    (λ below. beneath_nothing H es ts q (λ k r o e f. bare (suc k) r o e f) row below)
    (λ top. let same : row ≡ q.row = omega (arith, h, top) in
    subst (λ r. beneath H es ts q r ≡ []) (sym same) (beneath_here H es ts q
    ∙ in_row-none H es ts q.row q.off 1 (λ o le lt. let e : o ≡ q.off = omega (arith, le, lt) in
    not_needed-root (length es) ts q.row o (ap (is_root (length es) q.row) e ∙ root))))
    (cases_lt row q.row))
  where
    bare : (k r o : ℕ) → r + k ≡ q.row → o / 2 ^ k ≡ q.off → cover ts r o ≡ None
    bare = uncovered es ts all at q.row q.off q (InForest-root (length es) q.row q.off root) (tree_at-root es q.row q.off root)
        (λ i h e. none_spent _ i none (filter_spent (λ j. j / 2 ^ q.row == q.off) all i h (eq-eqb _ _ e)))

-- ---- before the first slot, and behind the last

pub all_behind : (n : ℕ) (all : List ℕ) → n < 2 ^ 40 → all ≡ behind n 40 all
all_behind n all few = sym (every all)
  where
    none : n / 2 ^ 40 ≡ 0
    none = div-eq_of_lt few

    every : (xs : List ℕ) → filter (λ i. nat_le (n / 2 ^ 40) (i / 2 ^ 40)) xs ≡ xs
    every [] = refl
    every (x ∷ xs) =
        let low : n / 2 ^ 40 ≤ x / 2 ^ 40 = omega (arith, none) in
        let passes : nat_le (n / 2 ^ 40) (x / 2 ^ 40) ≡ true = le-leb _ _ low in
        rw passes (ap (λ ys. x ∷ ys) (every xs))

pub from_nothing : (H : List ℕ → Digest) (es : List (Option Digest)) (ts : List Place) (rows : List (List Sibling)) → length es < 2 ^ 40
    → ((row : ℕ) → list_of rows row ≡ []) → AreFrom H es ts 40 rows
from_nothing H es ts rows few none = record { is = λ row. none row ∙ ap (in_row H es ts row 0) (sym (narrow row)) }
  where
    empty : length es / 2 ^ 40 ≡ 0
    empty = div-eq_of_lt few

    outside : (n row : ℕ) → (InForest n row 0 → ⊥) → n / 2 ^ row ≡ 0
    outside n row h = ⊎_elim (λ some. absurd (h some)) (λ le. omega (arith, le)) (cases_lt 0 (n / 2 ^ row))

    narrow : (row : ℕ) → width_from (length es) 40 row ≡ 0
    narrow row =
        ⊎_elim
        (λ over. width_over (length es) 40 row over ∙ outside (length es) row (λ h. omega (arith, row_small (length es) row 0 40 h few, over)))
        (λ under. let nothing : 0 * 2 ^ (40 - row) ≡ 0 = omega arith in
        width_under (length es) 40 row under ∙ (ap (λ x. x * 2 ^ (40 - row)) empty ∙ nothing))
        (cases_lt 40 row)

-- live entries stand at their places
pub stand_there : (es : List (Option Digest)) (numbers : List ℕ) → All (λ i. is_live es i ≡ true) numbers → StandAt es (places_of es numbers) numbers
stand_there es [] live = tt
stand_there es (i ∷ is) live =
    let d = some_from_test (get_or es i None) (All-head (λ j. is_live es j ≡ true) i is live) in
    let found = entry_found es i d.0 d.1 in
    let place : entry_place es i ≡ Some found.0 = found.1 in
    subst (λ ps. StandAt es ps (i ∷ is)) (let one : places_of es (i ∷ is) ≡ found.0 ∷ places_of es is = rw place refl in sym one)
    ((d.0, found.2), stand_there es is (All-tail (λ j. is_live es j ≡ true) i is live))

-- ---- all rows in one list

joined_rows : (H : List ℕ → Digest) (es : List (Option Digest)) (ts : List Place) (k r : ℕ) (rows : List (List Sibling)) → length rows ≡ k
    → ((i : ℕ) → i < k → list_of rows i ≡ in_row H es ts (r + i) 0 (length es / 2 ^ (r + i)))
    → flat_map (λ row. row) rows ≡ filter_map (standing H es) (filter (is_needed (length es) ts) (places_from (length es) k r))
joined_rows H es ts zero r [] len are = refl
joined_rows H es ts zero r (x ∷ xs) len are = absurd (omega (arith, len))
joined_rows H es ts (suc k) r [] len are = absurd (omega (arith, len))
joined_rows H es ts (suc k) r (row ∷ rows) len are =
    let n = length es in
    let first : r + 0 ≡ r = omega arith in
    let here : row ≡ in_row H es ts r 0 (n / 2 ^ r) = are 0 (omega arith) ∙ ap (λ j. in_row H es ts j 0 (n / 2 ^ j)) first in
    let rest = joined_rows H es ts k (suc r) rows (omega (arith, len)) (λ i lt.
    let e : r + suc i ≡ suc r + i = omega arith in
    are (suc i) (omega (arith, lt)) ∙ ap (λ j. in_row H es ts j 0 (n / 2 ^ j)) e) in
    ap₂ (λ xs ys. xs ++ ys) here rest
    ∙ (sym (filter_map-append (standing H es) (filter (is_needed n ts) (row_places r 0 (n / 2 ^ r)))
    (filter (is_needed n ts) (places_from n k (suc r))))
    ∙ ap (filter_map (standing H es)) (sym (filter-append (is_needed n ts) (row_places r 0 (n / 2 ^ r)) (places_from n k (suc r)))))

pub proof_joined : (H : List ℕ → Digest) (es : List (Option Digest)) (numbers : List ℕ) (rows : List (List Sibling)) → HasRows (length es) rows
    → ((row : ℕ) → list_of rows row ≡ in_row H es (places_of es numbers) row 0 (length es / 2 ^ row))
    → flat_map (λ row. row) rows ≡ proof_of H es numbers
proof_joined H es numbers rows wide are =
    let n = length es in
    let k = length rows in
    let ts = places_of es numbers in
    joined_rows H es ts k 0 rows refl (λ i lt. let e : 0 + i ≡ i = omega arith in are i ∙ ap (λ j. in_row H es ts j 0 (n / 2 ^ j)) (sym e))
    ∙ ap (λ ps. filter_map (standing H es) (filter (is_needed n ts) ps))
    (same_ascending (places_from n k 0) (places n) (rows_ascending n k 0) (places_ascending n)
    (λ r o h. places_have n r o (rows_had n k 0 r o h).0)
    (λ r o h. let within = places_had n r o h in let low : r < k = (wide r).1 (omega (arith, within)) in
    rows_have n k 0 r o within (omega arith) (omega (arith, low))))
