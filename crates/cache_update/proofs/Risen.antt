-- What stands beneath no slot below the highest empty root that is joined stays where it is.
use Rattle.std.proofs.Common.{◌≡◌, ℕ, zero, suc, ◌+◌, ◌-◌, ◌*◌, ◌/◌, ◌%◌, ◌^◌, ◌<◌, ◌≤◌, Bool, true, false, cond, List, [], ◌∷◌, length, get_or, All}
use Rattle.std.proofs.Common.{None, is_none, refl, sym, ap, ap₂, ◌∙◌, subst, ⊎_elim, arith, eqb-true, nat_lt, ltb-true, lt-ltb, le-ltb}
use Rattle.std.specs.Prelude.{◌==◌}
use Rattle.std.proofs.lemmas.Bool.{cases_Bool, cases_eq, cases_lt, true≢false, eq-eqb}
use Rattle.std.proofs.lemmas.List.{get_or_default}
use Rattle.std.proofs.lemmas.Nat.{pow_pos}
use Rattle.std.proofs.lemmas.List.Elements.{All-head, All-tail}
use Rattle.std.proofs.Math.Nat.{div-lt_iff_lt-mul, div-mul-le_self, mod-eq_of_lt, mul-le-mul_left, pow-le-pow_right}
use Rattle.uo_digest.specs.declared.digest.Digest.{Digest}
use Rattle.forest_place.specs.declared.place.Place.{Place}
use Rattle.forest_place.specs.Forest.{InForest, is_root, root_off}
use Rattle.forest_place.proofs.Listed.{place}
use Rattle.forest_place.proofs.Parts.{parts-suc, row_below, InForest-up, InForest-down, InForest-beneath, not_root-down, root_off-is_root, half_pow}
use Rattle.forest_place.specs.Places.{is_before_place, child}
use Rattle.forest_model.specs.Addition.{all_slots, carried_place}
use Rattle.forest_roots.specs.declared.joins.Join.{Join}
use Rattle.cache_model.specs.Cache.{raised, raised_held}
use Rattle.cache_model.specs.Lists.{AscendByPlace}
use Rattle.cache_model.specs.Search.{IsSplit}
use Rattle.cache_model.specs.Steps.{put_all}
use Rattle.cache_model.specs.Undo.{held_key}
use Rattle.cache_model.proofs.Raising.{raised-step, raised-joined, raised-same, slot_from}
use Rattle.cache_update.specs.Joins.{is_empty_of}
use Rattle.cache_update.specs.AdditionMoves.{AreFull, stays}
use Rattle.cache_update.proofs.Raised.{put_again}

module _ (e : ℕ → Bool) (n m top : ℕ) (all : all_slots n m ≡ true) (full : (row : ℕ) → top ≤ row → row < m → e row ≡ false) where
  -- what is carried stands at the end of its row
  carried_above : (k row : ℕ) → top ≤ row → row + k ≡ m → carried_place e n k row ≡ place row (n / 2 ^ row)
  carried_above zero row le f = refl
  carried_above (suc k) row le f =
      let q = carried_above k (suc row) (omega (arith, le)) (omega (arith, f)) in
      let odd : n / 2 ^ row % 2 ≡ 1 = eqb-true _ _ (slot_from n m row all (omega (arith, f))) in
      let up = parts-suc n row in
      let a : suc row - 1 ≡ row = omega arith in
      let b : 2 * (n / 2 ^ suc row) + 1 ≡ n / 2 ^ row = omega (arith, up, odd) in
      let z : e row ≡ false = full row le (omega (arith, f)) in
      ap (λ (v : Bool). cond v (carried_place e n k (suc row)) (child 1 (carried_place e n k (suc row)))) z ∙ (ap (child 1) q ∙ ap₂ place a b)

  above : (k r o : ℕ) → n - r ≡ k → top ≤ r → InForest n r o → raised e n m r o ≡ place r o
  above zero r o f le h = let lt = row_below n r o h in absurd (omega (arith, lt, f))
  above (suc k) r o f le h =
      ⊎_elim
      (λ t. ⊎_elim
      (λ lt.
      let w = root_off-is_root n r o t in
      let odd : n / 2 ^ r % 2 ≡ 1 = eqb-true _ _ w.1 in
      let at : o ≡ root_off n r = w.0 in
      let up = parts-suc n r in
      let a : suc r - 1 ≡ r = omega arith in
      let b : 2 * (n / 2 ^ suc r) + 0 ≡ o = omega (arith, up, odd, at) in
      raised-joined e n m r o t lt ∙ (ap (child 0) (carried_above (m - suc r) (suc r) (omega (arith, le)) (omega (arith, lt))) ∙ ap₂ place a b))
      (λ ge. raised-same e n m r o t ge)
      (cases_lt r m))
      (λ other.
      let a : suc r - 1 ≡ r = omega arith in
      let b : 2 * (o / 2) + o % 2 ≡ o = omega arith in
      raised-step e n m r o h ∙ (rw other (ap (child (o % 2))
      (above k (suc r) (o / 2) (omega (arith, f)) (omega (arith, le)) (InForest-up n r o h other)) ∙ ap₂ place a b)))
      (cases_Bool (is_root n r o))

  below : (k r o : ℕ) → r + k ≡ top → InForest n (r + k) (o / 2 ^ k) → raised e n m r o ≡ place r o
  below zero r o f h =
      let a : r + 0 ≡ r = omega arith in
      let b : o / 1 ≡ o = omega arith in
      above (n - r) r o refl (omega (arith, f)) (subst (λ x. InForest n r x) b (subst (λ x. InForest n x (o / 1)) a h))
  below (suc k) r o f h =
      let s : r + suc k ≡ suc r + k = omega arith in
      let up : InForest n (suc r + k) (o / 2 / 2 ^ k) =
      subst (InForest n (suc r + k)) (half_pow o k) (subst (λ x. InForest n x (o / 2 ^ suc k)) s h) in
      let within = InForest-beneath n k (suc r) (o / 2) up in
      let a : suc r - 1 ≡ r = omega arith in
      let b : 2 * (o / 2) + o % 2 ≡ o = omega arith in
      raised-step e n m r o (InForest-down n r o within)
      ∙ (rw (not_root-down n r o within) (ap (child (o % 2)) (below k (suc r) (o / 2) (omega (arith, f)) up) ∙ ap₂ place a b))

  pub stays_put : (p : Place) → InForest n p.row p.off → stays n top p ≡ true → p ≡ raised e n m p.row p.off
  stays_put p h t =
      ⊎_elim
      (λ lt.
      let z : nat_lt (p.off / 2 ^ (top - p.row)) (n / 2 ^ top) ≡ true = rw (lt-ltb p.row top lt) at t in
      let s : top ≡ p.row + (top - p.row) = omega (arith, lt) in
      let w : InForest n top (p.off / 2 ^ (top - p.row)) = ltb-true (p.off / 2 ^ (top - p.row)) (n / 2 ^ top) z in
      sym (below (top - p.row) p.row p.off (sym s) (subst (λ x. InForest n x (p.off / 2 ^ (top - p.row))) s w)))
      (λ ge. sym (above (n - p.row) p.row p.off refl ge h))
      (cases_lt p.row top)

  same_held : (hs : List (Place × Digest)) → All (λ x. InForest n x.0.row x.0.off) hs → All (λ x. stays n top x.0 ≡ true) hs
      → raised_held e n m hs ≡ hs
  same_held [] h s = refl
  same_held (x ∷ xs) h s =
      ap₂ (λ (p : Place) ys. (p, x.1) ∷ ys)
      (sym (stays_put x.0 (All-head (λ x. InForest n x.0.row x.0.off) x xs h) (All-head (λ x. stays n top x.0 ≡ true) x xs s)))
      (same_held xs (All-tail (λ x. InForest n x.0.row x.0.off) x xs h) (All-tail (λ x. stays n top x.0 ≡ true) x xs s))

  pub held_stay : (hs : List (Place × Digest)) → All (λ x. InForest n x.0.row x.0.off) hs → AscendByPlace hs → All (λ x. stays n top x.0 ≡ true) hs
      → hs ≡ put_all (raised_held e n m hs) []
  held_stay hs h a s = sym (ap (λ xs. put_all xs []) (same_held hs h s) ∙ put_again hs a)

-- between two places of a row and of the next one nothing is held
pub none_from : (hs : List (Place × Digest)) (row off first next : ℕ) → IsSplit is_before_place held_key (place row off) hs first
    → IsSplit is_before_place held_key (place (row + 1) 0) hs next → next ≤ first → All (λ x. x.0.row ≡ row → x.0.off < off) hs
none_from hs row off first next s t le k d lt same =
    ⊎_elim
    (λ before.
    let b = s.low k d before in
    by_row (get_or hs k d).0 same b)
    (λ behind.
    let b = t.high k d (omega (arith, le, behind)) lt in
    absurd (true≢false (sym (in_front (get_or hs k d).0 same) ∙ b)))
    (cases_lt k first)
  where
    in_front : (p : Place) → p.row ≡ row → is_before_place p (place (row + 1) 0) ≡ true
    in_front p e = let z : p.row < row + 1 = omega (arith, e) in rw (lt-ltb p.row (row + 1) z) refl

    by_row : (p : Place) → p.row ≡ row → is_before_place p (place row off) ≡ true → p.off < off
    by_row p e b =
        let z : nat_lt p.row row ≡ false = le-ltb p.row row (omega (arith, e)) in
        let y : (p.row == row) ≡ true = eq-eqb p.row row e in
        ltb-true p.off off (rw (z, y) at b)

-- a place of a row below that stands before the last slots stays
pub stays_before : (n top row : ℕ) (p : Place) → row < top → p.row ≡ row → p.off < n / 2 ^ top * 2 ^ (top - row) → stays n top p ≡ true
stays_before n top row p lt e h =
    let low : p.row < top = omega (arith, e, lt) in
    let pos : 0 < 2 ^ (top - p.row) = pow_pos (top - p.row) in
    let w : p.off < n / 2 ^ top * 2 ^ (top - p.row) = subst (λ x. p.off < n / 2 ^ top * 2 ^ (top - x)) (sym e) h in
    let z : nat_lt (p.off / 2 ^ (top - p.row)) (n / 2 ^ top) ≡ true = lt-ltb _ _ ((div-lt_iff_lt-mul pos).1 w) in
    rw (lt-ltb p.row top low) z

pub stays_above : (n top : ℕ) (p : Place) → top ≤ p.row → stays n top p ≡ true
stays_above n top p le = rw (le-ltb p.row top le) refl

-- where no row below has any from the last slots on, all stay
pub all_stay : (n top : ℕ) (hs : List (Place × Digest)) → ((row : ℕ) → row < top
    → All (λ x. x.0.row ≡ row → x.0.off < n / 2 ^ top * 2 ^ (top - row)) hs) → All (λ x. stays n top x.0 ≡ true) hs
all_stay n top hs none k d lt =
    let p = (get_or hs k d).0 in
    ⊎_elim
    (λ low. stays_before n top p.row p low refl (none p.row low k d lt refl))
    (λ ge. stays_above n top p ge)
    (cases_lt p.row top)

-- a root more that is not empty
pub full_down : (js : List Join) (row : ℕ) (x : Join) → 0 < row → row ≤ length js → x ≡ get_or js (row - 1) x → is_none x.left ≡ false
    → AreFull js row → AreFull js (row - 1)
full_down js row x pos within e t full r le lt =
    ⊎_elim
    (λ same.
    let inside : row - 1 < length js = omega (arith, pos, within) in
    ap (is_empty_of js) same ∙ (ap (λ (j : Join). is_none j.left)
    (get_or_default js (row - 1) (record { row = 0; left = None; result = record { 0 = [] } }) x inside ∙ sym e) ∙ t))
    (λ other. full r (omega (arith, le, other)) lt)
    (cases_eq r (row - 1))

shift_small : (n top k : ℕ) → n < 2 ^ 40 → k ≤ top → n / 2 ^ top * 2 ^ k % 2 ^ 64 ≡ n / 2 ^ top * 2 ^ k
shift_small n top k few le =
    let two : 0 < 2 = omega arith in
    let a = mul-le-mul_left (n / 2 ^ top) (pow-le-pow_right two le) in
    let b = div-mul-le_self n (2 ^ top) in
    mod-eq_of_lt (omega (arith, few, a, b))

-- a row in which nothing is held from the last slots on
pub row_clear : (n top row r : ℕ) (hs : List (Place × Digest)) → n < 2 ^ 40 → row < top → r ≡ row
    → All (λ x. x.0.row ≡ row → x.0.off < n / 2 ^ top * 2 ^ (top - row) % 2 ^ 64) hs
    → All (λ x. x.0.row ≡ r → x.0.off < n / 2 ^ top * 2 ^ (top - r)) hs
row_clear n top row r hs few lt e a k d inside same =
    subst (λ v. (get_or hs k d).0.off < n / 2 ^ top * 2 ^ (top - v)) (sym e)
    (subst (λ v. (get_or hs k d).0.off < v) (shift_small n top (top - row) few (omega (arith, lt))) (a k d inside (same ∙ e)))
