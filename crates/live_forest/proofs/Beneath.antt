-- What is noted at and beneath a place.
use Rattle.std.proofs.Common.{◌≡◌, ◌≢◌, ℕ, zero, suc, ◌+◌, ◌-◌, ◌*◌, ◌/◌, ◌^◌, ◌<◌, ◌≤◌, true, false, List, [], ◌∷◌, ◌++◌, length, set, get_or}
use Rattle.std.proofs.Common.{Option, Some, None, refl, sym, ap, ap₂, ◌∙◌, subst, ⊎_elim, ◌⊎◌, inl, inr, arith}
use Rattle.std.specs.Prelude.{nat_le, filter, Result, Ok, Err, OnOk}
use Rattle.std.specs.List.{filter_map}
use Rattle.std.proofs.Math.Nat.{pow-suc}
use Rattle.std.proofs.lemmas.Bool.{cases_Bool, cases_lt, cases_eq, lt-leb, le-leb, false≢true}
use Rattle.std.proofs.lemmas.List.{append-nil, append_assoc, get_or-set_same}
use Rattle.std.proofs.lemmas.List.Elements.{filter-append, filter_map-append}
use Rattle.std.proofs.lemmas.Nat.{div-mul-add}
use Rattle.std.proofs.lemmas.Option.{none-some, same_Some, slice_get-get_or}
use Rattle.uo_digest.specs.declared.digest.Digest.{Digest}
use Rattle.forest_place.specs.declared.place.Place.{Place}
use Rattle.forest_place.specs.Forest.{is_root, sibling_off}
use Rattle.forest_place.specs.Places.{row_places}
use Rattle.forest_place.proofs.Parts.{half_pow}
use Rattle.forest_place.proofs.Siblings.{sibling_half}
use Rattle.forest_model.specs.Standing.{digest_at}
use Rattle.forest_model.specs.Cover.{Cover, cover, is_needed}
use Rattle.forest_model.proofs.Covers.{needed_parts}
use Rattle.live_forest.specs.declared.batch.Sibling.{Sibling}
use Rattle.live_forest.specs.Proving.{standing, in_row, beneath, list_of, AreMore}

-- ---- what is in a row

pub row_places-append : (row from a b : ℕ) → row_places row from (a + b) ≡ row_places row from a ++ row_places row (from + a) b
row_places-append row from zero b =
    let e : from + 0 ≡ from = omega arith in
    let none : 0 + b ≡ b = omega arith in
    ap₂ (row_places row) (sym e) none
row_places-append row from (suc a) b =
    let e : suc from + a ≡ from + suc a = omega arith in
    let more : suc a + b ≡ suc (a + b) = omega arith in
    ap (row_places row from) more ∙ ap (λ ps. record { row = row; off = from } ∷ ps)
    (row_places-append row (suc from) a b ∙ ap (λ k. row_places row (suc from) a ++ row_places row k b) e)

not_needed-beside : (n : ℕ) (ts : List Place) (r o : ℕ) → cover ts r (sibling_off o) ≡ None → is_needed n ts (record { row = r; off = o }) ≡ false
not_needed-beside n ts r o none =
    ⊎_elim
    (λ yes. let parts = needed_parts n ts r o yes in absurd (none-some parts.2.0 (sym none ∙ parts.2.1)))
    (λ no. no)
    (cases_Bool (is_needed n ts (record { row = r; off = o })))

not_needed-covered : (n : ℕ) (ts : List Place) (r o : ℕ) (c : Cover) → cover ts r o ≡ Some c → is_needed n ts (record { row = r; off = o }) ≡ false
not_needed-covered n ts r o c some =
    ⊎_elim
    (λ yes. let parts = needed_parts n ts r o yes in absurd (none-some c (sym parts.1 ∙ some)))
    (λ no. no)
    (cases_Bool (is_needed n ts (record { row = r; off = o })))

pub not_needed-root : (n : ℕ) (ts : List Place) (r o : ℕ) → is_root n r o ≡ true → is_needed n ts (record { row = r; off = o }) ≡ false
not_needed-root n ts r o root =
    ⊎_elim
    (λ yes. let parts = needed_parts n ts r o yes in absurd (false≢true (sym parts.0 ∙ root)))
    (λ no. no)
    (cases_Bool (is_needed n ts (record { row = r; off = o })))

pub twice : (o w : ℕ) → o * (w * 2) ≡ 2 * o * w
twice o w = omega arith

pub next : (o w : ℕ) → (o + 1) * w ≡ o * w + w
next o w = omega arith

pub by_order : (a b : ℕ) → (a ≤ b) ⊎ (b < a)
by_order a b = ⊎_elim (λ lt. inr lt) (λ le. inl le) (cases_lt b a)

module _ (H : List ℕ → Digest) (es : List (Option Digest)) (ts : List Place) where
  pub in_row-append : (row from a b : ℕ) → in_row H es ts row from (a + b) ≡ in_row H es ts row from a ++ in_row H es ts row (from + a) b
  in_row-append row from a b =
      ap (λ ps. filter_map (standing H es) (filter (is_needed (length es) ts) ps)) (row_places-append row from a b)
      ∙ (ap (filter_map (standing H es)) (filter-append (is_needed (length es) ts) (row_places row from a) (row_places row (from + a) b))
      ∙ filter_map-append (standing H es) (filter (is_needed (length es) ts) (row_places row from a))
      (filter (is_needed (length es) ts) (row_places row (from + a) b)))

  pub in_row-none : (row from count : ℕ) → ((o : ℕ) → from ≤ o → o < from + count → is_needed (length es) ts (record { row = row; off = o }) ≡ false)
      → in_row H es ts row from count ≡ []
  in_row-none row from zero none = refl
  in_row-none row from (suc count) none =
      let first : is_needed (length es) ts (record { row = row; off = from }) ≡ false = none from (omega arith) (omega arith) in
      rw first (in_row-none row (suc from) count (λ o le lt. none o (omega (arith, le)) (omega (arith, lt))))

  in_row-one : (row off : ℕ) → is_needed (length es) ts (record { row = row; off = off }) ≡ true
      → in_row H es ts row off 1 ≡ filter_map (standing H es) (record { row = row; off = off } ∷ [])
  in_row-one row off needed = rw needed refl

  -- ---- at and beneath a place

  pub beneath_above : (q : Place) (row : ℕ) → q.row < row → beneath H es ts q row ≡ []
  beneath_above q row over = let e : nat_le row q.row ≡ false = lt-leb row q.row over in rw e refl

  pub beneath_row : (q : Place) (row : ℕ) → row ≤ q.row → beneath H es ts q row ≡ in_row H es ts row (q.off * 2 ^ (q.row - row)) (2 ^ (q.row - row))
  beneath_row q row under = let e : nat_le row q.row ≡ true = le-leb row q.row under in rw e refl

  pub beneath_here : (q : Place) → beneath H es ts q q.row ≡ in_row H es ts q.row q.off 1
  beneath_here q =
      let e : q.row - q.row ≡ 0 = omega arith in
      let f : q.off * 1 ≡ q.off = omega arith in
      beneath_row q q.row (omega arith) ∙ (ap (λ k. in_row H es ts q.row (q.off * 2 ^ k) (2 ^ k)) e ∙ ap (λ o. in_row H es ts q.row o 1) f)

  -- where no place beneath is covered, none is needed there
  pub beneath_nothing : (q : Place) → ((k r o : ℕ) → r + suc k ≡ q.row → o / 2 ^ suc k ≡ q.off → cover ts r o ≡ None) → (row : ℕ) → row < q.row
      → beneath H es ts q row ≡ []
  beneath_nothing q none row under = beneath_row q row (omega (arith, under)) ∙ by_rows (q.row - suc row) (omega (arith, under))
    where
      within : (k o : ℕ) → q.off * 2 ^ k ≤ o → o < q.off * 2 ^ k + 2 ^ k → o / 2 ^ k ≡ q.off
      within k o le lt =
          let low = q.off * 2 ^ k in
          let e : low + (o - low) ≡ o = omega (arith, le) in
          ap (λ x. x / 2 ^ k) (sym e) ∙ div-mul-add q.off (2 ^ k) (o - low) (omega (arith, le, lt))

      by_rows : (k : ℕ) → row + suc k ≡ q.row → in_row H es ts row (q.off * 2 ^ (q.row - row)) (2 ^ (q.row - row)) ≡ []
      by_rows k e =
          let deep : q.row - row ≡ suc k = omega (arith, e) in
          ap (λ j. in_row H es ts row (q.off * 2 ^ j) (2 ^ j)) deep
          ∙ in_row-none row (q.off * 2 ^ suc k) (2 ^ suc k) (λ o le lt. not_needed-beside (length es) ts row o
          (none k row (sibling_off o) e (half_pow (sibling_off o) k
          ∙ (ap (λ x. x / 2 ^ k) (sibling_half o) ∙ (sym (half_pow o k) ∙ within (suc k) o le lt)))))

  -- nothing more
  pub more_nothing : (q : Place) (rows : List (List Sibling)) → ((row : ℕ) → row ≤ q.row → beneath H es ts q row ≡ []) → AreMore H es ts q rows rows
  more_nothing q rows none = record {
    is = λ row. sym (append-nil (list_of rows row)) ∙ ap (λ xs. list_of rows row ++ xs)
        (sym (⊎_elim (λ over. beneath_above q row over) (λ under. none row (omega (arith, under))) (cases_lt q.row row)));
  }

  -- where a place is needed and nothing beneath it, it is noted alone
  pub more_one : (q : Place) (old new : List (List Sibling)) → is_needed (length es) ts (record { row = q.row; off = q.off }) ≡ true
      → ((row : ℕ) → row < q.row → beneath H es ts q row ≡ []) → list_of new q.row ≡ list_of old q.row ++ filter_map (standing H es) (q ∷ [])
      → ((row : ℕ) → row ≢ q.row → list_of new row ≡ list_of old row) → AreMore H es ts q old new
  more_one q old new needed none here others = record {
    is = λ row.
        ⊎_elim
        (λ same. subst (λ r. list_of new r ≡ list_of old r ++ beneath H es ts q r) (sym same)
        (here ∙ ap (λ xs. list_of old q.row ++ xs) (sym (beneath_here q ∙ in_row-one q.row q.off needed))))
        (λ other. others row other ∙ (sym (append-nil (list_of old row))
        ∙ ap (λ xs. list_of old row ++ xs) (sym (⊎_elim (λ over. beneath_above q row over) (λ under. none row (omega (arith, under, other)))
        (cases_lt q.row row)))))
        (cases_eq row q.row);
  }

  pub covered_top : (q : Place) (c : Cover) → cover ts q.row q.off ≡ Some c → beneath H es ts q q.row ≡ []
  covered_top q c some = beneath_here q ∙ in_row-none q.row q.off 1 (λ o le lt. let e : o ≡ q.off = omega (arith, le, lt) in
      ap (λ x. is_needed (length es) ts (record { row = q.row; off = x })) e ∙ not_needed-covered (length es) ts q.row q.off c some)

  -- what is beneath the two places under a covered one is all that is beneath it
  module _ (q left right : Place) (c : Cover) (high : 0 < q.row) (lr : left.row ≡ q.row - 1) (lo : left.off ≡ 2 * q.off) (rr : right.row ≡ q.row - 1)
      (ro : right.off ≡ 2 * q.off + 1) (some : cover ts q.row q.off ≡ Some c) where
    at_top : (row : ℕ) → q.row ≤ row → beneath H es ts q row ≡ []
    at_top row h =
        ⊎_elim
        (λ over. beneath_above q row over)
        (λ under. let e : row ≡ q.row = omega (arith, h, under) in subst (λ r. beneath H es ts q r ≡ []) (sym e) (covered_top q c some))
        (cases_lt q.row row)

    both : (row : ℕ) → beneath H es ts left row ++ beneath H es ts right row ≡ beneath H es ts q row
    both row =
        ⊎_elim
        (λ under.
        let k = left.row - row in
        let deep : q.row - row ≡ suc k = omega (arith, under, lr, high) in
        let same : right.row - row ≡ k = omega (arith, lr, rr) in
        let double : 2 ^ suc k ≡ 2 ^ k + 2 ^ k = omega (arith, pow-suc 2 k) in
        let begin : q.off * 2 ^ suc k ≡ 2 * q.off * 2 ^ k = ap (λ x. q.off * x) (pow-suc 2 k) ∙ twice q.off (2 ^ k) in
        let middle : (2 * q.off + 1) * 2 ^ k ≡ 2 * q.off * 2 ^ k + 2 ^ k = next (2 * q.off) (2 ^ k) in
        ap₂ (λ xs ys. xs ++ ys)
        (beneath_row left row (omega (arith, under)) ∙ ap (λ o. in_row H es ts row (o * 2 ^ k) (2 ^ k)) lo)
        (beneath_row right row (omega (arith, under, lr, rr)) ∙ (ap (λ j. in_row H es ts row (right.off * 2 ^ j) (2 ^ j)) same
        ∙ ap (λ o. in_row H es ts row o (2 ^ k)) (ap (λ o. o * 2 ^ k) ro ∙ middle)))
        ∙ (sym (in_row-append row (2 * q.off * 2 ^ k) (2 ^ k) (2 ^ k))
        ∙ (ap₂ (λ o m. in_row H es ts row o m) (sym begin) (sym double)
        ∙ (ap (λ j. in_row H es ts row (q.off * 2 ^ j) (2 ^ j)) (sym deep) ∙ sym (beneath_row q row (omega (arith, under, lr)))))))
        (λ over. ap₂ (λ xs ys. xs ++ ys) (beneath_above left row (omega (arith, over))) (beneath_above right row (omega (arith, over, lr, rr)))
        ∙ sym (at_top row (omega (arith, over, lr))))
        (by_order row left.row)

    pub more_halves : (old mid new : List (List Sibling)) → AreMore H es ts left old mid → AreMore H es ts right mid new → AreMore H es ts q old new
    more_halves old mid new low above = record {
      is = λ row. above.is row ∙ (ap (λ xs. xs ++ beneath H es ts right row) (low.is row)
          ∙ (append_assoc (list_of old row) (beneath H es ts left row) (beneath H es ts right row) ∙ ap (λ xs. list_of old row ++ xs) (both row)));
    }

    -- in each row one of the two has nothing, so it does not matter which is noted first
    pub more_across : (old mid new : List (List Sibling)) → ((row : ℕ) → (beneath H es ts left row ≡ []) ⊎ (beneath H es ts right row ≡ []))
        → AreMore H es ts right old mid → AreMore H es ts left mid new → AreMore H es ts q old new
    more_across old mid new apart above low = record {
      is = λ row. low.is row ∙ (ap (λ xs. xs ++ beneath H es ts left row) (above.is row)
          ∙ (append_assoc (list_of old row) (beneath H es ts right row) (beneath H es ts left row)
          ∙ ap (λ xs. list_of old row ++ xs) (either row ∙ both row)));
    }
      where
        either : (row : ℕ) → beneath H es ts right row ++ beneath H es ts left row ≡ beneath H es ts left row ++ beneath H es ts right row
        either row =
            ⊎_elim
            (λ none. ap (λ xs. beneath H es ts right row ++ xs) none
            ∙ (append-nil (beneath H es ts right row) ∙ ap (λ xs. xs ++ beneath H es ts right row) (sym none)))
            (λ none. ap (λ xs. xs ++ beneath H es ts left row) none
            ∙ (sym (append-nil (beneath H es ts left row)) ∙ ap (λ xs. beneath H es ts left row ++ xs) (sym none)))
            (apart row)

-- what was put to a row stands there, if there was memory for it
pub put_here : {A F : Type 0} (done : Result A F) (rows : List (List Sibling)) (x : Sibling) (old new : List Sibling) → x.place.row < length rows
    → old ≡ get_or rows x.place.row old → OnOk done (new ≡ old ++ x ∷ [])
    → OnOk done (list_of (set rows x.place.row new) x.place.row ≡ list_of rows x.place.row ++ x ∷ [])
put_here (Ok u) rows x old new within is more =
    let there : list_of rows x.place.row ≡ old =
    same_Some _ _ (sym (slice_get-get_or rows x.place.row [] within) ∙ slice_get-get_or rows x.place.row old within) ∙ sym is in
    get_or-set_same rows x.place.row new [] within ∙ (more ∙ ap (λ xs. xs ++ x ∷ []) (sym there))
put_here (Err e) rows x old new within is more = tt

-- a place is noted with the digest that stands there
pub noted_is : (H : List ℕ → Digest) (es : List (Option Digest)) (q : Place) (d : Digest) → digest_at H es q.row q.off ≡ Some d
    → filter_map (standing H es) (q ∷ []) ≡ record { place = q; digest = d } ∷ []
noted_is H es q d stands = rw stands refl
