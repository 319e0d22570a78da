-- Parts that are made anew row by row: a step of a row, and parts that wait.
use Rattle.std.proofs.Common.{◌≡◌, ◌≢◌, ℕ, zero, suc, ◌+◌, ◌-◌, ◌*◌, ◌/◌, ◌^◌, ◌<◌, ◌≤◌, ◌⊎◌, inl, inr, Bool, true, false, List, [], ◌∷◌, length}
use Rattle.std.proofs.Common.{get_or, set, Option, Some, None, refl, sym, ap, ap₂, ◌∙◌, subst, ⊎_elim, arith, eq-eqb}
use Rattle.std.specs.Prelude.{◌==◌, is_some}
use Rattle.std.proofs.lemmas.Bool.{cases_eq, cases_lt, or_cases, eqb-true, false≢true, true≢false}
use Rattle.std.proofs.lemmas.List.{get_or-set_same, get_or-set_other, length-set, ext_get_or}
use Rattle.std.proofs.lemmas.List.Folds.{list_any_at}
use Rattle.uo_digest.specs.declared.digest.Digest.{Digest}
use Rattle.forest_model.specs.Content.{content, join_digests}
use Rattle.forest_model.proofs.Unique.{digest-join}
use Rattle.forest_place.specs.Forest.{InForest}
use Rattle.forest_place.proofs.Parts.{parts-suc, InForest-left, InForest-right}
use Rattle.live_forest.specs.declared.waiting.Waiting.{Waiting}
use Rattle.live_forest.specs.Stores.{StoreState, stored, is_listed, IsPartKept, HasRoomOf}
use Rattle.live_forest.specs.Parts.{leaves_of, part_digest, AreParts}
use Rattle.live_forest.specs.Rows.{IsJoined, HasNone, is_one, part_above, AreUntouched, KeepsEntries, AreBelow, IsRowStep, HasRoom, Waits, AreWaiting}
use Rattle.live_forest.specs.Rows.{IsRenewed, AreDone, AreTaken}
use Rattle.live_forest.proofs.Refreshing.{digest-leaf, joined_right, length-leaves_of, leaves_of-at, room_kept, room_same}

-- ---- new entries

-- a part has an entry of a list, or none
none_more : (x : ℕ) (xs : List ℕ) (row o : ℕ) → x / 2 ^ suc row ≢ o → HasNone (is_one xs) (suc row) o → HasNone (is_one (x ∷ xs)) (suc row) o
none_more x xs row o other none i is at =
    ⊎_elim
    (λ here. other (ap (λ k. k / 2 ^ suc row) (eqb-true x i here) ∙ at))
    (λ later. none i later at)
    (or_cases (x == i) (is_one xs i) is)

pub one_or_none : (ns : List ℕ) (row o : ℕ) → ((k : ℕ) × ((k < length ns) × (part_above ns row k ≡ o))) ⊎ HasNone (is_one ns) (suc row) o
one_or_none [] row o = inr (λ i is. absurd (false≢true is))
one_or_none (x ∷ xs) row o =
    ⊎_elim
    (λ here. inl (0, (omega arith, here)))
    (λ other. ⊎_elim
    (λ w. inl (suc w.0, (omega (arith, w.1.0), w.1.1)))
    (λ none. inr (none_more x xs row o other none))
    (one_or_none xs row o))
    (cases_eq (x / 2 ^ suc row) o)

-- each entry of a list is one of it
pub one_at : (ns : List ℕ) (k : ℕ) → k < length ns → is_one ns (get_or ns k 0) ≡ true
one_at ns k lt = list_any_at (λ j. j == get_or ns k 0) ns k 0 lt (eq-eqb (get_or ns k 0) (get_or ns k 0) refl)

-- what a part has not, its halves have not
half_none : (new : ℕ → Bool) (row off half : ℕ) → half / 2 ≡ off → HasNone new (suc row) off → HasNone new row half
half_none new row off half e none = λ i is at. none i is (omega (arith, parts-suc i row, at, e))

-- above a row without parts is none that has one
none_above : (n row k : ℕ) → n / 2 ^ row ≡ 0 → n / 2 ^ (k + row) ≡ 0
none_above n row zero none = let e : 0 + row ≡ row = omega arith in ap (λ x. n / 2 ^ x) e ∙ none
none_above n row (suc k) none =
    let e : suc k + row ≡ suc (k + row) = omega arith in
    ap (λ x. n / 2 ^ x) e ∙ parts-suc n (k + row) ∙ ap (λ x. x / 2) (none_above n row k none)

-- ---- what is kept for the entries stays

pub kept_same : (s : StoreState) → KeepsEntries s s
kept_same s = record { room = room_same s; entries = λ i. refl }

pub kept_leaves : (s s' : StoreState) → KeepsEntries s s' → leaves_of s' ≡ leaves_of s
kept_leaves s s' kept =
    ext_get_or None (leaves_of s') (leaves_of s) (length-leaves_of s' ∙ kept.room.len ∙ sym (length-leaves_of s))
    (λ i lt.
    let low' : i < s'.len = omega (arith, lt, length-leaves_of s') in
    leaves_of-at s' i low' ∙ kept.entries i ∙ sym (leaves_of-at s i (omega (arith, low', kept.room.len))))

pub kept_more : (H : List ℕ → Digest) (new : ℕ → Bool) (row : ℕ) (a b c : StoreState) → KeepsEntries a b → IsRowStep H new row b c
    → KeepsEntries a c
kept_more H new row a b c kept step = record {
  room = room_kept a b c kept.room step.room;
  entries = λ i. step.below 0 i (omega arith) ∙ kept.entries i;
}

module _ (H : List ℕ → Digest) where
  -- a part and its halves stay
  joined_same : (s s' : StoreState) (row off : ℕ) → stored s' (suc row) off ≡ stored s (suc row) off
      → stored s' row (2 * off) ≡ stored s row (2 * off) → stored s' row (2 * off + 1) ≡ stored s row (2 * off + 1) → IsJoined H s row off
      → IsJoined H s' row off
  joined_same s s' row off up left right joined = up ∙ joined ∙ ap₂ (join_digests H) (sym left) (sym right)

  -- ---- a step of a row

  pub step_same : (new : ℕ → Bool) (row : ℕ) (s : StoreState) → IsRowStep H new row s s
  step_same new row s = record { room = room_same s; below = λ r o le. refl; joined = λ o joined. joined; others = λ r o none. refl }

  pub step_more : (new : ℕ → Bool) (row : ℕ) (a b c : StoreState) → IsRowStep H new row a b → IsRowStep H new row b c → IsRowStep H new row a c
  step_more new row a b c first second = record {
    room = room_kept a b c first.room second.room;
    below = λ r o le. second.below r o le ∙ first.below r o le;
    joined = λ o joined. second.joined o (first.joined o joined);
    others = λ r o none. second.others r o none ∙ first.others r o none;
  }

  put_below : (row number : ℕ) (s s' : StoreState) (own : Option Digest) → IsPartKept s s' row number own → (r o : ℕ) → r ≤ row
      → stored s' r o ≡ stored s r o
  put_below row number s s' own put r o le = put.others r o (λ up. absurd (omega (arith, up, le)))

  -- a part is put
  pub put_joined : (row number : ℕ) (s s' : StoreState) (own : Option Digest) → let off = number / 2 ^ suc row in
      own ≡ join_digests H (stored s row (2 * off)) (stored s row (2 * off + 1)) → IsPartKept s s' row number own → IsJoined H s' row off
  put_joined row number s s' own right put =
      let off = number / 2 ^ suc row in
      let below = put_below row number s s' own put in
      put.here ∙ right ∙ ap₂ (join_digests H) (sym (below row (2 * off) (omega arith))) (sym (below row (2 * off + 1) (omega arith)))

  pub put_step : (new : ℕ → Bool) (row number : ℕ) (s s' : StoreState) (own : Option Digest) → new number ≡ true
      → (let off = number / 2 ^ suc row in own ≡ join_digests H (stored s row (2 * off)) (stored s row (2 * off + 1)))
      → IsPartKept s s' row number own → HasRoomOf s s' → IsRowStep H new row s s'
  put_step new row number s s' own is right put room =
      let below = put_below row number s s' own put in
      record {
        room = room;
        below = below;
        joined = λ o joined.
            ⊎_elim
            (λ same. subst (λ x. IsJoined H s' row x) same (put_joined row number s s' own right put))
            (λ other. joined_same s s' row o (put.others (suc row) o (λ up. other)) (below row (2 * o) (omega arith))
            (below row (2 * o + 1) (omega arith))
            joined)
            (cases_eq (number / 2 ^ suc row) o);
        others = λ r o none. put.others r o (λ up. none number is);
      }

  -- what is made of its halves still is
  step_keeps : (new : ℕ → Bool) (row : ℕ) (s s' : StoreState) (r o : ℕ) → IsRowStep H new row s s' → (row < r → HasNone new (suc r) o)
      → IsJoined H s r o → IsJoined H s' r o
  step_keeps new row s s' r o step none joined =
      ⊎_elim
      (λ low. joined_same s s' r o (step.below (suc r) o low) (step.below r (2 * o) (omega (arith, low)))
      (step.below r (2 * o + 1) (omega (arith, low)))
      joined)
      (λ high. ⊎_elim
      (λ same. subst (λ x. IsJoined H s' x o) (sym same) (step.joined o (subst (λ x. IsJoined H s x o) same joined)))
      (λ other.
      let apart = none (omega (arith, high, other)) in
      joined_same s s' r o (step.others (suc r) o apart) (step.others r (2 * o) (half_none new r o (2 * o) (omega arith) apart))
      (step.others r (2 * o + 1) (half_none new r o (2 * o + 1) (omega arith) apart))
      joined)
      (cases_eq r row))
      (cases_lt r row)

  -- ---- parts that wait

  pub waiting_stays : (n row : ℕ) (s s' : StoreState) (w : Waiting) → HasRoomOf s s' → ((r o : ℕ) → r ≤ row → stored s' r o ≡ stored s r o)
      → AreWaiting n s row w → AreWaiting n s' row w
  waiting_stays n row s s' w room below waiting = record {
    room = waiting.room;
    within = waiting.within;
    listed = λ j lt. room.listed (get_or w.numbers j 0) ∙ waiting.listed j lt;
    left = λ j lt. ap is_some (below row (2 * part_above w.numbers row j) (omega arith)) ∙ waiting.left j lt;
    right = λ j lt. ap is_some (below row (2 * part_above w.numbers row j + 1) (omega arith)) ∙ waiting.right j lt;
  }

  pub none_waits : (n row : ℕ) (s : StoreState) (w : Waiting) → HasRoom w
      → AreWaiting n s row (record { numbers = w.numbers; count = 0 })
  none_waits n row s w room = record {
    room = record { numbers = room.numbers; few = omega arith };
    within = λ j lt. absurd (omega (arith, lt));
    listed = λ j lt. absurd (omega (arith, lt));
    left = λ j lt. absurd (omega (arith, lt));
    right = λ j lt. absurd (omega (arith, lt));
  }

  -- a part is made anew
  pub renewed_put : (n row number : ℕ) (s s' : StoreState) (own : Option Digest) (w : Waiting)
      → (let off = number / 2 ^ suc row in own ≡ join_digests H (stored s row (2 * off)) (stored s row (2 * off + 1)))
      → IsPartKept s s' row number own → HasRoomOf s s' → AreWaiting n s row w → IsRenewed H n row number s s' w w
  renewed_put n row number s s' own w right put room waiting = record {
    here = inl (put_joined row number s s' own right put);
    step = λ new is. put_step new row number s s' own is right put room;
    still = λ o waits. waits;
    waiting = waiting_stays n row s s' w room (put_below row number s s' own put) waiting;
    all = λ new is all. all;
  }

  -- or noted
  pub renewed_noted : (n row number : ℕ) (s : StoreState) (w w' : Waiting) → w.count < 16 → w'.numbers ≡ set w.numbers w.count number
      → w'.count ≡ w.count + 1 → InForest n (suc row) (number / 2 ^ suc row) → is_listed s.pages number ≡ true
      → is_some (stored s row (2 * (number / 2 ^ suc row))) ≡ true → is_some (stored s row (2 * (number / 2 ^ suc row) + 1)) ≡ true
      → AreWaiting n s row w → IsRenewed H n row number s s w w'
  renewed_noted n row number s w w' one numbers count within listed left right waiting =
      let room = waiting.room in
      let last : get_or w'.numbers w.count 0 ≡ number = ap (λ (xs : List ℕ). get_or xs w.count 0) numbers
      ∙ get_or-set_same w.numbers w.count number 0 (omega (arith, one, room.numbers)) in
      let old = λ (j : ℕ) (ne : j ≢ w.count). ap (λ (xs : List ℕ). get_or xs j 0) numbers ∙ get_or-set_other w.numbers w.count j number 0 ne in
      let above : ℕ → ℕ = λ i. i / 2 ^ suc row in
      let is = λ (j : ℕ) (same : j ≡ w.count). ap (λ k. get_or w'.numbers k 0) same ∙ last in
      record {
        here = inr (w.count, (omega (arith, count), ap above last));
        step = λ new one. step_same new row s;
        still = λ o waits.
            (waits.0, (omega (arith, count, waits.1.0), ap above (old waits.0 (λ e. omega (arith, e, waits.1.0))) ∙ waits.1.1));
        waiting = record {
          room = record {
            numbers = ap length numbers ∙ length-set w.numbers w.count number ∙ room.numbers;
            few = omega (arith, count, one);
          };
          within = λ j lt.
              ⊎_elim
              (λ same. subst (λ i. InForest n (suc row) (i / 2 ^ suc row)) (sym (is j same)) within)
              (λ ne. subst (λ i. InForest n (suc row) (i / 2 ^ suc row)) (sym (old j ne)) (waiting.within j (omega (arith, lt, count, ne))))
              (cases_eq j w.count);
          listed = λ j lt.
              ⊎_elim
              (λ same. ap (is_listed s.pages) (is j same) ∙ listed)
              (λ ne. ap (is_listed s.pages) (old j ne) ∙ waiting.listed j (omega (arith, lt, count, ne)))
              (cases_eq j w.count);
          left = λ j lt.
              ⊎_elim
              (λ same. ap (λ i. is_some (stored s row (2 * (i / 2 ^ suc row)))) (is j same) ∙ left)
              (λ ne.
              ap (λ i. is_some (stored s row (2 * (i / 2 ^ suc row)))) (old j ne) ∙ waiting.left j (omega (arith, lt, count, ne)))
              (cases_eq j w.count);
          right = λ j lt.
              ⊎_elim
              (λ same. ap (λ i. is_some (stored s row (2 * (i / 2 ^ suc row) + 1))) (is j same) ∙ right)
              (λ ne.
              ap (λ i. is_some (stored s row (2 * (i / 2 ^ suc row) + 1))) (old j ne) ∙ waiting.right j (omega (arith, lt, count, ne)))
              (cases_eq j w.count);
        };
        all = λ new one before j lt.
            ⊎_elim
            (λ same. ap new (is j same) ∙ one)
            (λ ne. ap new (old j ne) ∙ before j (omega (arith, lt, count, ne)))
            (cases_eq j w.count);
      }

  -- what is kept of two halves, of which one has nothing
  pub alone_left : (left right : Option Digest) → is_some right ≡ false → left ≡ join_digests H left right
  alone_left None None e = refl
  alone_left (Some l) None e = refl
  alone_left left (Some r) e = absurd (true≢false e)

  pub alone_right : (left right : Option Digest) → is_some left ≡ false → right ≡ join_digests H left right
  alone_right None right e = refl
  alone_right (Some l) right e = absurd (true≢false e)

  -- ---- all rows

  -- entries are written
  pub parts_joined : (n : ℕ) (s : StoreState) (r o : ℕ) → AreParts H n (leaves_of s) s → InForest n (suc r) o → IsJoined H s r o
  parts_joined n s r o right h =
      let leaves = leaves_of s in
      right.is (suc r) o h ∙ digest-join H (content leaves r (2 * o)) (content leaves r (2 * o + 1))
      ∙ ap₂ (join_digests H) (sym (right.is r (2 * o) (InForest-left n r o h))) (sym (right.is r (2 * o + 1) (InForest-right n r o h)))

  pub rows_begin : (n m : ℕ) (s s' : StoreState) (new : ℕ → Bool) → AreParts H n (leaves_of s) s → AreUntouched new s s'
      → ((r o : ℕ) → InForest m r o → HasNone new r o → InForest n r o) → AreBelow H m s' new 0
  rows_begin n m s s' new right same were = record {
    is = λ r o h none.
        let apart = none (omega arith) in
        joined_same s s' r o (same (suc r) o apart) (same r (2 * o) (half_none new r o (2 * o) (omega arith) apart))
        (same r (2 * o + 1) (half_none new r o (2 * o + 1) (omega arith) apart))
        (parts_joined n s r o right (were (suc r) o h apart));
  }

  -- a row is made anew
  pub row_made : (n row : ℕ) (s s' : StoreState) (new : ℕ → Bool) → AreBelow H n s new row → IsRowStep H new row s s'
      → ((o : ℕ) → InForest n (suc row) o → IsJoined H s' row o ⊎ HasNone new (suc row) o) → AreBelow H n s' new (suc row)
  row_made n row s s' new below step made = record {
    is = λ r o h none.
        ⊎_elim
        (λ same.
        let within : InForest n (suc row) o = subst (λ x. InForest n (suc x) o) same h in
        subst (λ x. IsJoined H s' x o) (sym same)
        (⊎_elim (λ here. here) (λ apart. step.joined o (below.is row o within (λ le. apart))) (made o within)))
        (λ other.
        step_keeps new row s s' r o step (λ up. none (omega (arith, up))) (below.is r o h (λ le. none (omega (arith, le, other)))))
        (cases_eq r row);
  }

  parts_made : (n : ℕ) (s : StoreState) → n ≤ s.len → ((r o : ℕ) → InForest n (suc r) o → IsJoined H s r o) → (row off : ℕ) → InForest n row off
      → stored s row off ≡ part_digest H (leaves_of s) row off
  parts_made n s room joined zero off h =
      sym (leaves_of-at s off (omega (arith, h, room))) ∙ digest-leaf H off (get_or (leaves_of s) off None)
  parts_made n s room joined (suc row) off h =
      joined_right H (leaves_of s) row off (stored s row (2 * off)) (stored s row (2 * off + 1)) (stored s (suc row) off)
      (parts_made n s room joined row (2 * off) (InForest-left n row off h))
      (parts_made n s room joined row (2 * off + 1) (InForest-right n row off h))
      (joined row off h)

  -- all rows are
  pub rows_end : (n row : ℕ) (s : StoreState) (new : ℕ → Bool) → n ≤ s.len → n / 2 ^ suc row ≡ 0 → AreBelow H n s new row
      → AreParts H n (leaves_of s) s
  rows_end n row s new room none below = record {
    is = parts_made n s room (λ r o h. below.is r o h (λ le.
        let k = r - row in
        let e : k + suc row ≡ suc r = omega (arith, le) in
        absurd (omega (arith, h, subst (λ x. n / 2 ^ x ≡ 0) e (none_above n (suc row) k none)))));
  }

  -- ---- some entries of a row are taken in

  pub taken_begins : (n : ℕ) (s : StoreState) (ns : List ℕ) (row at : ℕ) (w : Waiting) → HasRoom w → AreDone H n s ns row at
      → AreTaken H n s ns row at (record { numbers = w.numbers; count = 0 })
  taken_begins n s ns row at w room done = record {
    done = λ k lt h. inl (done k lt h);
    waiting = none_waits n row s w room;
    all = λ j lt. absurd (omega (arith, lt));
  }

  -- the entry has no part there, or that of the entry before
  pub taken_skipped : (n : ℕ) (s : StoreState) (ns : List ℕ) (row at : ℕ) (w : Waiting)
      → (InForest n (suc row) (part_above ns row at) → (0 < at) × (part_above ns row (at - 1) ≡ part_above ns row at))
      → AreTaken H n s ns row at w → AreTaken H n s ns row (at + 1) w
  taken_skipped n s ns row at w skip taken = record {
    done = λ k lt h.
        ⊎_elim
        (λ same.
        let shared = skip (subst (λ i. InForest n (suc row) (part_above ns row i)) same h) in
        let e : part_above ns row (at - 1) ≡ part_above ns row k = shared.1 ∙ ap (part_above ns row) (sym same) in
        subst (λ o. IsJoined H s row o ⊎ Waits w row o) e
        (taken.done (at - 1) (omega (arith, shared.0)) (subst (λ o. InForest n (suc row) o) (sym e) h)))
        (λ other. taken.done k (omega (arith, lt, other)) h)
        (cases_eq k at);
    waiting = taken.waiting;
    all = taken.all;
  }

  -- its part is made anew
  pub taken_renewed : (n : ℕ) (s s' : StoreState) (ns : List ℕ) (row at : ℕ) (w w' : Waiting) → at < length ns
      → IsRenewed H n row (get_or ns at 0) s s' w w' → AreTaken H n s ns row at w → AreTaken H n s' ns row (at + 1) w'
  taken_renewed n s s' ns row at w w' low renewed taken =
      let one = one_at ns at low in
      record {
        done = λ k lt h.
            ⊎_elim
            (λ same. subst (λ i. IsJoined H s' row (part_above ns row i) ⊎ Waits w' row (part_above ns row i)) (sym same) renewed.here)
            (λ other. ⊎_elim
            (λ has. inl ((renewed.step (is_one ns) one).joined (part_above ns row k) has))
            (λ waits. inr (renewed.still (part_above ns row k) waits))
            (taken.done k (omega (arith, lt, other)) h))
            (cases_eq k at);
        waiting = renewed.waiting;
        all = renewed.all (is_one ns) one taken.all;
      }

  -- what waits is made
  pub taken_ends : (n : ℕ) (s s' : StoreState) (ns : List ℕ) (row at : ℕ) (w : Waiting) → IsRowStep H (is_one ns) row s s'
      → ((j : ℕ) → j < w.count → IsJoined H s' row (part_above w.numbers row j)) → AreTaken H n s ns row at w → AreDone H n s' ns row at
  taken_ends n s s' ns row at w step made taken = λ k lt h.
      ⊎_elim
      (λ has. step.joined (part_above ns row k) has)
      (λ waits. subst (λ o. IsJoined H s' row o) waits.1.1 (made waits.0 waits.1.0))
      (taken.done k lt h)

  -- all entries are taken in
  pub done_ends : (n : ℕ) (s s' : StoreState) (ns : List ℕ) (row at : ℕ) → AreBelow H n s (is_one ns) row → IsRowStep H (is_one ns) row s s'
      → AreDone H n s' ns row at → length ns ≤ at → AreBelow H n s' (is_one ns) (suc row)
  done_ends n s s' ns row at below step done all =
      row_made n row s s' (is_one ns) below step (λ o h. ⊎_elim
      (λ w. inl (subst (λ x. IsJoined H s' row x) w.1.1
      (done w.0 (omega (arith, w.1.0, all)) (subst (λ x. InForest n (suc row) x) (sym w.1.1) h))))
      (λ none. inr none)
      (one_or_none ns row o))
