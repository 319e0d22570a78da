-- Entries that are added at the end: the parts that they make whole.
use Rattle.std.proofs.Common.{◌≡◌, ℕ, zero, suc, ◌+◌, ◌-◌, ◌*◌, ◌/◌, ◌^◌, ◌<◌, ◌≤◌, ◌⊎◌, inl, inr, List, get_or, sym, ap, ◌∙◌}
use Rattle.std.proofs.Common.{subst, ⊎_elim, arith}
use Rattle.std.specs.Prelude.{nat_le}
use Rattle.std.proofs.lemmas.Bool.{cases_eq, cases_lt, leb-true, le-leb}
use Rattle.std.proofs.lemmas.Nat.{div-mul-add}
use Rattle.std.proofs.Math.Nat.{suc-mul}
use Rattle.uo_digest.specs.declared.digest.Digest.{Digest}
use Rattle.forest_place.specs.Forest.{InForest}
use Rattle.forest_place.proofs.Parts.{parts-suc}
use Rattle.forest_place.proofs.Slots.{in_forest_iff}
use Rattle.live_forest.specs.declared.waiting.Waiting.{Waiting}
use Rattle.live_forest.specs.Stores.{StoreState}
use Rattle.live_forest.specs.Rows.{IsJoined, HasNone, part_above, AreBelow, IsRowStep, HasRoom, Waits, AreAll, IsRenewed, AreFilled, AreSpanned}
use Rattle.live_forest.proofs.Renewing.{none_waits, row_made}

-- fewer entries have no more parts
pub parts_fewer : (before n row : ℕ) → before ≤ n → before / 2 ^ row ≤ n / 2 ^ row
parts_fewer before n zero le = omega (arith, le)
parts_fewer before n (suc row) le = omega (arith, parts-suc before row, parts-suc n row, parts_fewer before n row le)

pub two_pos : (row : ℕ) → 0 < 2 ^ row
two_pos zero = omega arith
two_pos (suc row) = omega (arith, two_pos row)

pub last_in : (row off : ℕ) → (off * 2 ^ row + (2 ^ row - 1)) / 2 ^ row ≡ off
last_in row off = div-mul-add off (2 ^ row) (2 ^ row - 1) (omega (arith, two_pos row))

pub one_more : (row off : ℕ) → (off + 1) * 2 ^ row ≡ off * 2 ^ row + 2 ^ row
one_more row off = let e : off + 1 ≡ suc off = omega arith in ap (λ k. k * 2 ^ row) e ∙ suc-mul off (2 ^ row)

-- a part that is not one of the first entries has a later one last
pub last_later : (before row off : ℕ) → before / 2 ^ row ≤ off → before ≤ off * 2 ^ row + (2 ^ row - 1)
last_later before row off le =
    ⊎_elim
    (λ out. omega (arith, out, one_more row off, two_pos row))
    (λ within. absurd (omega (arith, le, (in_forest_iff before row off).1 within)))
    (cases_lt before ((off + 1) * 2 ^ row))

pub last_within : (n row off : ℕ) → off < n / 2 ^ row → off * 2 ^ row + (2 ^ row - 1) < n
last_within n row off lt = omega (arith, (in_forest_iff n row off).0 lt, one_more row off, two_pos row)

-- a part without a later entry is one of the first entries
pub was_whole : (before n row off : ℕ) → InForest n row off → HasNone (nat_le before) row off → InForest before row off
was_whole before n row off h none =
    ⊎_elim
    (λ whole. whole)
    (λ le.
    absurd (none (off * 2 ^ row + (2 ^ row - 1)) (le-leb before (off * 2 ^ row + (2 ^ row - 1)) (last_later before row off le)) (last_in row off)))
    (cases_lt off (before / 2 ^ row))

-- one that is has no later one
pub none_later : (before row off : ℕ) → InForest before row off → HasNone (nat_le before) row off
none_later before row off h = λ i is at. omega (arith, h, at, parts_fewer before i row (leb-true before i is))

-- later ones are new
pub all_later : (before : ℕ) (numbers : List ℕ) (count : ℕ) → ((j : ℕ) → j < count → before ≤ get_or numbers j 0)
    → AreAll (nat_le before) numbers count
all_later before numbers count later = λ j lt. le-leb before (get_or numbers j 0) (later j lt)

module _ (H : List ℕ → Digest) (n before : ℕ) where
  pub spanned_begins : (s : StoreState) (row from : ℕ) (w : Waiting) → HasRoom w
      → AreSpanned H n s before row from from (record { numbers = w.numbers; count = 0 })
  spanned_begins s row from w room = record {
    done = λ o ge lt. absurd (omega (arith, ge, lt));
    waiting = none_waits H n row s w room;
    all = λ j lt. absurd (omega (arith, lt));
  }

  -- one part more, by its last entry
  pub spanned_more : (s s' : StoreState) (row from next number : ℕ) (w w' : Waiting) → number / 2 ^ suc row ≡ next → before ≤ number
      → IsRenewed H n row number s s' w w' → AreSpanned H n s before row from next w → AreSpanned H n s' before row from (next + 1) w'
  spanned_more s s' row from next number w w' is later renewed spanned =
      let new = le-leb before number later in
      record {
        done = λ o ge lt.
            ⊎_elim
            (λ same. subst (λ x. IsJoined H s' row x ⊎ Waits w' row x) (is ∙ sym same) renewed.here)
            (λ other. ⊎_elim
            (λ has. inl ((renewed.step (nat_le before) new).joined o has))
            (λ waits. inr (renewed.still o waits))
            (spanned.done o ge (omega (arith, lt, other))))
            (cases_eq o next);
        waiting = renewed.waiting;
        all = λ j lt.
            leb-true before (get_or w'.numbers j 0) (renewed.all (nat_le before) new (all_later before w.numbers w.count spanned.all) j lt);
      }

  -- what waits is made
  pub spanned_ends : (s s' : StoreState) (row from end : ℕ) (w : Waiting) → IsRowStep H (nat_le before) row s s'
      → ((j : ℕ) → j < w.count → IsJoined H s' row (part_above w.numbers row j)) → AreSpanned H n s before row from end w
      → AreFilled H s' row from end
  spanned_ends s s' row from end w step made spanned = λ o ge lt.
      ⊎_elim
      (λ has. step.joined o has)
      (λ waits. subst (λ x. IsJoined H s' row x) waits.1.1 (made waits.0 waits.1.0))
      (spanned.done o ge lt)

  -- some parts more
  pub filled_more : (s s' : StoreState) (row from next end : ℕ) → IsRowStep H (nat_le before) row s s' → AreFilled H s row from next
      → AreFilled H s' row next end → AreFilled H s' row from end
  filled_more s s' row from next end step filled more = λ o ge lt.
      ⊎_elim (λ low. step.joined o (filled o ge low)) (λ high. more o high lt) (cases_lt o next)

  -- all parts of a row
  pub filled_ends : (s s' : StoreState) (row : ℕ) → AreBelow H n s (nat_le before) row → IsRowStep H (nat_le before) row s s'
      → AreFilled H s' row (before / 2 ^ suc row) (n / 2 ^ suc row) → AreBelow H n s' (nat_le before) (suc row)
  filled_ends s s' row below step filled =
      row_made H n row s s' (nat_le before) below step (λ o h. ⊎_elim
      (λ low. inr (none_later before (suc row) o low))
      (λ high. inl (filled o high h))
      (cases_lt o (before / 2 ^ suc row)))
