-- The digests above a written entry, one row after another.
use Rattle.std.proofs.Common.{◌≡◌, ◌≢◌, ℕ, suc, ◌+◌, ◌*◌, ◌/◌, ◌%◌, ◌^◌, ◌<◌, ◌≤◌, List, length, get_or, set, Option, Some, None, refl}
use Rattle.std.proofs.Common.{sym, ap, ap₂, ◌∙◌, subst, ⊎_elim, arith}
use Rattle.std.specs.Prelude.{option_map, is_some}
use Rattle.std.proofs.lemmas.Bool.{cases_eq, cases_lt, true≢false, false≢true}
use Rattle.std.proofs.lemmas.List.{get_or-set_same, get_or-set_other, length-set, ext_get_or}
use Rattle.std.proofs.lemmas.List.FromFn.{length-map-range_with_len, get_or-map-range_with_len}
use Rattle.uo_digest.specs.declared.digest.Digest.{Digest}
use Rattle.forest_model.specs.Content.{Tree, leaf, content, digest_of, join_digests}
use Rattle.forest_model.proofs.Unique.{digest-join}
use Rattle.forest_place.specs.Forest.{InForest, sibling_off}
use Rattle.forest_place.proofs.Parts.{parts-suc, InForest-down, InForest-left, InForest-right, not_root-down}
use Rattle.forest_place.proofs.Siblings.{sibling_cases, sibling_within}
use Rattle.live_forest.specs.Pages.{IsOfHalves}
use Rattle.live_forest.specs.Stores.{StoreState, stored, IsEntryKept, IsPartKept, HasRoomOf}
use Rattle.live_forest.specs.Parts.{leaves_of, kept, part_digest, AreParts, ArePartsBut, pairs, digests_to}
use Rattle.live_forest.proofs.Entries.{content-set_other, parts_before, path_below}

pub digest-leaf : (H : List ℕ → Digest) (off : ℕ) (x : Option Digest) → x ≡ option_map (digest_of H) (option_map (leaf off) x)
digest-leaf H off None = refl
digest-leaf H off (Some d) = refl

-- what is kept for a part is its digest
pub kept_right : (H : List ℕ → Digest) (n : ℕ) (leaves : List (Option Digest)) (s : StoreState) (row off : ℕ) → AreParts H n leaves s
    → InForest n row off → kept leaves s row off ≡ part_digest H leaves row off
kept_right H n leaves s row off right h = right.is row off h

-- the sibling of a child
pub sibling_in : (n row off : ℕ) → InForest n (suc row) (off / 2) → InForest n row (sibling_off off)
sibling_in n row off h = sibling_within n row off (InForest-down n row off h) (not_root-down n row off h)

sibling_apart : (off : ℕ) → sibling_off off ≡ off → ⊥
sibling_apart off e = ⊎_elim (λ a. let z : ⊥ = omega (arith, a, e) in z) (λ a. let z : ⊥ = omega (arith, a, e) in z) (sibling_cases off)

-- the part beside one that has the entry is right before anything is digested
pub beside_right : (H : List ℕ → Digest) (n : ℕ) (leaves : List (Option Digest)) (s : StoreState) (number row : ℕ)
    → ArePartsBut H n leaves s number 0 → InForest n (suc row) (number / 2 ^ suc row)
    → stored s row (sibling_off (number / 2 ^ row)) ≡ part_digest H leaves row (sibling_off (number / 2 ^ row))
beside_right H n leaves s number row right h =
    right.is row (sibling_off (number / 2 ^ row)) (sibling_in n row (number / 2 ^ row)
    (subst (λ x. InForest n (suc row) x) (parts-suc number row) h)) (λ low same. sibling_apart (number / 2 ^ row) (sym same))

-- the digests so far, and one more
pub one_found : (H : List ℕ → Digest) (leaves found : List (Option Digest)) (number row : ℕ) (digest : Option Digest) → row < length found
    → digest ≡ part_digest H leaves row (sibling_off (number / 2 ^ row))
    → ((r : ℕ) → r < row → get_or found r None ≡ part_digest H leaves r (sibling_off (number / 2 ^ r))) → (r : ℕ) → r < row + 1
    → get_or (set found row digest) r None ≡ part_digest H leaves r (sibling_off (number / 2 ^ r))
one_found H leaves found number row digest low e all r lt =
    ⊎_elim
    (λ same. subst (λ k. get_or (set found row digest) k None ≡ part_digest H leaves k (sibling_off (number / 2 ^ k))) (sym same)
    (get_or-set_same found row digest None low ∙ e))
    (λ other. get_or-set_other found row r digest None other ∙ all r (omega (arith, lt, other)))
    (cases_eq r row)

-- the two halves of the part above
pub halves_right : (H : List ℕ → Digest) (leaves : List (Option Digest)) (row number : ℕ) (half other left right : Option Digest)
    → let off = number / 2 ^ row in let above = number / 2 ^ suc row in
    half ≡ part_digest H leaves row off → other ≡ part_digest H leaves row (sibling_off off) →
    (off % 2 ≡ 0 → (left ≡ half) × (right ≡ other)) → (off % 2 ≡ 1 → (left ≡ other) × (right ≡ half)) →
    (left ≡ part_digest H leaves row (2 * above)) × (right ≡ part_digest H leaves row (2 * above + 1))
halves_right H leaves row number half other left right he oe even odd =
    let off = number / 2 ^ row in
    let up = parts-suc number row in
    ⊎_elim
    (λ a.
    let l : off ≡ 2 * (number / 2 ^ suc row) = omega (arith, a, up) in
    let r : sibling_off off ≡ 2 * (number / 2 ^ suc row) + 1 = omega (arith, a, up) in
    ((even a.0).0 ∙ he ∙ ap (part_digest H leaves row) l, (even a.0).1 ∙ oe ∙ ap (part_digest H leaves row) r))
    (λ a.
    let l : sibling_off off ≡ 2 * (number / 2 ^ suc row) = omega (arith, a, up) in
    let r : off ≡ 2 * (number / 2 ^ suc row) + 1 = omega (arith, a, up) in
    ((odd a.0).0 ∙ oe ∙ ap (part_digest H leaves row) l, (odd a.0).1 ∙ he ∙ ap (part_digest H leaves row) r))
    (sibling_cases off)

-- their digest is that of the part above
pub joined_right : (H : List ℕ → Digest) (leaves : List (Option Digest)) (row o : ℕ) (left right digest : Option Digest)
    → left ≡ part_digest H leaves row (2 * o) → right ≡ part_digest H leaves row (2 * o + 1) → digest ≡ join_digests H left right
    → digest ≡ part_digest H leaves (suc row) o
joined_right H leaves row o left right digest le re de =
    de ∙ ap₂ (join_digests H) le re ∙ sym (digest-join H (content leaves row (2 * o)) (content leaves row (2 * o + 1)))

pub joined_halves : (H : List ℕ → Digest) (left right own : Option Digest) → own ≡ join_digests H left right → IsOfHalves left right own
joined_halves H None right own e = record {
  no_left = λ _. e;
  no_right = λ z. e ∙ z;
  both = λ z w. absurd (false≢true z);
}
joined_halves H (Some l) None own e = record {
  no_left = λ z. absurd (true≢false (ap is_some z));
  no_right = λ _. e;
  both = λ z w. absurd (false≢true w);
}
joined_halves H (Some l) (Some r) own e = record {
  no_left = λ z. absurd (true≢false (ap is_some z));
  no_right = λ z. absurd (true≢false (ap is_some z));
  both = λ z w. ap is_some e;
}

module _ (H : List ℕ → Digest) (n : ℕ) (leaves : List (Option Digest)) (s : StoreState) (number : ℕ) where
  -- one row more
  pub row_written : (row : ℕ) (s' : StoreState) (digest : Option Digest) → IsPartKept s s' row number digest
      → ArePartsBut H n leaves s number row → digest ≡ part_digest H leaves (suc row) (number / 2 ^ suc row) →
      ArePartsBut H n leaves s' number (row + 1)
  row_written row s' digest put but x = record {
    is = λ r p h off_path.
        ⊎_elim
        (λ same.
        ⊎_elim
        (λ at. ap₂ (stored s') same at ∙ put.here ∙ x ∙ ap₂ (part_digest H leaves) (sym same) (sym at))
        (λ beside.
        let out : number / 2 ^ r ≢ p = λ e. beside (sym e ∙ ap (λ k. number / 2 ^ k) same) in
        put.others r p (λ _. out) ∙ but.is r p h (λ _. out))
        (cases_eq p (number / 2 ^ suc row)))
        (λ other.
        let off_it : suc row ≤ r → number / 2 ^ r ≢ p = λ up. off_path (omega (arith, up, other)) in
        put.others r p off_it ∙ but.is r p h (λ low. off_it low))
        (cases_eq r (suc row));
  }

  -- all rows
  pub rows_done : (row : ℕ) → (InForest n (suc row) (number / 2 ^ suc row) → ⊥) → ArePartsBut H n leaves s number row → AreParts H n leaves s
  rows_done row top but =
      record { is = λ r p h. but.is r p h (λ low at. top (path_below n number (suc row) r (omega (arith, low)) (subst (InForest n r) (sym at) h))) }

-- what is kept for the halves of the part above is right
pub halves_kept : (H : List ℕ → Digest) (n : ℕ) (leaves : List (Option Digest)) (s : StoreState) (number row : ℕ)
    → InForest n (suc row) (number / 2 ^ suc row) → ArePartsBut H n leaves s number row → let off = number / 2 ^ suc row in
    (stored s row (2 * off) ≡ part_digest H leaves row (2 * off)) × (stored s row (2 * off + 1) ≡ part_digest H leaves row (2 * off + 1))
halves_kept H n leaves s number row h but = let off = number / 2 ^ suc row in (
  but.is row (2 * off) (InForest-left n row off h) (λ low. absurd (omega (arith, low))),
  but.is row (2 * off + 1) (InForest-right n row off h) (λ low. absurd (omega (arith, low))),
)

-- an entry is written: all parts without it stay right
pub but_written : (H : List ℕ → Digest) (n : ℕ) (leaves : List (Option Digest)) (s s' : StoreState) (number : ℕ) (x : Option Digest)
    → number < length leaves → IsEntryKept s s' number x → ArePartsBut H n leaves s number 0 → ArePartsBut H n (set leaves number x) s' number 0
but_written H n leaves s s' number x room put but =
    record {
      is = λ r o h off_path.
          ⊎_elim
          (λ e.
          let low : r ≡ 0 = ⊎_elim (λ some. absurd (off_path some e)) (λ none. omega arith) (cases_lt 0 r) in
          let at : o ≡ number = sym e ∙ ap (λ k. number / 2 ^ k) low ∙ (let z : number / 1 ≡ number = omega arith in z) in
          ap₂ (stored s') low at ∙ put.here ∙ digest-leaf H number x
          ∙ ap (λ y. option_map (digest_of H) (option_map (leaf number) y)) (sym (get_or-set_same leaves number x None room))
          ∙ ap₂ (part_digest H (set leaves number x)) (sym low) (sym at))
          (λ ne.
          put.others r o ne ∙ but.is r o h (λ _. ne) ∙ ap (option_map (digest_of H)) (sym (content-set_other leaves number x r o ne)))
          (cases_eq (number / 2 ^ r) o);
    }

-- where all are right, so are all without an entry
pub but_any : (H : List ℕ → Digest) (n : ℕ) (leaves : List (Option Digest)) (s : StoreState) (number : ℕ) → AreParts H n leaves s
    → ArePartsBut H n leaves s number 0
but_any H n leaves s number all = record { is = λ r o h off_path. all.is r o h }

-- an entry is added
pub but_added : (H : List ℕ → Digest) (n : ℕ) (leaves : List (Option Digest)) (s s' : StoreState) (x : Option Digest) → n < length leaves
    → IsEntryKept s s' n x → AreParts H n leaves s → ArePartsBut H (n + 1) (set leaves n x) s' n 0
but_added H n leaves s s' x room put all =
    let e : suc n ≡ n + 1 = omega arith in
    subst (λ m. ArePartsBut H m (set leaves n x) s' n 0) e (record {
      is = λ r o h off_path.
          ⊎_elim
          (λ e.
          let low : r ≡ 0 = ⊎_elim (λ some. absurd (off_path some e)) (λ none. omega arith) (cases_lt 0 r) in
          let at : o ≡ n = sym e ∙ ap (λ k. n / 2 ^ k) low ∙ (let z : n / 1 ≡ n = omega arith in z) in
          ap₂ (stored s') low at ∙ put.here ∙ digest-leaf H n x
          ∙ ap (λ y. option_map (digest_of H) (option_map (leaf n) y)) (sym (get_or-set_same leaves n x None room))
          ∙ ap₂ (part_digest H (set leaves n x)) (sym low) (sym at))
          (λ ne.
          put.others r o ne ∙ all.is r o (parts_before n r o h ne)
          ∙ ap (option_map (digest_of H)) (sym (content-set_other leaves n x r o ne)))
          (cases_eq (n / 2 ^ r) o);
    })

-- ---- the entries that there is room for

pub length-leaves_of : (s : StoreState) → length (leaves_of s) ≡ s.len
length-leaves_of s = length-map-range_with_len (λ i. stored s 0 i) 0 s.len

pub leaves_of-at : (s : StoreState) (i : ℕ) → i < s.len → get_or (leaves_of s) i None ≡ stored s 0 i
leaves_of-at s i lt = get_or-map-range_with_len (λ k. stored s 0 k) 0 s.len i i None lt (omega arith)

-- a part is put: the entries stay
pub leaves_stay : (s s' : StoreState) (row number : ℕ) (own : Option Digest) → IsPartKept s s' row number own → s'.len ≡ s.len
    → leaves_of s' ≡ leaves_of s
leaves_stay s s' row number own put same =
    ext_get_or None (leaves_of s') (leaves_of s) (length-leaves_of s' ∙ same ∙ sym (length-leaves_of s))
    (λ i lt.
    let low' : i < s'.len = omega (arith, lt, length-leaves_of s') in
    let low : i < s.len = omega (arith, low', same) in
    leaves_of-at s' i low' ∙ put.others 0 i (λ up. absurd (omega arith)) ∙ sym (leaves_of-at s i low))

-- an entry is put
pub leaves_put : (s s' : StoreState) (number : ℕ) (x : Option Digest) → number < s.len → IsEntryKept s s' number x → s'.len ≡ s.len
    → leaves_of s' ≡ set (leaves_of s) number x
leaves_put s s' number x room put same =
    ext_get_or None (leaves_of s') (set (leaves_of s) number x)
    (length-leaves_of s' ∙ same ∙ sym (length-leaves_of s) ∙ sym (length-set (leaves_of s) number x))
    (λ i lt.
    let low' : i < s'.len = omega (arith, lt, length-leaves_of s') in
    let low : i < s.len = omega (arith, low', same) in
    leaves_of-at s' i low' ∙ ⊎_elim
    (λ e.
    ap (stored s' 0) e ∙ put.here ∙ sym (get_or-set_same (leaves_of s) number x None (omega (arith, room, length-leaves_of s)))
    ∙ ap (λ k. get_or (set (leaves_of s) number x) k None) (sym e))
    (λ ne.
    put.others 0 i (λ e. ne (let z : i ≡ number = omega (arith, e) in z)) ∙ sym (leaves_of-at s i low)
    ∙ sym (get_or-set_other (leaves_of s) number i x None ne))
    (cases_eq i number))

-- two steps that keep the room
pub room_kept : (a b c : StoreState) → HasRoomOf a b → HasRoomOf b c → HasRoomOf a c
room_kept a b c first second = record { len = second.len ∙ first.len; listed = λ i. second.listed i ∙ first.listed i }

pub room_same : (a : StoreState) → HasRoomOf a a
room_same a = record { len = refl; listed = λ i. refl }

pairs-mapped : (H : List ℕ → Digest) (x y : Option Tree) → pairs (option_map (digest_of H) x) (option_map (digest_of H) y) ≡ pairs x y
pairs-mapped H None y = refl
pairs-mapped H (Some l) None = refl
pairs-mapped H (Some l) (Some r) = refl

-- the steps of one row more
pub cost_more : (H : List ℕ → Digest) (leaves : List (Option Digest)) (number row o : ℕ) (left right : Option Digest) (first before after : ℕ)
    → o ≡ number / 2 ^ suc row →
    left ≡ part_digest H leaves row (2 * o) → right ≡ part_digest H leaves row (2 * o + 1) → before ≡ first + digests_to leaves number row
    → after ≡ before + pairs left right →
    after ≡ first + digests_to leaves number (suc row)
cost_more H leaves number row o left right first before after here le re be ae =
    let p : pairs left right ≡ pairs (content leaves row (2 * o)) (content leaves row (2 * o + 1)) =
    ap₂ pairs le re ∙ pairs-mapped H (content leaves row (2 * o)) (content leaves row (2 * o + 1)) in
    let q : pairs left right ≡ pairs (content leaves row (2 * (number / 2 ^ suc row))) (content leaves row (2 * (number / 2 ^ suc row) + 1)) =
    subst (λ x. pairs left right ≡ pairs (content leaves row (2 * x)) (content leaves row (2 * x + 1))) here p in
    omega (arith, be, ae, q)
