-- How many digests a climb takes.
use Rattle.std.proofs.Common.{◌≡◌, ◌≢◌, ℕ, zero, suc, ◌+◌, ◌*◌, ◌/◌, ◌%◌, ◌^◌, ◌<◌, ◌≤◌, true, cond, List, length, set, take, Option, Some, None}
use Rattle.std.proofs.Common.{refl, sym, ap, ◌∙◌, subst, ⊎_elim, arith}
use Rattle.std.specs.Prelude.{option_map, is_some}
use Rattle.std.proofs.lemmas.Bool.{cases_Bool, cases_eq, and_parts, and_from, eqb-true, true≢false}
use Rattle.std.proofs.lemmas.List.{get_or-set_same, length-take-le}
use Rattle.uo_digest.specs.declared.digest.Digest.{Digest}
use Rattle.forest_model.specs.Content.{Tree, leaf, inner, join, content, digest_of}
use Rattle.forest_place.specs.Forest.{InForest, is_slot, root_off}
use Rattle.forest_place.specs.Position.{rows}
use Rattle.forest_model.specs.Standing.{root}
use Rattle.forest_model.specs.Addition.{all_slots}
use Rattle.forest_place.proofs.Parts.{parts-suc, row_below}
use Rattle.forest_place.proofs.Positions.{within_rows}
use Rattle.forest_model.proofs.Adding.{parts_more, parts_same}
use Rattle.live_forest.specs.Parts.{pairs, digests_to, IsClimbed}
use Rattle.live_forest.specs.State.{addition_steps}
use Rattle.live_forest.proofs.Ones.{joins_taken, joins_all}
use Rattle.live_forest.proofs.Entries.{content-set_other, content-take, path_below}

pairs_few : (x y : Option Tree) → pairs x y ≤ 1
pairs_few None y = omega arith
pairs_few (Some l) None = omega arith
pairs_few (Some l) (Some r) = omega arith

digests_few : (es : List (Option Digest)) (number row : ℕ) → digests_to es number row ≤ row
digests_few es number zero = omega arith
digests_few es number (suc row) =
    let off = number / 2 ^ suc row in
    omega (arith, digests_few es number row, pairs_few (content es row (2 * off)) (content es row (2 * off + 1)))

-- no climb takes more than the rows
pub climbed_few : (n : ℕ) (es : List (Option Digest)) (number before after : ℕ) → IsClimbed n es number before after
    → after ≤ before + rows n
climbed_few n es number before after c =
    omega (arith, c.count, digests_few es number c.top, (within_rows n c.top (number / 2 ^ c.top) c.within).0)

-- the parts that the next entry ends
slot_path : (n r : ℕ) → InForest (suc n) r (n / 2 ^ r) → all_slots n r ≡ true
slot_path n r h = ⊎_elim (λ all. all) (λ some. absurd (omega (arith, h, parts_same n r some))) (cases_Bool (all_slots n r))

path_slot : (n r : ℕ) → all_slots n r ≡ true → InForest (suc n) r (n / 2 ^ r)
path_slot n r all = omega (arith, parts_more n r all)

pairs_one : (H : List ℕ → Digest) (x y : Option Tree) → (t : Tree) × (y ≡ Some t) → pairs x y ≡ cond (is_some (option_map (digest_of H) x)) 1 0
pairs_one H None y w = refl
pairs_one H (Some l) y w = ap (pairs (Some l)) w.1

joined_some : (x y : Option Tree) → (t : Tree) × (y ≡ Some t) → (t : Tree) × (join x y ≡ Some t)
joined_some None y w = w
joined_some (Some l) y w = (inner l w.0, ap (join (Some l)) w.1)

module _ (H : List ℕ → Digest) (n : ℕ) (leaves : List (Option Digest)) (d : Digest) (room : n < length leaves) where
  abbrev next : List (Option Digest)
  next = set leaves n (Some d)

  last_some : (r : ℕ) → all_slots n r ≡ true → (t : Tree) × (content next r (n / 2 ^ r) ≡ Some t)
  last_some zero all =
      let e : n / 1 ≡ n = omega arith in
      (leaf n d, ap (content next 0) e ∙ ap (option_map (leaf n)) (get_or-set_same leaves n (Some d) None room))
  last_some (suc r) all =
      let a = and_parts (all_slots n r) (is_slot n r) all in
      let odd : n / 2 ^ r % 2 ≡ 1 = eqb-true _ _ a.1 in
      let e : 2 * (n / 2 ^ suc r) + 1 ≡ n / 2 ^ r = omega (arith, parts-suc n r, odd) in
      let w = last_some r a.0 in
      joined_some (content next r (2 * (n / 2 ^ suc r))) (content next r (2 * (n / 2 ^ suc r) + 1)) (w.0, ap (content next r) e ∙ w.1)

  -- one join slot
  slot_cost : (r : ℕ) → all_slots n r ≡ true → is_slot n r ≡ true
      → pairs (content next r (2 * (n / 2 ^ suc r))) (content next r (2 * (n / 2 ^ suc r) + 1)) ≡ cond (is_some (root H (take n leaves) r)) 1 0
  slot_cost r all slot =
      let odd : n / 2 ^ r % 2 ≡ 1 = eqb-true _ _ slot in
      let e : 2 * (n / 2 ^ suc r) + 1 ≡ n / 2 ^ r = omega (arith, parts-suc n r, odd) in
      let f : 2 * (n / 2 ^ suc r) ≡ root_off n r = omega (arith, parts-suc n r, odd) in
      let w = last_some r all in
      let within : InForest n r (root_off n r) = omega (arith, odd) in
      let apart : n / 2 ^ r ≢ root_off n r = λ z. omega (arith, odd, z) in
      let long : length (take n leaves) ≡ n = length-take-le n leaves (omega arith) in
      let left : content next r (2 * (n / 2 ^ suc r)) ≡ content (take n leaves) r (root_off (length (take n leaves)) r) =
      ap (content next r) f ∙ content-set_other leaves n (Some d) r (root_off n r) apart ∙ sym (content-take leaves n r (root_off n r) within)
      ∙ ap (λ k. content (take n leaves) r (root_off k r)) (sym long) in
      pairs_one H (content next r (2 * (n / 2 ^ suc r))) (content next r (2 * (n / 2 ^ suc r) + 1)) (w.0, ap (content next r) e ∙ w.1)
      ∙ ap (λ x. cond (is_some (option_map (digest_of H) x)) 1 0) left

  module _ (top : ℕ) (within : InForest (suc n) top (n / 2 ^ top)) (last : InForest (suc n) (suc top) (n / 2 ^ suc top) → ⊥) where
    joins_from_row : (k row : ℕ) → all_slots n row ≡ true → row ≤ top → top ≤ k + row
        → digests_to next n top ≡ digests_to next n row + joins_taken (root H (take n leaves)) n k row
    joins_from_row zero row all le ge =
        let e : top ≡ row = omega arith in
        let z : digests_to next n row ≡ digests_to next n row + 0 = omega arith in
        ap (digests_to next n) e ∙ z
    joins_from_row (suc k) row all le ge =
        ⊎_elim
        (λ slot.
        let more : all_slots n (suc row) ≡ true = and_from (all_slots n row) (is_slot n row) all slot in
        let ne : row ≢ top = λ e. last (subst (λ x. InForest (suc n) (suc x) (n / 2 ^ suc x)) e (path_slot n (suc row) more)) in
        let rest = joins_from_row k (suc row) more (omega (arith, ne)) (omega arith) in
        let cost = slot_cost row all slot in
        rw slot (omega (arith, rest, cost)))
        (λ free.
        let e : top ≡ row = ⊎_elim (λ same. sym same)
        (λ other.
        let below = path_below (suc n) n (suc row) top (omega (arith, other)) within in
        absurd (true≢false (sym (and_parts (all_slots n row) (is_slot n row) (slot_path n (suc row) below)).1 ∙ free)))
        (cases_eq row top) in
        let z : digests_to next n row ≡ digests_to next n row + 0 = omega arith in
        rw free (ap (digests_to next n) e ∙ z))
        (cases_Bool (is_slot n row))

  pub added_cost : (before after : ℕ) → IsClimbed (n + 1) next n before after → after ≡ before + addition_steps H (take n leaves)
  added_cost before after c =
      let e : n + 1 ≡ suc n = omega arith in
      let within : InForest (suc n) c.top (n / 2 ^ c.top) = subst (λ m. InForest m c.top (n / 2 ^ c.top)) e c.within in
      let last = λ (h : InForest (suc n) (suc c.top) (n / 2 ^ suc c.top)). c.last
      (subst (λ m. InForest m (suc c.top) (n / 2 ^ suc c.top)) (sym e) h) in
      let low = row_below (suc n) c.top (n / 2 ^ c.top) within in
      let all = joins_from_row c.top within last n 0 refl (omega arith) (omega (arith, low)) in
      let long : length (take n leaves) ≡ n = length-take-le n leaves (omega arith) in
      let counted : joins_taken (root H (take n leaves)) n n 0 ≡ addition_steps H (take n leaves) =
      ap (λ m. joins_taken (root H (take n leaves)) m m 0) (sym long) ∙ joins_all H (take n leaves) in
      omega (arith, c.count, all, counted)
