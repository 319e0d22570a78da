-- The way up from a part to the root of its slot: where it stands beneath the parts above it.
use Rattle.std.proofs.Common.{◌≡◌, ℕ, suc, ◌+◌, ◌-◌, ◌*◌, ◌/◌, ◌%◌, ◌^◌, ◌<◌, ◌≤◌, Bool, true, false, List, length, Option, Some, None, refl, sym, ap}
use Rattle.std.proofs.Common.{ap₂, ◌∙◌, ⊎_elim, arith}
use Rattle.std.specs.Prelude.{is_some}
use Rattle.std.proofs.Math.Nat.{div-le_self, pow-suc}
use Rattle.std.specs.Bool.{OnTrue, OnFalse}
use Rattle.std.proofs.lemmas.Bool.{true≢false, cases_eq}
use Rattle.uo_digest.specs.declared.digest.Digest.{Digest}
use Rattle.forest_place.specs.declared.place.Place.{Place}
use Rattle.forest_model.specs.Content.{content}
use Rattle.forest_place.specs.Forest.{InForest, is_root, sibling_off}
use Rattle.forest_place.proofs.Siblings.{sibling_within}
use Rattle.forest_model.specs.Standing.{tree_at}
use Rattle.forest_model.proofs.Climbs.{tree_at-root}
use Rattle.live_forest.specs.Stores.{StoreState}
use Rattle.live_forest.specs.Parts.{kept}
use Rattle.live_forest.specs.Lookups.{AreAlike}
use Rattle.live_forest.proofs.Seeking.{up_code, kept_above_some, place_same, place_children, place_child_within}

-- whatever place stands for the part above, the part that is sought stands beneath it
pub record IsAscent (es : List (Option Digest)) (parts : StoreState) (from : Place) (row off rows width left : ℕ) : Type 0 where
  pub within : InForest (length es) row off
  pub some : kept es parts row off ≡ None → ⊥
  pub few : rows ≤ row
  pub wide : width ≤ 2 ^ row
  pub inside : left < width
  pub stands : (q : Place) → tree_at es q.row q.off ≡ content es row off
      → (rows ≤ q.row) × (tree_at es (q.row - rows) (q.off * width + left) ≡ content es from.row from.off)

-- an offset is below the number of entries
pub off-below : (n row off : ℕ) → InForest n row off → off < n
off-below n row off h = omega (arith, h, div-le_self n (2 ^ row))

doubled : (row : ℕ) → 2 ^ (row + 1) ≡ 2 ^ row * 2
doubled row = let e : row + 1 ≡ suc row = omega arith in ap (λ k. 2 ^ k) e ∙ pow-suc 2 row

there : (x : Option Digest) → true ≡ is_some x → (d : Digest) × (Some d ≡ x)
there None e = absurd (true≢false e)
there (Some d) e = (d, refl)

not_there : (x : Option Digest) → false ≡ is_some x → None ≡ x
not_there None e = refl
not_there (Some d) e = absurd (true≢false (sym e))

module _ (es : List (Option Digest)) (parts : StoreState) (right : AreAlike es parts) (from : Place) where
  -- nothing is beside the part
  pub ascent-same : (row off rows width left : ℕ) → is_root (length es) row off ≡ false → None ≡ kept es parts row (sibling_off off)
      → 2 ^ (row + 1) ≡ 2 ^ row * 2 → IsAscent es parts from row off rows width left → IsAscent es parts from (row + 1) (off / 2) rows width left
  ascent-same row off rows width left other told twice a =
      let up = up_code es parts right row off a.within other in
      let beside = sibling_within (length es) row off a.within other in
      record {
        within = up;
        some = kept_above_some es parts right row off a.within up a.some;
        few = omega (arith, a.few);
        wide = omega (arith, a.wide, twice);
        inside = a.inside;
        stands = λ q s. a.stands q (place_same es parts right row off q beside s told);
      }

  -- the place of the part is beneath that of the one above
  pub ascent-deeper : (row off rows width left : ℕ) (d : Digest) → is_root (length es) row off ≡ false → Some d ≡ kept es parts row (sibling_off off)
      → 2 ^ (row + 1) ≡ 2 ^ row * 2 → IsAscent es parts from row off rows width left →
      IsAscent es parts from (row + 1) (off / 2) (rows + 1) (width * 2) (left + off % 2 * width)
  ascent-deeper row off rows width left d other told twice a =
      let up = up_code es parts right row off a.within other in
      let beside = sibling_within (length es) row off a.within other in
      record {
        within = up;
        some = kept_above_some es parts right row off a.within up a.some;
        few = omega (arith, a.few);
        wide = omega (arith, a.wide, twice);
        inside = inner (off % 2) (omega arith);
        stands = λ q s.
            let k = place_children es parts right row off q d a.within beside a.some s told in
            let here = a.stands (record { row = q.row - 1; off = 2 * q.off + off % 2 }) k.here in
            let r : q.row - (rows + 1) ≡ q.row - 1 - rows = omega arith in
            (omega (arith, here.0, k.high), ap₂ (tree_at es) r (moved q.off (off % 2)) ∙ here.1);
      }
    where
      inner : (side : ℕ) → side < 2 → left + side * width < width * 2
      inner side l =
          let none : side ≡ 0 → side * width ≡ 0 = λ e. ap (λ x. x * width) e ∙ omega arith in
          let one : side ≡ 1 → side * width ≡ width = λ e. ap (λ x. x * width) e ∙ omega arith in
          ⊎_elim (λ e. omega (arith, a.inside, none e)) (λ o. omega (arith, a.inside, one (omega (arith, o, l)))) (cases_eq side 0)

      moved : (o side : ℕ) → o * (width * 2) + (left + side * width) ≡ (2 * o + side) * width + left
      moved o side = omega arith

  pub ascent-on : (beside : Bool) (row off rows width left rows' width' left' : ℕ) (above : Place) → is_root (length es) row off ≡ false
      → beside ≡ is_some (kept es parts row (sibling_off off)) → above ≡ record { row = row + 1; off = off / 2 } →
      OnTrue beside ((rows' ≡ rows + 1) × (width' ≡ width * 2) × (left' ≡ left + off % 2 * width))
      → OnFalse beside ((rows' ≡ rows) × (width' ≡ width) × (left' ≡ left)) →
      IsAscent es parts from row off rows width left → IsAscent es parts from above.row above.off rows' width' left'
  ascent-on true row off rows width left rows' width' left' above other is up more less a =
      let x = there (kept es parts row (sibling_off off)) is in
      let twice = doubled row in
      rw (up, more.0, more.1, more.2) (ascent-deeper row off rows width left x.0 other x.1 twice a)
  ascent-on false row off rows width left rows' width' left' above other is up more less a =
      let x = not_there (kept es parts row (sibling_off off)) is in
      let twice = doubled row in
      rw (up, less.0, less.1, less.2) (ascent-same row off rows width left other x twice a)

  -- at the root of the slot
  pub ascent-ends : (row off rows width left : ℕ) → is_root (length es) row off ≡ true → IsAscent es parts from row off rows width left
      → InForest (length es) from.row from.off → (kept es parts from.row from.off ≡ None → ⊥) →
      (rows ≤ row) × (tree_at es (row - rows) (off * width + left) ≡ content es from.row from.off)
      × InForest (length es) (row - rows) (off * width + left)
  ascent-ends row off rows width left root a within some =
      let here = a.stands (record { row = row; off = off }) (tree_at-root es row off root) in
      (here.0, here.1, place_child_within es parts right from.row from.off (record { row = row - rows; off = off * width + left }) here.1 within some)
