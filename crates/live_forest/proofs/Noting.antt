-- What stands at a place, by the parts beneath.
use Rattle.std.proofs.Common.{◌≡◌, ℕ, ◌+◌, ◌-◌, ◌*◌, ◌/◌, ◌^◌, ◌<◌, ◌≤◌, List, length, Option, Some, None, sym, ap, ap₂, ◌∙◌, ⊎_elim, arith}
use Rattle.std.specs.Prelude.{option_map}
use Rattle.std.proofs.Math.Nat.{zero-div}
use Rattle.std.proofs.lemmas.Bool.{cases_lt}
use Rattle.std.proofs.lemmas.Nat.{shr-shr}
use Rattle.uo_digest.specs.declared.digest.Digest.{Digest}
use Rattle.forest_place.specs.declared.place.Place.{Place}
use Rattle.forest_place.specs.Forest.{InForest}
use Rattle.forest_model.specs.Content.{inner, join, content, digest_of}
use Rattle.forest_model.specs.Standing.{tree_at, digest_at}
use Rattle.forest_model.proofs.Climbs.{tree_at-forest}
use Rattle.forest_model.proofs.Moving.{child_stands}
use Rattle.forest_model.proofs.Deleting.{join-none}
use Rattle.live_forest.specs.declared.batch.Sibling.{Sibling}
use Rattle.live_forest.specs.Stores.{StoreState}
use Rattle.live_forest.specs.Parts.{AreParts, kept}
use Rattle.live_forest.specs.Proving.{HasRows}
use Rattle.live_forest.proofs.Refreshing.{kept_right}
use Rattle.live_forest.proofs.Seeking.{alike, tree_above, tree_some, tree_none, within_left, within_right, node_high}

-- as many rows as before
pub rows_stay : (n : ℕ) (old new : List (List Sibling)) → length new ≡ length old → HasRows n old → HasRows n new
rows_stay n old new same has row = ((λ lt. (has row).0 (omega (arith, same, lt))), (λ h. omega (arith, same, (has row).1 h)))

module _ (H : List ℕ → Digest) (es : List (Option Digest)) (parts : StoreState) (right : AreParts H (length es) es parts) where
  -- the digest of a part whose tree stands there
  pub digest_here : (row off : ℕ) (q : Place) (d : Digest) → InForest (length es) row off → tree_at es q.row q.off ≡ content es row off
      → Some d ≡ kept es parts row off → digest_at H es q.row q.off ≡ Some d
  digest_here row off q d h s e = ap (option_map (digest_of H)) s ∙ sym (e ∙ kept_right H (length es) es parts row off right h)

  pub there : (row off : ℕ) (q : Place) (d : Digest) → InForest (length es) row off → tree_at es q.row q.off ≡ content es row off
      → Some d ≡ kept es parts row off → InForest (length es) q.row q.off
  there row off q d h s e =
      let t = tree_some es parts (alike H es parts right) row off d h e in
      tree_at-forest es q.row q.off t.0 (s ∙ t.1)

  -- a part with nothing in one half stands where the other half does
  pub stands_right : (row off : ℕ) (q : Place) → 0 < row → InForest (length es) row off → tree_at es q.row q.off ≡ content es row off
      → None ≡ kept es parts (row - 1) (2 * off) → tree_at es q.row q.off ≡ content es (row - 1) (2 * off + 1)
  stands_right row off q some h s e =
      s ∙ (tree_above es row off some ∙ ap (λ x. join x (content es (row - 1) (2 * off + 1)))
      (tree_none es parts (alike H es parts right) (row - 1) (2 * off) (within_left (length es) row off some h) e))

  pub stands_left : (row off : ℕ) (q : Place) → 0 < row → InForest (length es) row off → tree_at es q.row q.off ≡ content es row off
      → None ≡ kept es parts (row - 1) (2 * off + 1) → tree_at es q.row q.off ≡ content es (row - 1) (2 * off)
  stands_left row off q some h s e =
      s ∙ (tree_above es row off some ∙ (ap (join (content es (row - 1) (2 * off)))
      (tree_none es parts (alike H es parts right) (row - 1) (2 * off + 1) (within_right (length es) row off some h) e)
      ∙ join-none (content es (row - 1) (2 * off))))

  -- and one with something in both stands above them
  pub record AreHalves (row off : ℕ) (q : Place) : Type 0 where
    pub high : 1 ≤ q.row
    pub low : tree_at es (q.row - 1) (2 * q.off) ≡ content es (row - 1) (2 * off)
    pub above : tree_at es (q.row - 1) (2 * q.off + 1) ≡ content es (row - 1) (2 * off + 1)

  pub stand_both : (row off : ℕ) (q : Place) (x y : Digest) → 0 < row → InForest (length es) row off → tree_at es q.row q.off ≡ content es row off
      → Some x ≡ kept es parts (row - 1) (2 * off) → Some y ≡ kept es parts (row - 1) (2 * off + 1) → AreHalves row off q
  stand_both row off q x y some h s e f =
      let a = alike H es parts right in
      let l = tree_some es parts a (row - 1) (2 * off) x (within_left (length es) row off some h) e in
      let r = tree_some es parts a (row - 1) (2 * off + 1) y (within_right (length es) row off some h) f in
      let stands : tree_at es q.row q.off ≡ Some (inner l.0 r.0) = s ∙ (tree_above es row off some ∙ ap₂ join l.1 r.1) in
      let two = child_stands es q l.0 r.0 stands in
      let o : 2 * q.off ≡ 2 * q.off + 0 = omega arith in
      record { high = node_high es parts a q l.0 r.0 stands; low = ap (tree_at es (q.row - 1)) o ∙ (two.0 ∙ sym l.1); above = two.1 ∙ sym r.1 }
