-- Which places a deletion moves with those above them, and where held digests go, told from the last one back.
use Rattle.std.specs.Prelude.{◌≡◌, ℕ, ◌+◌, ◌-◌, ◌/◌, ◌^◌, ◌<◌, ◌≤◌, false, List, length, get_or, Option, IfSome}
use Rattle.uo_digest.specs.declared.digest.Digest.{Digest}
use Rattle.forest_place.specs.declared.place.Place.{Place}
use Rattle.forest_place.specs.Forest.{InForest, is_root, sibling_off}
use Rattle.forest_place.specs.Places.{is_before_place}
use Rattle.forest_model.specs.Deletion.{is_gone, moved}
use Rattle.proof_shape.specs.Targeted.{Targeted}

-- a place of the forest that is no root of a slot
pub record HasSibling (n : ℕ) (p : Place) : Type 0 where
  pub within : InForest n p.row p.off
  pub low : p.row < 40
  pub inner : is_root n p.row p.off ≡ false

-- neither the place nor its sibling is gone
abbrev pub BothStay : List Place → Place → Type 0
BothStay ts p = (is_gone ts p.row p.off ≡ false) × (is_gone ts p.row (sibling_off p.off) ≡ false)

-- q stands right above p, and neither p nor its sibling is gone
pub record IsStayingAbove (n : ℕ) (ts : List Place) (p q : Place) : Type 0 where
  pub inner : is_root n p.row p.off ≡ false
  pub row : q.row ≡ p.row + 1
  pub off : q.off ≡ p.off / 2
  pub both : BothStay ts p

-- where a place is given, p goes with it
abbrev pub GoesWith : Targeted → Place → Option Place → Type 0
GoesWith t p above = IfSome above (λ q. IsStayingAbove t.leaves t.targets p q)

-- q stands beneath p
pub record StandsBeneath (q p : Place) : Type 0 where
  pub low : q.row < p.row
  pub part : q.off / 2 ^ (p.row - q.row) ≡ p.off

-- the list tells where the last of the held digests go, the last one first
abbrev pub TellGoals : ℕ → List Place → List (Place × Digest) → List (Option Place) → Type 0
TellGoals n ts hs goals = (i k : ℕ) (x : Place × Digest) (d : Option Place) → k < length goals → i + k + 1 ≡ length hs
    → get_or goals k d ≡ moved n ts (get_or hs i x).0.row (get_or hs i x).0.off

-- none that is held from an index on comes before the place
pub record NoneBefore (hs : List (Place × Digest)) (at : ℕ) (p : Place) : Type 0 where
  pub within : at ≤ length hs
  pub each : (j : ℕ) (d : Place × Digest) → at ≤ j → j < length hs → is_before_place (get_or hs j d).0 p ≡ false
