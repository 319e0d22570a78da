-- What stands at places, each told from what stands above it.
use Rattle.std.proofs.Common.{◌≡◌, ℕ, ◌+◌, ◌-◌, ◌*◌, ◌/◌, ◌%◌, ◌<◌, ◌≤◌, Bool, false, ◌↔◌, IsTrue, List, length, get_or, set, Option, Some, None, sym}
use Rattle.std.proofs.Common.{◌∙◌, subst, ⊎_elim, arith}
use Rattle.std.proofs.lemmas.Bool.{cases_eq, true≢false}
use Rattle.std.proofs.lemmas.List.{get_or_default, get_or-set_same, get_or-set_other}
use Rattle.uo_digest.specs.declared.digest.Digest.{Digest}
use Rattle.forest_place.specs.declared.place.Place.{Place}
use Rattle.forest_place.specs.Forest.{InForest}
use Rattle.live_forest.specs.Stores.{StoreState}
use Rattle.live_forest.specs.Lookups.{AreAlike, IsPartAt, IsNodeAt, AreNodes, IsParentAt}
use Rattle.live_forest.proofs.Seeking.{node_above}

pub not_within : (b : Bool) (P : Type 0) → b ≡ false → IsTrue b ↔ P → P → ⊥
not_within b P e w p = true≢false (sym (w.1 p) ∙ e)

-- what is told is told of fewer
pub fewer_told : (es : List (Option Digest)) (ps : List Place) (nodes : List (Option Place)) (from at : ℕ) → from ≤ at → AreNodes es ps nodes from
    → AreNodes es ps nodes at
fewer_told es ps nodes from at le all = record { is = λ i p ge lt. all.is i p (omega (arith, le, ge)) lt }

-- one more is told
pub one_told : (es : List (Option Digest)) (ps : List Place) (nodes : List (Option Place)) (i : ℕ) (node : Option Place) (d : Place) → i < length ps
    → length nodes ≡ length ps → IsNodeAt es (get_or ps i d).row (get_or ps i d).off node → AreNodes es ps nodes (i + 1)
    → AreNodes es ps (set nodes i node) i
one_told es ps nodes i node d lt long here all = record {
  is = λ k p ge low. ⊎_elim
      (λ same. subst (λ j. IsNodeAt es (get_or ps j p).row (get_or ps j p).off (get_or (set nodes i node) j None)) (sym same)
      (subst (IsNodeAt es (get_or ps i p).row (get_or ps i p).off) (sym (get_or-set_same nodes i node None (omega (arith, lt, long))))
      (subst (λ (x : Place). IsNodeAt es x.row x.off node) (get_or_default ps i d p lt) here)))
      (λ other. subst (IsNodeAt es (get_or ps k p).row (get_or ps k p).off) (sym (get_or-set_other nodes i k node None other))
      (all.is k p (omega (arith, ge, other)) low))
      (cases_eq k i);
}

module _ (es : List (Option Digest)) (parts : StoreState) (right : AreAlike es parts) (ps : List Place) (nodes : List (Option Place)) (at : ℕ)
    (p : Place) (h : InForest (length es) p.row p.off) (up : IsParentAt (length es) ps at p) (told : AreNodes es ps nodes at) where
  told_above : (x : Option Place) → get_or nodes at None ≡ x → IsNodeAt es (p.row + 1) (p.off / 2) x
  told_above x e =
      subst (IsNodeAt es (p.row + 1) (p.off / 2)) e
      (subst (λ (q : Place). IsNodeAt es q.row q.off (get_or nodes at None)) (up.is p) (told.is at p (omega arith) up.low))

  -- an inner node stands above
  pub inner_told : (q : Place) → get_or nodes at None ≡ Some q → 0 < q.row
      → IsPartAt es p.row p.off (record { row = q.row - 1; off = 2 * q.off + p.off % 2 })
  inner_told q e high = let t = told_above (Some q) e in node_above es parts right p.row p.off q q h up.inner t.0 t.1 high
