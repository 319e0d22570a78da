-- What is gathered of the covered places is what the proof comes to at each.
use Rattle.std.proofs.Common.{◌≡◌, ℕ, zero, suc, ◌+◌, ◌<◌, ◌≤◌, true, false, List, [], ◌∷◌, ◌++◌, take, map, length, get_or, Some}
use Rattle.std.proofs.Common.{is_some, refl, sym, ap, ◌∙◌, subst, inl, inr, arith}
use Rattle.std.specs.Prelude.{◌⊎◌}
use Rattle.std.specs.List.{range_with_len}
use Rattle.std.proofs.lemmas.Bool.{cases_Bool}
use Rattle.std.proofs.lemmas.List.{take_more, take_all}
use Rattle.std.proofs.lemmas.Simd.{map-map}
use Rattle.std.proofs.lemmas.List.FromFn.{get_or-map-range_with_len, length-map-range_with_len, map-range_with_len_more}
use Rattle.std.proofs.lemmas.Option.{same_Some}
use Rattle.uo_digest.specs.declared.digest.Digest.{Digest}
use Rattle.forest_place.specs.declared.place.Place.{Place}
use Rattle.forest_place.proofs.Listed.{place}
use Rattle.forest_model.specs.Cover.{Cover, target, cover, need, HasShape}
use Rattle.forest_model.proofs.Covers.{some_from_test}
use Rattle.forest_model.proofs.Extract.{cover-target}
use Rattle.forest_place.specs.Places.{place_in}
use Rattle.proof_shape.specs.Survey.{has, IsCoverOf}
use Rattle.proof_shape.proofs.Longer.{place_where}
use Rattle.proof_verify.specs.PlaceSources.{source_at, AreHalves, IsTargetAt}
use Rattle.proof_verify.specs.PlaceNodes.{IsWithin, IsHalfWithin, CanEvaluate, AreEvaluated}
use Rattle.proof_verify.specs.Reserved.{IsPlan}
use Rattle.proof_verify.specs.Evaluation.{IsPreimage, IsEvaluatedAt, AreEvaluatedAt}
use Rattle.proof_verify.specs.Gathered.{preimage_from, item_from, AreHalvesWithin, AreHalfwise}
use Rattle.proof_verify.specs.declared.evaluation.CoveredPlace.{CoveredPlace}
use Rattle.proof_verify.specs.declared.place_node.PlaceNode.{PlaceNode}
use Rattle.proof_verify.specs.declared.place_source.Half.{Half}
use Rattle.proof_verify.specs.declared.place_source.Half.TheVariants.{Covered, Needed}
use Rattle.proof_verify.specs.declared.place_source.PlaceSource.{PlaceSource}
use Rattle.proof_verify.specs.declared.place_source.PlaceSource.TheVariants.{Target, Halves}
use Rattle.proof_verify.proofs.Planned.{inside, is_covered}
use Rattle.proof_verify.proofs.Values.{nodes_are, halves_are}

-- halves that stand before a place are among all nodes
pub halfwise : (os : List PlaceSource) (leaves hashes nodes : ℕ) → length os ≡ nodes → CanEvaluate os leaves hashes → AreHalfwise os nodes hashes
halfwise os leaves hashes nodes long can i lt = wider (source_at os i) (can i lt)
  where
    wider_half : (x : Half) → IsHalfWithin i hashes x → IsHalfWithin nodes hashes x
    wider_half (Covered k) w = omega (arith, w, lt, long)
    wider_half (Needed j) w = w

    wider : (o : PlaceSource) → IsWithin i leaves hashes o → AreHalvesWithin nodes hashes o
    wider (Target k) w = tt
    wider (Halves x y) w = (wider_half x w.0, wider_half y w.1)

-- a list is that of its places by index
pub by_index : (cs : List Place) (k : ℕ) → k ≤ length cs → map (place_in cs) (range_with_len 0 k) ≡ take k cs
by_index cs zero le = refl
by_index cs (suc k) le =
    let lt : k < length cs = omega (arith, le) in
    let up : k + 1 ≡ suc k = omega arith in
    subst (λ m. map (place_in cs) (range_with_len 0 m) ≡ take m cs) up
    (map-range_with_len_more (place_in cs) 0 k k (omega arith) ∙ (ap (λ ps. ps ++ place_in cs k ∷ []) (by_index cs k (omega (arith, le)))
    ∙ sym (take_more cs k (record { row = 0; off = 0 }) lt)))

module _ (H : List ℕ → Digest) (n : ℕ) (ts cs : List Place) (os : List PlaceSource) (plan : IsPlan n ts cs os) (shape : HasShape n ts)
    (leaves hashes : List Digest) (leaves_long : length leaves ≡ length ts) (hashes_long : length hashes ≡ length (need n ts))
    (nodes : List PlaceNode) (evaluated : AreEvaluated H os leaves hashes (length os) nodes) where
  made_is : (m : ℕ) (c : Cover) → m < length cs → cover ts (place_in cs m).row (place_in cs m).off ≡ Some c
      → IsPreimage H n ts leaves hashes (place_in cs m) c (preimage_from hashes nodes (source_at os m))
  made_is m c lt e = by_target (cases_Bool (has ts (place_in cs m)))
    where
      p : Place
      p = place_in cs m

      as_target : (o : PlaceSource) → IsTargetAt ts (place_in cs m) o → has ts (place_in cs m) ≡ true
          → IsPreimage H n ts leaves hashes (place_in cs m) c (preimage_from hashes nodes o)
      as_target (Target i) w it =
          let is : target (place_in cs m).row (place_in cs m).off ≡ c =
          same_Some _ c (sym (cover-target ts (place_in cs m).row (place_in cs m).off it) ∙ e) in
          subst (λ (x : Cover). IsPreimage H n ts leaves hashes (place_in cs m) x (preimage_from hashes nodes (Target i))) is w
      as_target (Halves x y) w it = absurd w

      as_inner : (o : PlaceSource) → source_at os m ≡ o → has ts (place_in cs m) ≡ false
          → IsPreimage H n ts leaves hashes (place_in cs m) c (preimage_from hashes nodes o)
      as_inner (Target i) is none = absurd (subst (AreHalves n cs (place_in cs m)) is (plan.inner m lt none).1)
      as_inner (Halves x y) is none =
          let w = halves_are n ts cs os plan shape leaves hashes leaves_long hashes_long H nodes evaluated m x y c lt is none e in
          subst (λ (k : Cover). IsPreimage H n ts leaves hashes (place_in cs m) k (preimage_from hashes nodes (Halves x y))) (sym w.2)
          (ap (λ (z : PlaceNode). z.digest) w.3, ap (λ (z : PlaceNode). z.digest) w.4)

      by_target : (has ts (place_in cs m) ≡ true) ⊎ (has ts (place_in cs m) ≡ false)
          → IsPreimage H n ts leaves hashes (place_in cs m) c (preimage_from hashes nodes (source_at os m))
      by_target (inl it) = as_target (source_at os m) (plan.targets m lt it) it
      by_target (inr none) = as_inner (source_at os m) refl none

  item_is : (m : ℕ) → m < length cs → IsEvaluatedAt H n ts leaves hashes (item_from cs os nodes hashes m)
  item_is m lt =
      let c = some_from_test (cover ts (place_in cs m).row (place_in cs m).off) (is_covered n ts cs plan.cover_is m lt) in
      record {
        within = inside n ts cs plan.cover_is m lt;
        beneath = c.0;
        covered = c.1;
        digest = ap (λ (z : PlaceNode). z.digest) (nodes_are n ts cs os plan shape leaves hashes leaves_long hashes_long H nodes evaluated m lt c.0
            c.1);
        preimage = made_is m c.0 lt c.1;
      }

  pub items_are : (items : List CoveredPlace) → items ≡ map (item_from cs os nodes hashes) (range_with_len 0 (length cs))
      → AreEvaluatedAt H n ts leaves hashes items
  items_are items is =
      let f = item_from cs os nodes hashes in
      let count : length items ≡ length cs = ap length is ∙ length-map-range_with_len f 0 (length cs) in
      let at = λ (i : ℕ) (d : CoveredPlace) (lt : i < length cs). let e : get_or items i d ≡ f i = ap (λ (l : List CoveredPlace). get_or l i d) is
      ∙ get_or-map-range_with_len f 0 (length cs) i i d lt (omega arith) in e in
      record {
        each = λ i d lt. let l : i < length cs = omega (arith, lt, count) in
            subst (IsEvaluatedAt H n ts leaves hashes) (sym (at i d l)) (item_is i l);
        all = λ row off c h e.
            let there : has cs (place row off) ≡ true = plan.cover_is.covered (place row off) h ∙ ap is_some e in
            let w = place_where cs row off there in
            (w.0, (let l = w.1 in omega (arith, l, count)), λ d. ap (λ (x : CoveredPlace). x.place) (at w.0 d w.1) ∙ w.2);
        order =
            let made : map (λ (x : CoveredPlace). x.place) items ≡ cs = ap (map (λ (x : CoveredPlace). x.place)) is
            ∙ (map-map (λ (x : CoveredPlace). x.place) f (range_with_len 0 (length cs))
            ∙ (by_index cs (length cs) (omega arith) ∙ take_all (length cs) cs (omega arith))) in
            subst (IsCoverOf n ts) (sym made) plan.cover_is;
      }
