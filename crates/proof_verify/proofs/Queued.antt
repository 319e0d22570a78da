-- The pairs that are digested for places, one place after the other.
use Rattle.std.proofs.Common.{◌≡◌, ℕ, ◌+◌, ◌*◌, ◌<◌, ◌≤◌, List, [], ◌∷◌, ◌++◌, length, map, take, drop, get_or, set, flat_map, sym, ap, ◌∙◌, arith}
use Rattle.std.specs.Prelude.{cond, count_by, Option, Some, None}
use Rattle.std.proofs.Math.Seq.{take-append_seam, drop-append_seam}
use Rattle.std.proofs.lemmas.List.{length-append, length-map, append-nil, map-append, take_more, take_more_set, map_more, drop_more}
use Rattle.std.proofs.lemmas.List.Concat.{flat_map-append}
use Rattle.std.proofs.lemmas.List.Sums.{sum_by-cons}
use Rattle.uo_digest.specs.declared.digest.Digest.{Digest}
use Rattle.proof_verify.specs.PlaceSources.{source_at}
use Rattle.proof_verify.specs.PlaceNodes.{half_node, IsWithin, is_inner}
use Rattle.proof_verify.specs.Gathered.{AreHalvesWithin, AreHalfwise}
use Rattle.proof_verify.specs.Batches.{AreWithin, pairs_left, pairs_for}
use Rattle.proof_verify.specs.declared.place_node.PlaceNode.{PlaceNode}
use Rattle.proof_verify.specs.declared.place_source.PlaceSource.{PlaceSource}
use Rattle.proof_verify.specs.declared.place_source.PlaceSource.TheVariants.{Target, Halves}

pub one_inner : (o : PlaceSource) → cond (is_inner o) 1 0 ≤ 1
one_inner (Target i) = omega arith
one_inner (Halves x y) = omega arith

module _ (nodes : List PlaceNode) (hashes : List Digest) where
  one_left : (l r : Option Digest) → length (pairs_left l r) ≤ 1
  one_left None r = omega arith
  one_left (Some l) None = omega arith
  one_left (Some l) (Some r) = omega arith

  pub two_for : (o : PlaceSource) → length (pairs_for nodes hashes o) ≤ 2 * cond (is_inner o) 1 0
  two_for (Target i) = omega arith
  two_for (Halves x y) = let a = one_left (half_node nodes hashes x).left (half_node nodes hashes y).left in omega (arith, a)

  pub queued_few : (os : List PlaceSource) → length (flat_map (pairs_for nodes hashes) os) ≤ 2 * count_by is_inner os
  queued_few [] = omega arith
  queued_few (o ∷ os) =
      let f = pairs_for nodes hashes in
      let long : length (flat_map f (o ∷ os)) ≡ length (f o) + length (flat_map f os) = length-append (f o) (flat_map f os) in
      let count : count_by is_inner (o ∷ os) ≡ cond (is_inner o) 1 0 + count_by is_inner os = sum_by-cons (λ p. cond (is_inner p) 1 0) o os in
      let rest = queued_few os in
      let here = two_for o in
      omega (arith, long, count, rest, here)

module _ {X Y Z : Type 0} (f : X → List Y) (g : Y → Z) (xs : List X) (i : ℕ) (d : X) (lt : i < length xs) where
  -- one place more
  pub queued_more : flat_map f (take (i + 1) xs) ≡ flat_map f (take i xs) ++ f (get_or xs i d)
  queued_more =
      ap (flat_map f) (take_more xs i d lt)
      ∙ (flat_map-append f (take i xs) (get_or xs i d ∷ []) ∙ ap (λ l. flat_map f (take i xs) ++ l) (append-nil (f (get_or xs i d))))

  -- what is made for the places that are left, in two parts
  parts : map g (flat_map f (drop i xs)) ≡ map g (f (get_or xs i d)) ++ map g (flat_map f (drop (i + 1) xs))
  parts = ap (λ l. map g (flat_map f l)) (drop_more xs i d lt) ∙ map-append g (f (get_or xs i d)) (flat_map f (drop (i + 1) xs))

  long : length (f (get_or xs i d)) ≡ length (map g (f (get_or xs i d)))
  long = sym (length-map (f (get_or xs i d)) g)

  pub made_front : (made : List Z) → made ≡ map g (flat_map f (drop i xs)) → take (length (f (get_or xs i d))) made ≡ map g (f (get_or xs i d))
  made_front made e =
      let here = map g (f (get_or xs i d)) in
      ap (take (length (f (get_or xs i d)))) (e ∙ parts)
      ∙ (ap (λ k. take k (here ++ map g (flat_map f (drop (i + 1) xs)))) long ∙ take-append_seam here (map g (flat_map f (drop (i + 1) xs))))

  pub made_behind : (made behind : List Z) → made ≡ map g (flat_map f (drop i xs)) → behind ≡ drop (length (f (get_or xs i d))) made
      → behind ≡ map g (flat_map f (drop (i + 1) xs))
  made_behind made behind e is =
      let here = map g (f (get_or xs i d)) in
      is
      ∙ (ap (drop (length (f (get_or xs i d)))) (e ∙ parts)
      ∙ (ap (λ k. drop k (here ++ map g (flat_map f (drop (i + 1) xs)))) long ∙ drop-append_seam here (map g (flat_map f (drop (i + 1) xs)))))

-- one entry more is written
pub written_more : {X Y : Type 0} (h : X → Y) (xs : List X) (ys : List Y) (i : ℕ) (d : X) (y : Y) → i < length xs → length ys ≡ length xs
    → take i ys ≡ map h (take i xs) → y ≡ h (get_or xs i d) → take (i + 1) (set ys i y) ≡ map h (take (i + 1) xs)
written_more h xs ys i d y lt e before is =
    take_more_set ys i y (omega (arith, lt, e)) ∙ ((λ k. before k ++ is k ∷ []) ∙ sym (map_more h xs i d lt))

-- places that are within some nodes have their halves there
pub halves_within : (nodes leaves hashes : ℕ) (os : List PlaceSource) → AreWithin nodes leaves hashes os → AreHalfwise os nodes hashes
halves_within nodes leaves hashes os can i lt = one (source_at os i) (can i lt)
  where
    one : (o : PlaceSource) → IsWithin nodes leaves hashes o → AreHalvesWithin nodes hashes o
    one (Target k) w = tt
    one (Halves x y) w = w
