-- Sets and maps by outpoint: what an insertion does.
use Rattle.std.proofs.Common.{◌≡◌, ℕ, Bool, true, false, cond, List, ◌∷◌, refl, sym, ap, ◌∙◌, ap₂, ⊎_elim, arith, eq-eqb}
use Rattle.std.specs.Prelude.{◌&&◌, ◌||◌, ◌==◌, bytes_eq, not, nat_lt}
use Rattle.std.specs.List.{list_any}
use Rattle.std.specs.declared.cmp.Ordering.{Ordering}
use Rattle.std.specs.declared.cmp.Ordering.TheVariants.{Less, Equal, Greater}
use Rattle.std.specs.Ordering.{nat_cmp, ordering_then, is_eq}
use Rattle.std.specs.Cmp.Lexicographic.{slice_cmp}
use Rattle.std.specs.BTreeSet as set
use Rattle.std.specs.BTreeSet.{BTreeSet}
use Rattle.std.proofs.lemmas.Bool.{cases_Bool, eqb-true, ltb-true}
use Rattle.std.proofs.lemmas.Map.Text.{is_eq-slice_cmp}
use Rattle.leaf_record.specs.Leaf.{Outpoint}
use Rattle.leaf_record.specs.History.{same_point}
use Rattle.leaf_record.proofs.HistoryLaws.{same_point-true, same_point-same}
use Rattle.block_rules.specs.declared.outpoint.OutpointKey.{OutpointKey}
use Rattle.uo_digest.specs.declared.digest.Digest.{Digest}
use Rattle.uo_digest.proofs.DigestLaws.{digest_is}
use Rattle.std.specs.Cmp.Lexicographic.{same_text}
use Rattle.block_rules.specs.Keys.{point_of, key_cmp, HasPoints, key_of_id, head_of, id_cmp}

then_eq : (a b : Ordering) → is_eq (ordering_then a b) ≡ (is_eq a && is_eq b)
then_eq Less b = refl
then_eq Equal b = refl
then_eq Greater b = refl

nat_eq_is : (x y : ℕ) → is_eq (nat_cmp x y) ≡ (x == y)
nat_eq_is x y = ⊎_elim (λ t. ⊎_elim (λ e. absurd (omega (arith, ltb-true x y t, eqb-true x y e))) (λ e. rw t (rw e refl)) (cases_Bool (x == y)))
    (λ t. rw t (⊎_elim (λ e. rw e refl) (λ e. rw e refl) (cases_Bool (x == y)))) (cases_Bool (nat_lt x y))

-- two keys are equal where their outpoints are
pub key_eq : (a b : OutpointKey) → is_eq (key_cmp a b) ≡ same_point (point_of a) (point_of b)
key_eq a b =
    then_eq (nat_cmp a.index b.index) (slice_cmp nat_cmp a.txid b.txid) ∙
    (ap₂ (λ x y. x && y) (nat_eq_is a.index b.index) (is_eq-slice_cmp a.txid b.txid) ∙ exchanged (a.index == b.index) (bytes_eq a.txid b.txid))
  where
    exchanged : (x y : Bool) → (x && y) ≡ (y && x)
    exchanged true true = refl
    exchanged true false = refl
    exchanged false true = refl
    exchanged false false = refl

pub same_digest : (a b : Digest) → bytes_eq a.0 b.0 ≡ true → a ≡ b
same_digest a b t = digest_is a b.0 (same_text a.0 b.0 (sym t))

-- two ids have equal keys where they are equal
pub id_eq : (a b : Digest) → is_eq (id_cmp (key_of_id a) (key_of_id b)) ≡ bytes_eq a.0 b.0
id_eq a b =
    then_eq (nat_cmp (head_of a) (head_of b)) (slice_cmp nat_cmp a.0 b.0)
    ∙ (ap₂ (λ x y. x && y) (nat_eq_is (head_of a) (head_of b)) (is_eq-slice_cmp a.0 b.0)
    ∙ by_case (bytes_eq a.0 b.0) (head_of a == head_of b) (λ t. eq-eqb (head_of a) (head_of b) (ap head_of (same_digest a b t))))
  where
    by_case : (x y : Bool) → (x ≡ true → y ≡ true) → (y && x) ≡ x
    by_case true y h = rw (h refl) refl
    by_case false true h = refl
    by_case false false h = refl

pub same_point-sym : (p q : Outpoint) → same_point p q ≡ same_point q p
same_point-sym p q =
    ⊎_elim
    (λ t. t ∙ sym (ap (λ x. same_point q x) (same_point-true p q t) ∙ same_point-same q))
    (λ f. ⊎_elim (λ t. ap (λ x. same_point p x) (same_point-true q p t) ∙ (same_point-same p ∙ sym t)) (λ g. f ∙ sym g) (cases_Bool (same_point q p)))
    (cases_Bool (same_point p q))

-- the set, with one more
pub points_put : (old new : BTreeSet OutpointKey) (key : OutpointKey) (points : List Outpoint) → HasPoints old points
    → set.Updates key_cmp old new key true → HasPoints new (point_of key ∷ points)
points_put old new key points has u = λ q. u.0 q ∙ (ap (λ b. cond b true (set.contains key_cmp old q))
    (key_eq key q ∙ same_point-sym (point_of key) (point_of q)) ∙ by_case (same_point (point_of q) (point_of key)) q)
  where
    by_case : (b : Bool) (q : OutpointKey) → cond b true (set.contains key_cmp old q) ≡ (b || list_any (same_point (point_of q)) points)
    by_case true q = refl
    by_case false q = has q

-- what an insertion says of the set before
pub was_there : (added was : Bool) → added ≡ not was → added ≡ false → was ≡ true
was_there added true e f = refl
was_there added false e f = sym f ∙ e

pub was_absent : (added was : Bool) → added ≡ not was → added ≡ true → was ≡ false
was_absent added true e f = sym f ∙ e
was_absent added false e f = refl
