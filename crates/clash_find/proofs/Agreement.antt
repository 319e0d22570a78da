-- A proof is right exactly where, at each covered place at which it comes to the forest's digest, the two texts are equal.
use Rattle.std.proofs.Common.{◌≡◌, ◌≢◌, ℕ, zero, suc, ◌+◌, ◌*◌, true, false, List, [], ◌∷◌, ◌++◌, map, length, get_or, Option, Some, None, refl, sym}
use Rattle.std.proofs.Common.{ap, ◌∙◌, subst, ap₂, ⊎_elim, arith, length-append}
use Rattle.std.specs.Prelude.{option_map, slice_get}
use Rattle.std.specs.List.{AllZip}
use Rattle.std.proofs.lemmas.Bool.{cases_Bool, false≢true}
use Rattle.std.proofs.lemmas.Option.{none-some, same_Some}
use Rattle.uo_digest.specs.declared.digest.Digest.{Digest}
use Rattle.forest_place.specs.declared.place.Place.{Place}
use Rattle.forest_place.specs.Forest.{InForest}
use Rattle.forest_place.specs.Places.{is_at, has_place}
use Rattle.forest_place.proofs.Listed.{place, same_from_is_at}
use Rattle.forest_place.proofs.Parts.{InForest-left, InForest-right}
use Rattle.forest_model.specs.Content.{IsDigest, Tree, leaf, inner, digest_of}
use Rattle.forest_model.specs.Standing.{half, tree_at, digest_at}
use Rattle.forest_model.specs.Cover.{Cover, target, given, both, cover_of_halves, cover}
use Rattle.forest_model.specs.Evaluation.{beside, value, asked, hash_of}
use Rattle.forest_model.specs.Right.{entries, text_at, IsKnowledge, IsLiveAt}
use Rattle.forest_model.proofs.Climbs.{tree_at-left, tree_at-right}
use Rattle.forest_model.proofs.Covers.{Beside, at_target, at_given, at_both, Beside-weaker, StandsAsTarget, StandsAsNeeded, laid, value-laid}
use Rattle.forest_model.proofs.Unique.{EachLeaf, tree_at-leaves}
use Rattle.forest_model.proofs.Clash.{IsFound, same_parts, same_Digest}
use Rattle.forest_model.proofs.Right.{hash_right}

module _ (H : List ℕ → Digest) (es : List (Option Digest)) (text_of : ℕ → List ℕ) (ts : List Place) (leaf_texts : ℕ → ℕ → List ℕ) (hashes : ℕ → ℕ
    → Digest) where
  -- what a cover comes to
  abbrev pub value_of : Cover → Digest
  value_of c = value H (λ r o. H (leaf_texts r o)) hashes c

  abbrev pub node_text : Tree → List ℕ
  node_text (leaf i d) = text_of i
  node_text (inner l r) = (digest_of H l).0 ++ (digest_of H r).0

  abbrev pub cover_text : Cover → List ℕ
  cover_text (target r o) = leaf_texts r o
  cover_text (given r o) = []
  cover_text (both l r) = (value_of l).0 ++ (value_of r).0

  abbrev pub HasDigests : Cover → Type 0
  HasDigests (target r o) = Unit {0}
  HasDigests (given r o) = Unit {0}
  HasDigests (both l r) = IsDigest (value_of l) × IsDigest (value_of r)

  -- where the digests are equal at a covered place, so are the texts
  abbrev pub AgreeAt : ℕ → ℕ → Type 0
  AgreeAt r o = (c : Cover) (t : Tree) → cover ts r o ≡ Some c → tree_at es r o ≡ Some t → value_of c ≡ digest_of H t → (node_text t ≡ cover_text c)
      × HasDigests c

  abbrev Found : Cover → Tree → Type 0
  Found = IsFound H text_of leaf_texts hashes

  module _ (long : (x : List ℕ) → IsDigest (H x)) (leaf_long : (r o : ℕ) → length (leaf_texts r o) ≢ 64) (entry : (i : ℕ) (d : Digest)
      → get_or es i None ≡ Some d → (H (text_of i) ≡ d) × (length (text_of i) ≢ 64))
      (agree : (r o : ℕ) → InForest (length es) r o → AgreeAt r o) where
    tree_long : (t : Tree) → EachLeaf (λ i d. get_or es i None ≡ Some d) t → IsDigest (digest_of H t)
    tree_long (leaf i d) h = subst IsDigest (entry i d h).0 (long (text_of i))
    tree_long (inner l r) h = long _

    two_digests : (x y : Digest) → IsDigest x → IsDigest y → length (x.0 ++ y.0) ≡ 64
    two_digests x y a b = omega (arith, length-append x.0 y.0, a, b)

    target_found : (r o : ℕ) (t : Tree) → InForest (length es) r o → cover ts r o ≡ Some (target r o) → tree_at es r o ≡ Some t
        → value_of (target r o) ≡ digest_of H t → Found (target r o) t
    target_found r o (leaf i d) h e s v = at_target (i, d, refl, (agree r o h (target r o) (leaf i d) e s v).0)
    target_found r o (inner a b) h e s v =
        let same = (agree r o h (target r o) (inner a b) e s v).0 in
        let each = tree_at-leaves es r o (inner a b) s in
        absurd (leaf_long r o (ap length (sym same) ∙ two_digests (digest_of H a) (digest_of H b) (tree_long a each.0) (tree_long b each.1)))

    -- from a place down
    pub found : (r o : ℕ) (c : Cover) (t : Tree) → InForest (length es) r o → cover ts r o ≡ Some c → tree_at es r o ≡ Some t
        → value_of c ≡ digest_of H t → Found c t
    found zero o c t h e s v =
        ⊎_elim
        (λ (it : has_place ts zero o ≡ true).
        let is : target zero o ≡ c = same_Some _ c (rw it at e) in
        subst (λ (k : Cover). Found k t) is (target_found zero o t h (e ∙ ap Some (sym is)) s (ap value_of is ∙ v)))
        (λ (other : has_place ts zero o ≡ false). absurd (none-some c (rw other at e)))
        (cases_Bool (has_place ts zero o))
    found (suc r) o c t h e s v =
        ⊎_elim
        (λ (it : has_place ts (suc r) o ≡ true).
        let is : target (suc r) o ≡ c = same_Some _ c (rw it at e) in
        subst (λ (k : Cover). Found k t) is (target_found (suc r) o t h (e ∙ ap Some (sym is)) s (ap value_of is ∙ v)))
        (λ (other : has_place ts (suc r) o ≡ false).
        by_halves t s v (cover ts r (2 * o)) (cover ts r (2 * o + 1)) refl refl (rw other at e)
        (λ d u. found r (2 * o) d u (InForest-left (length es) r o h))
        (λ d u. found r (2 * o + 1) d u (InForest-right (length es) r o h)))
        (cases_Bool (has_place ts (suc r) o))
      where
        below : (k : Cover) → c ≡ k → (t : Tree) → tree_at es (suc r) o ≡ Some t → value_of c ≡ digest_of H t → (l d : Cover) → k ≡ both l d →
            ((u : Tree) → tree_at es r (2 * o) ≡ Some u → value_of l ≡ digest_of H u → Found l u)
            → ((u : Tree) → tree_at es r (2 * o + 1) ≡ Some u → value_of d ≡ digest_of H u → Found d u) → Found c t
        below k is (leaf i x) s v l d form left right =
            let made : c ≡ both l d = is ∙ form in
            let w = agree (suc r) o h (both l d) (leaf i x) (e ∙ ap Some made) s (ap value_of (sym made) ∙ v) in
            absurd ((entry i x (tree_at-leaves es (suc r) o (leaf i x) s)).1 (ap length w.0 ∙ two_digests (value_of l) (value_of d) w.1.0 w.1.1))
        below k is (inner a b) s v l d form left right =
            let made : c ≡ both l d = is ∙ form in
            let w = agree (suc r) o h (both l d) (inner a b) (e ∙ ap Some made) s (ap value_of (sym made) ∙ v) in
            let each = tree_at-leaves es (suc r) o (inner a b) s in
            let parts = same_parts _ _ _ _ (tree_long a each.0 ∙ sym w.1.0) w.0 in
            subst (λ (x : Cover). Found x (inner a b)) (sym made)
            (at_both
            (left a (tree_at-left es r o h ∙ ap (half 0) s) (sym (same_Digest _ _ parts.0)))
            (right b (tree_at-right es r o h ∙ ap (half 1) s) (sym (same_Digest _ _ parts.1))))

        by_halves : (t : Tree) → tree_at es (suc r) o ≡ Some t → value_of c ≡ digest_of H t → (x y : Option Cover) → cover ts r (2 * o) ≡ x
            → cover ts r (2 * o + 1) ≡ y → cover_of_halves r o x y ≡ Some c →
            ((d : Cover) (u : Tree) → cover ts r (2 * o) ≡ Some d → tree_at es r (2 * o) ≡ Some u → value_of d ≡ digest_of H u → Found d u) →
            ((d : Cover) (u : Tree) → cover ts r (2 * o + 1) ≡ Some d → tree_at es r (2 * o + 1) ≡ Some u → value_of d ≡ digest_of H u → Found d u)
            → Found c t
        by_halves t s v None None a b e left right = absurd (none-some c e)
        by_halves t s v (Some x) None a b e left right =
            below c refl t s v x (given r (2 * o + 1)) (sym (same_Some _ c e)) (λ u. left x u a) (λ u z w. at_given w)
        by_halves t s v None (Some y) a b e left right =
            below c refl t s v (given r (2 * o)) y (sym (same_Some _ c e)) (λ u z w. at_given w) (λ u. right y u b)
        by_halves t s v (Some x) (Some y) a b e left right = below c refl t s v x y (sym (same_Some _ c e)) (λ u. left x u a) (λ u. right y u b)

-- ---- where a proof is right, the texts are equal

-- the record at a place of the list
record IsBesideAt {R : Type 0} (P : Place → R → Type 0) (text : R → List ℕ) (ps : List Place) (rs : List R) (r o : ℕ) : Type 0 where
  rec : R
  holds : P (place r o) rec
  shown : beside [] ps (map text rs) r o ≡ text rec

beside_zip : {R : Type 0} (P : Place → R → Type 0) (text : R → List ℕ) (ps : List Place) (rs : List R) (r o : ℕ) → AllZip P ps rs
    → has_place ps r o ≡ true → IsBesideAt P text ps rs r o
beside_zip P text [] rs r o z h = absurd (false≢true h)
beside_zip P text (p ∷ ps) [] r o z h = absurd z
beside_zip P text (p ∷ ps) (x ∷ rs) r o z h =
    ⊎_elim
    (λ (here : is_at r o p ≡ true). record { rec = x; holds = subst (λ (q : Place). P q x) (same_from_is_at r o p here) z.0; shown = rw here refl })
    (λ (other : is_at r o p ≡ false). let w = beside_zip P text ps rs r o z.1 (rw other at h) in
    record { rec = w.rec; holds = w.holds; shown = rw other w.shown })
    (cases_Bool (is_at r o p))

text_live : {R : Type 0} (text : R → List ℕ) (us : List (Option R)) (i : ℕ) (x : R) → slice_get us i ≡ Some (Some x) → text_at text us i ≡ text x
text_live text [] i x e = absurd (none-some _ e)
text_live text (u ∷ us) zero x e = let z : u ≡ Some x = same_Some u (Some x) e in rw z refl
text_live text (u ∷ us) (suc i) x e = text_live text us i x e

module _ {R : Type 0} (H : List ℕ → Digest) (text : R → List ℕ) (us : List (Option R)) (ts : List Place) (known : ℕ → ℕ → Option Digest) (rs : List R)
    (hs : List Digest)
    (view : IsKnowledge H (entries H text us) known) (spends : AllZip (IsLiveAt H text us) ts rs)
    (shown : map Some hs ≡ map (λ p. digest_at H (entries H text us) p.row p.off) (asked (length (entries H text us)) ts known)) where
  abbrev es : List (Option Digest)
  es = entries H text us

  abbrev leaf_texts : ℕ → ℕ → List ℕ
  leaf_texts = beside [] ts (map text rs)

  abbrev hashes : ℕ → ℕ → Digest
  hashes = hash_of H (length es) ts known hs

  stand : (r o : ℕ) → has_place ts r o ≡ true → InForest (length es) r o → (t : Tree) × (tree_at es r o ≡ Some t)
  stand r o it h = let w = beside_zip (IsLiveAt H text us) text ts rs r o spends it in (leaf w.holds.number (H (text w.rec)), w.holds.stands)

  -- a target has the text of its entry
  record IsShown (r o : ℕ) (t : Tree) : Type 0 where
    number : ℕ
    digest : Digest
    is : t ≡ leaf number digest
    same : text_at text us number ≡ leaf_texts r o
    value : H (leaf_texts r o) ≡ digest_of H t

  target_shown : (r o : ℕ) (t : Tree) → StandsAsTarget es ts r o t → IsShown r o t
  target_shown r o t s =
      let w = beside_zip (IsLiveAt H text us) text ts rs r o spends s.is in
      let is : t ≡ leaf w.holds.number (H (text w.rec)) = same_Some _ _ (sym s.stands ∙ w.holds.stands) in
      record {
        number = w.holds.number;
        digest = H (text w.rec);
        is = is;
        same = text_live text us w.holds.number w.rec w.holds.live ∙ sym w.shown;
        value = ap H w.shown ∙ ap (digest_of H) (sym is);
      }

  -- what stands at a covered place has the text that the proof digests there
  pub right_agrees : (r o : ℕ) (c : Cover) (t : Tree) → InForest (length es) r o → cover ts r o ≡ Some c → tree_at es r o ≡ Some t
      → (c ≡ target r o → node_text H es (text_at text us) ts leaf_texts hashes t ≡ leaf_texts r o) ×
      ((a b : Cover) → c ≡ both a b → node_text H es (text_at text us) ts leaf_texts hashes t
      ≡ (value_of H es (text_at text us) ts leaf_texts hashes a).0 ++ (value_of H es (text_at text us) ts leaf_texts hashes b).0)
  right_agrees r o c t h e s =
      let l = laid es ts stand r o c h e in
      let same : l.0 ≡ t = same_Some _ _ (sym l.1 ∙ s) in (
        λ is. as_target t (subst (λ (k : Cover). Beside (StandsAsTarget es ts) (StandsAsNeeded es ts) k t) is
            (subst (Beside (StandsAsTarget es ts) (StandsAsNeeded es ts) c) same l.2)),
        λ a b is. as_both a b t (subst (λ (k : Cover). Beside (StandsAsTarget es ts) (StandsAsNeeded es ts) k t) is
            (subst (Beside (StandsAsTarget es ts) (StandsAsNeeded es ts) c) same l.2)),
      )
    where
      as_target : (t : Tree) → Beside (StandsAsTarget es ts) (StandsAsNeeded es ts) (target r o) t
          → node_text H es (text_at text us) ts leaf_texts hashes t ≡ leaf_texts r o
      as_target t (at_target p) = let w = target_shown r o t p in ap (node_text H es (text_at text us) ts leaf_texts hashes) w.is ∙ w.same

      half_value : (k : Cover) (u : Tree) → Beside (StandsAsTarget es ts) (StandsAsNeeded es ts) k u
          → digest_of H u ≡ value_of H es (text_at text us) ts leaf_texts hashes k
      half_value k u b =
          sym (value-laid H (λ r o. H (leaf_texts r o)) hashes
          (Beside-weaker
          (λ r o x p. (target_shown r o x p).value)
          (λ r o x p. same_Some _ _ (hash_right H es ts known hs view shown r o p.within p.needed ∙ ap (option_map (digest_of H)) p.stands))
          b))

      as_both : (a b : Cover) (t : Tree) → Beside (StandsAsTarget es ts) (StandsAsNeeded es ts) (both a b) t
          → node_text H es (text_at text us) ts leaf_texts hashes t ≡ (value_of H es (text_at text us) ts leaf_texts hashes a).0
          ++ (value_of H es (text_at text us) ts leaf_texts hashes b).0
      as_both a b t (at_both {l = x} {r = y} left right) = ap₂ (λ (p q : Digest). p.0 ++ q.0) (half_value a x left) (half_value b y right)
