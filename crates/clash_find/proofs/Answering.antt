-- From what the search finds to what it means, for a proof of some targets with some leaves and hashes, where some digests may be known.
use Rattle.std.proofs.Common.{◌≡◌, ◌≢◌, ℕ, zero, suc, ◌+◌, ◌-◌, ◌*◌, ◌<◌, Bool, true, false, List, [], ◌∷◌, ◌++◌, map, length, get_or, Option, Some}
use Rattle.std.proofs.Common.{None, Contains, refl, sym, ap, ◌∙◌, subst, ap₂, ⊎_elim, inl, inr, arith}
use Rattle.std.specs.Prelude.{◌⊎◌, option_map, option_and_then, slice_get, unwrap_or, bytes_eq, All, if◌then◌else◌}
use Rattle.std.specs.List.{AllByRecursion}
use Rattle.std.specs.Option.{option_or}
use Rattle.std.proofs.lemmas.Bool.{cases_Bool, cases_eq, cases_lt, false≢true, false_from_ne_true, or_cases, or_left, or_right}
use Rattle.std.proofs.lemmas.List.{length-map, get_or_default}
use Rattle.std.proofs.lemmas.Option.{none-some, same_Some, slice_get-map}
use Rattle.std.proofs.lemmas.List.Elements.{All-from_recursion}
use Rattle.uo_digest.specs.declared.digest.Digest.{Digest}
use Rattle.forest_place.specs.declared.place.Place.{Place}
use Rattle.forest_place.specs.Forest.{InForest, is_root, is_slot, root_off}
use Rattle.forest_place.specs.Places.{is_at, has_place, places, IsAscending, IsBefore, IsDistinct}
use Rattle.forest_place.specs.Position.{position}
use Rattle.forest_place.proofs.Before.{before_itself}
use Rattle.forest_place.proofs.Ascending.{places_ascending}
use Rattle.forest_place.proofs.Listed.{place, is_at-same, places_had, places_have, same_from_is_at}
use Rattle.forest_place.proofs.Positions.{position_rises}
use Rattle.forest_place.proofs.Parts.{InForest-root, is_root-root_off, root_off-is_root}
use Rattle.forest_model.specs.Content.{IsDigest, Tree, leaf, inner, content, digest_of, node_texts}
use Rattle.forest_model.specs.Standing.{tree_at, digest_at, root}
use Rattle.forest_model.specs.Cover.{Cover, target, given, both, cover_of_halves, cover, need, is_needed, HasShape}
use Rattle.forest_model.specs.Evaluation.{beside, value_texts, asked, hash_of, nothing_known, evaluation, IsAccepted}
use Rattle.forest_model.specs.Right.{entries, text_at as entry_text, IsKnowledge, IsRight, IsNodeText, IsValueText}
use Rattle.forest_model.proofs.Climbs.{tree_at-root}
use Rattle.forest_model.proofs.Unique.{tree_at-leaves}
use Rattle.forest_model.proofs.Clash.{Contains-first}
use Rattle.forest_model.proofs.Extract.{entry_of, entry_texts, leaves_are, value-same, beside_other, right_from_found}
use Rattle.leaf_record.specs.Leaf.{Leaf, LeafFits, leaf_text}
use Rattle.leaf_record.specs.History.{History}
use Rattle.leaf_record.proofs.LeafLaws.{one_leaf, leaf_long}
use Rattle.forest_place.specs.Places.{place_in}
use Rattle.proof_shape.proofs.Ordered.{has_at}
use Rattle.proof_verify.specs.Evaluation.{IsPreimage, IsEvaluatedAt, AreEvaluatedAt}
use Rattle.proof_verify.specs.declared.evaluation.CoveredPlace.{CoveredPlace}
use Rattle.proof_verify.specs.declared.evaluation.Preimage.{Preimage}
use Rattle.proof_verify.specs.declared.evaluation.Preimage.TheVariants.{Target, Halves}
use Rattle.block_rules.specs.Steps.{first_of}
use Rattle.output_index.specs.Held.{Held, leaf_at}
use Rattle.node_rules.specs.Right.{is_digest}
use Rattle.node_rules.proofs.Same.{bytes_eq-same, bytes_eq-true, is_same-same, is_same-true}
use Rattle.node_rules.proofs.Serving.{AreSame, same_value, same_cover, hash_of_all}
use Rattle.clash_find.specs.Clashes.{TextClash}
use Rattle.clash_find.specs.Texts.{tree_text, node_text_at, claim_text, preimage_text, AreDigests, IsWithin}
use Rattle.clash_find.specs.Found.{digest_of_cover, text_of_cover, node_text as node_text_in, text_in, differing}
use Rattle.clash_find.specs.Searched.{digests_of, DoRootsAgree, IsClashAt, IsCompared, AreCompared}
use Rattle.clash_find.proofs.Agreement.{value_of, node_text, cover_text, HasDigests, AgreeAt, found, right_agrees}
use Rattle.clash_find.proofs.Listing.{node_listed, cover_listed}

-- the two texts at a place, and the first of all, where the history has so many entries
abbrev pub pair_by : (List ℕ → Digest) → History → ℕ → List Place → List Leaf → (ℕ → ℕ → Option Digest) → List Digest → Place → Cover
    → Option TextClash
pair_by H us n ts rs known hs p c =
    let d = digest_of_cover H n ts rs known hs c in
    if is_digest d (digest_at H (entries H leaf_text us) p.row p.off) then option_and_then
    (λ x. differing x (text_of_cover H n ts rs known hs c) d) (text_in H us p.row p.off) else None

abbrev pub pair_for : (List ℕ → Digest) → History → ℕ → List Place → List Leaf → (ℕ → ℕ → Option Digest) → List Digest → Place → Option TextClash
pair_for H us n ts rs known hs p = option_and_then (pair_by H us n ts rs known hs p) (cover ts p.row p.off)

abbrev pub first_by : (List ℕ → Digest) → History → ℕ → List Place → List Leaf → (ℕ → ℕ → Option Digest) → List Digest → Option TextClash
first_by H us n ts rs known hs = first_of (map (pair_for H us n ts rs known hs) (places n))

-- what is beside the place at an index
beside_slice : {X : Type 0} (none : X) (ps : List Place) (xs : List X) (i : ℕ) → IsDistinct ps → length xs ≡ length ps → i < length ps
    → beside none ps xs (place_in ps i).row (place_in ps i).off ≡ unwrap_or (slice_get xs i) none
beside_slice none [] xs i u e lt = absurd (omega (arith, lt))
beside_slice none (p ∷ ps) [] i u e lt = absurd (omega (arith, e))
beside_slice none (p ∷ ps) (x ∷ xs) zero u e lt = let here : is_at p.row p.off p ≡ true = is_at-same p.row p.off in rw here refl
beside_slice none (p ∷ ps) (x ∷ xs) (suc i) u e lt =
    let q = place_in ps i in
    let li : i < length ps = omega (arith, lt) in
    let other : is_at q.row q.off p ≡ false = false_from_ne_true _ (λ same.
    let z : p ≡ q = same_from_is_at q.row q.off p same in
    false≢true (sym u.0 ∙ (ap (λ (y : Place). has_place ps y.row y.off) z ∙ has_at ps i (record { row = 0; off = 0 }) li))) in
    rw other (beside_slice none ps xs i u.1 (omega (arith, e)) li)

-- the first of what is shown at places in ascending order
first-none : (f : Place → Option TextClash) (ps : List Place) → ((q : Place) → has_place ps q.row q.off ≡ true → f q ≡ None)
    → first_of (map f ps) ≡ None
first-none f [] h = refl
first-none f (p ∷ ps) h =
    ap (λ x. option_or x (first_of (map f ps))) (h p (or_left (is_at p.row p.off p) (has_place ps p.row p.off) (is_at-same p.row p.off)))
    ∙ first-none f ps (λ q i. h q (or_right (is_at q.row q.off p) (has_place ps q.row q.off) i))

first-is : (f : Place → Option TextClash) (ps : List Place) (p : Place) (c : TextClash) → IsAscending ps → has_place ps p.row p.off ≡ true
    → f p ≡ Some c → ((q : Place) → has_place ps q.row q.off ≡ true → IsBefore q p → f q ≡ None) → first_of (map f ps) ≡ Some c
first-is f [] p c a i e before = absurd (false≢true i)
first-is f (q ∷ qs) p c a i e before =
    ⊎_elim
    (λ (here : is_at p.row p.off q ≡ true). ap (λ x. option_or x (first_of (map f qs))) (ap f (same_from_is_at p.row p.off q here) ∙ e))
    (λ (later : has_place qs p.row p.off ≡ true).
    ap (λ x. option_or x (first_of (map f qs)))
    (before q (or_left (is_at q.row q.off q) (has_place qs q.row q.off) (is_at-same q.row q.off)) (a.0 p later))
    ∙ first-is f qs p c a.1 later e (λ r j b. before r (or_right (is_at r.row r.off q) (has_place qs r.row r.off) j) b))
    (or_cases (is_at p.row p.off q) (has_place qs p.row p.off) i)

-- a digest that stands there
is_there : (d : Digest) (x : Option Digest) → x ≡ Some d → is_digest d x ≡ true
is_there d x e = ap (is_digest d) e ∙ is_same-same d

pub there_is : (d : Digest) (x : Option Digest) → is_digest d x ≡ true → x ≡ Some d
there_is d None h = absurd (false≢true h)
there_is d (Some e) h = ap Some (sym (is_same-true d e h))

differing-other : (c : TextClash) → c.first ≢ c.second → differing c.first c.second c.digest ≡ Some c
differing-other c other =
    ap (λ (b : Bool). if b then None else Some c) (false_from_ne_true (bytes_eq c.first c.second) (λ t. other (bytes_eq-true c.first c.second t)))

differing-same : (x y : List ℕ) (d : Digest) → x ≡ y → differing x y d ≡ None
differing-same x y d e = ap (λ (b : Bool). if b then None else Some (let c : TextClash = record { first = x; second = y; digest = d } in c))
    (subst (λ z. bytes_eq x z ≡ true) e (bytes_eq-same x))

place_of_item : (items : List CoveredPlace) (i : ℕ) → place_in (map (λ (item : CoveredPlace). item.place) items) i
    ≡ (get_or items i (record { place = record { row = 0; off = 0 }; preimage = Target 0; digest = record { 0 = [] } })).place
place_of_item [] i = refl
place_of_item (x ∷ items) zero = refl
place_of_item (x ∷ items) (suc i) = place_of_item items i

-- a place that is covered as a target is that target
target_is : (ts : List Place) (r o a b : ℕ) → cover ts r o ≡ Some (target a b) → (a ≡ r) × (b ≡ o)
target_is ts zero o a b e =
    ⊎_elim
    (λ (it : has_place ts zero o ≡ true). let z : target zero o ≡ target a b = same_Some _ _ (rw it at e) in (cc, cc))
    (λ (other : has_place ts zero o ≡ false). absurd (none-some _ (rw other at e)))
    (cases_Bool (has_place ts zero o))
target_is ts (suc r) o a b e =
    ⊎_elim
    (λ (it : has_place ts (suc r) o ≡ true). let z : target (suc r) o ≡ target a b = same_Some _ _ (rw it at e) in (cc, cc))
    (λ (other : has_place ts (suc r) o ≡ false). no_target (cover ts r (2 * o)) (cover ts r (2 * o + 1)) (rw other at e))
    (cases_Bool (has_place ts (suc r) o))
  where
    no_target : {A : Type 0} (x y : Option Cover) → cover_of_halves r o x y ≡ Some (target a b) → A
    no_target None None e = absurd (none-some _ e)
    no_target (Some x) None e = absurd (let z = same_Some _ _ e in cc)
    no_target None (Some y) e = absurd (let z = same_Some _ _ e in cc)
    no_target (Some x) (Some y) e = absurd (let z = same_Some _ _ e in cc)

-- what has a digest is there
pub standing : (H : List ℕ → Digest) (x : Option Tree) (d : Digest) → option_map (digest_of H) x ≡ Some d → (t : Tree) × (x ≡ Some t)
    × (digest_of H t ≡ d)
standing H None d e = absurd (none-some d e)
standing H (Some t) d e = (t, refl, same_Some _ _ e)

-- what the search goes over: targets that have shape, a leaf for each, and the hashes of all needed places, which are the known ones and
-- between them those that were shown; and what they come to
pub record IsReady (H : List ℕ → Digest) (n : ℕ) (ts : List Place) (rs : List Leaf) (k : ℕ → ℕ → Option Digest) (hs : List Digest)
    (items : List CoveredPlace) : Type 0 where
  pub shape : HasShape n ts
  pub each_leaf : length rs ≡ length ts
  pub count : length hs ≡ length (asked n ts k)
  pub full : List Digest
  pub hashes_are : full ≡ map (λ p. hash_of H n ts k hs p.row p.off) (need n ts)
  pub fit : AllByRecursion LeafFits rs
  pub evaluated : AreEvaluatedAt H n ts (digests_of H rs) full items

module _ (H : List ℕ → Digest) (long : (x : List ℕ) → IsDigest (H x)) (us : History) (outputs : List Held)
    (held : (i : ℕ) (l : Leaf) → slice_get us i ≡ Some (Some l) → leaf_at i outputs ≡ Some l) (fit : (i : ℕ) (l : Leaf)
    → slice_get us i ≡ Some (Some l) → LeafFits l)
    (ts : List Place) (rs : List Leaf) (k : ℕ → ℕ → Option Digest) (hs : List Digest) where
  abbrev es : List (Option Digest)
  es = entries H leaf_text us

  abbrev n : ℕ
  n = length es

  abbrev text_of : ℕ → List ℕ
  text_of = entry_text leaf_text us

  abbrev leaf_texts : ℕ → ℕ → List ℕ
  leaf_texts = beside [] ts (map leaf_text rs)

  abbrev hashes : ℕ → ℕ → Digest
  hashes = hash_of H n ts k hs

  abbrev V : Cover → Digest
  V = value_of H es text_of ts leaf_texts hashes

  abbrev node_text_of : Tree → List ℕ
  node_text_of = node_text H es text_of ts leaf_texts hashes

  abbrev cover_text_of : Cover → List ℕ
  cover_text_of = cover_text H es text_of ts leaf_texts hashes

  same_length : n ≡ length us
  same_length = length-map us (option_map (λ (r : Leaf). H (leaf_text r)))

  no_pair : (l : Leaf) → LeafFits l → length (leaf_text l) ≢ 64
  no_pair l f e = let w = (leaf_long l f).0 in absurd (omega (arith, w, e))

  each_entry : (i : ℕ) (d : Digest) → get_or es i None ≡ Some d → (H (text_of i) ≡ d) × (length (text_of i) ≢ 64)
  each_entry = entry_texts H leaf_text long LeafFits no_pair one_leaf us fit

  -- a node that stands has a text
  tree_shown : (r o : ℕ) (t : Tree) → tree_at es r o ≡ Some t → tree_text H outputs t ≡ Some (node_text_of t)
  tree_shown r o (leaf i d) s =
      let w = entry_of H leaf_text us i d (tree_at-leaves es r o (leaf i d) s) in
      ap (option_map leaf_text) (held i w.rec w.live) ∙ ap Some (sym w.shown)
  tree_shown r o (inner a b) s = refl

  pub node_shown : (r o : ℕ) (t : Tree) → tree_at es r o ≡ Some t → node_text_at H es outputs r o ≡ Some (node_text_of t)
  node_shown r o t s = ap (option_and_then (tree_text H outputs)) s ∙ tree_shown r o t s

  -- which is that of the history's node
  text_there : (r o : ℕ) → text_in H us r o ≡ node_text_at H es outputs r o
  text_there r o = by (tree_at es r o) refl
    where
      same : (t : Tree) → node_text_in H us t ≡ node_text_of t
      same (leaf i d) = refl
      same (inner a b) = refl

      by : (x : Option Tree) → tree_at es r o ≡ x → option_map (node_text_in H us) x ≡ option_and_then (tree_text H outputs) x
      by None e = refl
      by (Some t) e = ap Some (same t) ∙ sym (tree_shown r o t e)

  -- its text has its digest
  node_digest : (r o : ℕ) (t : Tree) → tree_at es r o ≡ Some t → H (node_text_of t) ≡ digest_of H t
  node_digest r o (leaf i d) s = (each_entry i d (tree_at-leaves es r o (leaf i d) s)).0
  node_digest r o (inner a b) s = refl

  -- what a cover comes to, by the digests of the leaves
  comes_to : (c : Cover) → evaluation H n ts k (digests_of H rs) hs c ≡ V c
  comes_to c = value-same H (beside (H []) ts (digests_of H rs)) (λ r o. H (leaf_texts r o)) hashes (leaves_are H leaf_text ts rs) c

  pub leaf_other : AllByRecursion LeafFits rs → (r o : ℕ) → length (leaf_texts r o) ≢ 64
  leaf_other fits r o = beside_other ts (map leaf_text rs) r o (all_other rs fits)
    where
      all_other : (ls : List Leaf) → AllByRecursion LeafFits ls → All (λ x. length x ≢ 64) (map leaf_text ls)
      all_other [] h j d lt = absurd (omega (arith, lt))
      all_other (l ∷ ls) h zero d lt = no_pair l h.0
      all_other (l ∷ ls) h (suc j) d lt = all_other ls h.1 j d (omega (arith, lt))

  module _ (items : List CoveredPlace) (ready : IsReady H n ts rs k hs items) where
    -- ---- what the items say, by what is digested with the shown hashes and the known ones

    abbrev full_hashes : ℕ → ℕ → Digest
    full_hashes = hash_of H n ts nothing_known ready.full

    same_hash : (r o : ℕ) → InForest n r o → is_needed n ts (place r o) ≡ true → hashes r o ≡ full_hashes r o
    same_hash = hash_of_all H n ts hashes ready.full ready.hashes_are

    evaluates : (c : Cover) → AreSame H n ts hashes full_hashes same_hash c → evaluation H n ts nothing_known (digests_of H rs) ready.full c ≡ V c
    evaluates c same =
        value-same H (beside (H []) ts (digests_of H rs)) (λ r o. H (leaf_texts r o)) full_hashes (leaves_are H leaf_text ts rs) c
        ∙ sym (same_value H n ts hashes full_hashes same_hash (λ r o. H (leaf_texts r o)) c same)

    abbrev blank : CoveredPlace
    blank = record { place = record { row = 0; off = 0 }; preimage = Target 0; digest = record { 0 = [] } }

    -- what is said of one item
    record IsItem (item : CoveredPlace) : Type 0 where
      within : InForest n item.place.row item.place.off
      beneath : Cover
      covered : cover ts item.place.row item.place.off ≡ Some beneath
      digest : item.digest ≡ V beneath
      text : preimage_text rs item.preimage ≡ cover_text_of beneath
      whole : AreDigests item.preimage → HasDigests H es text_of ts leaf_texts hashes beneath
      own : H (cover_text_of beneath) ≡ V beneath
      listed : Contains (value_texts H leaf_texts hashes beneath) (cover_text_of beneath)
      form : (beneath ≡ target item.place.row item.place.off) ⊎ ((a : Cover) × (b : Cover) × (beneath ≡ both a b))

    target_text : (p : Place) (i : ℕ) → i < length ts → place_in ts i ≡ p → claim_text rs i ≡ leaf_texts p.row p.off
    target_text p i lt e =
        let long_list : length (map leaf_text rs) ≡ length ts = length-map rs leaf_text ∙ ready.each_leaf in
        ap (λ (x : Option (List ℕ)). unwrap_or x []) (sym (slice_get-map leaf_text rs i))
        ∙ (sym (beside_slice [] ts (map leaf_text rs) i ready.shape.distinct long_list lt) ∙ ap (λ (q : Place). leaf_texts q.row q.off) e)

    item_from : (item : CoveredPlace) → IsEvaluatedAt H n ts (digests_of H rs) ready.full item → IsItem item
    item_from item e = by_made e.beneath e.covered e.digest item.preimage refl e.preimage
      where
        same : (c : Cover) → cover ts item.place.row item.place.off ≡ Some c → AreSame H n ts hashes full_hashes same_hash c
        same c q = same_cover H n ts hashes full_hashes same_hash item.place.row item.place.off c e.within q

        by_made : (c : Cover) → cover ts item.place.row item.place.off ≡ Some c
            → item.digest ≡ evaluation H n ts nothing_known (digests_of H rs) ready.full c → (made : Preimage) → item.preimage ≡ made →
            IsPreimage H n ts (digests_of H rs) ready.full item.place c item.preimage → IsItem item
        by_made (target a b) q d (Target i) is made =
            let w = target_is ts item.place.row item.place.off a b q in
            let at : target item.place.row item.place.off ≡ target a b = ap₂ target (sym w.0) (sym w.1) in
            let here = subst (λ (x : Preimage). IsPreimage H n ts (digests_of H rs) ready.full item.place (target a b) x) is made in
            record {
              within = e.within;
              beneath = target a b;
              covered = q;
              digest = d ∙ evaluates (target a b) (same (target a b) q);
              text = ap (preimage_text rs) is ∙ (target_text item.place i here.0 here.1 ∙ ap cover_text_of at);
              whole = λ h. tt;
              own = refl;
              listed = Contains-first _ [];
              form = inl (sym at);
            }
        by_made (target a b) q d (Halves x y) is made =
            absurd (subst (λ (x : Preimage). IsPreimage H n ts (digests_of H rs) ready.full item.place (target a b) x) is made)
        by_made (given a b) q d z is made = absurd made
        by_made (both l r) q d (Target i) is made =
            absurd (subst (λ (x : Preimage). IsPreimage H n ts (digests_of H rs) ready.full item.place (both l r) x) is made)
        by_made (both l r) q d (Halves x y) is made =
            let here = subst (λ (x : Preimage). IsPreimage H n ts (digests_of H rs) ready.full item.place (both l r) x) is made in
            let s = same (both l r) q in
            let left : x ≡ V l = here.0 ∙ evaluates l s.0 in
            let right : y ≡ V r = here.1 ∙ evaluates r s.1 in
            record {
              within = e.within;
              beneath = both l r;
              covered = q;
              digest = d ∙ evaluates (both l r) s;
              text = ap (preimage_text rs) is ∙ ap₂ (λ (x y : Digest). x.0 ++ y.0) left right;
              whole = λ h. let w = subst AreDigests is h in (subst IsDigest left w.0, subst IsDigest right w.1);
              own = refl;
              listed = Contains-first _ _;
              form = inr (l, r, refl);
            }

    item_at : (i : ℕ) (d : CoveredPlace) → i < length items → IsItem (get_or items i d)
    item_at i d lt = item_from (get_or items i d) (ready.evaluated.each i d lt)

    -- ---- the roots

    abbrev pub Accepts : Type 0
    Accepts = IsAccepted H n (root H es) ts k (digests_of H rs) hs

    -- the digest at a covered place, by its item
    root_is : DoRootsAgree H es items true → (row : ℕ) (c : Cover) → is_slot n row ≡ true → cover ts row (root_off n row) ≡ Some c
        → root H es row ≡ Some (V c)
    root_is agree row c slot e =
        let o = root_off n row in
        let top = is_root-root_off n row slot in
        let w = ready.evaluated.all row o c (InForest-root n row o top) e in
        let at : (get_or items w.0 blank).place ≡ place row o = w.2 blank in
        let it = item_at w.0 blank w.1 in
        let here : is_root n (get_or items w.0 blank).place.row (get_or items w.0 blank).place.off ≡ true =
        subst (λ (p : Place). is_root n p.row p.off ≡ true) (sym at) top in
        let got = agree w.0 blank w.1 here in
        let same : it.beneath ≡ c = same_Some _ _ (sym it.covered ∙ (ap (λ (p : Place). cover ts p.row p.off) at ∙ e)) in
        ap (option_map (digest_of H)) (sym (tree_at-root es row o top))
        ∙ (ap (λ (p : Place). digest_at H es p.row p.off) (sym at) ∙ (got ∙ ap Some (it.digest ∙ ap V same)))

    pub accepts : DoRootsAgree H es items true → Accepts
    accepts agree = record {
      shape = ready.shape;
      one_leaf_each = length-map rs (λ (l : Leaf). H (leaf_text l)) ∙ ready.each_leaf;
      one_hash_each = ready.count;
      agrees = λ row c slot e. root_is agree row c slot e ∙ ap Some (sym (comes_to c));
    }

    -- where a root differs, the roots do not accept it
    pub differs : DoRootsAgree H es items false → Accepts → ⊥
    differs (i, d, lt, top, other) a =
        let it = item_at i d lt in
        let p = (get_or items i d).place in
        let t = root_off-is_root n p.row p.off top in
        let e : cover ts p.row (root_off n p.row) ≡ Some it.beneath = ap (cover ts p.row) (sym t.0) ∙ it.covered in
        let same = a.agrees p.row it.beneath t.1 e in
        other (ap (option_map (digest_of H)) (tree_at-root es p.row p.off top)
        ∙ (ap (λ o. option_map (digest_of H) (content es p.row o)) t.0 ∙ (same ∙ ap Some (comes_to it.beneath ∙ sym it.digest))))

    -- ---- the texts

    -- what stands at an item whose digest is the forest's
    stands_at : (i : ℕ) (lt : i < length items) → digest_at H es (get_or items i blank).place.row (get_or items i blank).place.off
        ≡ Some (get_or items i blank).digest →
        (t : Tree) × (tree_at es (get_or items i blank).place.row (get_or items i blank).place.off ≡ Some t)
        × (digest_of H t ≡ (get_or items i blank).digest)
    stands_at i lt e = standing H (tree_at es (get_or items i blank).place.row (get_or items i blank).place.off) (get_or items i blank).digest e

    -- where no item shows a clash, the texts are equal
    agree_everywhere : AreCompared H es outputs rs items None → (r o : ℕ) → InForest n r o → AgreeAt H es text_of ts leaf_texts hashes r o
    agree_everywhere compared r o h c t e s v =
        let w = ready.evaluated.all r o c h e in
        let item = get_or items w.0 blank in
        let at : item.place ≡ place r o = w.2 blank in
        let it = item_at w.0 blank w.1 in
        let same : it.beneath ≡ c = same_Some _ _ (sym it.covered ∙ (ap (λ (p : Place). cover ts p.row p.off) at ∙ e)) in
        let there : tree_at es item.place.row item.place.off ≡ Some t = ap (λ (p : Place). tree_at es p.row p.off) at ∙ s in
        let digest : digest_at H es item.place.row item.place.off ≡ Some item.digest =
        ap (option_map (digest_of H)) there ∙ ap Some (sym v ∙ (ap V (sym same) ∙ sym it.digest)) in
        let g = compared w.0 blank w.1 digest (node_text_of t) (node_shown item.place.row item.place.off t there) in
        (g.0 ∙ (it.text ∙ ap cover_text_of same), subst (HasDigests H es text_of ts leaf_texts hashes) same (it.whole g.1))

    pub right : DoRootsAgree H es items true → AreCompared H es outputs rs items None → IsRight H leaf_text us ts k rs hs
    right agree compared =
        right_from_found H leaf_text long LeafFits no_pair one_leaf us fit ts k rs hs (All-from_recursion LeafFits rs ready.fit) (accepts agree)
        (λ row c slot e.
        let o = root_off n row in
        let top = is_root-root_off n row slot in
        let h = InForest-root n row o top in
        let w = standing H (content es row o) (V c) (root_is agree row c slot e) in
        let s : tree_at es row o ≡ Some w.0 = tree_at-root es row o top ∙ w.1 in
        let other = leaf_other ready.fit in
        (w.0, s, found H es text_of ts leaf_texts hashes long other each_entry (agree_everywhere compared) row o c w.0 h e s (sym w.2)))

    -- ---- which clash is found

    text_same : (c : Cover) → cover_text_of c ≡ text_of_cover H n ts rs k hs c
    text_same (target a b) = refl
    text_same (given a b) = refl
    text_same (both l r) = refl

    abbrev shown_at : Place → Option TextClash
    shown_at = pair_for H us n ts rs k hs

    clash_here : (item : CoveredPlace) → IsItem item → (c : TextClash) → IsClashAt H es outputs rs item c → shown_at item.place ≡ Some c
    clash_here item it c w =
        let p = item.place in
        let there : is_digest (V it.beneath) (digest_at H es p.row p.off) ≡ true =
        is_there (V it.beneath) (digest_at H es p.row p.off) (w.same ∙ ap Some it.digest) in
        let second : c.second ≡ text_of_cover H n ts rs k hs it.beneath = w.second ∙ (it.text ∙ text_same it.beneath) in
        let digest : c.digest ≡ V it.beneath = w.digest ∙ it.digest in
        ap (option_and_then (pair_by H us n ts rs k hs p)) it.covered
        ∙ (ap (λ b. if b then option_and_then (λ x. differing x (text_of_cover H n ts rs k hs it.beneath) (V it.beneath))
        (text_in H us p.row p.off) else None) there
        ∙ (ap (option_and_then (λ x. differing x (text_of_cover H n ts rs k hs it.beneath) (V it.beneath))) (text_there p.row p.off ∙ w.first)
        ∙ (ap₂ (differing c.first) (sym second) (sym digest) ∙ differing-other c w.differ)))

    none_here : (item : CoveredPlace) → IsItem item → IsCompared H es outputs rs item None → shown_at item.place ≡ None
    none_here item it w =
        ap (option_and_then (pair_by H us n ts rs k hs item.place)) it.covered
        ∙ by_digest (is_digest (V it.beneath) (digest_at H es item.place.row item.place.off)) refl
      where
        by_text : (x : Option (List ℕ)) → ((y : List ℕ) → x ≡ Some y → y ≡ text_of_cover H n ts rs k hs it.beneath)
            → option_and_then (λ y. differing y (text_of_cover H n ts rs k hs it.beneath) (V it.beneath)) x ≡ None
        by_text None f = refl
        by_text (Some y) f = differing-same y (text_of_cover H n ts rs k hs it.beneath) (V it.beneath) (f y refl)

        by_digest : (b : Bool) → is_digest (V it.beneath) (digest_at H es item.place.row item.place.off) ≡ b →
            (if b then option_and_then (λ x. differing x (text_of_cover H n ts rs k hs it.beneath) (V it.beneath))
            (text_in H us item.place.row item.place.off) else None) ≡ None
        by_digest false e = refl
        by_digest true e =
            by_text (text_in H us item.place.row item.place.off)
            (λ y s. (w (there_is (V it.beneath) (digest_at H es item.place.row item.place.off) e ∙ ap Some (sym it.digest)) y
            (sym (text_there item.place.row item.place.off) ∙ s)).0
            ∙ (it.text ∙ text_same it.beneath))

    -- nothing is shown at a place whose item shows nothing
    abbrev Silent : ℕ → Type 0
    Silent j = IsCompared H es outputs rs (get_or items j blank) None

    place_none : (q : Place) → InForest n q.row q.off → ((j : ℕ) → j < length items → (get_or items j blank).place ≡ q → Silent j) → shown_at q ≡ None
    place_none q h silent = by_cover (cover ts q.row q.off) refl
      where
        by_cover : (x : Option Cover) → cover ts q.row q.off ≡ x → option_and_then (pair_by H us n ts rs k hs q) x ≡ None
        by_cover None e = refl
        by_cover (Some c) e =
            let w = ready.evaluated.all q.row q.off c h e in
            let at : (get_or items w.0 blank).place ≡ q = w.2 blank in
            ap (option_and_then (pair_by H us n ts rs k hs q)) (sym e)
            ∙ subst (λ p. shown_at p ≡ None) at (none_here (get_or items w.0 blank) (item_at w.0 blank w.1) (silent w.0 w.1 at))

    -- items come in the order of their places
    in_order : (i j : ℕ) → i < length items → j < length items → IsBefore (get_or items j blank).place (get_or items i blank).place → j < i
    in_order i j li lj before =
        ⊎_elim
        (λ less. less)
        (λ ge. ⊎_elim
        (λ (same : j ≡ i). absurd (before_itself (get_or items i blank).place
        (subst (λ k. IsBefore (get_or items k blank).place (get_or items i blank).place) same before)))
        (λ other.
        let up : i < j = omega (arith, ge, other) in
        let long : length (map (λ (item : CoveredPlace). item.place) items) ≡ length items = length-map items (λ (item : CoveredPlace). item.place) in
        let rises = ready.evaluated.order.rises i j up (omega (arith, lj, long)) in
        let rises' : position n (get_or items i blank).place.row (get_or items i blank).place.off < position n (get_or items j blank).place.row
        (get_or items j blank).place.off =
        subst (λ (p : Place). position n p.row p.off < position n (get_or items j blank).place.row (get_or items j blank).place.off)
        (place_of_item items i)
        (subst (λ (p : Place). position n (place_in (map (λ (item : CoveredPlace). item.place) items) i).row
        (place_in (map (λ (item : CoveredPlace). item.place) items) i).off < position n p.row p.off) (place_of_item items j) rises) in
        let falls = position_rises n (get_or items j blank).place (get_or items i blank).place (item_at j blank lj).within (item_at i blank li).within
        before in
        absurd (omega (arith, rises', falls)))
        (cases_eq j i))
        (cases_lt j i)

    pub exact : (r : Option TextClash) → AreCompared H es outputs rs items r → r ≡ first_by H us n ts rs k hs
    exact None compared = sym (first-none shown_at (places n) (λ q i. place_none q (places_had n q.row q.off i) (λ j lt at. compared j blank lt)))
    exact (Some c) (i, d, lt, at, before) =
        let clash = subst (λ (x : CoveredPlace). IsClashAt H es outputs rs x c) (get_or_default items i d blank lt) at in
        let it = item_at i blank lt in
        let p = (get_or items i blank).place in
        sym (first-is shown_at (places n) p c (places_ascending n) (places_have n p.row p.off it.within)
        (clash_here (get_or items i blank) it c clash)
        (λ q j behind. place_none q (places_had n q.row q.off j)
        (λ l lk same. before l blank (in_order i l lt lk (subst (λ r. IsBefore r p) (sym same) behind)))))

    -- ---- what a clash says

    -- of what is right, each covered place has one text
    not_right : IsKnowledge H es k → (c : TextClash) (i : ℕ) → i < length items → IsClashAt H es outputs rs (get_or items i blank) c
        → IsRight H leaf_text us ts k rs hs → ⊥
    not_right view c i lt clash r =
        let shown : map Some hs ≡ map (λ p. digest_at H es p.row p.off) (asked n ts k) =
        subst (λ j. map Some hs ≡ map (λ p. digest_at H es p.row p.off) (asked j ts k)) (sym same_length) r.shown in
        let it = item_at i blank lt in
        let p = (get_or items i blank).place in
        let t = stands_at i lt clash.same in
        let agrees = right_agrees H leaf_text us ts k rs hs view r.spends shown p.row p.off it.beneath t.0 it.within it.covered t.1 in
        let same : node_text_of t.0 ≡ cover_text_of it.beneath = by_form it.beneath p it.form agrees in
        let first : c.first ≡ node_text_of t.0 = same_Some _ _ (sym clash.first ∙ node_shown p.row p.off t.0 t.1) in
        clash.differ (first ∙ (same ∙ (sym it.text ∙ sym clash.second)))
      where
        by_form : {x : List ℕ} (b : Cover) (p : Place) → (b ≡ target p.row p.off) ⊎ ((a : Cover) × (d : Cover) × (b ≡ both a d)) →
            (b ≡ target p.row p.off → x ≡ leaf_texts p.row p.off) × ((a d : Cover) → b ≡ both a d → x ≡ (V a).0 ++ (V d).0) → x ≡ cover_text_of b
        by_form b p (inl e) w = w.0 e ∙ ap cover_text_of (sym e)
        by_form b p (inr (a, d, e)) w = w.1 a d e ∙ ap cover_text_of (sym e)

    -- two different texts with one digest, of the forest and of the proof
    pub record IsShownClash (c : TextClash) : Type 0 where
      pub of_forest : IsNodeText H leaf_text us c.first
      pub of_proof : IsValueText H leaf_text (length us) ts k rs hs c.second
      pub differ : c.first ≢ c.second
      pub first_is : H c.first ≡ c.digest
      pub second_is : H c.second ≡ c.digest

    is_clash : (c : TextClash) (i : ℕ) → i < length items → IsClashAt H es outputs rs (get_or items i blank) c → IsShownClash c
    is_clash c i lt clash =
        let it = item_at i blank lt in
        let p = (get_or items i blank).place in
        let t = stands_at i lt clash.same in
        let first : c.first ≡ node_text_of t.0 = same_Some _ _ (sym clash.first ∙ node_shown p.row p.off t.0 t.1) in
        let second : c.second ≡ cover_text_of it.beneath = clash.second ∙ it.text in
        let node = node_listed H es text_of (n - p.row) p.row p.off t.0 (node_text_of t.0) refl it.within t.1 (first_listed t.0) in
        let covered = cover_listed H n ts ready.shape leaf_texts hashes (n - p.row) p.row p.off it.beneath (cover_text_of it.beneath) refl it.within
        it.covered it.listed in
        record {
          of_forest = subst (IsNodeText H leaf_text us) (sym first) (record {
            row = node.row;
            tree = node.tree;
            slot = subst (λ j. is_slot j node.row ≡ true) same_length node.slot;
            of_slot = subst (λ j. content es node.row (root_off j node.row) ≡ Some node.tree) same_length node.of_slot;
            listed = node.listed;
          });
          of_proof = subst (λ j. IsValueText H leaf_text j ts k rs hs c.second) same_length
              (subst (IsValueText H leaf_text n ts k rs hs) (sym second) (record {
                row = covered.row;
                covered = covered.covered;
                slot = covered.slot;
                of_slot = covered.of_slot;
                listed = covered.listed;
              }));
          differ = clash.differ;
          first_is = ap H first ∙ (node_digest p.row p.off t.0 t.1 ∙ (t.2 ∙ sym clash.digest));
          second_is = ap H second ∙ (it.own ∙ (sym it.digest ∙ sym clash.digest));
        }
      where
        first_listed : (t : Tree) → Contains (node_texts H text_of t) (node_text_of t)
        first_listed (leaf j d) = Contains-first _ []
        first_listed (inner l r) = Contains-first _ _

    -- what is found is two such texts, and what is taken to be known and shown is not right
    pub some_found : IsKnowledge H es k → (c : TextClash) → AreCompared H es outputs rs items (Some c) → (IsRight H leaf_text us ts k rs hs → ⊥)
        × IsShownClash c
    some_found view c (i, d, lt, at, before) =
        let clash = subst (λ (x : CoveredPlace). IsClashAt H es outputs rs x c) (get_or_default items i d blank lt) at in
        (not_right view c i lt clash, is_clash c i lt clash)

-- the targets of the items are among the leaves
pub targets_within : (H : List ℕ → Digest) (n : ℕ) (ts : List Place) (rs : List Leaf) (leaves full : List Digest) (items : List CoveredPlace)
    → length rs ≡ length ts → AreEvaluatedAt H n ts leaves full items →
    (i : ℕ) (d : CoveredPlace) → i < length items → IsWithin (length rs) (get_or items i d).preimage
targets_within H n ts rs leaves full items few evaluated i d lt = by_made (get_or items i d) (evaluated.each i d lt)
  where
    by_made : (item : CoveredPlace) → IsEvaluatedAt H n ts leaves full item → IsWithin (length rs) item.preimage
    by_made item e = at e.beneath item.preimage e.preimage
      where
        at : (c : Cover) (made : Preimage) → IsPreimage H n ts leaves full item.place c made → IsWithin (length rs) made
        at (target a b) (Target j) h = let l = h.0 in omega (arith, l, few)
        at (target a b) (Halves x y) h = tt
        at (given a b) (Target j) h = absurd h
        at (given a b) (Halves x y) h = tt
        at (both l r) (Target j) h = absurd h
        at (both l r) (Halves x y) h = tt
