-- Where a message is accepted and not right, two texts are found, and they are different and have one digest.
use Rattle.std.proofs.Common.{◌≡◌, ◌≢◌, ℕ, zero, suc, ◌+◌, ◌-◌, ◌*◌, Bool, true, false, List, [], ◌∷◌, ◌++◌, map, length, get_or, Option, Some, None}
use Rattle.std.proofs.Common.{Contains, refl, sym, ap, ◌∙◌, subst, ⊎_elim, arith}
use Rattle.std.specs.Prelude.{option_map, option_and_then, unwrap_or, bytes_eq, is_none, if◌then◌else◌}
use Rattle.std.specs.List.{AllByRecursion}
use Rattle.std.specs.Option.{option_or}
use Rattle.std.proofs.lemmas.Bool.{cases_Bool, false≢true, or_cases, or_left, or_right}
use Rattle.std.proofs.lemmas.List.{length-map}
use Rattle.std.proofs.lemmas.Option.{none-some, same_Some}
use Rattle.std.proofs.lemmas.List.Elements.{All-from_recursion}
use Rattle.uo_digest.specs.declared.digest.Digest.{Digest}
use Rattle.forest_place.specs.declared.place.Place.{Place}
use Rattle.forest_place.specs.Forest.{InForest, is_slot, root_off}
use Rattle.forest_place.specs.Places.{is_at, has_place, places}
use Rattle.forest_place.proofs.Listed.{place, is_at-same, places_had, places_have, same_from_is_at}
use Rattle.forest_place.proofs.Parts.{InForest-root, is_root-root_off}
use Rattle.forest_model.specs.Content.{IsDigest, Tree, leaf, inner, content, digest_of, node_texts}
use Rattle.forest_model.specs.Standing.{tree_at, digest_at, root}
use Rattle.forest_model.specs.Cover.{Cover, target, given, both, cover_of_halves, cover}
use Rattle.forest_model.specs.Evaluation.{beside, value_texts, asked, hash_of, IsAccepted}
use Rattle.forest_model.specs.Right.{entries, text_at as entry_text, IsKnowledge, IsRight, IsNodeText, IsValueText}
use Rattle.forest_model.proofs.Climbs.{tree_at-root}
use Rattle.forest_model.proofs.Unique.{tree_at-leaves}
use Rattle.forest_model.proofs.Clash.{Contains-first}
use Rattle.forest_model.proofs.Extract.{entry_texts, leaves_are, value-same, right_from_found}
use Rattle.leaf_record.specs.Leaf.{Leaf, LeafFits, leaf_text}
use Rattle.leaf_record.specs.History.{History}
use Rattle.leaf_record.proofs.LeafLaws.{one_leaf, leaf_long}
use Rattle.block_rules.specs.declared.chain.Outside.{Outside}
use Rattle.block_rules.specs.Steps.{first_of}
use Rattle.output_index.specs.Held.{Held}
use Rattle.node_rules.specs.Messages.{Message, point_of, points_of, named, targets, known_to}
use Rattle.node_rules.specs.Accepting.{leaves_of, proof_fault}
use Rattle.node_rules.specs.Right.{is_digest, is_right}
use Rattle.node_rules.proofs.Faults.{accepted}
use Rattle.node_rules.proofs.Righting.{right_is_tested}
use Rattle.node_rules.proofs.Same.{bytes_eq-same, bytes_eq-true, is_same-same}
use Rattle.clash_find.specs.Clashes.{TextClash}
use Rattle.clash_find.specs.Texts.{claims}
use Rattle.clash_find.specs.Answers.{StandForHistory, IsClash}
use Rattle.clash_find.specs.Found.{text_of_cover, node_text as node_text_in, text_in, differing, clash_in}
use Rattle.clash_find.proofs.Agreement.{value_of, node_text, cover_text, HasDigests, AgreeAt, found, right_agrees}
use Rattle.clash_find.proofs.Listing.{node_listed, cover_listed}
use Rattle.clash_find.proofs.Answering.{pair_by, pair_for, first_by, standing, there_is, leaf_other as other_length}

-- ---- the first of a list

-- of what is asked at some places nothing is answered, or something at one of them
none-at : (f : Place → Option TextClash) (ps : List Place) (q : Place) → first_of (map f ps) ≡ None → has_place ps q.row q.off ≡ true → f q ≡ None
none-at f [] q e i = absurd (false≢true i)
none-at f (p ∷ ps) q e i = by (f p) refl e (none-at f ps q)
  where
    by : (x : Option TextClash) → f p ≡ x → option_or x (first_of (map f ps)) ≡ None
        → (first_of (map f ps) ≡ None → has_place ps q.row q.off ≡ true → f q ≡ None) → f q ≡ None
    by None here later go =
        ⊎_elim (λ (same : is_at q.row q.off p ≡ true). sym (ap f (same_from_is_at q.row q.off p same)) ∙ here)
        (λ (other : has_place ps q.row q.off ≡ true). go later other)
        (or_cases (is_at q.row q.off p) (has_place ps q.row q.off) i)
    by (Some c) here later go = absurd (none-some c (sym later))

some-at : (f : Place → Option TextClash) (ps : List Place) (c : TextClash) → first_of (map f ps) ≡ Some c
    → (q : Place) × (has_place ps q.row q.off ≡ true) × (f q ≡ Some c)
some-at f [] c e = absurd (none-some c e)
some-at f (p ∷ ps) c e = by (f p) refl e (some-at f ps c)
  where
    by : (x : Option TextClash) → f p ≡ x → option_or x (first_of (map f ps)) ≡ Some c
        → (first_of (map f ps) ≡ Some c → (q : Place) × (has_place ps q.row q.off ≡ true) × (f q ≡ Some c)) →
        (q : Place) × (has_place (p ∷ ps) q.row q.off ≡ true) × (f q ≡ Some c)
    by None here later go = let w = go later in (w.0, or_right (is_at w.0.row w.0.off p) (has_place ps w.0.row w.0.off) w.1, w.2)
    by (Some d) here later go = (p, or_left (is_at p.row p.off p) (has_place ps p.row p.off) (is_at-same p.row p.off), here ∙ later)

-- ---- two texts

differing-none : (x y : List ℕ) (d : Digest) → differing x y d ≡ None → x ≡ y
differing-none x y d e = by (bytes_eq x y) refl e
  where
    by : (b : Bool) → bytes_eq x y ≡ b → (if b then None else Some (let c : TextClash = record { first = x; second = y; digest = d } in c)) ≡ None
        → x ≡ y
    by true t e = bytes_eq-true x y t
    by false t e = absurd (none-some _ (sym e))

-- what is told of a clash
record IsMade (x y : List ℕ) (d : Digest) (c : TextClash) : Type 0 where
  first : c.first ≡ x
  second : c.second ≡ y
  digest : c.digest ≡ d
  differ : x ≢ y

differing-some : (x y : List ℕ) (d : Digest) (c : TextClash) → differing x y d ≡ Some c → IsMade x y d c
differing-some x y d c e = by (bytes_eq x y) refl e
  where
    by : (b : Bool) → bytes_eq x y ≡ b → (if b then None else Some (let c : TextClash = record { first = x; second = y; digest = d } in c)) ≡ Some c
        → IsMade x y d c
    by true t e = absurd (none-some c e)
    by false t e =
        let is = sym (same_Some _ c e) in
        record {
          first = ap (λ (z : TextClash). z.first) is;
          second = ap (λ (z : TextClash). z.second) is;
          digest = ap (λ (z : TextClash). z.digest) is;
          differ = λ same. false≢true (sym t ∙ subst (λ z. bytes_eq x z ≡ true) same (bytes_eq-same x));
        }

-- ---- covers

-- a place is covered as a target or as two halves
not_given : (ts : List Place) (r o a b : ℕ) → cover ts r o ≡ Some (given a b) → ⊥
not_given ts zero o a b e =
    ⊎_elim (λ (it : has_place ts zero o ≡ true). absurd (let z = same_Some _ _ (rw it at e) in cc))
    (λ (other : has_place ts zero o ≡ false). none-some _ (rw other at e)) (cases_Bool (has_place ts zero o))
not_given ts (suc r) o a b e =
    ⊎_elim (λ (it : has_place ts (suc r) o ≡ true). absurd (let z = same_Some _ _ (rw it at e) in cc))
    (λ (other : has_place ts (suc r) o ≡ false). by (cover ts r (2 * o)) (cover ts r (2 * o + 1)) (rw other at e))
    (cases_Bool (has_place ts (suc r) o))
  where
    by : (x y : Option Cover) → cover_of_halves r o x y ≡ Some (given a b) → ⊥
    by None None e = none-some _ e
    by (Some x) None e = absurd (let z = same_Some _ _ e in cc)
    by None (Some y) e = absurd (let z = same_Some _ _ e in cc)
    by (Some x) (Some y) e = absurd (let z = same_Some _ _ e in cc)

-- and as a target where it stands
target_here : (ts : List Place) (r o a b : ℕ) → cover ts r o ≡ Some (target a b) → target a b ≡ target r o
target_here ts zero o a b e =
    ⊎_elim (λ (it : has_place ts zero o ≡ true). sym (same_Some _ _ (rw it at e)))
    (λ (other : has_place ts zero o ≡ false). absurd (none-some _ (rw other at e))) (cases_Bool (has_place ts zero o))
target_here ts (suc r) o a b e =
    ⊎_elim (λ (it : has_place ts (suc r) o ≡ true). sym (same_Some _ _ (rw it at e)))
    (λ (other : has_place ts (suc r) o ≡ false). absurd (by (cover ts r (2 * o)) (cover ts r (2 * o + 1)) (rw other at e)))
    (cases_Bool (has_place ts (suc r) o))
  where
    by : (x y : Option Cover) → cover_of_halves r o x y ≡ Some (target a b) → ⊥
    by None None e = none-some _ e
    by (Some x) None e = absurd (let z = same_Some _ _ e in cc)
    by None (Some y) e = absurd (let z = same_Some _ _ e in cc)
    by (Some x) (Some y) e = absurd (let z = same_Some _ _ e in cc)

-- a digest that stands beside a place has 32 bytes, where all have
beside_long : (none : Digest) (ps : List Place) (ds : List Digest) (r o : ℕ) → IsDigest none → AllByRecursion IsDigest ds
    → IsDigest (beside none ps ds r o)
beside_long none [] ds r o h a = h
beside_long none (p ∷ ps) [] r o h a = h
beside_long none (p ∷ ps) (d ∷ ds) r o h a = ⊎_elim (λ e. rw e a.0) (λ e. rw e (beside_long none ps ds r o h a.1)) (cases_Bool (is_at r o p))

module _ (H : List ℕ → Digest) (long : (x : List ℕ) → IsDigest (H x)) (us : History) (outputs : List Held)
    (stand : StandForHistory H (entries H leaf_text us) outputs us)
    (ext : List Outside) (m : Message) (count : length m.proof.spends ≡ length ext) (claims_fit : AllByRecursion LeafFits (claims ext m))
    (hashes_fit : AllByRecursion IsDigest m.proof.hashes)
    (known : ℕ → ℕ → Option Digest) (view : IsKnowledge H (entries H leaf_text us) known)
    (none : proof_fault H (record { n = length (entries H leaf_text us); roots = root H (entries H leaf_text us); known = known })
    (points_of ext) m ≡ None) where
  abbrev es : List (Option Digest)
  es = entries H leaf_text us

  abbrev n : ℕ
  n = length es

  abbrev ts : List Place
  ts = targets n m

  abbrev rs : List Leaf
  rs = claims ext m

  abbrev hs : List Digest
  hs = m.proof.hashes

  abbrev k : ℕ → ℕ → Option Digest
  k = known_to m.lean known

  abbrev text_of : ℕ → List ℕ
  text_of = entry_text leaf_text us

  abbrev leaf_texts : ℕ → ℕ → List ℕ
  leaf_texts = beside [] ts (map leaf_text rs)

  abbrev hashes : ℕ → ℕ → Digest
  hashes = hash_of H n ts k hs

  abbrev V : Cover → Digest
  V = value_of H es text_of ts leaf_texts hashes

  abbrev node_text_of : Tree → List ℕ
  node_text_of = node_text H es text_of ts leaf_texts hashes

  abbrev cover_text_of : Cover → List ℕ
  cover_text_of = cover_text H es text_of ts leaf_texts hashes

  abbrev shown_at : Place → Option TextClash
  shown_at = pair_for H us n ts rs k hs

  same_length : n ≡ length us
  same_length = length-map us (option_map (λ (r : Leaf). H (leaf_text r)))

  to_us : (P : ℕ → Type 0) → P n → P (length us)
  to_us P p = subst P same_length p

  points_count : length m.proof.spends ≡ length (points_of ext)
  points_count = count ∙ sym (length-map ext point_of)

  acc : IsAccepted H n (root H es) ts k (leaves_of H (points_of ext) m) hs × (named n m ≡ map Some ts)
  acc = accepted H (record { n = n; roots = root H es; known = known }) (points_of ext) m points_count none

  no_pair : (l : Leaf) → LeafFits l → length (leaf_text l) ≢ 64
  no_pair l f e = let w = (leaf_long l f).0 in absurd (omega (arith, w, e))

  each_entry : (i : ℕ) (d : Digest) → get_or es i None ≡ Some d → (H (text_of i) ≡ d) × (length (text_of i) ≢ 64)
  each_entry = entry_texts H leaf_text long LeafFits no_pair one_leaf us stand.fit

  -- a node that stands has a text, which has its digest
  node_shown : (r o : ℕ) (t : Tree) → tree_at es r o ≡ Some t → text_in H us r o ≡ Some (node_text_of t)
  node_shown r o t s = ap (option_map (node_text_in H us)) s ∙ same t
    where
      same : (t : Tree) → Some (node_text_in H us t) ≡ Some (node_text_of t)
      same (leaf i d) = refl
      same (inner a b) = refl

  node_digest : (r o : ℕ) (t : Tree) → tree_at es r o ≡ Some t → H (node_text_of t) ≡ digest_of H t
  node_digest r o (leaf i d) s = (each_entry i d (tree_at-leaves es r o (leaf i d) s)).0
  node_digest r o (inner a b) s = refl

  first_listed : (t : Tree) → Contains (node_texts H text_of t) (node_text_of t)
  first_listed (leaf j d) = Contains-first _ []
  first_listed (inner l r) = Contains-first _ _

  -- ---- what is digested has 32 bytes

  tree_long : (r o : ℕ) (t : Tree) → tree_at es r o ≡ Some t → IsDigest (digest_of H t)
  tree_long r o (leaf i d) s = subst IsDigest (each_entry i d (tree_at-leaves es r o (leaf i d) s)).0 (long (text_of i))
  tree_long r o (inner a b) s = long _

  known_long : (r o : ℕ) (d : Digest) → known r o ≡ Some d → IsDigest d
  known_long r o d e = let w = standing H (tree_at es r o) d (view r o d e) in subst IsDigest w.2 (tree_long r o w.0 w.1)

  k_long : (lean : Bool) (r o : ℕ) (d : Digest) → known_to lean known r o ≡ Some d → IsDigest d
  k_long true r o d e = known_long r o d e
  k_long false r o d e = absurd (none-some d e)

  hash_long : (r o : ℕ) → IsDigest (hashes r o)
  hash_long r o = by (k r o) refl
    where
      by : (x : Option Digest) → k r o ≡ x → IsDigest (unwrap_or x (beside (H []) (asked n ts k) hs r o))
      by (Some d) e = k_long m.lean r o d e
      by None e = beside_long (H []) (asked n ts k) hs r o (long []) hashes_fit

  value_long : (c : Cover) → IsDigest (V c)
  value_long (target r o) = long (leaf_texts r o)
  value_long (given r o) = hash_long r o
  value_long (both l r) = long _

  has_digests : (c : Cover) → HasDigests H es text_of ts leaf_texts hashes c
  has_digests (target r o) = tt
  has_digests (given r o) = tt
  has_digests (both l r) = (value_long l, value_long r)

  text_same : (c : Cover) → cover_text_of c ≡ text_of_cover H n ts rs k hs c
  text_same (target a b) = refl
  text_same (given a b) = refl
  text_same (both l r) = refl

  -- ---- where nothing is shown

  nothing_here : (r o : ℕ) (c : Cover) (t : Tree) → cover ts r o ≡ Some c → tree_at es r o ≡ Some t → V c ≡ digest_of H t
      → shown_at (place r o) ≡ None → node_text_of t ≡ cover_text_of c
  nothing_here r o c t e s v silent =
      let there : is_digest (V c) (digest_at H es r o) ≡ true = ap (λ x. is_digest (V c) (option_map (digest_of H) x)) s
      ∙ (ap (λ d. is_digest (V c) (Some d)) (sym v) ∙ is_same-same (V c)) in
      let shown = node_shown r o t s in
      let over : pair_by H us n ts rs k hs (place r o) c ≡ None =
      sym (ap (option_and_then (pair_by H us n ts rs k hs (place r o))) e) ∙ silent in
      let text : option_and_then (λ x. differing x (text_of_cover H n ts rs k hs c) (V c)) (text_in H us r o) ≡ None =
      sym (ap (λ (b : Bool). if b then option_and_then (λ x. differing x (text_of_cover H n ts rs k hs c) (V c)) (text_in H us r o) else None)
      there) ∙ over in
      differing-none (node_text_of t) (text_of_cover H n ts rs k hs c) (V c)
      (sym (ap (option_and_then (λ x. differing x (text_of_cover H n ts rs k hs c) (V c))) shown) ∙ text) ∙ sym (text_same c)

  agree_at : first_of (map shown_at (places n)) ≡ None → (r o : ℕ) → InForest n r o → AgreeAt H es text_of ts leaf_texts hashes r o
  agree_at silent r o h c t e s v = (nothing_here r o c t e s v (none-at shown_at (places n) (place r o) silent (places_have n r o h)), has_digests c)

  leaf_other : (r o : ℕ) → length (leaf_texts r o) ≢ 64
  leaf_other = other_length H long us outputs stand.held stand.fit ts rs k hs claims_fit

  root_is : (row : ℕ) (c : Cover) → is_slot n row ≡ true → cover ts row (root_off n row) ≡ Some c → root H es row ≡ Some (V c)
  root_is row c slot e =
      acc.0.agrees row c slot e ∙ ap Some (value-same H (beside (H []) ts (leaves_of H (points_of ext) m)) (λ r o. H (leaf_texts r o))
      hashes (leaves_are H leaf_text ts rs) c)

  abbrev RightBy : ℕ → Type 0
  RightBy j = IsRight H leaf_text us (targets j m) k rs hs

  right : first_of (map shown_at (places n)) ≡ None → RightBy n
  right silent =
      right_from_found H leaf_text long LeafFits no_pair one_leaf us stand.fit ts k rs hs (All-from_recursion LeafFits rs claims_fit) acc.0
      (λ row c slot e.
      let o = root_off n row in
      let top = is_root-root_off n row slot in
      let h = InForest-root n row o top in
      let w = standing H (content es row o) (V c) (root_is row c slot e) in
      let s : tree_at es row o ≡ Some w.0 = tree_at-root es row o top ∙ w.1 in
      (w.0, s, found H es text_of ts leaf_texts hashes long leaf_other each_entry (agree_at silent) row o c w.0 h e s (sym w.2)))

  right_then : first_of (map shown_at (places n)) ≡ None → is_right H us known (points_of ext) m ≡ true
  right_then silent =
      (right_is_tested H us known (points_of ext) m).1 (
        to_us RightBy (right silent),
        to_us (λ j. named j m ≡ map Some (targets j m)) acc.1,
        points_count,
      )

  -- ---- where two texts are shown

  own : (r o : ℕ) (c : Cover) → cover ts r o ≡ Some c → H (cover_text_of c) ≡ V c
  own r o (target a b) e = refl
  own r o (given a b) e = absurd (not_given ts r o a b e)
  own r o (both l d) e = refl

  covered_listed : (r o : ℕ) (c : Cover) → cover ts r o ≡ Some c → Contains (value_texts H leaf_texts hashes c) (cover_text_of c)
  covered_listed r o (target a b) e = Contains-first _ []
  covered_listed r o (given a b) e = absurd (not_given ts r o a b e)
  covered_listed r o (both l d) e = Contains-first _ _

  is_clash : (r o : ℕ) (c : Cover) (t : Tree) (x : TextClash) → InForest n r o → cover ts r o ≡ Some c → tree_at es r o ≡ Some t → digest_of H t ≡ V c
      → IsMade (node_text_of t) (cover_text_of c) (V c) x → IsClash H us known (points_of ext) m x
  is_clash r o c t x h e s v made =
      let node = node_listed H es text_of (n - r) r o t (node_text_of t) refl h s (first_listed t) in
      let covered = cover_listed H n ts acc.0.shape leaf_texts hashes (n - r) r o c (cover_text_of c) refl h e (covered_listed r o c e) in
      record {
        of_forest = subst (IsNodeText H leaf_text us) (sym made.first) (record {
          row = node.row;
          tree = node.tree;
          slot = to_us (λ j. is_slot j node.row ≡ true) node.slot;
          of_slot = to_us (λ j. content es node.row (root_off j node.row) ≡ Some node.tree) node.of_slot;
          listed = node.listed;
        });
        of_proof = to_us (λ j. IsValueText H leaf_text j (targets j m) k rs hs x.second)
            (subst (IsValueText H leaf_text n ts k rs hs) (sym made.second) (record {
              row = covered.row;
              covered = covered.covered;
              slot = covered.slot;
              of_slot = covered.of_slot;
              listed = covered.listed;
            }));
        differ = λ same. made.differ (sym made.first ∙ (same ∙ made.second));
        first_is = ap H made.first ∙ (node_digest r o t s ∙ (v ∙ sym made.digest));
        second_is = ap H made.second ∙ (own r o c e ∙ sym made.digest);
      }

  -- what is shown at a place
  record IsShownAt (p : Place) (x : TextClash) : Type 0 where
    beneath : Cover
    covered : cover ts p.row p.off ≡ Some beneath
    node : Tree
    stands : tree_at es p.row p.off ≡ Some node
    digests : digest_of H node ≡ V beneath
    made : IsMade (node_text_of node) (cover_text_of beneath) (V beneath) x

  shown_as : (p : Place) (x : TextClash) → shown_at p ≡ Some x → IsShownAt p x
  shown_as p x shows = by_cover (cover ts p.row p.off) refl shows
    where
      by_text : (c : Cover) → cover ts p.row p.off ≡ Some c → digest_at H es p.row p.off ≡ Some (V c)
          → option_and_then (λ y. differing y (text_of_cover H n ts rs k hs c) (V c)) (text_in H us p.row p.off) ≡ Some x
          → IsShownAt p x
      by_text c e there shows =
          let w = standing H (tree_at es p.row p.off) (V c) there in
          let is : differing (node_text_of w.0) (text_of_cover H n ts rs k hs c) (V c) ≡ Some x =
          sym (ap (option_and_then (λ y. differing y (text_of_cover H n ts rs k hs c) (V c))) (node_shown p.row p.off w.0 w.1)) ∙ shows in
          record {
            beneath = c;
            covered = e;
            node = w.0;
            stands = w.1;
            digests = w.2;
            made = differing-some (node_text_of w.0) (cover_text_of c) (V c) x (ap (λ y. differing (node_text_of w.0) y (V c)) (text_same c) ∙ is);
          }

      by_digest : (c : Cover) → cover ts p.row p.off ≡ Some c → (b : Bool) → is_digest (V c) (digest_at H es p.row p.off) ≡ b
          → (if b then option_and_then (λ y. differing y (text_of_cover H n ts rs k hs c) (V c)) (text_in H us p.row p.off) else None) ≡ Some x
          → IsShownAt p x
      by_digest c e false t shows = absurd (none-some x shows)
      by_digest c e true t shows = by_text c e (there_is (V c) (digest_at H es p.row p.off) t) shows

      by_cover : (y : Option Cover) → cover ts p.row p.off ≡ y → option_and_then (pair_by H us n ts rs k hs p) y ≡ Some x → IsShownAt p x
      by_cover None e shows = absurd (none-some x shows)
      by_cover (Some c) e shows = by_digest c e (is_digest (V c) (digest_at H es p.row p.off)) refl shows

  shown_is : (p : Place) (x : TextClash) → InForest n p.row p.off → shown_at p ≡ Some x → IsClash H us known (points_of ext) m x
  shown_is p x h shows = let w = shown_as p x shows in is_clash p.row p.off w.beneath w.node x h w.covered w.stands w.digests w.made

  in_whole : clash_in H us known ext m ≡ first_of (map shown_at (places n))
  in_whole =
      ap (λ j. if is_none (proof_fault H (record { n = j; roots = root H es; known = known }) (points_of ext) m) then
      first_by H us j (targets j m) rs k hs else None) (sym same_length)
      ∙ ap (λ y. if is_none y then first_of (map shown_at (places n)) else None) none

  -- what is accepted and not right shows two texts
  pub shows : is_right H us known (points_of ext) m ≡ false → (x : TextClash) × (clash_in H us known ext m ≡ Some x)
      × IsClash H us known (points_of ext) m x
  shows wrong = by (first_of (map shown_at (places n))) refl
    where
      by : (y : Option TextClash) → first_of (map shown_at (places n)) ≡ y → (x : TextClash) × (clash_in H us known ext m ≡ Some x)
          × IsClash H us known (points_of ext) m x
      by None e = absurd (false≢true (sym wrong ∙ right_then e))
      by (Some x) e = let w = some-at shown_at (places n) x e in (x, in_whole ∙ e, shown_is w.0 x (places_had n w.0.row w.0.off w.1) w.2)

  -- ---- where the message is right

  knows : IsKnowledge H es k
  knows = by m.lean
    where
      by : (b : Bool) → IsKnowledge H es (known_to b known)
      by true = view
      by false = λ row off d e. absurd (none-some d e)

  never_shown : RightBy n → (p : Place) (x : TextClash) → InForest n p.row p.off → shown_at p ≡ Some x → ⊥
  never_shown r p x h shows =
      let w = shown_as p x shows in
      let shown : map Some hs ≡ map (λ q. digest_at H es q.row q.off) (asked n ts k) =
      subst (λ j. map Some hs ≡ map (λ q. digest_at H es q.row q.off) (asked j ts k)) (sym same_length) r.shown in
      w.made.differ (by_form w.beneath w.covered
      (right_agrees H leaf_text us ts k rs hs knows r.spends shown p.row p.off w.beneath w.node h w.covered w.stands))
    where
      by_form : {t : List ℕ} (c : Cover) → cover ts p.row p.off ≡ Some c → (c ≡ target p.row p.off → t ≡ leaf_texts p.row p.off)
          × ((a d : Cover) → c ≡ both a d → t ≡ (V a).0 ++ (V d).0) → t ≡ cover_text_of c
      by_form (target a b) e w = let is = target_here ts p.row p.off a b e in w.0 is ∙ ap cover_text_of (sym is)
      by_form (given a b) e w = absurd (not_given ts p.row p.off a b e)
      by_form (both l d) e w = w.1 l d refl

  -- it shows nothing
  pub shows_none : is_right H us known (points_of ext) m ≡ true → clash_in H us known ext m ≡ None
  shows_none sound = in_whole ∙ by (first_of (map shown_at (places n))) refl
    where
      by : (y : Option TextClash) → first_of (map shown_at (places n)) ≡ y → y ≡ None
      by None e = refl
      by (Some x) e =
          let w = some-at shown_at (places n) x e in
          let r = ((right_is_tested H us known (points_of ext) m).0 sound).0 in
          absurd (never_shown (subst RightBy (sym same_length) r) w.0 x (places_had n w.0.row w.0.off w.1) w.2)
