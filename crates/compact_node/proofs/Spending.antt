-- What a right message spends, and the roots and lists without it and with what is added.
use Rattle.std.proofs.Common.{◌≡◌, ℕ, suc, ◌+◌, ◌<◌, ◌^◌, true, false, cond, List, [], ◌∷◌, ◌++◌, map, length, Option, Some, None}
use Rattle.std.proofs.Common.{refl, sym, ap, ◌∙◌, subst, arith, append_assoc, append-nil}
use Rattle.std.specs.Prelude.{option_map}
use Rattle.std.proofs.Math.Path.{fun_ext}
use Rattle.std.proofs.lemmas.Bool.{false≢true}
use Rattle.std.proofs.lemmas.List.{map-append}
use Rattle.uo_digest.specs.declared.digest.Digest.{Digest}
use Rattle.forest_place.specs.declared.place.Place.{Place}
use Rattle.forest_place.specs.Forest.{InForest, is_slot, root_off}
use Rattle.forest_place.proofs.Listed.{place}
use Rattle.forest_model.specs.Cover.{cover, is_needed, need}
use Rattle.forest_model.specs.Standing.{digest_at, root}
use Rattle.forest_model.specs.Evaluation.{nothing_known, hash_of, asked}
use Rattle.forest_model.specs.Right.{entries}
use Rattle.forest_model.specs.Deletion.{entries_without, root_after, StandAt}
use Rattle.forest_model.proofs.Deleting.{roots_after, length-entries_without}
use Rattle.forest_model.proofs.Right.{hash_right}
use Rattle.forest_roots.specs.Stump.{Stump, IsStump, StandsFor, root_in}
use Rattle.forest_roots.specs.Joined.{joins_of}
use Rattle.forest_roots.proofs.Added.{stands_added}
use Rattle.leaf_record.specs.Leaf.{Leaf, leaf_text}
use Rattle.leaf_record.specs.History.{History, spent, added}
use Rattle.block_rules.specs.declared.chain.Outside.{Outside}
use Rattle.cache_model.specs.declared.kept.Kept.{Kept}
use Rattle.cache_model.specs.Cache.{look, ArePairs}
use Rattle.cache_model.specs.Known.{is_watched, known_at}
use Rattle.cache_model.specs.Lists.{IsCacheOf, moved_leaves}
use Rattle.cache_model.proofs.Lists.{same_count}
use Rattle.cache_model.proofs.Histories.{left_cache, known_is, entries-spent, watched_is}
use Rattle.cache_update.specs.Joins.{added_by}
use Rattle.cache_update.proofs.Changed.{added_stands_by, joins_slots}
use Rattle.cache_update.proofs.Growing.{free_above}
use Rattle.cache_update.proofs.Joined.{joins_are}
use Rattle.node_rules.specs.Messages.{Message, points_of, targets, known_to}
use Rattle.node_rules.specs.Reading.{Handed, nothing, unread, read}
use Rattle.node_rules.specs.Right.{is_right}
use Rattle.node_rules.specs.Judging.{is_right_message, entries_shown}
use Rattle.node_rules.proofs.Judging.{known_is as knowledge}
use Rattle.node_rules.proofs.Righting.{right_is_tested}
use Rattle.node_rules.proofs.Serving.{hash_of_all}
use Rattle.node_rules.proofs.Spending.{right_stands}
use Rattle.compact_node.specs.After.{held_without, changes_of, with_leaf, with_leaves, kept_with, held_with, kept_with_all, held_with_all}
use Rattle.compact_node.specs.Node.{LevelState, view_over, places_spent, hashes_over, hashes_spent, roots_spent, kept_spent, held_spent}
use Rattle.forest_roots.proofs.Additions.{with_leaf-leaves, with_leaf-adds, with_leaf-stump}
use Rattle.compact_node.proofs.Changes.{changes_serve}
use Rattle.compact_node.proofs.Deletions.{without-leaves, without-slot}
use Rattle.proof_shape.proofs.Untargeted.{none_needed}

-- ---- the hashes of all needed places are those of the forest

abbrev AreRight : (List ℕ → Digest) → List (Option Digest) → List Place → List Digest → Type 0
AreRight H es ts hashes = (r o : ℕ) → InForest (length es) r o → is_needed (length es) ts (place r o) ≡ true
    → Some (hash_of H (length es) ts nothing_known hashes r o) ≡ digest_at H es r o

-- what is spent: entries that stand at these places, by such hashes
pub record IsSpending (H : List ℕ → Digest) (es : List (Option Digest)) (ts : List Place) (numbers : List ℕ) (hashes : List Digest) : Type 0 where
  pub at : StandAt es ts numbers
  pub right : AreRight H es ts hashes

module _ (H : List ℕ → Digest) (scripts : List (List ℕ)) (us : History) where
  abbrev es : List (Option Digest)
  es = entries H leaf_text us

  count : length es ≡ length us
  count = same_count H us

  abbrev hashes_by : ℕ → (ℕ → ℕ → Option Digest) → Message → List Digest
  hashes_by n known m = hashes_over H (record { n = n; roots = λ row. None; known = known }) m

  message_right : (points : List Outside) (m : Message) → is_right H us (known_at H scripts us) (points_of points) m ≡ true
      → AreRight H es (targets (length us) m) (hashes_by (length us) (known_at H scripts us) m)
  message_right points m h r o within needed =
      let ts = targets (length us) m in
      let known = known_to m.lean (known_at H scripts us) in
      let shown = ((right_is_tested H us (known_at H scripts us) (points_of points) m).0 h).0.shown in
      let shown' : map Some m.proof.hashes ≡ map (λ p. digest_at H es p.row p.off) (asked (length es) ts known) =
      subst (λ k. map Some m.proof.hashes ≡ map (λ p. digest_at H es p.row p.off) (asked k ts known)) (sym count) shown in
      let here = hash_right H es ts known m.proof.hashes (knowledge H scripts us m.lean) shown' r o within needed in
      let all : hashes_by (length us) (known_at H scripts us) m ≡ map (λ (p : Place). hash_of H (length es) ts known m.proof.hashes p.row p.off)
      (need (length es) ts) = ap (λ k. map (λ (p : Place). hash_of H k ts known m.proof.hashes p.row p.off) (need k ts)) (sym count) in
      ap Some (sym (hash_of_all H (length es) ts (λ r o. hash_of H (length es) ts known m.proof.hashes r o)
      (hashes_by (length us) (known_at H scripts us) m) all r o within needed)) ∙ here

  module _ (l : LevelState) (stands : StandsFor H es l.roots) (cache : IsCacheOf H scripts us l.kept l.held) (ext : List Outside) where
    pub as_long : l.roots.leaves ≡ length us
    as_long = stands.leaves ∙ count

    pub knows : look l.held ≡ known_at H scripts us
    knows = fun_ext (λ row. fun_ext (λ off. known_is H scripts us l.kept l.held cache row off))

    spending : (handed : Handed) → is_right_message H scripts us ext handed ≡ true
        → IsSpending H es (places_spent l.roots.leaves handed) (entries_shown H us handed) (hashes_spent H (view_over l) handed)
    spending nothing h = record { at = tt; right = λ r o within needed. absurd (false≢true (sym (none_needed (length es) (place r o)) ∙ needed)) }
    spending (unread why) h = record {
      at = tt;
      right = λ r o within needed. absurd (false≢true (sym (none_needed (length es) (place r o)) ∙ needed));
    }
    spending (read m) h =
        let base : IsSpending H es (targets (length us) m) (entries_shown H us (read m)) (hashes_by (length us) (known_at H scripts us) m) =
        record {
          at = right_stands H us scripts (points_of ext) m h;
          right = message_right ext m h;
        } in
        subst (λ k. IsSpending H es (targets l.roots.leaves m) (entries_shown H us (read m)) (hashes_by l.roots.leaves k m)) (sym knows)
        (subst (λ n. IsSpending H es (targets n m) (entries_shown H us (read m)) (hashes_by n (known_at H scripts us) m)) (sym as_long)
        base)

    module _ (stump : IsStump l.roots) (handed : Handed) (right : is_right_message H scripts us ext handed ≡ true) where
      abbrev ts : List Place
      ts = places_spent l.roots.leaves handed

      abbrev hashes : List Digest
      hashes = hashes_spent H (view_over l) handed

      abbrev numbers : List ℕ
      numbers = entries_shown H us handed

      is : IsSpending H es ts numbers hashes
      is = spending handed right

      pub roots_left : StandsFor H (entries H leaf_text (spent numbers us)) (roots_spent H l handed)
      roots_left =
          let f = l.roots in
          let after = λ (n : ℕ) (old : Option Digest) (row : ℕ). root_after H (hash_of H n ts nothing_known hashes) old
          (cover ts row (root_off n row)) in
          let base : StandsFor H (entries_without numbers es) (roots_spent H l handed) = record {
            leaves = without-leaves H f ts hashes ∙ (stands.leaves ∙ sym (length-entries_without numbers es));
            roots = λ row slot.
                let slot' : is_slot f.leaves row ≡ true = ap (λ n. is_slot n row) (sym (without-leaves H f ts hashes)) ∙ slot in
                without-slot H f ts hashes stump row slot'
                ∙ (ap (λ x. after f.leaves x row) (stands.roots row slot')
                ∙ (ap (λ n. after n (root H es row) row) stands.leaves
                ∙ sym (roots_after es ts numbers is.at H (hash_of H (length es) ts nothing_known hashes) is.right row
                (ap (λ n. is_slot n row) (sym stands.leaves) ∙ slot'))));
          } in
          subst (λ xs. StandsFor H xs (roots_spent H l handed)) (sym (entries-spent H numbers us)) base

      pub lists_left : IsCacheOf H scripts (spent numbers us) (kept_spent l handed) (held_spent H l handed)
      lists_left =
          let pairs : ArePairs H (length us) ts (entries_without numbers es) (changes_of H (length us) ts hashes) =
          subst (λ n. ArePairs H n ts (entries_without numbers es) (changes_of H n ts hashes)) count
          (changes_serve H es ts numbers hashes is.at is.right) in
          subst (λ n. IsCacheOf H scripts (spent numbers us) (moved_leaves n ts l.kept) (held_without H n ts hashes l.kept l.held)) (sym as_long)
          (left_cache H scripts us ts numbers (changes_of H (length us) ts hashes) l.kept l.held is.at pairs cache)

-- ---- what is added

joins_end : (H : List ℕ → Digest) (f : Stump) (d : Digest) → is_slot f.leaves (length (joins_of H f d)) ≡ false
joins_end H f d =
    let w = free_above f.leaves (suc f.leaves) 0 refl (omega arith) in
    let j = joins_are H f (λ row. root_in f row) d w.0 w.2 w.3 (λ row e. refl) in
    ap (is_slot f.leaves) j.each ∙ w.3

module _ (H : List ℕ → Digest) (scripts : List (List ℕ)) where
  -- roots and lists are those of this history
  pub record StandFor (us : History) (f : Stump) (ks : List Kept) (hs : List (Place × Digest)) : Type 0 where
    pub roots : StandsFor H (entries H leaf_text us) f
    pub cache : IsCacheOf H scripts us ks hs

  with_one : (us : History) (f : Stump) (leaf : Leaf) (ks : List Kept) (hs : List (Place × Digest)) → IsStump f → suc f.leaves < 2 ^ 40
      → StandFor us f ks hs →
      StandFor (us ++ Some leaf ∷ []) (with_leaf H f (H (leaf_text leaf))) (kept_with H scripts f leaf ks) (held_with H scripts f leaf hs)
  with_one us f leaf ks hs s few a =
      let d = H (leaf_text leaf) in
      let js = joins_of H f d in
      let n : length us ≡ f.leaves = sym (a.roots.leaves ∙ same_count H us) in
      let more : entries H leaf_text us ++ Some d ∷ [] ≡ entries H leaf_text (us ++ Some leaf ∷ []) =
      sym (map-append (option_map (λ r. H (leaf_text r))) us (Some leaf ∷ [])) in
      record {
        roots = subst (λ xs. StandsFor H xs (with_leaf H f d)) more
            (stands_added H (entries H leaf_text us) d f (with_leaf H f d) a.roots (with_leaf-leaves H f d) (with_leaf-adds H f d s few));
        cache = added_stands_by H scripts us leaf f js f.leaves d (cond (is_watched scripts (Some leaf)) (Some leaf) None) ks
            (kept_with H scripts f leaf ks) hs (held_with H scripts f leaf hs) n a.roots refl
            refl (joins_end H f d) (joins_slots H f d js f.leaves refl refl) refl a.cache refl
            (ap (λ b. added_by js d f.leaves b hs) (sym (watched_is leaf (is_watched scripts (Some leaf)))));
      }

  pub with_all : (new : List Leaf) (us : History) (f : Stump) (ks : List Kept) (hs : List (Place × Digest)) → IsStump f
      → f.leaves + length new < 2 ^ 40 → StandFor us f ks hs →
      StandFor (added new us) (with_leaves H f (map (λ leaf. H (leaf_text leaf)) new)) (kept_with_all H scripts f new ks)
      (held_with_all H scripts f new hs)
  with_all [] us f ks hs s few a = rw append-nil a
  with_all (leaf ∷ new) us f ks hs s few a =
      let d = H (leaf_text leaf) in
      let more : suc f.leaves < 2 ^ 40 = omega (arith, few) in
      subst (λ xs. StandFor xs (with_leaves H (with_leaf H f d) (map (λ leaf. H (leaf_text leaf)) new))
      (kept_with_all H scripts (with_leaf H f d) new (kept_with H scripts f leaf ks))
      (held_with_all H scripts (with_leaf H f d) new (held_with H scripts f leaf hs)))
      (append_assoc us (Some leaf ∷ []) (map Some new))
      (with_all new (us ++ Some leaf ∷ []) (with_leaf H f d) (kept_with H scripts f leaf ks) (held_with H scripts f leaf hs)
      (with_leaf-stump H f d s more) (omega (arith, few, with_leaf-leaves H f d))
      (with_one us f leaf ks hs s more a))
