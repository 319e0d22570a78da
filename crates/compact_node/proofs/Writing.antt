-- The text of a node's levels, piece by piece.
use Rattle.std.proofs.Common.{◌≡◌, ℕ, suc, ◌+◌, length, List, [], ◌∷◌, ◌++◌, drop, Option, Some, Result, OnOk, refl, sym, ap, ap₂, ◌∙◌, subst}
use Rattle.std.proofs.Common.{append_assoc, append-nil}
use Rattle.std.specs.Prelude.{slice_get}
use Rattle.std.specs.Io.KnownBytes.{Appends}
use Rattle.std.proofs.KnownBytes.{Appends-trans, Appends-nil}
use Rattle.std.proofs.lemmas.List.{drop_more, length-map}
use Rattle.std.proofs.lemmas.Option.{slice_get_within, get_or_from_slice_get}
use Rattle.uo_base.specs.Moved.{AppendsPart}
use Rattle.uo_base.proofs.PortLemmas.{AppendsPart-after}
use Rattle.uo_digest.specs.declared.digest.Digest.{Digest}
use Rattle.forest_place.specs.declared.place.Place.{Place}
use Rattle.cache_model.specs.declared.kept.Kept.{Kept}
use Rattle.cache_model.specs.Lists.{leaf_places}
use Rattle.forest_model.specs.Cover.{HasShape}
use Rattle.state_text.specs.Ordered.{kept_text}
use Rattle.forest_roots.specs.Stump.{Stump}
use Rattle.leaf_cache.specs.Parted.{Parted, HaveSameLists}
use Rattle.cache_update.specs.Marks.{kept_back, held_back}
use Rattle.cache_update.proofs.Chained.{in_order}
use Rattle.block_rules.specs.declared.chain.Chain.{Chain}
use Rattle.node_rules.specs.Judging.{Rules}
use Rattle.state_text.specs.Stored.{front_text}
use Rattle.state_text.proofs.Written.{text_parts}
use Rattle.compact_node.specs.Node.{NodeState, AreOlder}
use Rattle.compact_node.specs.State.{cached_level, cached_state, stored_text}
use Rattle.compact_node.specs.Marked.{PastState, given_by, level_of, levels_behind, MarksFit, node_of, IsMarked}
use Rattle.compact_node.proofs.Marks.{length-behind}
use Rattle.compact_node.specs.Written.{level_written, levels_written, past_written, behind_written, CanBeWritten, AllCanBeWritten}

-- ---- each can be written

-- marks that fit are in order, and the lists of a level are those of its roots
pub all_can : (rules : Rules) (chain : Chain) (past : List PastState) (p : Parted) → MarksFit past p
    → AreOlder rules chain (levels_behind past p.kept p.held) → AllCanBeWritten past p.kept
all_can rules chain [] p fit are = tt
all_can rules chain (x ∷ past) p fit are = ((in_order x.mark p fit.0, are.2.lists.shape), all_can rules x.chain past (given_by x.mark p) fit.1 are.3)

-- ---- one after the other

first_left : {X : Type 0} (xs : List X) (i : ℕ) (x : X) → slice_get xs i ≡ Some x → drop i xs ≡ x ∷ drop (i + 1) xs
first_left xs i x e = drop_more xs i x (slice_get_within xs i x e) ∙ ap (λ y. y ∷ drop (i + 1) xs) (get_or_from_slice_get xs i x x e)

-- so many of the older levels are written, and the lists are those of the last of them: what is left stands behind that one
module _ (past : List PastState) (ks : List Kept) (hs : List (Place × Digest)) (a : Option (List ℕ)) where
  pub record IsWriting (i : ℕ) (now : List Kept) (held : List (Place × Digest)) (b : Option (List ℕ)) : Type 0 where
    pub done : List ℕ
    pub grew : Appends a b done
    pub split : behind_written past ks hs ≡ done ++ behind_written (drop i past) now held
    pub can : AllCanBeWritten (drop i past) now

  pub begins : AllCanBeWritten past ks → IsWriting 0 ks hs a
  begins can = record { done = []; grew = Appends-nil a; split = refl; can = can }

  module _ (i : ℕ) (now : List Kept) (held : List (Place × Digest)) (b : Option (List ℕ)) (is : IsWriting i now held b) (x : PastState)
      (at : slice_get past i ≡ Some x) where
    -- the next one can be written
    pub next_can : CanBeWritten x now
    next_can = (subst (λ xs. AllCanBeWritten xs now) (first_left past i x at) is.can).0

    next_split : behind_written past ks hs ≡ is.done
        ++ (past_written x now held ++ behind_written (drop (i + 1) past) (kept_back x.mark now) (held_back x.mark held))
    next_split = is.split ∙ ap (λ xs. is.done ++ behind_written xs now held) (first_left past i x at)

    pub goes_on : (now' : List Kept) (held' : List (Place × Digest)) (c : Option (List ℕ)) → now' ≡ kept_back x.mark now
        → held' ≡ held_back x.mark held → Appends b c (past_written x now held) → IsWriting (i + 1) now' held' c
    goes_on now' held' c kept_is held_is wrote = record {
      done = is.done ++ past_written x now held;
      grew = Appends-trans a b c is.done (past_written x now held) is.grew wrote;
      split =
          next_split ∙ (sym (append_assoc is.done (past_written x now held)
          (behind_written (drop (i + 1) past) (kept_back x.mark now) (held_back x.mark held)))
          ∙ ap₂ (λ (k : List Kept) (h : List (Place × Digest)). (is.done ++ past_written x now held) ++ behind_written (drop (i + 1) past) k h)
          (sym kept_is) (sym held_is));
      can = subst (AllCanBeWritten (drop (i + 1) past)) (sym kept_is) (subst (λ xs. AllCanBeWritten xs now) (first_left past i x at) is.can).1;
    }

    -- and where it is written in part, all is
    pub stops : (c : Option (List ℕ)) → AppendsPart b c (past_written x now held) → AppendsPart a c (behind_written past ks hs)
    stops c part = AppendsPart-after a b c is.done (past_written x now held)
        (behind_written (drop (i + 1) past) (kept_back x.mark now) (held_back x.mark held)) (behind_written past ks hs) is.grew part next_split

  pub ends : (i : ℕ) (now : List Kept) (held : List (Place × Digest)) (b : Option (List ℕ)) → IsWriting i now held b → drop i past ≡ []
      → Appends a b (behind_written past ks hs)
  ends i now held b is none = subst (Appends a b) (sym (is.split ∙ (ap (λ xs. is.done ++ behind_written xs now held) none ∙ append-nil is.done)))
      is.grew

-- ---- one of them

module _ (x y : PastState) (same : x ≡ y) (ks now : List Kept) (kept : now ≡ kept_back x.mark ks) where
  pub past_shape : CanBeWritten y ks → HasShape x.roots.leaves (leaf_places now)
  past_shape can = subst (λ k. HasShape x.roots.leaves (leaf_places k)) (sym kept) (subst (λ z. CanBeWritten z ks) (sym same) can).1

  pub past_text : (hs held : List (Place × Digest)) → held ≡ held_back x.mark hs
      → kept_text (record { tip = x.chain.tip; roots = x.roots; kept = now; held = held }) ≡ past_written y ks hs
  past_text hs held is =
      ap₂ (λ (k : List Kept) (h : List (Place × Digest)). level_written (level_of x k h)) kept is
      ∙ ap (λ z. past_written z ks hs) same

-- ---- the whole

abbrev head_of : NodeState → List ℕ
head_of s = front_text s.rules.net s.newest.chain.blocks s.scripts (suc (length s.older))

pub state_parts : (s : NodeState) → stored_text s ≡ head_of s ++ levels_written (s.newest ∷ s.older)
state_parts s = text_parts (cached_state s) ∙ ap (λ n. front_text s.rules.net s.newest.chain.blocks s.scripts (suc n)
    ++ levels_written (s.newest ∷ s.older)) (length-map s.older cached_level)

-- ---- the parts of a node

pub head_same : (rules : Rules) (scripts : List (List ℕ)) (chain : Chain) (roots : Stump) (p : Parted) (past : List PastState) (s : NodeState)
    (watch : List (List ℕ)) (levels : ℕ) → node_of rules scripts chain roots p past ≡ s →
    watch ≡ scripts → levels ≡ suc (length past) → front_text rules.net chain.blocks watch levels ≡ head_of s
head_same rules scripts chain roots p past s watch levels same w n =
    ap₂ (λ (x : List (List ℕ)) (k : ℕ). front_text rules.net chain.blocks x k) w (n ∙ ap suc (sym (length-behind past p.kept p.held)))
    ∙ ap head_of same

pub levels_same : (rules : Rules) (scripts : List (List ℕ)) (chain : Chain) (roots : Stump) (p q : Parted) (past : List PastState) (s : NodeState)
    → node_of rules scripts chain roots p past ≡ s → HaveSameLists q p →
    kept_text (record { tip = chain.tip; roots = roots; kept = q.kept; held = q.held }) ++ behind_written past q.kept q.held
    ≡ levels_written (s.newest ∷ s.older)
levels_same rules scripts chain roots p q past s same lists =
    ap₂ (λ (ks : List Kept) (hs : List (Place × Digest)). kept_text (record { tip = chain.tip; roots = roots; kept = ks; held = hs })
    ++ behind_written past ks hs) lists.0 lists.1
    ∙ ap (λ (n : NodeState). levels_written (n.newest ∷ n.older)) same

pub newest_shape : (rules : Rules) (scripts : List (List ℕ)) (chain : Chain) (roots : Stump) (p q : Parted) (past : List PastState)
    → IsMarked rules scripts chain roots p past → q.kept ≡ p.kept → HasShape roots.leaves (leaf_places q.kept)
newest_shape rules scripts chain roots p q past is kept = subst (λ ks. HasShape roots.leaves (leaf_places ks)) (sym kept) is.node.newest.lists.shape

pub older_can : (rules : Rules) (scripts : List (List ℕ)) (chain : Chain) (roots : Stump) (p q : Parted) (past : List PastState)
    → IsMarked rules scripts chain roots p past → q.kept ≡ p.kept → AllCanBeWritten past q.kept
older_can rules scripts chain roots p q past is kept = subst (AllCanBeWritten past) (sym kept) (all_can rules chain past p is.marks is.node.older)

-- ---- the same text

pub part-behind : (a b c : Option (List ℕ)) (before piece text : List ℕ) → Appends a b before → text ≡ before ++ piece → AppendsPart b c piece
    → AppendsPart a c text
part-behind a b c before piece text whole e part =
    AppendsPart-after a b c before piece [] text whole part (e ∙ ap (λ xs. before ++ xs) (sym (append-nil piece)))

pub as_written : {E X : Type 0} (r : Result X E) (a b : Option (List ℕ)) (x y : List ℕ) → x ≡ y → OnOk r (Appends a b x) → OnOk r (Appends a b y)
as_written r a b x y e = subst (λ t. OnOk r (Appends a b t)) e
