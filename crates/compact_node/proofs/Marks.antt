-- Older levels that are kept by marks.
use Rattle.std.proofs.Common.{◌≡◌, ◌≤◌, ℕ, zero, suc, List, [], ◌∷◌, Option, Some, None, refl, sym, ap, ap₂, ◌∙◌, subst}
use Rattle.std.specs.Prelude.{take, drop, slice_get, length}
use Rattle.std.proofs.lemmas.Option.{none-some, same_Some}
use Rattle.uo_digest.specs.declared.digest.Digest.{Digest}
use Rattle.forest_place.specs.declared.place.Place.{Place}
use Rattle.forest_roots.specs.Stump.{Stump}
use Rattle.cache_model.specs.declared.kept.Kept.{Kept}
use Rattle.leaf_cache.specs.Parted.{Parted, HaveSameLists}
use Rattle.cache_update.specs.Marks.{Fits, kept_back, held_back}
use Rattle.cache_update.proofs.Chained.{fits_more}
use Rattle.block_rules.specs.declared.chain.Chain.{Chain}
use Rattle.node_rules.specs.Judging.{Rules}
use Rattle.compact_node.specs.Node.{LevelState, NodeState, IsNode, with_level, node_gone_back}
use Rattle.compact_node.specs.Marked.{PastState, given_by, level_of, levels_behind, MarksFit, node_of, IsMarked}
use Rattle.compact_node.proofs.Keeping.{back_is_node}

-- ---- with other lists, and fewer levels

pub fit_more : (past : List PastState) (p q : Parted) → HaveSameLists q p → p.kept_room ≤ q.kept_room → p.held_room ≤ q.held_room → MarksFit past p
    → MarksFit past q
fit_more [] p q same k h fit = tt
fit_more (x ∷ xs) p q same k h fit = (
  fits_more x.mark p q same.0 same.1 k h fit.0,
  fit_more xs (given_by x.mark p) (given_by x.mark q) (ap (kept_back x.mark) same.0, ap (held_back x.mark) same.1) k h fit.1,
)

fit_taken : (k : ℕ) (past : List PastState) (p : Parted) → MarksFit past p → MarksFit (take k past) p
fit_taken zero past p fit = tt
fit_taken (suc k) [] p fit = tt
fit_taken (suc k) (x ∷ xs) p fit = (fit.0, fit_taken k xs (given_by x.mark p) fit.1)

behind_taken : (k : ℕ) (past : List PastState) (ks : List Kept) (hs : List (Place × Digest))
    → levels_behind (take k past) ks hs ≡ take k (levels_behind past ks hs)
behind_taken zero past ks hs = refl
behind_taken (suc k) [] ks hs = refl
behind_taken (suc k) (x ∷ xs) ks hs = ap (λ ls. level_of x (kept_back x.mark ks) (held_back x.mark hs) ∷ ls)
    (behind_taken k xs (kept_back x.mark ks) (held_back x.mark hs))

-- the same lists, whatever the room
pub same_node : (rules : Rules) (scripts scripts' : List (List ℕ)) (chain : Chain) (roots : Stump) (p q : Parted) (past : List PastState)
    → scripts' ≡ scripts → HaveSameLists q p →
    node_of rules scripts' chain roots q past ≡ node_of rules scripts chain roots p past
same_node rules scripts scripts' chain roots p q past watch same =
    ap (λ w. node_of rules w chain roots q past) watch
    ∙ ap₂ (λ (ks : List Kept) (hs : List (Place × Digest)). let l : LevelState = record { chain = chain; roots = roots; kept = ks; held = hs } in
    let s : NodeState = record { rules = rules; scripts = scripts; newest = l; older = levels_behind past ks hs } in s) same.0 same.1

pub same_marked : (rules : Rules) (scripts scripts' : List (List ℕ)) (chain : Chain) (roots : Stump) (p q : Parted) (past : List PastState)
    → scripts' ≡ scripts → HaveSameLists q p → p.kept_room ≤ q.kept_room → p.held_room ≤ q.held_room →
    IsMarked rules scripts chain roots p past → IsMarked rules scripts' chain roots q past
same_marked rules scripts scripts' chain roots p q past watch same k h is = record {
  node = subst IsNode (sym (same_node rules scripts scripts' chain roots p q past watch same)) is.node;
  marks = fit_more past p q same k h is.marks;
}

-- ---- a level more

module _ (rules : Rules) (scripts : List (List ℕ)) (chain chain' : Chain) (roots roots' : Stump) (p q : Parted) (x : PastState)
    (past taken : List PastState) where
  pub record IsPushed : Type 0 where
    pub chain_is : x.chain ≡ chain
    pub roots_are : x.roots ≡ roots
    pub taken_are : taken ≡ take 100 (x ∷ past)
    pub kept : kept_back x.mark q.kept ≡ p.kept
    pub held : held_back x.mark q.held ≡ p.held

  abbrev level : LevelState
  level = record { chain = chain'; roots = roots'; kept = q.kept; held = q.held }

  pub pushed_node : IsPushed → (scripts' : List (List ℕ)) → scripts' ≡ scripts
      → node_of rules scripts' chain' roots' q taken ≡ with_level level (node_of rules scripts chain roots p past)
  pushed_node is scripts' watch =
      let with = λ (ls : List LevelState). let s : NodeState = record { rules = rules; scripts = scripts; newest = level; older = ls } in s in
      let older : levels_behind taken q.kept q.held
      ≡ take 100 ((node_of rules scripts chain roots p past).newest ∷ levels_behind past p.kept p.held) =
      ap (λ xs. levels_behind xs q.kept q.held) is.taken_are
      ∙ (behind_taken 100 (x ∷ past) q.kept q.held
      ∙ (ap₂ (λ (ks : List Kept) (hs : List (Place × Digest)). take 100 (level_of x ks hs ∷ levels_behind past ks hs)) is.kept is.held
      ∙ ap₂ (λ (c : Chain) (f : Stump). let l : LevelState = record { chain = c; roots = f; kept = p.kept; held = p.held } in
      take 100 (l ∷ levels_behind past p.kept p.held)) is.chain_is is.roots_are)) in
      ap (λ w. node_of rules w chain' roots' q taken) watch ∙ ap with older

  pub pushed_marks : IsPushed → Fits x.mark q → p.kept_room ≤ q.kept_room → p.held_room ≤ q.held_room → MarksFit past p → MarksFit taken q
  pushed_marks is fits k h fit =
      subst (λ xs. MarksFit xs q) (sym is.taken_are)
      (fit_taken 100 (x ∷ past) q (fits, fit_more past p (given_by x.mark q) (is.kept, is.held) k h fit))

-- ---- a level fewer

module _ (rules : Rules) (scripts : List (List ℕ)) (chain : Chain) (roots : Stump) (p : Parted) (past : List PastState) where
  -- none is there
  pub popped_none : (rest : List PastState) (first : Option PastState) → first ≡ slice_get past 0 → rest ≡ drop 1 past → first ≡ None
      → node_of rules scripts chain roots p rest ≡ node_gone_back 1 (node_of rules scripts chain roots p past)
  popped_none rest first got left none = by past got left
    where
      by : (past : List PastState) → first ≡ slice_get past 0 → rest ≡ drop 1 past
          → node_of rules scripts chain roots p rest ≡ node_gone_back 1 (node_of rules scripts chain roots p past)
      by [] got left = ap (λ xs. node_of rules scripts chain roots p xs) left
      by (x ∷ xs) got left = absurd (none-some x (sym none ∙ got))

  -- the first of them
  pub record IsPopped (x : PastState) (rest : List PastState) : Type 0 where
    pub got : Some x ≡ slice_get past 0
    pub left : rest ≡ drop 1 past

  popped : (x : PastState) (rest : List PastState) → IsPopped x rest → past ≡ x ∷ rest
  popped x rest is = by past is.got is.left
    where
      by : (past : List PastState) → Some x ≡ slice_get past 0 → rest ≡ drop 1 past → past ≡ x ∷ rest
      by [] got left = absurd (none-some x (sym got))
      by (y ∷ ys) got left = ap₂ (λ (a : PastState) (b : List PastState). a ∷ b) (sym (same_Some x y got)) (sym left)

  pub popped_fits : (x : PastState) (rest : List PastState) → IsPopped x rest → MarksFit past p → Fits x.mark p
  popped_fits x rest is fit = (subst (λ xs. MarksFit xs p) (popped x rest is) fit).0

  module _ (x : PastState) (rest : List PastState) (is : IsPopped x rest) (q : Parted) (kept : q.kept ≡ kept_back x.mark p.kept)
      (held : q.held ≡ held_back x.mark p.held) where
    pub popped_node : (scripts' : List (List ℕ)) → scripts' ≡ scripts
        → node_of rules scripts' x.chain x.roots q rest ≡ node_gone_back 1 (node_of rules scripts chain roots p past)
    popped_node scripts' watch =
        same_node rules scripts scripts' x.chain x.roots (given_by x.mark p) q rest watch (kept, held)
        ∙ ap (λ xs. node_gone_back 1 (node_of rules scripts chain roots p xs)) (sym (popped x rest is))

    pub popped_marked : (scripts' : List (List ℕ)) → scripts' ≡ scripts → p.kept_room ≤ q.kept_room → p.held_room ≤ q.held_room
        → IsMarked rules scripts chain roots p past → IsMarked rules scripts' x.chain x.roots q rest
    popped_marked scripts' watch k h marked = record {
      node = subst IsNode (sym (popped_node scripts' watch)) (back_is_node 1 (node_of rules scripts chain roots p past) marked.node);
      marks = fit_more rest (given_by x.mark p) q (kept, held) k h (subst (λ xs. MarksFit xs p) (popped x rest is) marked.marks).1;
    }

pub length-behind : (past : List PastState) (ks : List Kept) (hs : List (Place × Digest)) → length (levels_behind past ks hs) ≡ length past
length-behind [] ks hs = refl
length-behind (x ∷ xs) ks hs = ap suc (length-behind xs (kept_back x.mark ks) (held_back x.mark hs))
