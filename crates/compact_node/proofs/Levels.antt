-- Levels that were stored: each is one of a node, and marks give back the older ones.
use Rattle.std.proofs.Common.{◌≡◌, ℕ, zero, suc, ◌+◌, ◌-◌, ◌/◌, ◌^◌, ◌<◌, ◌≤◌, true, List, [], ◌∷◌, map, length, get_or, take, drop, drop-cons}
use Rattle.std.proofs.Common.{Option, Some, None, is_some, refl, sym, ap, ap₂, ◌∙◌, subst, All, arith}
use Rattle.std.specs.Prelude.{option_map}
use Rattle.std.specs.List.{AllByRecursion}
use Rattle.std.proofs.lemmas.Option.{none-some, same_Some}
use Rattle.std.proofs.lemmas.List.{length-drop, length-map, drop_all}
use Rattle.std.proofs.lemmas.List.Elements.{All-nil, All-cons}
use Rattle.uo_base.specs.declared.event.Net.{Net}
use Rattle.uo_digest.specs.declared.digest.Digest.{Digest}
use Rattle.forest_place.specs.declared.place.Place.{Place}
use Rattle.forest_place.specs.Forest.{root_off}
use Rattle.forest_place.specs.Places.{has_place, places}
use Rattle.forest_place.proofs.Listed.{places_had, has_first}
use Rattle.forest_place.proofs.Parts.{parts-suc}
use Rattle.forest_model.specs.Cover.{HasShape, cover}
use Rattle.forest_model.specs.Evaluation.{IsAccepted, nothing_known}
use Rattle.forest_model.proofs.Covers.{some_from_test}
use Rattle.forest_roots.specs.Stump.{Stump, root_in}
use Rattle.proof_shape.proofs.Needing.{covered_target, covered_above}
use Rattle.cache_model.specs.declared.kept.Kept.{Kept}
use Rattle.cache_model.specs.Lists.{leaf_places}
use Rattle.leaf_cache.specs.Parted.{Parted}
use Rattle.cache_update.specs.Beside.{IsRooted, AreOfRoots}
use Rattle.cache_update.specs.Marks.{kept_back, held_back}
use Rattle.cache_update.proofs.Shaped.{IsPlaceIn, has_more, each_from}
use Rattle.cache_update.proofs.Within.{IsHeldIn, passed}
use Rattle.block_rules.specs.declared.chain.Chain.{Chain}
use Rattle.node_rules.specs.Judging.{Rules}
use Rattle.state_text.specs.Stored.{places_of}
use Rattle.state_text.specs.Fits.{LevelFits, IsKept, IsNext, AreLevels, IsState}
use Rattle.state_text.specs.Fits.{IsStoredLevel}
use Rattle.state_text.specs.Cached.{CachedLevel, CachedState, entry_of, level_in, state_in, IsFilled}
use Rattle.state_text.specs.Told.{level_tells, told_list}
use Rattle.state_text.proofs.Filling.{shape_leaves}
use Rattle.compact_node.specs.Node.{LevelState, NodeState, IsLevel, AreOlder, IsNode}
use Rattle.compact_node.specs.Marked.{PastState, given_by, level_of, levels_behind, MarksFit, node_of, IsMarked}
use Rattle.compact_node.specs.Levels.{level_at, levels_at, HasListsOf, IsPastOf, AreBehind, AreMarked}
use Rattle.compact_node.specs.State.{cached_level, cached_state}
use Rattle.compact_node.proofs.Marks.{length-behind}

-- ---- the lists of a level are of its roots

-- what stands above a covered place is covered
covered_higher : (ts : List Place) (k r o : ℕ) → is_some (cover ts r o) ≡ true → is_some (cover ts (r + k) (o / 2 ^ k)) ≡ true
covered_higher ts zero r o h =
    let row : r ≡ r + 0 = omega arith in
    let off : o ≡ o / 2 ^ 0 = (let z : o ≡ o / 1 = omega arith in z) in
    ap₂ (λ (a b : ℕ). is_some (cover ts a b)) (sym row) (sym off) ∙ h
covered_higher ts (suc k) r o h =
    let row : r + suc k ≡ suc (r + k) = omega arith in
    ap₂ (λ (a b : ℕ). is_some (cover ts a b)) row (parts-suc o k) ∙ covered_above ts (r + k) (o / 2 ^ k) (covered_higher ts k r o h)

module _ (H : List ℕ → Digest) (f : Stump) (ts : List Place) (leaves hashes : List Digest)
    (a : IsAccepted H f.leaves (root_in f) ts nothing_known leaves hashes) where
  -- the slot of a target evaluates to its root, so it has one
  rooted : (p : Place) → has_place ts p.row p.off ≡ true → IsRooted f p
  rooted p h row slot =
      let up = covered_higher ts (row - p.row) p.row p.off (covered_target ts p.row p.off h) in
      let at : p.row + (row - p.row) ≡ row = omega (arith, slot.up) in
      let top : is_some (cover ts row (root_off f.leaves row)) ≡ true = ap₂ (λ (r o : ℕ). is_some (cover ts r o)) (sym at) (sym slot.beneath) ∙ up in
      let beneath = some_from_test (cover ts row (root_off f.leaves row)) top in
      ap is_some (a.agrees row beneath.0 slot.slot beneath.1)

numbers_below : (scripts : List (List ℕ)) (n : ℕ) (ks : List Kept) → AllByRecursion (IsKept scripts n) (map entry_of ks)
    → All (λ (k : Kept). k.number < n) ks
numbers_below scripts n [] a = All-nil (λ (k : Kept). k.number < n)
numbers_below scripts n (k ∷ ks) a = All-cons (λ (j : Kept). j.number < n) k ks a.0.below (numbers_below scripts n ks a.1)

each_place : (P : Place → Type 0) (ks : List Kept) → ((p : Place) → has_place (leaf_places ks) p.row p.off ≡ true → P p)
    → All (λ (k : Kept). P k.place) ks
each_place P [] f = All-nil (λ (k : Kept). P k.place)
each_place P (k ∷ ks) f = All-cons (λ (j : Kept). P j.place) k ks (f k.place (has_first k.place (leaf_places ks)))
    (each_place P ks (λ p h. f p (has_more k.place (leaf_places ks) p.row p.off h)))

abbrev paired : Place → Digest → Place × Digest
paired p d = (p, d)

told_within : (n : ℕ) (at : Place → Option Digest) → All (IsHeldIn n) (told_list n at)
told_within n at =
    passed (IsPlaceIn n) (IsHeldIn n) (λ p. option_map (paired p) (at p)) (λ p x h e. within p x h (at p) e)
    (places n) (each_from (IsPlaceIn n) (places n) (λ q h. places_had n q.row q.off h))
  where
    within : (p : Place) (x : Place × Digest) → IsPlaceIn n p → (d : Option Digest) → option_map (paired p) d ≡ Some x → IsHeldIn n x
    within p x h None e = absurd (none-some x e)
    within p x h (Some d) e = subst (IsHeldIn n) (same_Some (paired p d) x e) h

module _ (H : List ℕ → Digest) (scripts : List (List ℕ)) (c : CachedLevel) (is : IsStoredLevel H scripts (level_in c)) (filled : IsFilled H c) where
  lists_of_roots : AreOfRoots c.roots c.kept c.held
  lists_of_roots =
      let same = shape_leaves c.kept in
      record {
        numbers = numbers_below scripts c.roots.leaves c.kept is.kept.each;
        shape = subst (HasShape c.roots.leaves) (sym same) is.proved.shape;
        rooted = each_place (IsRooted c.roots) c.kept
            (λ p h. rooted H c.roots (places_of (map entry_of c.kept)) _ _ is.proved p (subst (λ ps. has_place ps p.row p.off ≡ true) same h));
        held = subst (All (IsHeldIn c.roots.leaves)) (sym filled.held) (told_within c.roots.leaves (level_tells H (level_in c)));
      }

  -- so it is one of a node
  level_is : (rules : Rules) (most blocks bound : ℕ) → bound ≤ rules.limits.leaves → LevelFits most (level_in c) → IsNext blocks bound (level_in c)
      → IsLevel rules (level_at blocks c)
  level_is rules most blocks bound low fits next = record {
    stump = fits.roots;
    lists = lists_of_roots;
    counted = refl;
    within = omega (arith, low, next.within);
    bare = λ none. let s = next.bare none in (s.tip, s.leaves);
  }

-- ---- all levels

module _ (H : List ℕ → Digest) (scripts : List (List ℕ)) (rules : Rules) (most : ℕ) where
  -- what holds of levels that were read
  record AreRead (blocks bound : ℕ) (cs : List CachedLevel) : Type 0 where
    count : length cs ≤ blocks
    low : bound ≤ rules.limits.leaves
    fits : AllByRecursion (LevelFits most) (map level_in cs)
    sound : AllByRecursion (IsStoredLevel H scripts) (map level_in cs)
    next : AreLevels (blocks - 1) bound (map level_in cs)
    filled : AllByRecursion (IsFilled H) cs

  older_are : (chain : Chain) (cs : List CachedLevel) → AreRead chain.blocks chain.leaves cs → AreOlder rules chain (levels_at (chain.blocks - 1) cs)
  older_are chain [] a = tt
  older_are chain (c ∷ cs) a =
      let below = (level_at (chain.blocks - 1) c).chain in (
        omega (arith, a.count),
        a.next.0.within,
        level_is H scripts c a.sound.0 a.filled.0 rules most (chain.blocks - 1) chain.leaves a.low a.fits.0 a.next.0,
        older_are below cs (record {
          count = omega (arith, a.count);
          low = omega (arith, a.low, a.next.0.within);
          fits = a.fits.1;
          sound = a.sound.1;
          next = a.next.1;
          filled = a.filled.1;
        }),
      )

length-levels : (blocks : ℕ) (cs : List CachedLevel) → length (levels_at blocks cs) ≡ length cs
length-levels blocks [] = refl
length-levels blocks (c ∷ cs) = ap suc (length-levels (blocks - 1) cs)

cached_levels : (blocks : ℕ) (cs : List CachedLevel) → map cached_level (levels_at blocks cs) ≡ cs
cached_levels blocks [] = refl
cached_levels blocks (c ∷ cs) = ap (λ ls. c ∷ ls) (cached_levels (blocks - 1) cs)

-- ---- marks that give them back

take_few : {X : Type 0} (k : ℕ) (xs : List X) → length xs ≤ k → take k xs ≡ xs
take_few zero [] few = refl
take_few zero (x ∷ xs) few = absurd (omega (arith, few))
take_few (suc k) [] few = refl
take_few (suc k) (x ∷ xs) few = ap (λ ys. x ∷ ys) (take_few k xs (omega (arith, few)))

-- as many marks as levels
length-past : (blocks : ℕ) (c : CachedLevel) (cs : List CachedLevel) (room : Parted) (past : List PastState) → AreBehind blocks c cs room past
    → length past ≡ length cs
length-past blocks c cs room past are = sym (length-behind past c.kept c.held) ∙ (ap length are.levels ∙ length-levels (blocks - 1) cs)

-- behind the level at an index the marks give back all further ones
pub record IsMarking (all : List CachedLevel) (blocks i : ℕ) (room : Parted) (past : List PastState) : Type 0 where
  pub level : CachedLevel
  pub older : List CachedLevel
  pub whole : drop i all ≡ level ∷ older
  pub behind : AreBehind (blocks - i) level older room past

-- the last one
pub marking_begins : (all : List CachedLevel) (blocks i : ℕ) (room : Parted) (past : List PastState) → i + 1 ≡ length all → past ≡ []
    → IsMarking all blocks i room past
marking_begins [] blocks i room past last none = absurd (omega (arith, last))
marking_begins (c ∷ cs) blocks i room past last none =
    let within : i < length (c ∷ cs) = omega (arith, last) in
    let rest : drop (suc i) (c ∷ cs) ≡ [] = drop_all (suc i) (c ∷ cs) (omega (arith, last)) in
    record {
      level = get_or (c ∷ cs) i c;
      older = [];
      whole = drop-cons (c ∷ cs) i c within ∙ ap (λ ls. get_or (c ∷ cs) i c ∷ ls) rest;
      behind = record {
        levels = ap (λ xs. levels_behind xs (get_or (c ∷ cs) i c).kept (get_or (c ∷ cs) i c).held) none;
        fit = λ p has. subst (λ xs. MarksFit xs p) (sym none) tt;
      };
    }

module _ (all : List CachedLevel) (blocks i : ℕ) (room : Parted) (past : List PastState) (is : IsMarking all blocks i room past) where
  pub marking_ends : i ≡ 0 → AreMarked all blocks room past
  marking_ends first =
      let count : blocks - i ≡ blocks = omega (arith, first) in
      record {
        newest = is.level;
        older = is.older;
        whole = ap (λ k. drop k all) (sym first) ∙ is.whole;
        behind = subst (λ n. AreBehind n is.level is.older room past) count is.behind;
      }

  module _ (j : ℕ) (newer level : CachedLevel) (more : Parted) (x : PastState) (next : List PastState) where
    -- a mark was made of the level, in more room, and put in front of the others
    pub record IsMarkedBy : Type 0 where
      pub before : i ≡ suc j
      pub newer_is : newer ≡ get_or all j newer
      pub level_is : level ≡ get_or all i level
      pub past_is : IsPastOf newer level (blocks - i) more x
      pub kept_room : room.kept_room ≤ more.kept_room
      pub held_room : room.held_room ≤ more.held_room
      pub taken : next ≡ take 100 (x ∷ past)

    pub marking_goes_on : i < length all → length all ≤ 101 → IsMarkedBy → IsMarking all blocks j more next
    marking_goes_on within few by =
        let here : drop i all ≡ level ∷ drop (suc i) all = drop-cons all i level within ∙ ap (λ l. l ∷ drop (suc i) all) (sym by.level_is) in
        let one : level ∷ drop (suc i) all ≡ is.level ∷ is.older = sym here ∙ is.whole in
        let same : is.level ≡ level = cc in
        let others : is.older ≡ drop (suc i) all = cc in
        let count : blocks - i ≡ blocks - j - 1 = omega (arith, by.before) in
        let behind : AreBehind (blocks - j - 1) level is.older room past =
        subst (λ l. AreBehind (blocks - j - 1) l is.older room past) same
        (subst (λ n. AreBehind n is.level is.older room past) count is.behind) in
        let marked : IsPastOf newer level (blocks - j - 1) more x = subst (λ n. IsPastOf newer level n more x) count by.past_is in
        let marks : length past ≡ length is.older = length-past (blocks - j - 1) level is.older room past behind in
        let short : suc (length past) ≤ 100 = omega (arith, few, within, marks, ap length others, length-drop (suc i) all, by.before) in
        let all_taken : next ≡ x ∷ past = by.taken ∙ take_few 100 (x ∷ past) short in
        let made : level_of x (kept_back x.mark newer.kept) (held_back x.mark newer.held) ≡ level_at (blocks - j - 1) level =
        ap₂ (λ (ks : List Kept) (hs : List (Place × Digest)). level_of x ks hs) marked.kept marked.held
        ∙ ap₂ (λ (h : Chain) (f : Stump). let l : LevelState = record { chain = h; roots = f; kept = level.kept; held = level.held } in
        l) marked.chain marked.roots in
        let rest : levels_behind past (kept_back x.mark newer.kept) (held_back x.mark newer.held) ≡ levels_at (blocks - j - 1 - 1) is.older =
        ap₂ (λ (ks : List Kept) (hs : List (Place × Digest)). levels_behind past ks hs) marked.kept marked.held ∙ behind.levels in
        let start : j < length all = omega (arith, within, by.before) in
        record {
          level = newer;
          older = level ∷ is.older;
          whole =
              drop-cons all j newer start
              ∙ ap₂ (λ (l : CachedLevel) (ls : List CachedLevel). l ∷ ls) (sym by.newer_is)
              (ap (λ k. drop k all) (sym by.before) ∙ (here ∙ ap (λ ls. level ∷ ls) (sym others)));
          behind = record {
            levels = ap (λ xs. levels_behind xs newer.kept newer.held) all_taken ∙ ap₂ (λ (l : LevelState) (ls : List LevelState). l ∷ ls) made rest;
            fit = λ p has. subst (λ xs. MarksFit xs p) (sym all_taken) (
              marked.fits p has,
              behind.fit (given_by x.mark p) (record {
                kept = ap (kept_back x.mark) has.kept ∙ marked.kept;
                held = ap (held_back x.mark) has.held ∙ marked.held;
                kept_room = omega (arith, by.kept_room, has.kept_room);
                held_room = omega (arith, by.held_room, has.held_room);
              }),
            );
          };
        }

-- ---- the node of a state

-- what was made of the levels of a state
pub record IsMade (s : CachedState) (first : CachedLevel) (p : Parted) (past : List PastState) (chain : Chain) (roots : Stump)
    (scripts : List (List ℕ)) : Type 0 where
  pub room : Parted
  pub marked : AreMarked s.levels s.blocks room past
  pub first_is : first ≡ get_or s.levels 0 first
  pub lists : HasListsOf first room p
  pub chain_is : chain ≡ (level_at s.blocks first).chain
  pub roots_are : roots ≡ first.roots
  pub watch : scripts ≡ s.scripts

-- from what the calls give of a state, whose scripts were taken out
pub made_of : (s t : CachedState) (inner first : CachedLevel) (levels : List CachedLevel) (room p : Parted) (past behind : List PastState)
    (chain : Chain) (roots : Stump) (scripts : List (List ℕ)) →
    t ≡ record { net = s.net; blocks = s.blocks; scripts = []; levels = s.levels } → levels ≡ t.levels → AreMarked levels t.blocks room past
    → behind ≡ past → first ≡ get_or t.levels 0 first → inner ≡ first →
    (p.kept ≡ inner.kept) × (p.held ≡ inner.held) → room.kept_room ≤ p.kept_room → room.held_room ≤ p.held_room
    → chain ≡ (level_at t.blocks inner).chain → roots ≡ inner.roots → scripts ≡ s.scripts →
    IsMade s first p behind chain roots scripts
made_of s t inner first levels room p past behind chain roots scripts left are marked same at opened lists kept held chain_is roots_are watch =
    let blocks : t.blocks ≡ s.blocks = ap (λ (x : CachedState). x.blocks) left in
    let whole : levels ≡ s.levels = are ∙ ap (λ (x : CachedState). x.levels) left in
    record {
      room = room;
      marked = subst (λ xs. AreMarked s.levels s.blocks room xs) (sym same)
          (subst (λ n. AreMarked s.levels n room past) blocks (subst (λ ls. AreMarked ls t.blocks room past) whole marked));
      first_is = at ∙ ap (λ (x : CachedState). get_or x.levels 0 first) left;
      lists = record {
        kept = lists.0 ∙ ap (λ (l : CachedLevel). l.kept) opened;
        held = lists.1 ∙ ap (λ (l : CachedLevel). l.held) opened;
        kept_room =
            kept;
        held_room = held;
      };
      chain_is = chain_is ∙ ap₂ (λ (n : ℕ) (l : CachedLevel). (level_at n l).chain) blocks opened;
      roots_are = roots_are ∙ ap (λ (l : CachedLevel). l.roots) opened;
      watch = watch;
    }

module _ (rules : Rules) (s : CachedState) (newest : CachedLevel) (p : Parted) (past : List PastState) (chain : Chain) (roots : Stump)
    (scripts : List (List ℕ)) (made : IsMade s newest p past chain roots scripts) where
  abbrev older : List CachedLevel
  older = made.marked.older

  abbrev node : List (List ℕ) → NodeState
  node w = record { rules = rules; scripts = w; newest = level_at s.blocks newest; older = levels_at (s.blocks - 1) older }

  -- the first of the levels
  newest_is : made.marked.newest ≡ newest
  newest_is = sym (made.first_is ∙ ap (λ ls. get_or ls 0 newest) made.marked.whole)

  whole : s.levels ≡ newest ∷ older
  whole = made.marked.whole ∙ ap (λ c. c ∷ older) newest_is

  behind : AreBehind s.blocks newest older made.room past
  behind = subst (λ c. AreBehind s.blocks c older made.room past) newest_is made.marked.behind

  node_is : node_of rules scripts chain roots p past ≡ node s.scripts
  node_is =
      let with = λ (l : LevelState) (ls : List LevelState). let n : NodeState = record { rules = rules; scripts = scripts; newest = l; older = ls } in
      n in
      let level = λ (h : Chain) (f : Stump) (ks : List Kept) (hs : List (Place × Digest)). let l : LevelState =
      record { chain = h; roots = f; kept = ks; held = hs } in l in
      let first : level chain roots p.kept p.held ≡ level_at s.blocks newest =
      ap₂ (λ (h : Chain) (f : Stump). level h f p.kept p.held) made.chain_is made.roots_are
      ∙ ap₂ (λ (ks : List Kept) (hs : List (Place × Digest)). level (level_at s.blocks newest).chain newest.roots ks hs) made.lists.kept
      made.lists.held in
      let others : levels_behind past p.kept p.held ≡ levels_at (s.blocks - 1) older =
      ap₂ (λ (ks : List Kept) (hs : List (Place × Digest)). levels_behind past ks hs) made.lists.kept made.lists.held ∙ behind.levels in
      ap₂ with first others ∙ ap node made.watch

  pub made_same : rules.net ≡ s.net → cached_state (node_of rules scripts chain roots p past) ≡ s
  made_same net =
      let state = λ (n : Net) (cs : List CachedLevel). let v : CachedState =
      record { net = n; blocks = s.blocks; scripts = s.scripts; levels = cs } in v in
      ap cached_state node_is ∙ ap₂ state net (ap (λ cs. newest ∷ cs) (cached_levels (s.blocks - 1) older) ∙ sym whole)

  module _ (H : List ℕ → Digest) (is : IsState H rules.limits.leaves (state_in s)) (filled : AllByRecursion (IsFilled H) s.levels) where
    node_holds : rules.limits.leaves < 2 ^ 40 → rules.limits.bytes ≤ 2 ^ 48 → IsNode (node s.scripts)
    node_holds leaves bytes =
        let most = rules.limits.leaves in
        let read = ap (map level_in) whole in
        let fits = subst (AllByRecursion (LevelFits most)) read is.fits.levels in
        let sound = subst (AllByRecursion (IsStoredLevel H s.scripts)) read is.sound.levels in
        let next = subst (AreLevels s.blocks most) read is.sound.chain in
        let full = subst (AllByRecursion (IsFilled H)) whole filled in
        let count : length (state_in s).levels ≡ suc (length older) = length-map s.levels level_in ∙ ap length whole in
        record {
          low = is.sound.counts.low;
          newest = level_is H s.scripts newest sound.0 full.0 rules most s.blocks most (omega arith) fits.0 next.0;
          older = older_are H s.scripts rules most (level_at s.blocks newest).chain older (record {
            count = omega (arith, count, is.sound.counts.older);
            low = next.0.within;
            fits = fits.1;
            sound = sound.1;
            next = next.1;
            filled = full.1;
          });
          kept = omega (arith, length-levels (s.blocks - 1) older, count, is.sound.counts.few);
          few = leaves;
          short = bytes;
        }

    pub made_marked : rules.limits.leaves < 2 ^ 40 → rules.limits.bytes ≤ 2 ^ 48 → IsMarked rules scripts chain roots p past
    made_marked leaves bytes = record {
      node = subst IsNode (sym node_is) (node_holds leaves bytes);
      marks = behind.fit p made.lists;
    }
