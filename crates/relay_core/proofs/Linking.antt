-- The levels of serials, and how the blocks of the bridge lead from one to the next.
use Rattle.std.proofs.Common.{◌≡◌, ℕ, zero, suc, ◌<◌, ◌≤◌, ◌^◌, Bool, true, false, List, [], ◌∷◌, ◌++◌, map, length, drop, Option, Some, None, cond}
use Rattle.std.proofs.Common.{refl, sym, ap, ◌∙◌, subst, arith}
use Rattle.std.specs.Prelude.{◌==◌, slice_get, option_map}
use Rattle.std.specs.List.{AllByRecursion}
use Rattle.std.proofs.lemmas.Bool.{eqb-true}
use Rattle.std.proofs.lemmas.Option.{none-some, same_Some}
use Rattle.uo_base.proofs.Lists.{got_front}
use Rattle.uo_digest.specs.declared.digest.Digest.{Digest}
use Rattle.block_codec.specs.Block.{Block}
use Rattle.block_codec.specs.Reading.{block_in}
use Rattle.leaf_record.specs.History.{somes}
use Rattle.block_rules.specs.declared.refusal.Refusal.{Refusal}
use Rattle.block_rules.specs.Blocks.{external}
use Rattle.node_rules.specs.Reading.{nothing, handed_in}
use Rattle.node_rules.specs.Judging.{Rules, own, refusal, message_of, written}
use Rattle.node_rules.specs.Machine.{BlockCame, Level, State, start, chain_of, own_judge, level_after, by_refusal, step}
use Rattle.relay_core.specs.declared.act.Kind.{Kind}
use Rattle.relay_core.specs.declared.act.Kind.TheVariants.{Next, Same, Back, Lost}
use Rattle.relay_core.specs.declared.store.Reply.{Reply}
use Rattle.relay_core.specs.World.{Sent, sent_at, newest_serial, after_on, fork_index, next_or_same, kind_by, reply_to}
use Rattle.relay_core.specs.Branches.{blocks_of, proved_after, level_after_all, hash_in, branch_tip}

-- ---- lists

-- what is at an index of a longer list is at it before, or is the last
pub got_either : {X : Type 0} (xs : List X) (x : X) (P : ℕ → X → Type 0) → ((i : ℕ) (y : X) → slice_get xs i ≡ Some y → P i y) → P (length xs) x
    → (i : ℕ) (y : X) → slice_get (xs ++ x ∷ []) i ≡ Some y → P i y
got_either [] x P old new zero y e = subst (P 0) (same_Some x y e) new
got_either [] x P old new (suc i) y e = absurd (none-some y e)
got_either (z ∷ xs) x P old new zero y e = old 0 y e
got_either (z ∷ xs) x P old new (suc i) y e = got_either xs x (λ j w. P (suc j) w) (λ j w f. old (suc j) w f) new i y e

pub sent_front : (sent more : List Sent) (s : ℕ) (x : Sent) → sent_at sent s ≡ Some x → sent_at (sent ++ more) s ≡ Some x
sent_front sent more zero x e = absurd (none-some x e)
sent_front sent more (suc i) x e = got_front sent more i x e

-- what the proving node holds behind the blocks of a branch
pub record IsLevelOf (rules : Rules) (l : Level) (blocks : List (List ℕ)) : Type 0 where
  pub level : level_after_all rules blocks ≡ l
  pub blocks_are : l.blocks ≡ length blocks
  pub tip : l.tip ≡ branch_tip blocks

module _ (H : List ℕ → Digest) (rules : Rules) where
  -- ---- one block

  -- the block leads from the older level to the newer one, and its message is that of the proving node, in full
  pub record Leads (older : Level) (x : Sent) (newer : Level) : Type 0 where
    pub block : Block
    pub reads : block_in x.block ≡ Some block
    pub few : length older.history ≤ 2 ^ 40
    pub passes : refusal rules (chain_of older) block (own older.history (external block older.blocks)) ≡ None
    pub next : newer ≡ level_after older block (own older.history (external block older.blocks))
    pub handed : handed_in x.message ≡ written (external block older.blocks) (message_of H None older.history (external block older.blocks))

  -- the proving node takes it, whatever its older levels
  pub led : (s : State) (x : Sent) (newer : Level) → Leads s.now x newer → (step rules own_judge s (BlockCame (block_in x.block) nothing)).state.now
      ≡ newer
  led s x newer l =
      let evidence = own s.now.history (external l.block s.now.blocks) in
      ap (λ y. (step rules own_judge s (BlockCame y nothing)).state.now) l.reads
      ∙ (ap (λ (w : Option Refusal). (by_refusal s l.block evidence w).state.now) l.passes ∙ sym l.next)

  -- ---- a line of serials

  module _ (sent : List Sent) (levels : List Level) where
    -- the block of a serial leads from the older level to the newer one
    pub record Link (s : ℕ) (newer older : Level) : Type 0 where
      pub one : Sent
      pub at : sent_at sent s ≡ Some one
      pub leads : Leads older one newer

    -- below a serial and its level come these, one for each block, down to 0 and the level with no block
    abbrev pub Below : ℕ → Level → List ℕ → List Level → Type 0
    Below s l [] [] = (s ≡ 0) × (l ≡ start.now)
    Below s l [] (k ∷ ls) = ⊥
    Below s l (p ∷ ss) [] = ⊥
    Below s l (p ∷ ss) (k ∷ ls) = Link s l k × (slice_get levels p ≡ Some k) × Below p k ss ls

    abbrev pub Line : List ℕ → List Level → Type 0
    Line [] ls = ⊥
    Line (s ∷ ss) [] = ⊥
    Line (s ∷ ss) (l ∷ ls) = (slice_get levels s ≡ Some l) × Below s l ss ls

    pub line-drop : (k : ℕ) (ss : List ℕ) (ls : List Level) → k < length ls → Line ss ls → Line (drop k ss) (drop k ls)
    line-drop zero ss ls few line = line
    line-drop (suc k) [] ls few line = absurd line
    line-drop (suc k) (s ∷ ss) [] few line = absurd line
    line-drop (suc k) (s ∷ []) (l ∷ []) few line = absurd (omega (arith, few))
    line-drop (suc k) (s ∷ []) (l ∷ m ∷ ls) few line = absurd line.1
    line-drop (suc k) (s ∷ p ∷ ss) (l ∷ []) few line = absurd line.1
    line-drop (suc k) (s ∷ p ∷ ss) (l ∷ m ∷ ls) few line = line-drop k (p ∷ ss) (m ∷ ls) (omega (arith, few)) (line.1.1, line.1.2)

    below_level : (s : ℕ) (l : Level) (ss : List ℕ) (ls : List Level) → Below s l ss ls → IsLevelOf rules l (blocks_of sent (s ∷ ss))
    below_level s l [] [] below =
        subst (λ m. IsLevelOf rules m (blocks_of sent (s ∷ []))) (sym below.1)
        (subst (λ n. IsLevelOf rules start.now (blocks_of sent (n ∷ []))) (sym below.0) (record { level = refl; blocks_are = refl; tip = refl }))
    below_level s l [] (k ∷ ls) below = absurd below
    below_level s l (p ∷ ss) [] below = absurd below
    below_level s l (p ∷ ss) (k ∷ ls) below =
        let before = below_level p k ss ls below.2 in
        let older = blocks_of sent (p ∷ ss) in
        let x = below.0.one in
        let leads = below.0.leads in
        let from = subst (λ m. Leads m x l) (sym before.level) leads in
        subst (λ (y : Option Sent). IsLevelOf rules l
        (somes (option_map (λ w. w.block) y ∷ map (λ t. option_map (λ w. w.block) (sent_at sent t)) (p ∷ ss)))) (sym below.0.at)
        (record {
          level = led (proved_after rules older) x l from;
          blocks_are = ap (λ (m : Level). m.blocks) leads.next ∙ ap suc before.blocks_are;
          tip = ap (λ (m : Level). m.tip) leads.next ∙ sym (ap hash_in leads.reads);
        })

    pub line_level : (ss : List ℕ) (l : Level) (ls : List Level) → Line ss (l ∷ ls) → IsLevelOf rules l (blocks_of sent ss)
    line_level [] l ls line = absurd line
    line_level (s ∷ ss) l ls line = below_level s l ss ls line.1

    -- ---- replies

    -- the block of a serial leads from the level of the first one to that of the second
    pub record Follows (first serial : ℕ) : Type 0 where
      pub older : Level
      pub newer : Level
      pub at_first : slice_get levels first ≡ Some older
      pub at_serial : slice_get levels serial ≡ Some newer
      pub link : Link serial newer older

    abbrev pub KindFits : ℕ → Kind → Type 0
    KindFits first (Next serial) = Follows first serial
    KindFits first Same = Unit {0}
    KindFits first (Back count) = Unit {0}
    KindFits first Lost = Unit {0}

    abbrev pub ReplyFits : Reply → Type 0
    ReplyFits r = KindFits r.first r.kind

    -- what comes after a serial on a line follows it
    after_follows : (s : ℕ) (l : Level) (ss : List ℕ) (ls : List Level) → slice_get levels s ≡ Some l → Below s l ss ls → (first serial : ℕ)
        → after_on (s ∷ ss) first ≡ Some serial → Follows first serial
    after_follows s l [] ls at below first serial e = absurd (none-some serial e)
    after_follows s l (p ∷ ss) [] at below first serial e = absurd below
    after_follows s l (p ∷ ss) (k ∷ ls) at below first serial e = by (p == first) refl e (λ f. after_follows p k ss ls below.1 below.2 first serial f)
      where
        by : (b : Bool) → (p == first) ≡ b → cond b (Some s) (after_on (p ∷ ss) first) ≡ Some serial
            → (after_on (p ∷ ss) first ≡ Some serial → Follows first serial) → Follows first serial
        by true here e later =
            subst (λ t. Follows first t) (same_Some s serial e)
            (subst (λ t. Follows t s) (eqb-true p first here) (record { older = k; newer = l; at_first = below.1; at_serial = at; link = below.0 }))
        by false here e later = later e

    next_fits : (ss : List ℕ) (ls : List Level) → Line ss ls → (first : ℕ) (x : Option ℕ) → after_on ss first ≡ x → KindFits first (next_or_same x)
    next_fits ss ls line first None e = tt
    next_fits [] ls line first (Some serial) e = absurd line
    next_fits (s ∷ ss) [] line first (Some serial) e = absurd line
    next_fits (s ∷ ss) (l ∷ ls) line first (Some serial) e = after_follows s l ss ls line.0 line.1 first serial e

    kind_fits : (ss : List ℕ) (ls : List Level) → Line ss ls → (first : ℕ) (k : Option ℕ) → KindFits first (kind_by ss first k)
    kind_fits ss ls line first None = tt
    kind_fits ss ls line first (Some zero) = next_fits ss ls line first (after_on ss first) refl
    kind_fits ss ls line first (Some (suc k)) = tt

    pub reply_fits : (ss : List ℕ) (ls : List Level) → Line ss ls → (serials : List ℕ) → ReplyFits (reply_to ss serials)
    reply_fits ss ls line serials = kind_fits ss ls line (newest_serial serials) (fork_index ss serials)

  -- ---- once there are more

  module _ (sent : List Sent) (levels : List Level) (xs : List Sent) (ys : List Level) where
    link_more : (s : ℕ) (l k : Level) → Link sent levels s l k → Link (sent ++ xs) (levels ++ ys) s l k
    link_more s l k link = record { one = link.one; at = sent_front sent xs s link.one link.at; leads = link.leads }

    below_more : (s : ℕ) (l : Level) (ss : List ℕ) (ls : List Level) → Below sent levels s l ss ls → Below (sent ++ xs) (levels ++ ys) s l ss ls
    below_more s l [] [] below = below
    below_more s l [] (k ∷ ls) below = absurd below
    below_more s l (p ∷ ss) [] below = absurd below
    below_more s l (p ∷ ss) (k ∷ ls) below = (link_more s l k below.0, got_front levels ys p k below.1, below_more p k ss ls below.2)

    pub line_more : (ss : List ℕ) (ls : List Level) → Line sent levels ss ls → Line (sent ++ xs) (levels ++ ys) ss ls
    line_more [] ls line = absurd line
    line_more (s ∷ ss) [] line = absurd line
    line_more (s ∷ ss) (l ∷ ls) line = (got_front levels ys s l line.0, below_more s l ss ls line.1)

    kind_more : (first : ℕ) (k : Kind) → KindFits sent levels first k → KindFits (sent ++ xs) (levels ++ ys) first k
    kind_more first (Next serial) f = record {
      older = f.older;
      newer = f.newer;
      at_first = got_front levels ys first f.older f.at_first;
      at_serial = got_front levels ys serial f.newer f.at_serial;
      link = link_more serial f.newer f.older f.link;
    }
    kind_more first Same f = tt
    kind_more first (Back count) f = tt
    kind_more first Lost f = tt

    pub replies_more : (rs : List Reply) → AllByRecursion (ReplyFits sent levels) rs → AllByRecursion (ReplyFits (sent ++ xs) (levels ++ ys)) rs
    replies_more [] all = tt
    replies_more (r ∷ rs) all = (kind_more r.first r.kind all.0, replies_more rs all.1)
