-- What holds of a world through each act.
use Rattle.std.proofs.Common.{◌≡◌, ℕ, zero, suc, ◌≤◌, ◌<◌, ◌^◌, Bool, true, false, List, [], ◌∷◌, ◌++◌, length, take, drop, Option, Some, None, cond}
use Rattle.std.proofs.Common.{refl, sym, ap, ◌∙◌, subst, arith, ⊎_elim}
use Rattle.std.specs.Prelude.{nat_le, slice_get, slice_set}
use Rattle.std.specs.List.{AllByRecursion, AllZip}
use Rattle.std.proofs.lemmas.Bool.{cases_Bool, leb-true, false≢true}
use Rattle.std.proofs.lemmas.List.{append-nil, append_assoc, length-append, length_push, take-append-drop}
use Rattle.std.proofs.lemmas.Option.{none-some, same_Some, slice_get_within}
use Rattle.uo_base.specs.FeedEvent.{FeedEvent}
use Rattle.uo_base.specs.FeedEvent as Feed
use Rattle.uo_base.specs.Reading.{IsBytes}
use Rattle.uo_base.proofs.Lists.{all-at, all-push, got_last}
use Rattle.uo_digest.specs.declared.digest.Digest.{Digest}
use Rattle.block_codec.specs.Block.{Block, BlockFits}
use Rattle.block_codec.specs.Reading.{block_in}
use Rattle.proof_wire.specs.BlockProof.{message_text}
use Rattle.block_rules.specs.declared.chain.Outside.{Outside}
use Rattle.block_rules.specs.declared.refusal.Refusal.{Refusal}
use Rattle.block_rules.specs.declared.verdict.Verdict.TheVariants.{TooDeep}
use Rattle.block_rules.specs.Blocks.{external, new_records}
use Rattle.node_rules.specs.Messages.{Message}
use Rattle.node_rules.specs.Reading.{Handed, read, handed_in, message_in}
use Rattle.node_rules.specs.Judging.{Rules, Evidence, own, refusal, message_of, written}
use Rattle.node_rules.specs.Proving.{written_text}
use Rattle.node_rules.specs.Fitting.{AreEventBytes, EventFits, LevelFits}
use Rattle.node_rules.specs.Machine.{ChainEvent, BlockCame, RollbackCame, Level, State, Outcome, chain_of, own_judge, level_after, pushed, by_refusal}
use Rattle.node_rules.specs.Machine.{back, rolled_back, gone_to, verdict_by, is_made, OnEachLevel}
use Rattle.reorg_undo.specs.Undo.{UndoRecord}
use Rattle.bridge_prover.specs.Bridge.{BridgeState, refusal_on, verdict_on, after_block, bridge_by, next_bridge, gone_back, chain_back, message_by}
use Rattle.bridge_prover.specs.Bridge.{message_on, told_if}
use Rattle.bridge_prover.specs.Own.{own_in}
use Rattle.bridge_prover.specs.Standing.{Stands, IsBridge}
use Rattle.bridge_prover.specs.Laws.{own_outcome, text_by, IsAsOwn}
use Rattle.relay_core.specs.declared.store.Reply.{Reply}
use Rattle.relay_core.specs.Acts.{WorldAct, BridgeTook, FollowerAsked, AskServed, ReplyDelivered}
use Rattle.relay_core.specs.World.{Sent, FollowerState, WorldState, chain_after, is_acceptance, with_event, with_ask, with_reply, reply_to, applies}
use Rattle.relay_core.specs.World.{follower_moved, with_moved, next_world}
use Rattle.relay_core.specs.Branches.{AreActBytes, Digests, blocks_of}
use Rattle.node_rules.proofs.Fitting.{read_event_fits, step_fits}
use Rattle.node_rules.proofs.Written.{written_fits}
use Rattle.node_rules.proofs.MessageLaws.{message_read}
use Rattle.bridge_prover.proofs.Refining.{bridge_is_own, next_is_bridge}
use Rattle.bridge_prover.proofs.Telling.{undo-back}
use Rattle.bridge_prover.proofs.Throughout.{kept_rules, kept_watch}
use Rattle.relay_core.proofs.Linking.{got_either, IsLevelOf, Leads, Line, line-drop, line_level, line_more, ReplyFits, reply_fits}
use Rattle.relay_core.proofs.Linking.{replies_more}
use Rattle.relay_core.proofs.Handing.{FollowerFits, follower_more, serials_long, reply_moves}
use Rattle.relay_core.proofs.Firm.{Firm, firm_ask, firm_reply, firm_moved, firm_back, firm_block}

-- ---- lists

-- the one that is in step with one at an index
pub zip-at : {X Y : Type 0} (P : X → Y → Type 0) (xs : List X) (ys : List Y) (i : ℕ) (y : Y) → AllZip P xs ys → slice_get ys i ≡ Some y
    → (x : X) × (slice_get xs i ≡ Some x) × P x y
zip-at P [] [] i y z e = absurd (none-some y e)
zip-at P [] (w ∷ ys) i y z e = absurd z
zip-at P (x ∷ xs) [] i y z e = absurd z
zip-at P (x ∷ xs) (w ∷ ys) zero y z e = (x, refl, subst (P x) (same_Some w y e) z.0)
zip-at P (x ∷ xs) (w ∷ ys) (suc i) y z e = zip-at P xs ys i y z.1 e

zip-set : {X Y : Type 0} (P : X → Y → Type 0) (xs : List X) (ys : List Y) (i : ℕ) (y w : Y) → AllZip P xs ys → slice_get ys i ≡ Some y
    → ((x : X) → P x y → P x w) → AllZip P xs (slice_set ys i w)
zip-set P [] [] i y w z e h = z
zip-set P [] (v ∷ ys) i y w z e h = absurd z
zip-set P (x ∷ xs) [] i y w z e h = absurd z
zip-set P (x ∷ xs) (v ∷ ys) zero y w z e h = (h x (subst (P x) (same_Some v y e) z.0), z.1)
zip-set P (x ∷ xs) (v ∷ ys) (suc i) y w z e h = (z.0, zip-set P xs ys i y w z.1 e h)

pub zip-weaker : {X Y : Type 0} (P Q : X → Y → Type 0) → ((x : X) (y : Y) → P x y → Q x y) → (xs : List X) (ys : List Y) → AllZip P xs ys
    → AllZip Q xs ys
zip-weaker P Q h [] [] z = tt
zip-weaker P Q h [] (y ∷ ys) z = absurd z
zip-weaker P Q h (x ∷ xs) [] z = absurd z
zip-weaker P Q h (x ∷ xs) (y ∷ ys) z = (h x y z.0, zip-weaker P Q h xs ys z.1)

-- a rollback leaves a rest of the levels
back-drop : (k : ℕ) (l : Level) (ls rest : List Level) → k ≤ length ls → drop k ((l ∷ ls) ++ rest) ≡ ((back k l ls).now ∷ (back k l ls).older) ++ rest
back-drop zero l ls rest few = refl
back-drop (suc k) l [] rest few = absurd (omega (arith, few))
back-drop (suc k) l (m ∷ ls) rest few = back-drop k m ls rest (omega (arith, few))

-- bytes of a message again
handed_again : (ext : List Outside) (m : Message) → message_in (message_text m) ≡ read m → handed_in (written_text ext m) ≡ written ext m
handed_again [] m e = refl
handed_again (at ∷ ext) m e = e

module _ (H : List ℕ → Digest) (long : Digests H) (rules : Rules) (few : rules.limits.leaves < 2 ^ 40) where
  -- ---- what the bridge accepts leads on

  -- where a block is made it broke no rule
  made_passes : (t : State) (b : Block) (ev : Evidence) (w : Option Refusal) → is_made (by_refusal t b ev w).verdict ≡ true → w ≡ None
  made_passes t b ev None made = refl
  made_passes t b ev (Some why) made = absurd (false≢true made)

  -- the bridge's message of a block
  abbrev message_for : BridgeState → Block → Option (List ℕ)
  message_for s b = let ext = external b s.chain.blocks in written_text ext (message_by H s.watch s.entries s.held (own_in s.held ext).numbers)

  record Extends (t : State) (bytes : List ℕ) (message : Option (List ℕ)) (s' : BridgeState) : Type 0 where
    newer : Level
    leads : Leads H rules t.now (record { block = bytes; message = message }) newer
    stands : Stands H (pushed newer t) s'
    fits : OnEachLevel (LevelFits rules) (pushed newer t)

  -- the bridge stands for this state, with messages in full
  pub record IsBeside (s : BridgeState) (t : State) : Type 0 where
    pub same_rules : s.rules ≡ rules
    pub no_watch : s.watch ≡ None
    pub is : IsBridge H s
    pub stands : Stands H t s
    pub fits : OnEachLevel (LevelFits rules) t

  as_own : (s : BridgeState) (t : State) (e : ChainEvent) → IsBeside s t
      → IsAsOwn H None rules t e (verdict_on s e) (message_on H s e) (next_bridge H s e)
  as_own s t e beside =
      subst (λ r. IsAsOwn H None r t e (verdict_on s e) (message_on H s e) (next_bridge H s e)) beside.same_rules
      (subst (λ x. IsAsOwn H x s.rules t e (verdict_on s e) (message_on H s e) (next_bridge H s e)) beside.no_watch
      (bridge_is_own H s e beside.is t beside.stands))

  extends : (s : BridgeState) (t : State) (bytes : List ℕ) (b : Block) (handed : Handed) → block_in bytes ≡ Some b → BlockFits b → IsBeside s t
      → refusal_on s b ≡ None → Extends t bytes (message_for s b) (after_block H s b)
  extends s t bytes b handed reads block_fits beside accepts =
      let e = BlockCame (Some b) handed in
      let ext = external b t.now.blocks in
      let ev = own t.now.history ext in
      let m = message_of H None t.now.history ext in
      let new = length (new_records b s.chain.blocks) in
      let one = as_own s t e beside in
      let made : is_made (own_outcome rules t e).verdict ≡ true =
      ap is_made one.said ∙ ap (λ x. is_made (Some (verdict_by s.chain b new x))) accepts in
      let passes : refusal rules (chain_of t.now) b ev ≡ None = made_passes t b ev (refusal rules (chain_of t.now) b ev) made in
      let newer = level_after t.now b ev in
      let l = beside.fits.0 in
      let within = l.within in
      let again = message_read (message_text m) m
      (written_fits H long t.now.history l.records (omega (arith, within, few)) None rules (chain_of t.now) b block_fits passes) refl in
      let same : message_for s b ≡ written_text ext m =
      ap (λ x. told_if x (message_for s b)) (sym accepts) ∙ (one.passed ∙ ap (λ x. cond x (text_by H None t.now e) None) made) in
      record {
        newer = newer;
        leads = record {
          block = b;
          reads = reads;
          few = omega (arith, within, few);
          passes = passes;
          next = refl;
          handed =
              ap handed_in same ∙ handed_again ext m again;
        };
        stands = subst (λ x. Stands H (pushed newer t) (bridge_by x (after_block H s b) s)) accepts
            (subst (λ (x : Option Refusal). Stands H (by_refusal t b ev x).state (next_bridge H s e)) passes one.stands);
        fits = subst (λ (x : Option Refusal). OnEachLevel (LevelFits rules) (by_refusal t b ev x).state) passes
            (step_fits rules own_judge t e block_fits beside.fits);
      }

  -- ---- a world

  module _ (lists : List (List (List ℕ))) where
    -- bridge, chain, replies and followers stand for these levels, one for each serial, of which each has a property
    pub record Sound (P : ℕ → Level → Type 0) (w : WorldState) : Type 0 where
      pub levels : List Level
      pub count : length levels ≡ suc (length w.sent)
      pub told : (s : ℕ) (l : Level) → slice_get levels s ≡ Some l → P s l
      pub state : State
      pub beside : IsBeside w.bridge state
      pub rest : List Level
      pub line : Line H rules w.sent levels w.chain ((state.now ∷ state.older) ++ rest)
      pub replies : AllByRecursion (ReplyFits H rules w.sent levels) w.replies
      pub followers : AllZip (FollowerFits H rules levels) lists w.followers
      pub firm : Firm w

    module _ (P Q : ℕ → Level → Type 0) (w : WorldState) (sound : Sound P w) (keeps : (s : ℕ) (l : Level) → s ≤ length w.sent → P s l → Q s l) where
      abbrev levels : List Level
      levels = sound.levels

      abbrev t : State
      t = sound.state

      abbrev all : List Level
      all = (t.now ∷ t.older) ++ sound.rest

      told_still : (s : ℕ) (l : Level) → slice_get levels s ≡ Some l → Q s l
      told_still s l at = let count = sound.count in let within = slice_get_within levels s l at in
          keeps s l (omega (arith, count, within)) (sound.told s l at)

      same_world : Sound Q w
      same_world = record {
        levels = levels;
        count = sound.count;
        told = told_still;
        state = t;
        beside = sound.beside;
        rest = sound.rest;
        line = sound.line;
        replies = sound.replies;
        followers = sound.followers;
        firm = sound.firm;
      }

      abbrev with_parts : BridgeState → List Sent → List ℕ → WorldState
      with_parts bridge more chain = record w { bridge = bridge; sent = w.sent ++ more; chain = chain }

      same_parts : Sound Q (with_parts w.bridge [] w.chain)
      same_parts = subst (λ sent. Sound Q (record w { sent = sent })) (sym (append-nil w.sent)) same_world

      beside_then : (e : ChainEvent) (t' : State) (s' : BridgeState) → s' ≡ next_bridge H w.bridge e → Stands H t' s'
          → OnEachLevel (LevelFits rules) t'
          → IsBeside s' t'
      beside_then e t' s' is stands fits = record {
        same_rules = ap (λ (s : BridgeState). s.rules) is ∙ (kept_rules H w.bridge e ∙ sound.beside.same_rules);
        no_watch = ap (λ (s : BridgeState). s.watch) is ∙ (kept_watch H w.bridge e ∙ sound.beside.no_watch);
        is = subst (IsBridge H) (sym is) (next_is_bridge H w.bridge e sound.beside.is);
        stands = stands;
        fits = fits;
      }

      -- ---- a block is accepted

      -- the serial that the act gives, if any, has the property
      module _ (next : WorldState) (new : (v : WorldState) (l : Level) → v ≡ next → length v.sent ≡ suc (length w.sent)
          → IsLevelOf rules l (blocks_of v.sent v.chain) → Q (suc (length w.sent)) l) where
        serial_line : (x : Sent) (l : Level) → Leads H rules t.now x l
            → Line H rules (w.sent ++ x ∷ []) (levels ++ l ∷ []) (suc (length w.sent) ∷ w.chain) (l ∷ all)
        serial_line x l leads = by w.chain (line_more H rules w.sent levels (x ∷ []) (l ∷ []) w.chain all sound.line)
          where
            by : (chain : List ℕ) → Line H rules (w.sent ++ x ∷ []) (levels ++ l ∷ []) chain all
                → Line H rules (w.sent ++ x ∷ []) (levels ++ l ∷ []) (suc (length w.sent) ∷ chain) (l ∷ all)
            by [] line = absurd line
            by (s ∷ ss) line = (
              subst (λ n. slice_get (levels ++ l ∷ []) n ≡ Some l) sound.count (got_last levels l),
              (record { one = x; at = got_last w.sent x; leads = leads }, line.0, line.1),
            )

        -- the levels in front of the bridge's state: of at most a hundred older ones
        pushed_front : (l : Level) → l ∷ all ≡ (l ∷ take 100 (t.now ∷ t.older)) ++ (drop 100 (t.now ∷ t.older) ++ sound.rest)
        pushed_front l =
            ap (λ ls. l ∷ (ls ++ sound.rest)) (sym (take-append-drop 100 (t.now ∷ t.older)))
            ∙ ap (λ ls. l ∷ ls) (append_assoc (take 100 (t.now ∷ t.older)) (drop 100 (t.now ∷ t.older)) sound.rest)

        grown : (e : ChainEvent) (x : Sent) (s' : BridgeState) (u : UndoRecord) → s'.undo ≡ take 100 (u ∷ w.bridge.undo)
            → s' ≡ next_bridge H w.bridge e → with_parts s' (x ∷ []) (suc (length w.sent) ∷ w.chain) ≡ next → Extends t x.block x.message s' →
            Sound Q (with_parts s' (x ∷ []) (suc (length w.sent) ∷ w.chain))
        grown e x s' u undo is is_next more =
            let l = more.newer in
            let line = serial_line x l more.leads in
            let count = sound.count in
            let one_level = length_push levels l in
            let one_sent = length_push w.sent x in
            record {
              levels = levels ++ l ∷ [];
              count = omega (arith, count, one_level, one_sent);
              told = got_either levels l Q told_still
                  (subst (λ n. Q n l) (sym count) (new (with_parts s' (x ∷ []) (suc (length w.sent) ∷ w.chain)) l is_next (omega (arith, one_sent))
                  (line_level H rules (w.sent ++ x ∷ []) (levels ++ l ∷ []) (suc (length w.sent) ∷ w.chain) l all line)));
              state = pushed l t;
              beside = beside_then e (pushed l t) s' is more.stands more.fits;
              rest = drop 100 (t.now ∷ t.older) ++ sound.rest;
              line = subst (Line H rules (w.sent ++ x ∷ []) (levels ++ l ∷ []) (suc (length w.sent) ∷ w.chain)) (pushed_front l) line;
              replies = replies_more H rules w.sent levels (x ∷ []) (l ∷ []) w.replies sound.replies;
              followers = zip-weaker (FollowerFits H rules levels) (FollowerFits H rules (levels ++ l ∷ []))
                  (λ scripts f fits. follower_more H rules levels (l ∷ []) scripts f fits) lists w.followers sound.followers;
              firm = firm_block w sound.firm s' x u undo;
            }

        -- ---- an event

        -- the world behind bytes, by the block that they are, and by why it is refused
        abbrev world_by : List ℕ → Handed → Option Block → WorldState
        world_by bytes handed y =
            let e = BlockCame y handed in
            let v = verdict_on w.bridge e in
            with_parts (next_bridge H w.bridge e) (cond (is_acceptance v) (record { block = bytes; message = message_on H w.bridge e } ∷ []) [])
            (chain_after v (suc (length w.sent)) w.chain)

        abbrev world_if : List ℕ → Block → Option Refusal → WorldState
        world_if bytes b x =
            let v = verdict_by w.bridge.chain b (length (new_records b w.bridge.chain.blocks)) x in
            with_parts (bridge_by x (after_block H w.bridge b) w.bridge)
            (cond (is_acceptance v) (record { block = bytes; message = told_if x (message_for w.bridge b) } ∷ []) [])
            (chain_after v (suc (length w.sent)) w.chain)

        with_block : (bytes : List ℕ) (message : Option (List ℕ)) → with_event H w (Feed.BlockCame bytes message) ≡ next → IsBytes bytes
            → Sound Q (with_event H w (Feed.BlockCame bytes message))
        with_block bytes message is_next is_bytes = by_block (block_in bytes) refl
          where
            by_case : (b : Block) → block_in bytes ≡ Some b → (x : Option Refusal) → refusal_on w.bridge b ≡ x → Sound Q (world_if bytes b x)
            by_case b reads (Some why) is = same_parts
            by_case b reads None accepts =
                let e = BlockCame (Some b) (handed_in message) in
                let fits = subst (λ y. EventFits (BlockCame y (handed_in message))) reads (read_event_fits (Feed.BlockCame bytes message) is_bytes) in
                grown e (record { block = bytes; message = message_for w.bridge b }) (after_block H w.bridge b) _ refl
                (ap (λ x. bridge_by x (after_block H w.bridge b) w.bridge) (sym accepts))
                (sym (ap (world_by bytes (handed_in message)) reads ∙ ap (world_if bytes b) accepts) ∙ is_next)
                (extends w.bridge t bytes b (handed_in message) reads fits sound.beside accepts)

            by_block : (y : Option Block) → block_in bytes ≡ y → Sound Q (world_by bytes (handed_in message) y)
            by_block None reads = same_parts
            by_block (Some b) reads = by_case b reads (refusal_on w.bridge b) refl

        -- a rollback that was made
        gone : (k : ℕ) → nat_le k (length w.bridge.undo) ≡ true → Sound Q (with_parts (gone_back H k w.bridge) [] (drop k w.chain))
        gone k can =
            let e = RollbackCame k in
            let one = as_own w.bridge t e sound.beside in
            let made : is_made (own_outcome rules t e).verdict ≡ true = ap is_made one.said ∙ rw can refl in
            let can' : nat_le k (length t.older) ≡ true = deep_enough k made in
            let is_few = leb-true k (length t.older) can' in
            let t' = back k t.now t.older in
            let stands : Stands H t' (gone_back H k w.bridge) =
            subst (λ x. Stands H t' (cond x (gone_back H k w.bridge) w.bridge)) can
            (subst (λ x. Stands H (Outcome.state (cond x (rolled_back k t') (record { verdict = Some (TooDeep k (length t.older)); state = t })))
            (next_bridge H w.bridge e)) can' one.stands) in
            subst (λ sent. Sound Q (record w { bridge = gone_back H k w.bridge; sent = sent; chain = drop k w.chain })) (sym (append-nil w.sent))
            (record {
              levels = levels;
              count = sound.count;
              told = told_still;
              state = t';
              beside = beside_then e t' (gone_back H k w.bridge) (rw can refl) stands (gone_fits k can');
              rest = sound.rest;
              line = subst (Line H rules w.sent levels (drop k w.chain)) (back-drop k t.now t.older sound.rest is_few)
                  (line-drop H rules w.sent levels k w.chain all (longer k is_few) sound.line);
              replies = sound.replies;
              followers = sound.followers;
              firm = firm_back w sound.firm k (gone_back H k w.bridge) (undo-back H k w.bridge) (leb-true k (length w.bridge.undo) can);
            })
          where
            deep_enough : (k : ℕ) → is_made (own_outcome rules t (RollbackCame k)).verdict ≡ true → nat_le k (length t.older) ≡ true
            deep_enough k made = ⊎_elim (λ x. x) (λ f. absurd (false≢true (rw f at made))) (cases_Bool (nat_le k (length t.older)))

            gone_fits : (k : ℕ) → nat_le k (length t.older) ≡ true → OnEachLevel (LevelFits rules) (back k t.now t.older)
            gone_fits k can' = subst (λ x. OnEachLevel (LevelFits rules) (Outcome.state
                (cond x (rolled_back k (back k t.now t.older)) (record { verdict = Some (TooDeep k (length t.older)); state = t })))) can'
                (step_fits rules own_judge t (RollbackCame k) tt sound.beside.fits)

            longer : (k : ℕ) → k ≤ length t.older → k < length all
            longer k few' = let more = length-append (t.now ∷ t.older) sound.rest in omega (arith, few', more)

        with_back : (k : ℕ) → Sound Q (with_event H w (Feed.RollbackCame k))
        with_back k = by (nat_le k (length w.bridge.undo)) refl
          where
            by : (x : Bool) → nat_le k (length w.bridge.undo) ≡ x →
                let v = cond x (gone_to k (chain_back k w.bridge.chain w.bridge.undo)) (TooDeep k (length w.bridge.undo)) in
                Sound Q (with_parts (cond x (gone_back H k w.bridge) w.bridge) (cond (is_acceptance v) [] [])
                (chain_after v (suc (length w.sent)) w.chain))
            by true can = gone k can
            by false deep = same_parts

        bridge_sound : (event : FeedEvent) → with_event H w event ≡ next → AreEventBytes event → Sound Q (with_event H w event)
        bridge_sound (Feed.BlockCame bytes message) is_next are = with_block bytes message is_next are
        bridge_sound (Feed.RollbackCame k) is_next are = with_back k
        bridge_sound Feed.StrayCame is_next are = same_parts

        -- ---- the other acts

        ask_sound : (f : ℕ) (x : Option FollowerState) → slice_get w.followers f ≡ x → Sound Q (with_ask w x)
        ask_sound f None at = same_world
        ask_sound f (Some x) at = record {
          levels = levels;
          count = sound.count;
          told = told_still;
          state = t;
          beside = sound.beside;
          rest = sound.rest;
          line = sound.line;
          replies = sound.replies;
          followers = sound.followers;
          firm = firm_ask w sound.firm f x at;
        }

        reply_sound : (j : ℕ) (x : Option (List ℕ)) → slice_get w.asks j ≡ x → Sound Q (with_reply w x)
        reply_sound j None at = same_world
        reply_sound j (Some serials) at = record {
          levels = levels;
          count = sound.count;
          told = told_still;
          state = t;
          beside = sound.beside;
          rest = sound.rest;
          line = sound.line;
          replies = all-push (ReplyFits H rules w.sent levels) w.replies (reply_to w.chain serials) sound.replies
              (reply_fits H rules w.sent levels w.chain all sound.line serials);
          followers = sound.followers;
          firm = firm_reply w sound.firm j serials at;
        }

        deliver_sound : (f : ℕ) (x : Option FollowerState) (r : Option Reply) (j : ℕ) → slice_get w.followers f ≡ x → slice_get w.replies j ≡ r
            → Sound Q (with_moved H w f x r)
        deliver_sound f None r j at_f at_j = same_world
        deliver_sound f (Some x) None j at_f at_j = same_world
        deliver_sound f (Some x) (Some r) j at_f at_j = by (applies r x) refl
          where
            by : (b : Bool) → applies r x ≡ b → Sound Q
                (record w { followers = cond b (slice_set w.followers f (follower_moved H w.sent r.kind x)) w.followers })
            by false a = same_world
            by true a = record {
              levels = levels;
              count = sound.count;
              told = told_still;
              state = t;
              beside = sound.beside;
              rest = sound.rest;
              line = sound.line;
              replies = sound.replies;
              followers = zip-set (FollowerFits H rules levels) lists w.followers f x (follower_moved H w.sent r.kind x) sound.followers at_f
                  (λ scripts fits. (reply_moves H rules w.sent levels scripts x fits r a
                  (all-at (ReplyFits H rules w.sent levels) w.replies j r sound.replies at_j)).follower);
              firm = firm_moved w sound.firm H f j x r at_f at_j a
                  (let one = zip-at (FollowerFits H rules levels) lists w.followers f x sound.followers at_f in
                  serials_long H rules w.sent levels one.0 x one.2);
            }

        pub act_sound : (act : WorldAct) → next_world H w act ≡ next → AreActBytes act → Sound Q (next_world H w act)
        act_sound (BridgeTook event) is_next are = bridge_sound event is_next are
        act_sound (FollowerAsked f) is_next are = ask_sound f (slice_get w.followers f) refl
        act_sound (AskServed j) is_next are = reply_sound j (slice_get w.asks j) refl
        act_sound (ReplyDelivered f j) is_next are = deliver_sound f (slice_get w.followers f) (slice_get w.replies j) j refl refl
