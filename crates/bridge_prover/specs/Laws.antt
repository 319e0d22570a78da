-- What holds of bridges, whatever the digest function.
use Rattle.std.specs.Prelude.{◌≡◌, ℕ, suc, ◌+◌, ◌<◌, ◌≤◌, ◌^◌, List, ◌∷◌, map, take, drop, length, Option, Some, None, if◌then◌else◌}
use Rattle.uo_base.specs.declared.event.Limits.{Limits}
use Rattle.uo_base.specs.declared.event.Net.{Net}
use Rattle.uo_digest.specs.declared.digest.Digest.{Digest}
use Rattle.forest_place.specs.declared.place.Place.{Place}
use Rattle.cache_model.specs.Cache.{look}
use Rattle.cache_model.specs.Known.{known_at}
use Rattle.cache_model.specs.Lists.{AscendByPlace}
use Rattle.block_rules.specs.declared.chain.Chain.{Chain}
use Rattle.block_rules.specs.declared.verdict.Verdict.{Verdict}
use Rattle.block_rules.specs.declared.verdict.Verdict.TheVariants.{Accepted, Refused, RolledBack, TooDeep, Stray}
use Rattle.node_rules.specs.Judging.{Rules}
use Rattle.node_rules.specs.Machine.{ChainEvent, BlockCame, RollbackCame, StrayCame, Level, State, Outcome, start, own_judge, is_made, height_of}
use Rattle.node_rules.specs.Machine.{step}
use Rattle.node_rules.specs.Proving.{text_beside}
use Rattle.bridge_prover.specs.Watched.{scripts_of, known_list}
use Rattle.bridge_prover.specs.Bridge.{BridgeState, fresh_bridge, chain_before, verdict_on, next_bridge, message_on}
use Rattle.bridge_prover.specs.Standing.{IsBridge, Stands}

-- what the proving node makes of an event
abbrev pub own_outcome : Rules → State → ChainEvent → Outcome
own_outcome rules t e = step rules own_judge t e

-- the bytes of its message beside an event, where it accepts a block that spends from outside: in full, or lean for one with this watch list
abbrev pub text_by : (List ℕ → Digest) → Option (List (List ℕ)) → Level → ChainEvent → Option (List ℕ)
text_by H watch l (BlockCame b handed) = text_beside H watch l b
text_by H watch l (RollbackCame k) = None
text_by H watch l StrayCame = None

abbrev pub own_text : (List ℕ → Digest) → Option (List (List ℕ)) → Rules → State → ChainEvent → Option (List ℕ)
own_text H watch rules t e = if is_made (own_outcome rules t e).verdict then text_by H watch t.now e else None

-- that node says v of the event and passes the message on beside it, and s stands for what it holds then
pub record IsAsOwn (H : List ℕ → Digest) (watch : Option (List (List ℕ))) (rules : Rules) (t : State) (e : ChainEvent)
    (v : Verdict) (message : Option (List ℕ)) (s : BridgeState) : Type 0 where
  pub said : (own_outcome rules t e).verdict ≡ Some v
  pub passed : message ≡ own_text H watch rules t e
  pub stands : Stands H (own_outcome rules t e).state s

-- where s stands for what that node holds, it is so
abbrev pub SaysAsOwn : (List ℕ → Digest) → BridgeState → ChainEvent → Verdict → Option (List ℕ) → BridgeState → Type 0
SaysAsOwn H s e v message s' = (t : State) → Stands H t s → IsAsOwn H s.watch s.rules t e v message s'

-- a bridge does
abbrev pub BridgeIsOwn : Type 0
BridgeIsOwn = (H : List ℕ → Digest) (s : BridgeState) (e : ChainEvent) → IsBridge H s →
    SaysAsOwn H s e (verdict_on s e) (message_on H s e) (next_bridge H s e)

-- where s stands for what the proving node holds, this is what is known there to one with its watch list
abbrev pub KnowsAsOwn : (List ℕ → Digest) → BridgeState → List (Place × Digest) → Type 0
KnowsAsOwn H s known = (t : State) → Stands H t s → (row off : ℕ)
    → look known row off ≡ known_at H (scripts_of s.watch) t.now.history row off

-- what a bridge knows is that, each place once, in ascending order
abbrev pub KnownIsOwn : Type 0
KnownIsOwn = (H : List ℕ → Digest) (s : BridgeState) → IsBridge H s →
    let known = known_list H (scripts_of s.watch) s.entries s.held in
    KnowsAsOwn H s known × AscendByPlace known

-- at the start it stands for it
abbrev pub FreshStands : Type 0
FreshStands = (H : List ℕ → Digest) (net : Net) (limits : Limits) (watch : Option (List (List ℕ)))
    → Stands H start (fresh_bridge net limits watch)

-- and a bridge stays one
abbrev pub FreshIsBridge : Type 0
FreshIsBridge = (H : List ℕ → Digest) (net : Net) (limits : Limits) (watch : Option (List (List ℕ))) → limits.leaves < 2 ^ 40
    → IsBridge H (fresh_bridge net limits watch)

abbrev pub NextIsBridge : Type 0
NextIsBridge = (H : List ℕ → Digest) (s : BridgeState) (e : ChainEvent) → IsBridge H s
    → IsBridge H (next_bridge H s e)

-- the chains of the levels that it can go back to, the newest first
abbrev pub chains_of : BridgeState → List Chain
chains_of s = s.chain ∷ map chain_before s.undo

-- what the verdict on an event tells of them: an accepted block makes one in front of those before it, of which a hundred stay; a rollback
-- that was made drops the newest ones; and all else changes nothing
abbrev pub LevelsTold : BridgeState → Verdict → BridgeState → Type 0
LevelsTold s (Accepted height hash leaves) s' =
    (height ≡ s.chain.blocks)
    × (chains_of s' ≡ record { blocks = suc s.chain.blocks; tip = hash; leaves = leaves } ∷ take 100 (chains_of s))
LevelsTold s (Refused height hash why) s' = (height ≡ s.chain.blocks) × (s' ≡ s)
LevelsTold s (RolledBack count height hash leaves) s' =
    (count ≤ length s.undo)
    × (chains_of s' ≡ drop count (chains_of s))
    × (s'.chain.blocks + count ≡ s.chain.blocks)
    × (height ≡ height_of s'.chain.blocks)
    × (hash ≡ s'.chain.tip)
    × (leaves ≡ s'.chain.leaves)
LevelsTold s (TooDeep asked kept) s' = (kept ≡ length s.undo) × (kept < asked) × (s' ≡ s)
LevelsTold s Stray s' = s' ≡ s

abbrev pub VerdictsTellLevels : Type 0
VerdictsTellLevels = (H : List ℕ → Digest) (s : BridgeState) (e : ChainEvent) → IsBridge H s
    → LevelsTold s (verdict_on s e) (next_bridge H s e)
