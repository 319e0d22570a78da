-- What a node can say that holds every output and reads no proof. It may refuse a block for any reason, and accepts none that breaks a rule.
use Rattle.std.specs.Prelude.{◌≡◌, ◌↔◌, ℕ, suc, true, List, [], ◌∷◌, length, Option, Some, None, slice_get}
use Rattle.std.specs.List.{filter_map}
use Rattle.uo_base.specs.Reading.{IsBytes}
use Rattle.uo_digest.specs.declared.digest.Digest.{Digest}
use Rattle.block_codec.specs.Block.{Block, BlockFits, block_text, block_hash_of}
use Rattle.block_codec.specs.Reading.{block_in}
use Rattle.leaf_record.specs.Leaf.{Leaf}
use Rattle.leaf_record.specs.History.{History}
use Rattle.block_rules.specs.declared.chain.Found.{Found}
use Rattle.block_rules.specs.declared.verdict.Verdict.{Verdict}
use Rattle.block_rules.specs.declared.verdict.Verdict.TheVariants.{Accepted, Refused, RolledBack, TooDeep, Stray}
use Rattle.block_rules.specs.Steps.{first_of}
use Rattle.block_rules.specs.Blocks.{external, new_records}
use Rattle.block_rules.specs.Money.{found_of, spends_of, money_steps}
use Rattle.block_rules.specs.Rules.{block_steps}
use Rattle.node_rules.specs.Judging.{Rules, history_after}
use Rattle.node_rules.specs.Machine.{ChainEvent, BlockCame, Level, State, chain_of, full_judge, own_judge, pushed, step, verdicts, never_stops}
use Rattle.node_rules.specs.Laws.{SpendsDiffer}

-- ---- a block

-- what is found of an entry, if it is live
abbrev pub found_at : Option (Option Leaf) → Option Found
found_at None = None
found_at (Some None) = None
found_at (Some (Some leaf)) = Some (found_of leaf.rest)

-- what is found of the entries of these numbers
abbrev pub founds : History → List ℕ → List Found
founds us numbers = filter_map (λ n. found_at (slice_get us n)) numbers

-- All rules hold of a block that spends the entries of these numbers: each external input spends a live output of its outpoint, no two the same.
pub record IsValid (rules : Rules) (l : Level) (b : Block) (numbers : List ℕ) : Type 0 where
  pub alone : first_of (block_steps rules.net rules.limits (chain_of l) b) ≡ None
  pub spends : SpendsDiffer l.history (external b l.blocks) numbers
  pub pays : first_of (money_steps (spends_of rules.net l.blocks b) (founds l.history numbers)) ≡ None

-- the level behind it
abbrev pub level_spending : Level → Block → List ℕ → Level
level_spending l b numbers = record {
  blocks = suc l.blocks;
  tip = block_hash_of b;
  history = history_after l.history numbers (new_records b l.blocks);
}

-- a block that is accepted is valid; one that is refused changes nothing
abbrev pub TakesBlock : Rules → State → Block → Verdict → State → Type 0
TakesBlock rules s b (Accepted height hash leaves) t = (numbers : List ℕ) × IsValid rules s.now b numbers
    × (t ≡ pushed (level_spending s.now b numbers) s) × (height ≡ s.now.blocks) × (hash ≡ block_hash_of b) × (leaves ≡ length t.now.history)
TakesBlock rules s b (Refused height hash why) t = t ≡ s
TakesBlock rules s b (RolledBack count height hash leaves) t = ⊥
TakesBlock rules s b (TooDeep asked kept) t = ⊥
TakesBlock rules s b Stray t = ⊥

-- ---- a list of events

-- of any other event it says what each machine says
abbrev pub Takes : Rules → State → ChainEvent → Verdict → State → Type 0
Takes rules s (BlockCame (Some b) handed) v t = TakesBlock rules s b v t
Takes rules s e v t = step rules own_judge s e ≡ record { verdict = Some v; state = t }

-- these verdicts can be its verdicts on these events, from this state on
abbrev pub AreValid : Rules → State → List ChainEvent → List Verdict → Type 0
AreValid rules s [] [] = Unit {0}
AreValid rules s [] (v ∷ vs) = ⊥
AreValid rules s (e ∷ es) [] = ⊥
AreValid rules s (e ∷ es) (v ∷ vs) = (t : State) × Takes rules s e v t × AreValid rules t es vs

-- ---- the law

-- where no event is forged, what the machine with the whole history says is what such a node can say
abbrev pub AcceptedIsValid : Type 0
AcceptedIsValid = (H : List ℕ → Digest) (scripts : List (List ℕ)) (rules : Rules) (s : State) (events : List ChainEvent)
    → never_stops rules (full_judge H scripts rules) s events ≡ true → AreValid rules s events (verdicts rules (full_judge H scripts rules) s events)

-- bytes are read as a block exactly where they are its text
abbrev pub BlockIsRead : Type 0
BlockIsRead = (bytes : List ℕ) (b : Block) → IsBytes bytes → (block_in bytes ≡ Some b) ↔ (BlockFits b × (bytes ≡ block_text b))
