-- What an answer of the search says of an event.
use Rattle.std.specs.Prelude.{◌≡◌, ℕ, List, ◌++◌, Option, None, is_some}
use Rattle.uo_digest.specs.declared.digest.Digest.{Digest}
use Rattle.block_codec.specs.Block.{Block}
use Rattle.leaf_record.specs.History.{History}
use Rattle.block_rules.specs.declared.chain.Chain.{Chain}
use Rattle.block_rules.specs.Steps.{first_of}
use Rattle.block_rules.specs.Blocks.{external}
use Rattle.block_rules.specs.Rules.{block_steps}
use Rattle.node_rules.specs.Messages.{Message, points_of}
use Rattle.cache_model.specs.Known.{known_at}
use Rattle.node_rules.specs.Reading.{read}
use Rattle.node_rules.specs.Judging.{Rules, message_steps, is_forged}
use Rattle.clash_find.specs.Clashes.{TextClash}
use Rattle.clash_find.specs.Answers.{IsAnswer}

-- where the steps before the proof pass, and what is taken to be known is what is known under a watch list, something is
-- answered exactly where the event is forged
abbrev pub FoundExactlyWhereForged : Type 0
FoundExactlyWhereForged = (H : List ℕ → Digest) (us : History) (scripts : List (List ℕ)) (rules : Rules) (chain : Chain) (b : Block) (m : Message)
    (known : ℕ → ℕ → Option Digest) (answer : Option TextClash) →
    first_of (block_steps rules.net rules.limits chain b ++ message_steps (external b chain.blocks) (read m)) ≡ None →
    ((row off : ℕ) → known row off ≡ known_at H scripts us row off) →
    IsAnswer H us known (points_of (external b chain.blocks)) m answer →
    is_forged H scripts rules chain us b (read m) ≡ is_some answer
