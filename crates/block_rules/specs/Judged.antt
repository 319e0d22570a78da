-- What the two calls on a block answer.
use Rattle.std.specs.Prelude.{◌≡◌, List, Result, Ok, Err, None, Some, ℕ}
use Rattle.uo_base.specs.declared.event.Limits.{Limits}
use Rattle.uo_base.specs.declared.event.Net.{Net}
use Rattle.block_codec.specs.Block.{Block}
use Rattle.block_rules.specs.declared.chain.Chain.{Chain}
use Rattle.block_rules.specs.declared.chain.Found.{Found}
use Rattle.block_rules.specs.declared.refusal.Refusal.{Refusal}
use Rattle.block_rules.specs.declared.fault.RuleFault.{RuleFault}
use Rattle.block_rules.specs.declared.fault.RuleFault.TheVariants.{Refused, NoMemory}
use Rattle.block_rules.specs.Steps.{first_of}
use Rattle.block_rules.specs.Money.{BlockSpends, spends_of, paid_by, fees, money_steps}
use Rattle.block_rules.specs.Rules.{full_step, block_steps}

-- no step fails, and this is what the block leaves to later rules
pub record IsShaped (net : Net) (limits : Limits) (chain : Chain) (b : Block) (s : BlockSpends) : Type 0 where
  pub passes : first_of (block_steps net limits chain b) ≡ None
  pub spends : s ≡ spends_of net chain.blocks b

-- or the first step that fails
abbrev pub ShapeJudged : Net → Limits → Chain → Block → Result BlockSpends RuleFault → Type 0
ShapeJudged net limits chain b (Ok s) = IsShaped net limits chain b s
ShapeJudged net limits chain b (Err (Refused why)) = first_of (block_steps net limits chain b) ≡ Some why
ShapeJudged net limits chain b (Err NoMemory) = Unit {0}

-- of the last of these steps alone
abbrev pub FullJudged : Net → Limits → Chain → Block → Result BlockSpends RuleFault → Type 0
FullJudged net limits chain b (Ok s) = (full_step limits chain b ≡ None) × (s ≡ spends_of net chain.blocks b)
FullJudged net limits chain b (Err (Refused why)) = full_step limits chain b ≡ Some why
FullJudged net limits chain b (Err NoMemory) = Unit {0}

-- no step fails, and this is the sum of the fees
pub record IsPaidFor (s : BlockSpends) (found : List Found) (sum : ℕ) : Type 0 where
  pub passes : first_of (money_steps s found) ≡ None
  pub exact : sum ≡ fees (paid_by s.bills found)

-- or the first step that fails
abbrev pub MoneyJudged : BlockSpends → List Found → Result ℕ Refusal → Type 0
MoneyJudged s found (Ok sum) = IsPaidFor s found sum
MoneyJudged s found (Err why) = first_of (money_steps s found) ≡ Some why
