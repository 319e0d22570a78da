-- The rules on money: that what a block spends has ripened, pays for what it makes, and for what the coinbase claims.
use Rattle.std.specs.Prelude.{ℕ, ◌+◌, ◌-◌, ◌/◌, ◌^◌, Bool, not, ◌&&◌, ◌||◌, nat_lt, nat_le, List, [], ◌∷◌, map, Option, Some, None, option_map}
use Rattle.std.specs.Prelude.{sum_by, if◌then◌else◌}
use Rattle.uo_base.specs.declared.event.Net.{Net}
use Rattle.uo_base.specs.declared.event.Net.TheVariants.{Main, Regtest}
use Rattle.tx_codec.specs.Transaction.{Transaction}
use Rattle.block_codec.specs.Block.{Block}
use Rattle.leaf_record.specs.Leaf.{Rest, Leaf}
use Rattle.block_rules.specs.declared.chain.Outside.{Outside}
use Rattle.block_rules.specs.declared.chain.Found.{Found}
use Rattle.block_rules.specs.declared.refusal.Refusal.{Refusal}
use Rattle.block_rules.specs.declared.refusal.Refusal.TheVariants as Why
use Rattle.block_rules.specs.Steps.{unless, first_from}
use Rattle.block_rules.specs.Blocks.{Spend, groups, others, external, new_records}

-- in satoshi, all that there will ever be, and a little more
abbrev pub most_money : ℕ
most_money = 2100000000000000

-- after how many blocks the subsidy halves
abbrev pub halving : Net → ℕ
halving Main = 210000
halving Regtest = 150

-- what the block of a height issues: 50 coins, halved again and again
abbrev pub subsidy_at : Net → ℕ → ℕ
subsidy_at net height = if nat_lt (height / halving net) 64 then 5000000000 / 2 ^ (height / halving net) else 0

-- what a transaction makes, in satoshi
abbrev pub output_sum : Transaction → ℕ
output_sum tx = sum_by (λ output. output.amount) tx.outputs

-- what the rules on money ask of an output
abbrev pub found_of : Rest → Found
found_of rest = record { amount = rest.amount; height = rest.height; coinbase = rest.coinbase }

-- ---- what the rules on money need of a block

-- a transaction: what each of its inputs spends, where the block itself made it, and the sum of its outputs
pub record Bill : Type 0 where
  pub own : List (Option Found)
  pub makes : ℕ

-- what a block that passes by itself leaves to later rules. One bill for each transaction behind the coinbase, and
-- what the coinbase claims
pub record BlockSpends : Type 0 where
  pub net : Net
  pub height : ℕ
  pub external : List Outside
  pub new : List Leaf
  pub claimed : ℕ
  pub bills : List Bill

-- the same of an output of the block itself, if that is spent
abbrev pub own_found : Spend → Option Found
own_found s = option_map (λ leaf. found_of leaf.rest) s.own

-- a bill for each transaction behind the coinbase
abbrev pub bills_of : List (List Spend) → List Transaction → List Bill
bills_of [] txs = []
bills_of (group ∷ groups) [] = []
bills_of (group ∷ groups) (tx ∷ txs) = record { own = map own_found group; makes = output_sum tx } ∷ bills_of groups txs

-- what the coinbase claims
abbrev pub claimed_by : List Transaction → ℕ
claimed_by [] = 0
claimed_by (coinbase ∷ txs) = output_sum coinbase

-- the same of a block at a height
abbrev pub spends_of : Net → ℕ → Block → BlockSpends
spends_of net height b = record {
  net = net;
  height = height;
  external = external b height;
  new = new_records b height;
  claimed = claimed_by b.txs;
  bills = bills_of (groups b height) (others b.txs);
}

-- ---- beside what was found of the external inputs, in order

-- a transaction: what each of its inputs spends, and the sum of its outputs
pub record Paid : Type 0 where
  pub inputs : List Found
  pub makes : ℕ

-- an internal input spends what the block made, an external one the next that was found
abbrev pub paid_from : List (Option Found) → List Found → List Found
paid_from [] found = []
paid_from (Some own ∷ inputs) found = own ∷ paid_from inputs found
paid_from (None ∷ inputs) [] = paid_from inputs []
paid_from (None ∷ inputs) (next ∷ found) = next ∷ paid_from inputs found

-- and what is left for the transactions that follow
abbrev pub found_after : List (Option Found) → List Found → List Found
found_after [] found = found
found_after (Some own ∷ inputs) found = found_after inputs found
found_after (None ∷ inputs) [] = []
found_after (None ∷ inputs) (next ∷ found) = found_after inputs found

-- each bill with what was found
abbrev pub paid_by : List Bill → List Found → List Paid
paid_by [] found = []
paid_by (bill ∷ bills) found = record { inputs = paid_from bill.own found; makes = bill.makes } ∷ paid_by bills (found_after bill.own found)

-- what a coinbase made can be spent a hundred blocks later
abbrev pub is_ripe : ℕ → Found → Bool
is_ripe height found = not found.coinbase || nat_le (found.height + 100) height

-- of the i-th input of transaction t
abbrev pub unripe : ℕ → ℕ → ℕ → Found → Option Refusal
unripe height t i found = unless (is_ripe height found) (Why.Immature t i)

-- the first input of transaction t that spends too early
abbrev pub immature : ℕ → ℕ → Paid → Option Refusal
immature height t paid = first_from 0 (unripe height t) paid.inputs

-- what a transaction's inputs are worth
abbrev pub pays : Paid → ℕ
pays paid = sum_by (λ found. found.amount) paid.inputs

-- no more is made than is paid, and no more is paid than there is
abbrev pub overspend : ℕ → Paid → Option Refusal
overspend t paid = unless (nat_le paid.makes (pays paid) && nat_le (pays paid) most_money) (Why.Overspend t)

-- what is paid and not made
abbrev pub fees : List Paid → ℕ
fees = sum_by (λ paid. pays paid - paid.makes)

-- the steps that look at money, in their order, one a line
abbrev pub money_steps : BlockSpends → List Found → List (Option Refusal)
money_steps s found =
    let paid = paid_by s.bills found in
    let allowed = subsidy_at s.net s.height + fees paid in
    first_from 1 (immature s.height) paid
    ∷ first_from 1 overspend paid
    ∷ unless (nat_le s.claimed allowed) (Why.Subsidy s.claimed allowed)
    ∷ []
