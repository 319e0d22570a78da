-- What holds of every block: the letter of the rules on internal inputs and on new records, and where value comes from.
use Rattle.std.specs.Prelude.{◌≡◌, ◌≤◌, ◌+◌, ℕ, suc, false, List, [], ◌∷◌, ◌++◌, map, set, Option, Some, None, option_map, sum_by, if◌then◌else◌}
use Rattle.std.specs.Option.{option_or}
use Rattle.uo_base.specs.declared.event.Net.{Net}
use Rattle.uo_digest.specs.declared.digest.Digest.{Digest}
use Rattle.tx_codec.specs.Transaction.{Transaction}
use Rattle.block_codec.specs.Block.{Block, block_hash_of}
use Rattle.leaf_record.specs.Leaf.{Outpoint, Leaf}
use Rattle.leaf_record.specs.History.{somes, same_point, History, newest, amount_of}
use Rattle.block_rules.specs.declared.chain.Found.{Found}
use Rattle.block_rules.specs.Steps.{first_of}
use Rattle.block_rules.specs.Blocks.{Placed, placed_from, placed_of, made_by, made_first, Spend, groups, others, new_records}
use Rattle.block_rules.specs.Money.{subsidy_at, spends_of, money_steps}
use Rattle.block_rules.specs.Rules.{double}

-- ---- internal inputs: of the outputs of earlier transactions with the outpoint the latest is meant, spent or not

abbrev pub latest : Outpoint → List Leaf → Option Leaf
latest p [] = None
latest p (leaf ∷ leaves) = option_or (latest p leaves) (if same_point leaf.point p then Some leaf else None)

abbrev pub literal_spends : List Placed → List Leaf → List Spend
literal_spends [] made = []
literal_spends (at ∷ ats) made = record { at = at; own = latest at.point made } ∷ literal_spends ats made

abbrev pub literal_groups : Digest → ℕ → ℕ → List Transaction → List Leaf → List (List Spend)
literal_groups hash height t [] made = []
literal_groups hash height t (tx ∷ txs) made =
    literal_spends (placed_from t 0 tx.inputs) made ∷ literal_groups hash height (suc t) txs (made ++ made_by hash height false tx)

-- where no outpoint is spent twice, the walk over a block finds what the letter says
abbrev pub InternalIsLatest : Type 0
InternalIsLatest = (b : Block) (height : ℕ) → double [] (placed_of 0 b.txs) ≡ None →
    groups b height ≡ literal_groups (block_hash_of b) height 1 (others b.txs) (made_first (block_hash_of b) height b.txs)

-- ---- new records: the outputs that no input of the block spends

-- the numbers of the outputs that these inputs spend, in the list of the outputs of earlier transactions
abbrev pub literal_numbers : List Placed → List Leaf → List ℕ
literal_numbers ats made = somes (map (λ at. option_map (λ e. e.number) (newest at.point (map Some made))) ats)

abbrev pub all_made : Digest → ℕ → List Transaction → List Leaf → List Leaf
all_made hash height [] made = made
all_made hash height (tx ∷ txs) made = all_made hash height txs (made ++ made_by hash height false tx)

abbrev pub all_numbers : Digest → ℕ → ℕ → List Transaction → List Leaf → List ℕ
all_numbers hash height t [] made = []
all_numbers hash height t (tx ∷ txs) made =
    literal_numbers (placed_from t 0 tx.inputs) made ++ all_numbers hash height (suc t) txs (made ++ made_by hash height false tx)

abbrev pub spent_in_order : List ℕ → History → History
spent_in_order [] history = history
spent_in_order (n ∷ ns) history = spent_in_order ns (set history n None)

-- where no outpoint is spent twice, the walk leaves what no input spends
abbrev pub NewIsUnspent : Type 0
NewIsUnspent = (b : Block) (h : ℕ) → double [] (placed_of 0 b.txs) ≡ None →
    let made = made_first (block_hash_of b) (suc h) b.txs in
    new_records b (suc h) ≡ somes (spent_in_order (all_numbers (block_hash_of b) (suc h) 1 (others b.txs) made)
    (map Some (all_made (block_hash_of b) (suc h) (others b.txs) made)))

-- ---- value: where the rules on money pass, what a block adds is no more than the subsidy and what it spends from outside
abbrev pub NewIsPaid : Type 0
NewIsPaid = (net : Net) (b : Block) (height : ℕ) (found : List Found) → first_of (money_steps (spends_of net height b) found) ≡ None →
    sum_by amount_of (new_records b height) ≤ subsidy_at net height + sum_by (λ f. f.amount) found
