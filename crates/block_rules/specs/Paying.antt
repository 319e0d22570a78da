-- What is paid, input by input, and that there is enough of what was found.
use Rattle.std.specs.Prelude.{◌≡◌, ℕ, ◌+◌, ◌<◌, ◌^◌, List, [], ◌∷◌, length, map, Option, Some, is_none, sum_by, count_by}
use Rattle.leaf_record.specs.History.{somes}
use Rattle.block_rules.specs.declared.chain.Outside.{Outside}
use Rattle.block_rules.specs.declared.chain.Found.{Found}
use Rattle.block_rules.specs.Money.{Bill, paid_from, found_after}

-- how many of these inputs spend from outside
abbrev pub outside_count : List (Option Found) → ℕ
outside_count own = count_by is_none own

abbrev pub outside_sum : List Bill → ℕ
outside_sum bills = sum_by (λ bill. outside_count bill.own) bills

-- there are no more bills than a block has transactions, and they have these external inputs
pub record IsCounted (bills : List Bill) (external : List Outside) : Type 0 where
  pub few : length bills < 2 ^ 32
  pub same : outside_sum bills ≡ length external

-- one input spends this, and leaves these of those found
pub record PaysNext (own : Option Found) (found : List Found) (paid : Found) (left : List Found) : Type 0 where
  pub now : (others : List (Option Found)) → paid_from (own ∷ others) found ≡ paid ∷ paid_from others left
  pub later : (others : List (Option Found)) → found_after (own ∷ others) found ≡ found_after others left
  pub count : outside_count (own ∷ []) + length left ≡ length found

-- nothing is missing in a list
abbrev pub IsWhole : {X : Type 0} → List (Option X) → Type 0
IsWhole xs = xs ≡ map Some (somes xs)
