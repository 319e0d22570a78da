-- Which steps refuse a block for another reason than its link.
use Rattle.std.proofs.Common.{◌≡◌, ℕ, suc, Bool, true, false, List, [], ◌∷◌, ◌++◌, Option, Some, None, option_map, map, if◌then◌else◌}
use Rattle.std.specs.List.{AllByRecursion}
use Rattle.std.specs.Option.{option_or}
use Rattle.uo_base.specs.declared.event.Limits.{Limits}
use Rattle.uo_base.specs.declared.event.Net.{Net}
use Rattle.uo_digest.specs.declared.digest.Digest.{Digest}
use Rattle.block_codec.specs.declared.merkle_tree.MerkleOutcome.{MerkleOutcome}
use Rattle.block_codec.specs.declared.merkle_tree.MerkleOutcome.TheVariants.{Root, Repeated}
use Rattle.block_codec.specs.Block.{Block, txids_of, weight_of}
use Rattle.block_codec.specs.Merkle.{is_same, merkle_of}
use Rattle.leaf_record.specs.Leaf.{Outpoint}
use Rattle.leaf_record.specs.History.{History}
use Rattle.block_rules.specs.declared.chain.Chain.{Chain}
use Rattle.block_rules.specs.declared.chain.Found.{Found}
use Rattle.block_rules.specs.declared.chain.Outside.{Outside}
use Rattle.block_rules.specs.declared.refusal.Refusal.{Refusal}
use Rattle.block_rules.specs.declared.refusal.Refusal.TheVariants as Why
use Rattle.block_rules.specs.Blocks.{Placed, placed_of}
use Rattle.block_rules.specs.Money.{BlockSpends, paid_by, spends_of, money_steps, immature, overspend, unripe}
use Rattle.block_rules.specs.Rules.{block_steps, merkle_step, double, coinbase_fault, value_fault}
use Rattle.block_rules.specs.Steps.{unless, first_of, first_from}
use Rattle.block_codec.specs.Witness.{commitment_of}
use Rattle.block_rules.specs.Witness.{witness_fault}
use Rattle.node_rules.specs.Accepting.{View}
use Rattle.node_rules.specs.Judging.{Rules, Evidence, checks, refusal, compact, own, missing}
use Rattle.node_rules.specs.Reading.{nothing}

-- it is not for its link
abbrev pub IsOther : Option Refusal → Type 0
IsOther r = r ≡ Some Why.Link → ⊥

none_other : IsOther None
none_other e = absurd cc

unless_other : (b : Bool) (why : Refusal) → (why ≡ Why.Link → ⊥) → IsOther (unless b why)
unless_other true why other e = absurd cc
unless_other false why other e = other (cc)

map_other : {A : Type 0} (f : A → Refusal) (x : Option A) → ((a : A) → f a ≡ Why.Link → ⊥) → IsOther (option_map f x)
map_other f None other e = absurd cc
map_other f (Some a) other e = other a (cc)

or_other : (x y : Option Refusal) → IsOther x → IsOther y → IsOther (option_or x y)
or_other None y p q = q
or_other (Some why) y p q = p

first_other : (steps : List (Option Refusal)) → AllByRecursion IsOther steps → IsOther (first_of steps)
first_other [] a = none_other
first_other (x ∷ steps) a = or_other x (first_of steps) a.0 (first_other steps a.1)

from_other : {X : Type 0} (k : ℕ) (f : ℕ → X → Option Refusal) (xs : List X) → ((k : ℕ) (x : X) → IsOther (f k x)) → IsOther (first_from k f xs)
from_other k f [] other = none_other
from_other k f (x ∷ xs) other = or_other (f k x) (first_from (suc k) f xs) (other k x) (from_other (suc k) f xs other)

both_other : (xs ys : List (Option Refusal)) → AllByRecursion IsOther xs → AllByRecursion IsOther ys → AllByRecursion IsOther (xs ++ ys)
both_other [] ys a b = b
both_other (x ∷ xs) ys a b = (a.0, both_other xs ys a.1 b)

-- ---- the steps on a block alone

merkle_other : (root : Digest) (outcome : MerkleOutcome) → IsOther (merkle_step root outcome)
merkle_other root (Root computed) = unless_other (is_same computed root) Why.MerkleRoot (λ e. absurd cc)
merkle_other root (Repeated level place) = λ e. absurd cc

double_other : (seen : List Outpoint) (ats : List Placed) → IsOther (double seen ats)
double_other seen [] = none_other
double_other seen (at ∷ ats) = or_other _ (double (at.point ∷ seen) ats) (unless_other _ (Why.Double at.tx at.input) (λ e. absurd cc))
    (double_other (at.point ∷ seen) ats)

witness_other : (b : Bool) (x : Option Refusal) → IsOther x → IsOther (if b then None else x)
witness_other true x p = none_other
witness_other false x p = p

block_other : (net : Net) (limits : Limits) (chain : Chain) (b : Block) → is_same b.header.prev chain.tip ≡ true
    → AllByRecursion IsOther (block_steps net limits chain b)
block_other net limits chain b same = (
  λ e. linked (is_same b.header.prev chain.tip) same e,
  (
    merkle_other b.header.merkle (merkle_of (txids_of b)),
    (
      witness_other _ _ (map_other Why.Witness (witness_fault (commitment_of b) b) (λ a e. absurd cc)),
      (
        unless_other _ (Why.Weight (weight_of b)) (λ e. absurd cc),
        (
          map_other Why.Coinbase (coinbase_fault b.txs) (λ a e. absurd cc),
          (
            map_other Why.Value (value_fault b.txs) (λ a e. absurd cc),
            (
              double_other [] (placed_of 0 b.txs),
              (
                unless_other _ Why.Full (λ e. absurd cc),
                tt,
              ),
            ),
          ),
        ),
      ),
    ),
  ),
)
  where
    linked : (c : Bool) → c ≡ true → IsOther (unless c Why.Link)
    linked true t e = absurd cc
    linked false t e = absurd cc

-- ---- the steps on money

money_other : (s : BlockSpends) (found : List Found) → AllByRecursion IsOther (money_steps s found)
money_other s found = (
  from_other 1 (immature s.height) (paid_by s.bills found)
      (λ t paid. from_other 0 (unripe s.height t) paid.inputs (λ i f. unless_other _ (Why.Immature t i) (λ e. absurd cc))),
  (
    from_other 1 overspend (paid_by s.bills found) (λ t paid. unless_other _ (Why.Overspend t) (λ e. absurd cc)),
    (
      unless_other _ (Why.Subsidy s.claimed _) (λ e. absurd cc),
      tt,
    ),
  ),
)

-- ---- all steps

-- a block that names the tip is refused for another reason, by this evidence
pub all_other : (rules : Rules) (chain : Chain) (b : Block) (evidence : Evidence) → is_same b.header.prev chain.tip ≡ true
    → AllByRecursion IsOther evidence.steps → IsOther (refusal rules chain b evidence)
all_other rules chain b evidence same others =
    first_other (checks rules chain b evidence)
    (both_other (block_steps rules.net rules.limits chain b) _ (block_other rules.net rules.limits chain b same)
    (both_other evidence.steps _ others (money_other (spends_of rules.net chain.blocks b) evidence.found)))

-- without a message by a view
pub compact_other : (H : List ℕ → Digest) (v : View) (ext : List Outside)
    → AllByRecursion IsOther (compact H v ext nothing).steps
compact_other H v ext = (unless_other _ Why.NoProof (λ e. absurd cc), (none_other, (none_other, (none_other, tt))))

-- and by the history
pub own_other : (us : History) (ext : List Outside) → AllByRecursion IsOther (own us ext).steps
own_other us ext = (first_other _ (by ext), tt)
  where
    by : (ats : List Outside) → AllByRecursion IsOther (map (missing us) ats)
    by [] = tt
    by (at ∷ ats) = ((unless_other _ (Why.Missing at.tx at.input) (λ e. absurd cc)), by ats)
