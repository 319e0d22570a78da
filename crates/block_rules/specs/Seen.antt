-- How double spends are found: by a set of the outpoints before, and by numbers that stand for outpoints.
use Rattle.std.specs.Prelude.{◌≡◌, ℕ, ◌+◌, ◌%◌, ◌^◌, List, ◌++◌, map, Option, Some, None}
use Rattle.std.specs.BTreeSet.{BTreeSet}
use Rattle.leaf_record.specs.Leaf.{Outpoint}
use Rattle.tx_codec.specs.Transaction.{Input}
use Rattle.block_rules.specs.declared.outpoint.OutpointKey.{OutpointKey}
use Rattle.block_rules.specs.declared.refusal.Refusal.TheVariants as Why
use Rattle.block_rules.specs.Blocks.{Placed, placed_from}
use Rattle.block_rules.specs.Rules.{double}
use Rattle.block_rules.specs.Keys.{HasPoints, head_of}

-- the first double of these inputs is that of the rest, over what the set has then
pub record Reaches (before : List Outpoint) (whole rest : List Placed) (seen : BTreeSet OutpointKey) : Type 0 where
  pub points : List Outpoint
  pub has : HasPoints seen points
  pub same : double before whole ≡ double points rest

-- the first input that was seen before; where there is none, those that follow are judged over what the set has then
abbrev pub SeesAt : ℕ → List Outpoint → List Placed → List Placed → Option ℕ → BTreeSet OutpointKey → Type 0
SeesAt t before whole more (Some i) seen = double before whole ≡ Some (Why.Double t i)
SeesAt t before whole more None seen = Reaches before whole more seen

abbrev pub Sees : BTreeSet OutpointKey → List Input → Option ℕ → BTreeSet OutpointKey → Type 0
Sees old inputs found new = (t : ℕ) (before : List Outpoint) (more : List Placed) → HasPoints old before
    → SeesAt t before (placed_from t 0 inputs ++ more) more found new

-- a number that stands for an outpoint: the head of the id, and the index
abbrev pub mark_of : Outpoint → ℕ
mark_of p = (head_of p.txid + p.index) % 2 ^ 64

abbrev pub marks_of : List Placed → List ℕ
marks_of ats = map (λ at. mark_of at.point) ats
