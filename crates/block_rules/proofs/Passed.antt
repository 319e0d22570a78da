-- What holds of a block where none of the steps on it alone fails.
use Rattle.std.proofs.Common.{◌≡◌, ◌+◌, ◌^◌, ◌≤◌, ◌<◌, [], length, None}
use Rattle.std.specs.Prelude.{nat_le, nat_lt}
use Rattle.std.proofs.lemmas.Bool.{and_parts, leb-true, ltb-true}
use Rattle.uo_base.specs.declared.event.Limits.{Limits}
use Rattle.uo_base.specs.declared.event.Net.{Net}
use Rattle.block_codec.specs.Block.{Block, weight_of}
use Rattle.block_rules.specs.declared.chain.Chain.{Chain}
use Rattle.block_rules.specs.declared.refusal.Refusal.TheVariants as Why
use Rattle.block_rules.specs.Steps.{first_of}
use Rattle.block_rules.specs.Blocks.{placed_of, new_records}
use Rattle.block_rules.specs.Rules.{double, has_room, block_steps}
use Rattle.block_rules.proofs.Firsts.{each_passes, unless-passed}

module _ (net : Net) (limits : Limits) (chain : Chain) (b : Block) (passes : first_of (block_steps net limits chain b) ≡ None) where
  -- it is not too heavy
  pub weight_passed : weight_of b ≤ 4000000
  weight_passed = leb-true _ _ (unless-passed (nat_le (weight_of b) 4000000) (Why.Weight (weight_of b))
      (each_passes (block_steps net limits chain b) 3 passes))

  -- its inputs name different outputs
  pub apart_passed : double [] (placed_of 0 b.txs) ≡ None
  apart_passed = each_passes (block_steps net limits chain b) 6 passes

  -- there is a next height, and room for what it adds
  pub room_passed : (chain.blocks < 2 ^ 31) × (chain.leaves + length (new_records b chain.blocks) ≤ limits.leaves)
  room_passed =
      let both = and_parts (nat_lt chain.blocks (2 ^ 31)) (nat_le (chain.leaves + length (new_records b chain.blocks)) limits.leaves)
      (unless-passed (has_room limits chain (length (new_records b chain.blocks))) Why.Full
      (each_passes (block_steps net limits chain b) 7 passes)) in
      (ltb-true _ _ both.0, leb-true _ _ both.1)
