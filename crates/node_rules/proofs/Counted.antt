-- How many outputs a block spends from outside, and how many its message shows.
use Rattle.std.proofs.Common.{◌≡◌, ◌<◌, ◌^◌, List, [], ◌∷◌, length, None, sym, ap, ◌∙◌, refl, arith}
use Rattle.std.specs.Prelude.{◌==◌}
use Rattle.std.proofs.lemmas.Bool.{eqb-true}
use Rattle.std.proofs.lemmas.List.{length-map}
use Rattle.std.proofs.lemmas.Option.{none-some}
use Rattle.uo_base.specs.declared.event.Limits.{Limits}
use Rattle.uo_base.specs.declared.event.Net.{Net}
use Rattle.block_codec.specs.Block.{Block, BlockFits}
use Rattle.proof_wire.specs.BlockProof.{Spend, rests_of}
use Rattle.block_rules.specs.declared.chain.Chain.{Chain}
use Rattle.block_rules.specs.declared.chain.Outside.{Outside}
use Rattle.block_rules.specs.declared.refusal.Refusal.TheVariants as Why
use Rattle.block_rules.specs.Steps.{first_of}
use Rattle.block_rules.specs.Blocks.{external}
use Rattle.block_rules.specs.Money.{found_of, BlockSpends}
use Rattle.block_rules.specs.Judged.{IsShaped}
use Rattle.block_rules.proofs.Firsts.{unless-passed, each_passes}
use Rattle.block_rules.proofs.Passed.{weight_passed}
use Rattle.node_rules.specs.Messages.{Message}
use Rattle.node_rules.specs.Reading.{Handed, nothing, unread, read}
use Rattle.node_rules.specs.Judging.{message_steps, found_by}
use Rattle.node_rules.proofs.Sizes.{few_are_spent}

-- a block that passes by itself spends few outputs from outside
pub external_few : (net : Net) (limits : Limits) (chain : Chain) (b : Block) (s : BlockSpends) → BlockFits b → IsShaped net limits chain b s
    → length s.external < 2 ^ 32
external_few net limits chain b s fits shaped =
    let few = few_are_spent b chain.blocks fits (weight_passed net limits chain b shaped.passes) in
    let is : length s.external ≡ length (external b chain.blocks) = ap (λ (x : BlockSpends). length x.external) shaped.spends in
    omega (arith, few, is)

-- a message that passes has a spend for each of them
pub count_passed : (ext : List Outside) (m : Message) → first_of (message_steps ext (read m)) ≡ None → length m.proof.spends ≡ length ext
count_passed ext m h =
    eqb-true _ _ (unless-passed (length m.proof.spends == length ext) (Why.Spends (length m.proof.spends) (length ext))
    (each_passes (message_steps ext (read m)) 2 h))

-- as many outputs are shown as are spent from outside
pub found_long : (ext : List Outside) (handed : Handed) → first_of (message_steps ext handed) ≡ None → length (found_by handed) ≡ length ext
found_long [] nothing e = refl
found_long (at ∷ ext) nothing e = absurd (none-some _ (sym e))
found_long [] (unread why) e = absurd (none-some _ (sym e))
found_long (at ∷ ext) (unread why) e = absurd (none-some _ (sym e))
found_long ext (read m) e =
    length-map (rests_of m.proof.spends) found_of ∙ (length-map m.proof.spends (λ (s : Spend). s.rest) ∙ count_passed ext m e)
