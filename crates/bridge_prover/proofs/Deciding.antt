-- The first rule that a block breaks.
use Rattle.std.proofs.Common.{◌≡◌, ℕ, ◌+◌, ◌*◌, ◌≤◌, List, [], ◌∷◌, ◌++◌, map, length, Option, Some, None, Err, sym, ap, ap₂, ◌∙◌, subst, arith}
use Rattle.std.proofs.lemmas.List.{length-map}
use Rattle.uo_digest.specs.declared.digest.Digest.{Digest}
use Rattle.block_codec.specs.Block.{Block, BlockFits, block_hash_of}
use Rattle.leaf_record.specs.Leaf.{Leaf, Rest}
use Rattle.leaf_record.specs.History.{somes}
use Rattle.leaf_record.proofs.HistoryLaws.{somes-map}
use Rattle.block_rules.specs.declared.chain.Found.{Found}
use Rattle.block_rules.specs.declared.chain.Outside.{Outside}
use Rattle.block_rules.specs.declared.fault.RuleFault.{RuleFault}
use Rattle.block_rules.specs.declared.fault.RuleFault.TheVariants.{Refused, NoMemory}
use Rattle.block_rules.specs.declared.refusal.Refusal.{Refusal}
use Rattle.block_rules.specs.Steps.{first_of}
use Rattle.block_rules.specs.Blocks.{external, new_records}
use Rattle.block_rules.specs.Rules.{block_steps}
use Rattle.block_rules.specs.Money.{BlockSpends, spends_of, money_steps, found_of}
use Rattle.block_rules.specs.Judged.{ShapeJudged, IsShaped}
use Rattle.block_rules.proofs.Firsts.{each_passes}
use Rattle.node_rules.specs.Judging.{Evidence, own, newest_of}
use Rattle.node_rules.specs.Proving.{written_text}
use Rattle.node_rules.proofs.Newest.{all_found}
use Rattle.forest_place.specs.Position.{rows}
use Rattle.bridge_prover.proofs.Owning.{own_same}
use Rattle.bridge_prover.specs.Own.{own_in, first_missing, newest_in, leaves_in}
use Rattle.node_rules.specs.Judged.{IsFirst}
use Rattle.node_rules.proofs.Counted.{external_few}
use Rattle.node_rules.proofs.Firsts.{first-in, first-behind, none-both}
use Rattle.bridge_prover.specs.Bridge.{BridgeState, refusal_on, message_by, bridge_with}
use Rattle.bridge_prover.specs.Judged.{AreFound, IsReady, IsPassed}
use Rattle.bridge_prover.specs.Standing.{IsBridge}
use Rattle.bridge_prover.proofs.Next.{ready}

one_first : (x : Option Refusal) (fault : RuleFault) → IsFirst x fault → IsFirst (first_of (x ∷ [])) fault
one_first None (Refused why) e = e
one_first (Some y) (Refused why) e = e
one_first x NoMemory e = tt

one_passes : (x : Option Refusal) → x ≡ None → first_of (x ∷ []) ≡ None
one_passes x e = ap (λ y. first_of (y ∷ [])) e

module _ (s : BridgeState) (b : Block) where
  abbrev before : List (Option Refusal)
  before = block_steps s.rules.net s.rules.limits s.chain b

  abbrev ext : List Outside
  ext = external b s.chain.blocks

  abbrev evidence : Evidence
  evidence = own_in s.held ext

  abbrev on_money : List (Option Refusal)
  on_money = money_steps (spends_of s.rules.net s.chain.blocks b) evidence.found

  pub shape_refused : (fault : RuleFault) → ShapeJudged s.rules.net s.rules.limits s.chain b (Err fault) → IsFirst (refusal_on s b) fault
  shape_refused (Refused why) e = first-in before (evidence.steps ++ on_money) (Refused why) e
  shape_refused NoMemory e = tt

  module _ (spends : BlockSpends) (shaped : IsShaped s.rules.net s.rules.limits s.chain b spends) where
    same_external : spends.external ≡ ext
    same_external = ap (λ (x : BlockSpends). x.external) shaped.spends

    pub missing_refused : (fault : RuleFault) → IsFirst (first_missing s.held spends.external) fault → IsFirst (refusal_on s b) fault
    missing_refused fault e =
        first-behind before (evidence.steps ++ on_money) fault shaped.passes
        (first-in evidence.steps on_money fault (one_first (first_missing s.held ext) fault
        (subst (λ x. IsFirst (first_missing s.held x) fault) same_external e)))

    module _ (numbers : List ℕ) (found : map Some numbers ≡ newest_in s.held spends.external)
        (passes : first_missing s.held spends.external ≡ None) where
      pub numbers_are : numbers ≡ (own_in s.held ext).numbers
      numbers_are = sym (somes-map numbers) ∙ ap somes (found ∙ ap (newest_in s.held) same_external)

      long : length numbers ≡ length ext
      long = sym (length-map numbers Some) ∙ (ap length found ∙ (length-map spends.external _ ∙ ap length same_external))

      none_missing : first_of evidence.steps ≡ None
      none_missing = one_passes (first_missing s.held ext) (ap (first_missing s.held) (sym same_external) ∙ passes)

      module _ (outputs : List Found) (are : outputs ≡ map (λ (leaf : Leaf). found_of leaf.rest) (leaves_in s.held numbers)) where
        found_are : outputs ≡ evidence.found
        found_are = are ∙ ap (λ ns. map (λ (leaf : Leaf). found_of leaf.rest) (leaves_in s.held ns)) numbers_are

        same_money : money_steps spends outputs ≡ on_money
        same_money = ap₂ money_steps shaped.spends found_are

        pub money_refused : (why : Refusal) → first_of (money_steps spends outputs) ≡ Some why → refusal_on s b ≡ Some why
        money_refused why e =
            first-behind before (evidence.steps ++ on_money) (Refused why) shaped.passes
            (first-behind evidence.steps on_money (Refused why) none_missing (ap first_of (sym same_money) ∙ e))

        pub block_passes : first_of (money_steps spends outputs) ≡ None → refusal_on s b ≡ None
        block_passes e = none-both before (evidence.steps ++ on_money) shaped.passes
            (none-both evidence.steps on_money none_missing (ap first_of (sym same_money) ∙ e))

module _ (H : List ℕ → Digest) (s : BridgeState) (b : Block) (spends : BlockSpends) (numbers : List ℕ) (outputs : List Found)
    (rests : List Rest) (is : IsBridge H s) (shaped : IsShaped s.rules.net s.rules.limits s.chain b spends)
    (known : AreFound s.held spends.external numbers outputs rests) where
  pub money_refused_by : (why : Refusal) → first_of (money_steps spends outputs) ≡ Some why → refusal_on s b ≡ Some why
  money_refused_by why e = money_refused s b spends shaped numbers known.each known.passes outputs known.are why e

  same_evidence : own_in s.held (external b s.chain.blocks) ≡ own is.levels.now.history (external b s.chain.blocks)
  same_evidence = own_same s.held is.levels.now.history is.rise is.stands.index (external b s.chain.blocks)

  -- as many outputs are found as there are external inputs
  pub found_count : length outputs ≡ length spends.external
  found_count =
      let steps : first_of (own is.levels.now.history (external b s.chain.blocks)).steps ≡ None =
      ap (λ (e : Evidence). first_of e.steps) (sym same_evidence) ∙ none_missing s b spends shaped numbers known.each known.passes in
      let all = all_found is.levels.now.history (external b s.chain.blocks)
      (each_passes (own is.levels.now.history (external b s.chain.blocks)).steps 0 steps) in
      ap length (found_are s b spends shaped numbers known.each known.passes outputs known.are ∙ ap (λ (e : Evidence). e.found) same_evidence)
      ∙ (length-map (somes (newest_of is.levels.now.history (external b s.chain.blocks))) _
      ∙ (sym (length-map (somes (newest_of is.levels.now.history (external b s.chain.blocks))) Some) ∙ (ap length all
      ∙ (length-map (external b s.chain.blocks) _ ∙ ap length (sym (same_external s b spends shaped))))))

  pub number_count : length numbers ≡ length (external b s.chain.blocks)
  number_count = long s b spends shaped numbers known.each known.passes

  pub new_count : length spends.new ≡ length (new_records b s.chain.blocks)
  new_count = ap (λ (x : BlockSpends). length x.new) shaped.spends

  module _ (paid : first_of (money_steps spends outputs) ≡ None) where
    pub passes_by : refusal_on s b ≡ None
    passes_by = block_passes s b spends shaped numbers known.each known.passes outputs known.are paid

    pub ready_by : BlockFits b → (hash : Digest) → IsReady H s hash numbers spends.new
    ready_by fits hash =
        let few = external_few s.rules.net s.rules.limits s.chain b spends fits shaped in
        let count = number_count in
        let same = ap length (same_external s b spends shaped) in
        subst (IsReady H s hash numbers) (sym (ap (λ (x : BlockSpends). x.new) shaped.spends))
        (ready H s b is passes_by hash numbers (numbers_are s b spends shaped numbers known.each known.passes) (omega (arith, few, count, same)))

    pub proved_by : (hash : Digest) (message : Option (List ℕ)) (t : BridgeState) → hash ≡ block_hash_of b
        → message ≡ written_text spends.external (message_by H s.watch s.entries s.held numbers) → t ≡ bridge_with H s hash numbers spends.new
        → IsPassed H s b message t
    proved_by hash message t at says next =
        let are = numbers_are s b spends shaped numbers known.each known.passes in
        record {
          passes = passes_by;
          says = says ∙ ap₂ (λ ext ns. written_text ext (message_by H s.watch s.entries s.held ns)) (same_external s b spends shaped) are;
          next = next ∙ (ap₂ (λ h ns. bridge_with H s h ns spends.new) at are
              ∙ ap (bridge_with H s (block_hash_of b) (own_in s.held (external b s.chain.blocks)).numbers)
              (ap (λ (x : BlockSpends). x.new) shaped.spends));
        }

    pub steps_by : (before after : ℕ) → after ≤ before + length numbers * rows (length s.entries) + 2 * length spends.new + 40
        → after ≤ before + (length (external b s.chain.blocks) * rows (length s.entries) + 2 * length (new_records b s.chain.blocks) + 40)
    steps_by before after le =
        let few = subst (λ n. after ≤ before + n * rows (length s.entries) + 2 * length spends.new + 40) number_count le in
        omega (arith, few, new_count)
