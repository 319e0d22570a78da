-- Blocks that name each other, one after the other, told to a node.
use Rattle.std.proofs.Common.{◌≡◌, ℕ, true, List, [], ◌∷◌, ◌++◌, length, map, Option, Some, None, refl, sym, ◌∙◌, subst, ◌⊎◌, inl, inr}
use Rattle.std.specs.List.{AllByRecursion}
use Rattle.std.proofs.lemmas.Cmp.{nat_list_eq_equiv}
use Rattle.uo_base.specs.FeedEvent.{FeedEvent, BlockCame, StrayCame}
use Rattle.uo_digest.specs.declared.digest.Digest.{Digest}
use Rattle.block_codec.specs.Block.{Block}
use Rattle.block_codec.specs.Merkle.{is_same}
use Rattle.block_codec.specs.Reading.{block_in}
use Rattle.block_rules.specs.declared.refusal.Refusal.{Refusal}
use Rattle.block_rules.specs.declared.refusal.Refusal.TheVariants as Why
use Rattle.block_rules.specs.Blocks.{external, new_records}
use Rattle.node_rules.specs.Judging.{Rules, refusal, compact, own}
use Rattle.node_rules.specs.Machine as Chain
use Rattle.node_rules.specs.Machine.{State, chain_of, event_in, own_judge, by_refusal, verdicts, verdict_by, verdict_before}
use Rattle.node_rules.specs.Reading.{nothing}
use Rattle.compact_node.specs.Node.{NodeState, node_refusal, node_with, node_by, view_over}
use Rattle.compact_node.specs.Throughout.{verdicts_on}
use Rattle.chain_order.specs.Arrivals.{Arrival}
use Rattle.chain_order.specs.Path.{AreLinked}
use Rattle.order_laws.specs.Links.{first_refusal}
use Rattle.order_laws.proofs.Arrived.{IsRead, IsOfBlock, block_is}
use Rattle.order_laws.proofs.Others.{IsOther, all_other, compact_other, own_other}

-- the event of a block without a message
abbrev pub block_event : Arrival → FeedEvent
block_event a = BlockCame a.body None

-- nothing comes behind the blocks, or a stray
abbrev pub IsRest : List FeedEvent → Type 0
IsRest strays = (strays ≡ []) ⊎ (strays ≡ StrayCame ∷ [])

same_hash : (d e : Digest) → d ≡ e → is_same d e ≡ true
same_hash d e t = subst (λ h. is_same d h ≡ true) t (nat_list_eq_equiv.refl d.0)

none_first : first_refusal [] ≡ Some Why.Link → ⊥
none_first e = absurd cc

-- ---- a compact node

module _ (H : List ℕ → Digest) where
  rest_followed : (s : NodeState) (strays : List FeedEvent) → IsRest strays → IsOther (first_refusal (verdicts_on H s (map event_in strays)))
  rest_followed s strays (inl none) = subst (λ xs. IsOther (first_refusal (verdicts_on H s (map event_in xs)))) (sym none) none_first
  rest_followed s strays (inr one) = subst (λ xs. IsOther (first_refusal (verdicts_on H s (map event_in xs)))) (sym one) none_first

  pub links_followed : (path : List Arrival) (s : NodeState) (events strays : List FeedEvent) → AreLinked s.newest.chain.tip path
      → AllByRecursion IsRead path
      → (behind : List FeedEvent) → map block_event path ≡ events ++ behind → IsRest strays
      → IsOther (first_refusal (verdicts_on H s (map event_in (events ++ strays))))
  links_followed path s [] strays linked are behind e rest = rest_followed s strays rest
  links_followed [] s (event ∷ events) strays linked are behind e rest = absurd cc
  links_followed (a ∷ path) s (event ∷ events) strays linked are behind e rest =
      let first : event ≡ block_event a = cc in
      let others : map block_event path ≡ events ++ behind = cc in
      subst (λ x. IsOther (first_refusal (verdicts_on H s (event_in x ∷ map event_in (events ++ strays))))) (sym first)
      (by_block (block_in a.body) (λ b g. block_is a b are.0 g)
      (λ t tip. links_followed path t events strays (subst (λ h. AreLinked h path) (sym tip) linked.1) are.1 behind others rest))
    where
      told : (b : Block) → IsOfBlock a b → ((t : NodeState) → t.newest.chain.tip ≡ a.hash
          → IsOther (first_refusal (verdicts_on H t (map event_in (events ++ strays)))))
          → (why : Option Refusal) → IsOther why
          → IsOther (first_refusal (verdict_by s.newest.chain b (length (new_records b s.newest.chain.blocks)) why
          ∷ verdicts_on H (node_by why (node_with H s b nothing) s) (map event_in (events ++ strays))))
      told b is more None other = more (node_with H s b nothing) is.hash
      told b is more (Some why) other = other

      by_block : (r : Option Block) → ((b : Block) → r ≡ Some b → IsOfBlock a b)
          → ((t : NodeState) → t.newest.chain.tip ≡ a.hash → IsOther (first_refusal (verdicts_on H t (map event_in (events ++ strays)))))
          → IsOther (first_refusal (verdicts_on H s (Chain.BlockCame r nothing ∷ map event_in (events ++ strays))))
      by_block None is more = λ e. absurd cc
      by_block (Some b) is more =
          let of = is b refl in
          let chain = s.newest.chain in
          let same = same_hash b.header.prev chain.tip (of.prev ∙ linked.0) in
          told b of more (node_refusal H s b nothing)
          (all_other s.rules chain b (compact H (view_over s.newest) (external b chain.blocks) nothing) same
          (compact_other H (view_over s.newest) (external b chain.blocks)))

-- ---- a proving node

rest_proved : (rules : Rules) (s : State) (strays : List FeedEvent) → IsRest strays
    → IsOther (first_refusal (verdicts rules own_judge s (map event_in strays)))
rest_proved rules s strays (inl none) = subst (λ xs. IsOther (first_refusal (verdicts rules own_judge s (map event_in xs)))) (sym none) none_first
rest_proved rules s strays (inr one) = subst (λ xs. IsOther (first_refusal (verdicts rules own_judge s (map event_in xs)))) (sym one) none_first

pub links_proved : (rules : Rules) (path : List Arrival) (s : State) (events strays : List FeedEvent) → AreLinked s.now.tip path
    → AllByRecursion IsRead path
    → (behind : List FeedEvent) → map block_event path ≡ events ++ behind → IsRest strays
    → IsOther (first_refusal (verdicts rules own_judge s (map event_in (events ++ strays))))
links_proved rules path s [] strays linked are behind e rest = rest_proved rules s strays rest
links_proved rules [] s (event ∷ events) strays linked are behind e rest = absurd cc
links_proved rules (a ∷ path) s (event ∷ events) strays linked are behind e rest =
    let first : event ≡ block_event a = cc in
    let others : map block_event path ≡ events ++ behind = cc in
    subst (λ x. IsOther (first_refusal (verdicts rules own_judge s (event_in x ∷ map event_in (events ++ strays))))) (sym first)
    (by_block (block_in a.body) (λ b g. block_is a b are.0 g)
    (λ t tip. links_proved rules path t events strays (subst (λ h. AreLinked h path) (sym tip) linked.1) are.1 behind others rest))
  where
    told : (b : Block) → IsOfBlock a b → ((t : State) → t.now.tip ≡ a.hash
        → IsOther (first_refusal (verdicts rules own_judge t (map event_in (events ++ strays)))))
        → (why : Option Refusal) → IsOther why
        → let o = by_refusal s b (own s.now.history (external b s.now.blocks)) why in
        IsOther (first_refusal (verdict_before o.verdict (verdicts rules own_judge o.state (map event_in (events ++ strays)))))
    told b is more None other = more _ is.hash
    told b is more (Some why) other = other

    by_block : (r : Option Block) → ((b : Block) → r ≡ Some b → IsOfBlock a b)
        → ((t : State) → t.now.tip ≡ a.hash → IsOther (first_refusal (verdicts rules own_judge t (map event_in (events ++ strays)))))
        → IsOther (first_refusal (verdicts rules own_judge s (Chain.BlockCame r nothing ∷ map event_in (events ++ strays))))
    by_block None is more = λ e. absurd cc
    by_block (Some b) is more =
        let of = is b refl in
        let evidence = own s.now.history (external b s.now.blocks) in
        let same = same_hash b.header.prev s.now.tip (of.prev ∙ linked.0) in
        told b of more (refusal rules (chain_of s.now) b evidence)
        (all_other rules (chain_of s.now) b evidence same (own_other s.now.history (external b s.now.blocks)))
