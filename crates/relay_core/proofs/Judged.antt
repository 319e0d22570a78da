-- What a verdict on a block leaves of the chain and of what was sent.
use Rattle.std.proofs.Common.{◌≡◌, ℕ, false, List, [], ◌++◌, length, Option, Some, None, cond, refl, sym, ap, ◌∙◌}
use Rattle.std.proofs.lemmas.Bool.{false≢true}
use Rattle.std.proofs.lemmas.List.{append-nil}
use Rattle.uo_base.specs.FeedEvent.{FeedEvent}
use Rattle.uo_digest.specs.declared.digest.Digest.{Digest}
use Rattle.block_codec.specs.Block.{Block}
use Rattle.block_rules.specs.declared.refusal.Refusal.{Refusal}
use Rattle.block_rules.specs.declared.verdict.Verdict.{Verdict}
use Rattle.block_rules.specs.declared.verdict.Verdict.TheVariants.{Accepted, Refused, RolledBack, TooDeep, Stray}
use Rattle.block_rules.specs.Blocks.{new_records}
use Rattle.node_rules.specs.Reading.{Handed}
use Rattle.node_rules.specs.Machine.{BlockCame, verdict_by}
use Rattle.bridge_prover.specs.Bridge.{BridgeState, refusal_on, verdict_on}
use Rattle.relay_core.specs.World.{Sent, chain_after, is_acceptance, sent_of, sent_after}

pub not_accepted : (v : Verdict) → ((height : ℕ) (hash : Digest) (leaves : ℕ) → v ≡ Accepted height hash leaves → ⊥) → is_acceptance v ≡ false
not_accepted (Accepted height hash leaves) not = absurd (not height hash leaves refl)
not_accepted (Refused height hash why) not = refl
not_accepted (RolledBack count height hash leaves) not = refl
not_accepted (TooDeep asked kept) not = refl
not_accepted Stray not = refl

pub sent_same : (v : Verdict) (event : FeedEvent) (message : Option (List ℕ)) (sent : List Sent) → is_acceptance v ≡ false
    → sent_after v event message sent ≡ sent
sent_same v event message sent off = ap (λ b. sent ++ cond b (sent_of event message) []) off ∙ append-nil sent

pub chain_same : (s : BridgeState) (y : Option Block) (handed : Handed) (serial : ℕ) (chain : List ℕ)
    → is_acceptance (verdict_on s (BlockCame y handed)) ≡ false → chain_after (verdict_on s (BlockCame y handed)) serial chain ≡ chain
chain_same s None handed serial chain off = refl
chain_same s (Some b) handed serial chain off = by (refusal_on s b) off
  where
    by : (x : Option Refusal) → let v = verdict_by s.chain b (length (new_records b s.chain.blocks)) x in
        is_acceptance v ≡ false → chain_after v serial chain ≡ chain
    by None off = absurd (false≢true (sym off))
    by (Some why) off = refl
