-- What the calls on a block with a message beside it answer, by what a bridge keeps.
use Rattle.std.specs.Prelude.{◌≡◌, ℕ, Bool, true, false, List, Option, Some, None}
use Rattle.uo_digest.specs.declared.digest.Digest.{Digest}
use Rattle.block_codec.specs.Block.{Block}
use Rattle.block_rules.specs.declared.chain.Outside.{Outside}
use Rattle.block_rules.specs.declared.fault.RuleFault.{RuleFault}
use Rattle.block_rules.specs.declared.fault.RuleFault.TheVariants.{Refused, NoMemory}
use Rattle.block_rules.specs.declared.refusal.Refusal.{Refusal}
use Rattle.block_rules.specs.Steps.{first_of}
use Rattle.node_rules.specs.Accepting.{View}
use Rattle.node_rules.specs.Known.{view_of}
use Rattle.node_rules.specs.Reading.{Handed}
use Rattle.node_rules.specs.Judging.{compact}
use Rattle.bridge_prover.specs.Bridge.{BridgeState}
use Rattle.bridge_prover.specs.Full.{watched_by, history_of, is_forged_on, full_refusal_on, after_shown}

-- the view of what a bridge keeps
abbrev pub view_on : (List ℕ → Digest) → BridgeState → View
view_on H s = view_of H (watched_by s) (history_of s)

-- the first step at which this view refuses what stands beside a block
abbrev pub refusal_beside : (List ℕ → Digest) → BridgeState → List Outside → Handed → Option Refusal
refusal_beside H s ext handed = first_of (compact H (view_on H s) ext handed).steps

-- no rule is broken, and this is what is kept then; or the event is forged, and nothing changes
abbrev pub IsTaken : (List ℕ → Digest) → BridgeState → Block → Handed → Bool → BridgeState → Type 0
IsTaken H s b handed true t =
    (is_forged_on H s b handed ≡ false) × (full_refusal_on H s b handed ≡ None) × (t ≡ after_shown H s b handed)
IsTaken H s b handed false t = (is_forged_on H s b handed ≡ true) × (t ≡ s)

-- this is the first rule that is broken
abbrev pub IsNotTaken : (List ℕ → Digest) → BridgeState → Block → Handed → RuleFault → Type 0
IsNotTaken H s b handed (Refused why) = (is_forged_on H s b handed ≡ false) × (full_refusal_on H s b handed ≡ Some why)
IsNotTaken H s b handed NoMemory = Unit {0}
