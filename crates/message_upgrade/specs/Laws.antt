-- What holds of upgraded messages, whatever the digest function.
use Rattle.std.specs.Prelude.{◌≡◌, ℕ, ◌≤◌, ◌^◌, List, length, Option}
use Rattle.uo_base.specs.Reading.{IsBytes}
use Rattle.uo_digest.specs.declared.digest.Digest.{Digest}
use Rattle.forest_place.specs.declared.naming.Naming.TheVariants.{Position}
use Rattle.block_codec.specs.Block.{Block}
use Rattle.leaf_record.specs.History.{History}
use Rattle.block_rules.specs.declared.chain.Chain.{Chain}
use Rattle.node_rules.specs.Messages.{Message, named}
use Rattle.node_rules.specs.Accepting.{View}
use Rattle.node_rules.specs.Reading.{message_in}
use Rattle.node_rules.specs.Judging.{Rules, is_forged}
use Rattle.node_rules.specs.Machine.{BlockCame, State, full_judge, view_judge, step, verdict_over}
use Rattle.message_upgrade.specs.Upgrade.{in_version_2, upgraded}

-- in version 2 a message of version 1 names the same places
abbrev pub SamePlacesAreNamed : Type 0
SamePlacesAreNamed = (n : ℕ) (m : Message) → n ≤ 2 ^ 40 → m.naming ≡ Position → named n (in_version_2 n m) ≡ named n m

-- the text of the upgraded message is as long
abbrev pub UpgradedIsAsLong : Type 0
UpgradedIsAsLong = (n : ℕ) (message : List ℕ) → IsBytes message → length (upgraded n message) ≡ length message

-- Over a view the verdict is the same, with its details.
abbrev pub UpgradedIsJudgedByView : Type 0
UpgradedIsJudgedByView = (H : List ℕ → Digest) (rules : Rules) (chain : Chain) (v : View) (b : Block) (message : List ℕ)
    → v.n ≤ 2 ^ 40 → IsBytes message →
    verdict_over H rules chain v b (message_in (upgraded v.n message)) ≡ verdict_over H rules chain v b (message_in message)

-- Over a history one is forged exactly where the other is.
abbrev pub UpgradedIsForgedAlike : Type 0
UpgradedIsForgedAlike = (H : List ℕ → Digest) (scripts : List (List ℕ)) (rules : Rules) (chain : Chain) (us : History)
    (b : Block) (message : List ℕ) →
    length us ≤ 2 ^ 40 → IsBytes message →
    is_forged H scripts rules chain us b (message_in (upgraded (length us) message))
    ≡ is_forged H scripts rules chain us b (message_in message)

-- And a machine that judges by histories, or by the views of them, says the same of both, and is left in the same state.
abbrev pub UpgradedIsJudgedAlike : Type 0
UpgradedIsJudgedAlike = (H : List ℕ → Digest) (scripts : List (List ℕ)) (rules : Rules) (s : State) (b : Option Block)
    (message : List ℕ) →
    length s.now.history ≤ 2 ^ 40 → IsBytes message →
    let before = BlockCame b (message_in message) in
    let after = BlockCame b (message_in (upgraded (length s.now.history) message)) in
    (step rules (full_judge H scripts rules) s after ≡ step rules (full_judge H scripts rules) s before)
    × (step rules (view_judge H scripts) s after ≡ step rules (view_judge H scripts) s before)
