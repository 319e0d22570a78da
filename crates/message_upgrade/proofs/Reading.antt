-- What is read of bytes, for an upgrade of them.
use Rattle.std.proofs.Common.{◌≡◌, ◌≢◌, ℕ, zero, suc, true, false, List, [], ◌∷◌, map, Some, refl, ap, ◌∙◌}
use Rattle.std.specs.Prelude.{slice_get, ◌↔◌}
use Rattle.std.proofs.lemmas.Bool.{true≢false}
use Rattle.std.proofs.lemmas.Option.{same_Some, none-some}
use Rattle.block_rules.specs.declared.refusal.Refusal.{Refusal}
use Rattle.uo_base.specs.Reading.{IsBytes}
use Rattle.forest_place.specs.declared.naming.Naming.{Naming}
use Rattle.forest_place.specs.declared.naming.Naming.TheVariants.{Position, FixedPosition}
use Rattle.forest_place.specs.Named.{version_of, place_by}
use Rattle.leaf_record.specs.Leaf.{Rest}
use Rattle.proof_wire.specs.BlockProof.{Spend, targets_of, rests_of, message_text, MessageFits}
use Rattle.proof_wire.specs.declared.fault.MessageFault.{MessageFault}
use Rattle.proof_wire.specs.declared.fault.MessageFault.TheVariants.{NotAMessage, Version}
use Rattle.proof_wire.specs.declared.fault.MessageFault.TheVariants as Unread
use Rattle.node_rules.specs.Messages.{Message}
use Rattle.node_rules.specs.Reading.{Handed, nothing, unread, read, message_in}
use Rattle.node_rules.proofs.MessageLaws.{message_read, message_unread, message_version}
use Rattle.message_upgrade.specs.Upgrade.{fixed_number, renamed, in_version_2, is_by_position, is_first_version, is_old, upgraded_by, upgraded_as}
use Rattle.message_upgrade.specs.Upgrade.{upgraded}
use Rattle.message_upgrade.proofs.Upgrading.{upgraded_is}

-- ---- of what version a message is

pub other_version : (bytes : List ℕ) (m : Message) → MessageFits m → bytes ≡ message_text m → m.naming ≡ FixedPosition → is_old bytes ≡ false
other_version bytes m fits text other = ap is_first_version (message_read bytes m fits text) ∙ ap is_by_position other

pub no_message : (bytes : List ℕ) (why : Refusal) → message_in bytes ≡ unread why → is_old bytes ≡ false
no_message bytes why e = ap is_first_version e

pub refused_not_old : (bytes : List ℕ) (fault : MessageFault) → IsBytes bytes → (fault ≡ Unread.NoMemory → ⊥)
    → (fault ≡ NotAMessage → (m : Message) → MessageFits m → bytes ≡ message_text m → ⊥)
    → ((v : ℕ) → (fault ≡ Version v) ↔ ((slice_get bytes 0 ≡ Some v) × ((by : Naming) → v ≢ version_of by))) → is_old bytes ≡ false
refused_not_old bytes NotAMessage is_bytes some none version =
    no_message bytes _ (message_unread bytes is_bytes (none refl) (λ v e other. let f : NotAMessage ≡ Version v = (version v).1 (e, other) in cc))
refused_not_old bytes (Version v) is_bytes some none version = let w = (version v).0 refl in no_message bytes _ (message_version bytes v w.0 w.1)
refused_not_old bytes Unread.NoMemory is_bytes some none version = absurd (some refl)

pub old_is_old : (bytes : List ℕ) (m : Message) → message_in bytes ≡ read m → m.naming ≡ Position → is_old bytes ≡ true
old_is_old bytes m e old = ap is_first_version e ∙ ap is_by_position old

pub old_upgraded : (n : ℕ) (bytes : List ℕ) (m : Message) → message_in bytes ≡ read m → m.naming ≡ Position
    → upgraded n bytes ≡ message_text (in_version_2 n m)
old_upgraded n bytes m e old = upgraded_is n bytes (read m) e ∙ ap (λ (by : Naming). upgraded_by by n bytes m) old

pub other_upgraded : (n : ℕ) (bytes : List ℕ) → is_old bytes ≡ false → upgraded n bytes ≡ bytes
other_upgraded n bytes other = upgraded_is n bytes (message_in bytes) refl ∙ by (message_in bytes) other
  where
    by_naming : (by : Naming) (m : Message) → is_by_position by ≡ false → upgraded_by by n bytes m ≡ bytes
    by_naming Position m f = absurd (true≢false f)
    by_naming FixedPosition m f = refl

    by : (handed : Handed) → is_first_version handed ≡ false → upgraded_as n bytes handed ≡ bytes
    by nothing f = refl
    by (unread why) f = refl
    by (read m) f = by_naming m.naming m f

-- ---- its parts, one by one

pub renamed_at : (n : ℕ) (spends : List Spend) (i target : ℕ) (rest : Rest) → slice_get (targets_of spends) i ≡ Some target
    → slice_get (rests_of spends) i ≡ Some rest
    → slice_get (map (renamed n) spends) i ≡ Some (record { target = fixed_number (place_by Position n target); rest = rest })
renamed_at n [] i target rest t r = absurd (none-some target t)
renamed_at n (s ∷ spends) zero target rest t r =
    ap (λ (x : ℕ). let y : Spend = record { target = fixed_number (place_by Position n x); rest = s.rest } in Some y) (same_Some s.target target t)
    ∙ ap (λ (x : Rest). let y : Spend = record { target = fixed_number (place_by Position n target); rest = x } in Some y) (same_Some s.rest rest r)
renamed_at n (s ∷ spends) (suc i) target rest t r = renamed_at n spends i target rest t r
