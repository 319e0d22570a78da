-- Reading a state from left to right.
use Rattle.std.specs.Prelude.{ℕ, zero, suc, ◌==◌, List, length, Option, Some, None, nat_le, Result, Ok, Err, if◌then◌else◌}
use Rattle.std.specs.Int.{w32, w64}
use Rattle.uo_base.specs.declared.event.Net.{Net}
use Rattle.uo_base.specs.declared.event.Net.TheVariants.{Main, Regtest}
use Rattle.uo_base.specs.Reading.{◌>>=◌, byte_at, number_at, times}
use Rattle.uo_base.specs.Compact.{sized_at, counted_at}
use Rattle.uo_digest.specs.declared.digest.Digest.{Digest}
use Rattle.leaf_record.specs.Reading.{rest_at}
use Rattle.uo_digest.specs.Reading.{digest_in_front}
use Rattle.forest_place.specs.declared.place.Place.{Place}
use Rattle.forest_place.specs.Forest.{is_slot}
use Rattle.forest_place.specs.declared.naming.Naming.{Naming}
use Rattle.forest_place.specs.Named.{place_by}
use Rattle.forest_roots.specs.Stump.{Stump, empty_roots, with_root}
use Rattle.state_text.specs.declared.fault.StateFault.{StateFault}
use Rattle.state_text.specs.declared.fault.StateFault.TheVariants.{NotAState, Version, NoMemory}
use Rattle.state_text.specs.declared.entry.StoredEntry.{StoredEntry}
use Rattle.state_text.specs.Stored.{LevelValue, StateValue}

-- at most so many entries
unfoldable pub leaves_at : ℕ → List ℕ → Option (ℕ × List ℕ)
leaves_at most bytes = do
  n ← number_at w64 bytes
  if nat_le n.0 most then Some n else None

unfoldable pub root_at : List ℕ → Option (Option Digest × List ℕ)
root_at bytes = do
  mark ← byte_at bytes
  if mark.0 == 0 then Some (None, mark.1)
      else if mark.0 == 1 then (digest_in_front mark.1 >>= λ d. Some (Some d.0, d.1))
      else None

-- the roots of the slots below a row, put into these roots
unfoldable pub roots_at : ℕ → Stump → List ℕ → Option (Stump × List ℕ)
roots_at zero f bytes = Some (f, bytes)
roots_at (suc row) f bytes =
    if is_slot f.leaves row
    then (root_at bytes >>= λ root. roots_at row (with_root f row root.0) root.1)
    else roots_at row f bytes

-- the place of the forest over n that is named
unfoldable pub placed_at : Naming → ℕ → List ℕ → Option (Place × List ℕ)
placed_at by n bytes = do
  number ← number_at w64 bytes
  place ← place_by by n number.0
  Some (place, number.1)

unfoldable pub entry_at : Naming → ℕ → List ℕ → Option (StoredEntry × List ℕ)
entry_at by n bytes = do
  number ← number_at w64 bytes
  place ← placed_at by n number.1
  txid ← digest_in_front place.1
  index ← number_at w32 txid.1
  rest ← rest_at index.1
  Some (record { number = number.0; place = place.0; leaf = record { point = record { txid = txid.0; index = index.0 }; rest = rest.0 } }, rest.1)

-- newest block, and the roots
unfoldable pub head_at : ℕ → List ℕ → Option ((Digest × Stump) × List ℕ)
head_at most bytes = do
  tip ← digest_in_front bytes
  n ← leaves_at most tip.1
  roots ← roots_at 40 (empty_roots n.0) n.1
  Some ((tip.0, roots.0), roots.1)

unfoldable pub level_at : Naming → ℕ → List ℕ → Option (LevelValue × List ℕ)
level_at by most bytes = do
  head ← head_at most bytes
  kept ← counted_at (entry_at by head.0.1.leaves) head.1
  hashes ← counted_at digest_in_front kept.1
  Some (record { tip = head.0.0; roots = head.0.1; kept = kept.0; hashes = hashes.0 }, hashes.1)

unfoldable pub net_at : List ℕ → Option (Net × List ℕ)
net_at bytes = do
  code ← byte_at bytes
  if code.0 == 0 then Some (Main, code.1) else if code.0 == 1 then Some (Regtest, code.1) else None

-- network, and count of blocks
unfoldable pub front_at : List ℕ → Option ((Net × ℕ) × List ℕ)
front_at bytes = do
  net ← net_at bytes
  blocks ← number_at w32 net.1
  Some ((net.0, blocks.0), blocks.1)

-- what follows the version
unfoldable pub body_at : Naming → ℕ → List ℕ → Option (StateValue × List ℕ)
body_at by most bytes = do
  front ← front_at bytes
  scripts ← counted_at sized_at front.1
  count ← byte_at scripts.1
  levels ← times (level_at by most) count.0 count.1
  Some (record { net = front.0.0; blocks = front.0.1; scripts = scripts.0; levels = levels.0 }, levels.1)

-- a body, and nothing after it
unfoldable pub whole_at : Naming → ℕ → List ℕ → Option (StateValue × List ℕ)
whole_at by most bytes = do
  body ← body_at by most bytes
  if length body.1 == 0 then Some body else None

-- What a fault says of a claim that there is nothing: that there is nothing, or that there was no memory. No version is told.
abbrev pub claims : StateFault → Type 0 → Type 0
claims NotAState Nothing = Nothing
claims NoMemory Nothing = Unit {0}
claims (Version v) Nothing = ⊥

-- A call that judges found this, or that it does not hold.
abbrev pub Judges : {X : Type 0} → Result X StateFault → Type 0 → Type 0
Judges (Ok done) Holds = Holds
Judges (Err e) Holds = claims e (Holds → ⊥)
