-- Sets and maps by outpoint and by id.
use Rattle.std.specs.Prelude.{◌≡◌, ℕ, List, [], ◌∷◌, slice_index}
use Rattle.std.specs.Int.{w64, from_le_bytes}
use Rattle.std.specs.List.{list_any}
use Rattle.std.specs.declared.cmp.Ordering.{Ordering}
use Rattle.std.specs.Ordering.{nat_cmp, ordering_then}
use Rattle.std.specs.Cmp.Lexicographic.{slice_cmp}
use Rattle.std.specs.BTreeSet as set
use Rattle.std.specs.BTreeSet.{BTreeSet}
use Rattle.uo_digest.specs.declared.digest.Digest.{Digest}
use Rattle.leaf_record.specs.Leaf.{Outpoint}
use Rattle.leaf_record.specs.History.{same_point}
use Rattle.block_rules.specs.declared.outpoint.OutpointKey.{OutpointKey}
use Rattle.block_rules.specs.declared.outpoint.TxidKey.{TxidKey}

abbrev pub point_of : OutpointKey → Outpoint
point_of key = record { txid = record { 0 = key.txid }; index = key.index }

-- by index and then by id
abbrev pub key_cmp : OutpointKey → OutpointKey → Ordering
key_cmp a b = ordering_then (nat_cmp a.index b.index) (slice_cmp nat_cmp a.txid b.txid)

-- the set has the keys of these outpoints, and no other
abbrev pub HasPoints : BTreeSet OutpointKey → List Outpoint → Type 0
HasPoints seen points = (key : OutpointKey) → set.contains key_cmp seen key ≡ list_any (same_point (point_of key)) points

-- the first eight bytes of an id, as a number
abbrev pub head_of : Digest → ℕ
head_of id = from_le_bytes w64 (slice_index id.0 0 ∷ slice_index id.0 1 ∷ slice_index id.0 2 ∷ slice_index id.0 3 ∷ slice_index id.0 4
    ∷ slice_index id.0 5 ∷ slice_index id.0 6 ∷ slice_index id.0 7 ∷ [])

abbrev pub key_of_id : Digest → TxidKey
key_of_id id = record { head = head_of id; txid = id.0 }

-- by head and then by all of it
abbrev pub id_cmp : TxidKey → TxidKey → Ordering
id_cmp a b = ordering_then (nat_cmp a.head b.head) (slice_cmp nat_cmp a.txid b.txid)
