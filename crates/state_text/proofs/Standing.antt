-- The place of an entry that was read is one of the forest.
use Rattle.std.proofs.Common.{◌≡◌, ℕ, List, Some, subst}
use Rattle.std.specs.Int.{w32, w64}
use Rattle.uo_base.specs.Reading.{◌>>=◌, number_at}
use Rattle.uo_base.proofs.Formats.{bind_some, some_is}
use Rattle.uo_digest.specs.declared.digest.Digest.{Digest}
use Rattle.leaf_record.specs.Leaf.{Rest}
use Rattle.leaf_record.specs.Reading.{rest_at}
use Rattle.uo_digest.specs.Reading.{digest_in_front}
use Rattle.forest_place.specs.declared.place.Place.{Place}
use Rattle.forest_place.specs.Forest.{InForest}
use Rattle.forest_place.specs.declared.naming.Naming.{Naming}
use Rattle.forest_place.specs.Named.{place_by}
use Rattle.forest_place.proofs.NamedLaws.{place_by-some}
use Rattle.state_text.specs.declared.entry.StoredEntry.{StoredEntry}
use Rattle.state_text.specs.Stored.{StandsWithin}
use Rattle.state_text.specs.Reading.{placed_at, entry_at}

abbrev entry_of : ℕ → Place → Digest → ℕ → Rest → StoredEntry
entry_of number place txid index rest = record {
  number = number;
  place = place;
  leaf = record { point = record { txid = txid; index = index }; rest = rest };
}

placed_within : (by : Naming) (n : ℕ) (bytes : List ℕ) (p : Place) (after : List ℕ) → placed_at by n bytes ≡ Some (p, after) → InForest n p.row p.off
unfolding placed_at
placed_within by n bytes p after e =
    let a = bind_some (number_at w64 bytes) (λ number. place_by by n number.0 >>= λ place. Some (place, number.1)) (p, after) e in
    let b = bind_some (place_by by n a.0.0) (λ place. Some (place, a.0.1)) (p, after) a.2 in
    subst (λ (q : Place × List ℕ). InForest n q.0.row q.0.off) (some_is (b.0, a.0.1) (p, after) b.2) (place_by-some by n a.0.0 b.0 b.1).0

pub entry_within : (by : Naming) (n : ℕ) (bytes : List ℕ) (e : StoredEntry) (after : List ℕ) → entry_at by n bytes ≡ Some (e, after)
    → StandsWithin n e
unfolding entry_at
entry_within by n bytes e after h =
    let a = bind_some (number_at w64 bytes) (λ number. placed_at by n number.1 >>= λ place. digest_in_front place.1 >>= λ txid. number_at w32 txid.1
    >>= λ index. rest_at index.1 >>= λ rest. Some (entry_of number.0 place.0 txid.0 index.0 rest.0, rest.1)) (e, after) h in
    let b = bind_some (placed_at by n a.0.1) (λ place. digest_in_front place.1 >>= λ txid. number_at w32 txid.1 >>= λ index. rest_at index.1 >>=
    λ rest. Some (entry_of a.0.0 place.0 txid.0 index.0 rest.0, rest.1)) (e, after) a.2 in
    let c = bind_some (digest_in_front b.0.1) (λ txid. number_at w32 txid.1 >>= λ index. rest_at index.1 >>= λ rest. Some
    (entry_of a.0.0 b.0.0 txid.0 index.0 rest.0, rest.1)) (e, after) b.2 in
    let d = bind_some (number_at w32 c.0.1) (λ index. rest_at index.1 >>= λ rest. Some (entry_of a.0.0 b.0.0 c.0.0 index.0 rest.0, rest.1)) (e, after)
    c.2 in
    let r = bind_some (rest_at d.0.1) (λ rest. Some (entry_of a.0.0 b.0.0 c.0.0 d.0.0 rest.0, rest.1)) (e, after) d.2 in
    let made : StoredEntry × List ℕ = (entry_of a.0.0 b.0.0 c.0.0 d.0.0 r.0.0, r.0.1) in
    subst (λ (q : StoredEntry × List ℕ). StandsWithin n q.0) (some_is made (e, after) r.2) (placed_within by n a.0.1 b.0.0 b.0.1 b.1)
