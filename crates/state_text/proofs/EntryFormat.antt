-- Places and kept entries are lawful formats.
use Rattle.std.proofs.Common.{◌≡◌, ℕ, ◌^◌, ◌<◌, ◌≤◌, List, [], ◌++◌, Some, refl, sym, ap, subst, ◌∙◌, append_assoc, append-nil, arith}
use Rattle.std.specs.Int.{w32, w64, to_le_bytes}
use Rattle.uo_base.specs.Reading.{IsBytes, ◌>>=◌, number_at}
use Rattle.uo_base.proofs.Formats.{Took, Lawful, same, led, ended, bind_some, some_is, Always, u32_lawful, u64_lawful}
use Rattle.uo_digest.specs.declared.digest.Digest.{Digest}
use Rattle.leaf_record.specs.Leaf.{Rest, RestFits, rest_text}
use Rattle.leaf_record.specs.Reading.{rest_at}
use Rattle.leaf_record.proofs.LeafLaws.{rest_lawful}
use Rattle.uo_digest.specs.Reading.{digest_text, IsDigest}
use Rattle.uo_digest.specs.Reading.{digest_in_front}
use Rattle.uo_digest.proofs.DigestLaws.{digest_lawful}
use Rattle.forest_place.specs.declared.place.Place.{Place}
use Rattle.forest_place.specs.Forest.{InForest}
use Rattle.forest_place.specs.declared.naming.Naming.{Naming}
use Rattle.forest_place.specs.Named.{number_by, place_by}
use Rattle.forest_place.proofs.NamedLaws.{place_by-some, place_by-number, number_by-fits}
use Rattle.state_text.specs.declared.entry.StoredEntry.{StoredEntry}
use Rattle.state_text.specs.Stored.{entry_text}
use Rattle.state_text.specs.Fits.{EntryFits}
use Rattle.state_text.specs.Reading.{placed_at, entry_at}

placed_took : (by : Naming) (n : ℕ) → n < 2 ^ 40 → (bytes : List ℕ) (p : Place) (rest : List ℕ) → IsBytes bytes
    → placed_at by n bytes ≡ Some (p, rest) → Took bytes (to_le_bytes w64 (number_by by n p)) rest (InForest n p.row p.off)
unfolding placed_at
placed_took by n few bytes p rest is_bytes e =
    let a = bind_some (number_at w64 bytes) (λ number. place_by by n number.0 >>= λ place. Some (place, number.1)) (p, rest) e in
    let b = bind_some (place_by by n a.0.0) (λ place. Some (place, a.0.1)) (p, rest) a.2 in
    let t = u64_lawful.took bytes a.0.0 a.0.1 is_bytes a.1 in
    let w = place_by-some by n a.0.0 b.0 b.1 in
    subst (λ (q : Place × List ℕ). Took bytes (to_le_bytes w64 (number_by by n q.0)) q.1 (InForest n q.0.row q.0.off))
    (some_is (b.0, a.0.1) (p, rest) b.2)
    (record { fits = w.0; parts = t.parts ∙ ap (λ (k : ℕ). to_le_bytes w64 k ++ a.0.1) (sym w.1); rest_bytes = t.rest_bytes })

placed_again : (by : Naming) (n : ℕ) → n < 2 ^ 40 → (p : Place) (rest : List ℕ) → InForest n p.row p.off
    → placed_at by n (to_le_bytes w64 (number_by by n p) ++ rest) ≡ Some (p, rest)
unfolding placed_at
placed_again by n few p rest within = let low : n ≤ 2 ^ 40 = omega (arith, few) in
    rw (u64_lawful.again (number_by by n p) rest (number_by-fits by n p low within), place_by-number by n p low within) refl

pub placed_lawful : (by : Naming) (n : ℕ) → n < 2 ^ 40
    → Lawful (λ p. InForest n p.row p.off) (λ p. to_le_bytes w64 (number_by by n p)) (placed_at by n)
placed_lawful by n few = record { took = placed_took by n few; again = placed_again by n few }

entry_of : ℕ → Place → Digest → ℕ → Rest → StoredEntry
entry_of number place txid index rest = record {
  number = number;
  place = place;
  leaf = record { point = record { txid = txid; index = index }; rest = rest };
}

pub entry_lawful : (by : Naming) (n : ℕ) → n < 2 ^ 40 → Lawful (EntryFits n) (entry_text by n) (entry_at by n)
unfolding entry_at entry_text entry_of
entry_lawful by n few =
    same _ (EntryFits n) _ (entry_text by n) (entry_at by n)
    (led Always (λ k. k < 2 ^ 64) (to_le_bytes w64) (number_at w64) (λ e. e.number) _ _ _ u64_lawful (λ number _.
    led (λ e. Unit {0} × (e.number ≡ number)) (λ p. InForest n p.row p.off) (λ p. to_le_bytes w64 (number_by by n p)) (placed_at by n) (λ e. e.place)
    _ _ _ (placed_lawful by n few) (λ place _.
    led (λ e. (Unit {0} × (e.number ≡ number)) × (e.place ≡ place)) IsDigest digest_text digest_in_front (λ e. e.leaf.point.txid) _ _ _ digest_lawful
    (λ txid _.
    led (λ e. ((Unit {0} × (e.number ≡ number)) × (e.place ≡ place)) × (e.leaf.point.txid ≡ txid)) (λ k. k < 2 ^ 32) (to_le_bytes w32) (number_at w32)
    (λ e. e.leaf.point.index) _ _ _ u32_lawful (λ index _.
    led (λ e. (((Unit {0} × (e.number ≡ number)) × (e.place ≡ place)) × (e.leaf.point.txid ≡ txid)) × (e.leaf.point.index ≡ index)) RestFits rest_text
    rest_at (λ e. e.leaf.rest) _ _ _ rest_lawful (λ rest _.
    ended (λ e. ((((Unit {0} × (e.number ≡ number)) × (e.place ≡ place)) × (e.leaf.point.txid ≡ txid)) × (e.leaf.point.index ≡ index))
    × (e.leaf.rest ≡ rest))
    (entry_of number place txid index rest) (((((tt, refl), refl), refl), refl), refl)
    (λ e h. rw (← h.0.0.0.0.1, ← h.0.0.0.1, ← h.0.0.1, ← h.0.1, ← h.1) refl)))))))
    (λ e f. record { number = f.1.0; place = f.1.1.0; leaf = record { txid = f.1.1.1.0; index = f.1.1.1.1.0; rest = f.1.1.1.1.1.0 } })
    (λ e f. (tt, (f.number, (f.place, (f.leaf.txid, (f.leaf.index, (f.leaf.rest, tt)))))))
    (λ e _. regrouped (to_le_bytes w64 e.number) (to_le_bytes w64 (number_by by n e.place)) e.leaf.point.txid.0 (to_le_bytes w32 e.leaf.point.index)
    (rest_text e.leaf.rest))
  where
    regrouped : (a b c d r : List ℕ) → a ++ (b ++ (c ++ (d ++ (r ++ [])))) ≡ a ++ b ++ c ++ d ++ r
    regrouped a b c d r = simp (append_assoc, append-nil)
