-- The history of a bridge is that of the newest level for which it stands.
use Rattle.std.proofs.Common.{◌≡◌, ℕ, zero, suc, ◌+◌, ◌<◌, Bool, true, false, List, [], ◌∷◌, map, length, get_or, Option, Some, None, refl, sym, ap}
use Rattle.std.proofs.Common.{ap₂, ◌∙◌, subst, arith}
use Rattle.std.specs.Prelude.{slice_get, option_map, if◌then◌else◌}
use Rattle.std.specs.List.{range_with_len}
use Rattle.std.proofs.lemmas.List.{length-map}
use Rattle.std.proofs.lemmas.Option.{none-some, same_Some}
use Rattle.uo_digest.specs.declared.digest.Digest.{Digest}
use Rattle.forest_place.specs.declared.place.Place.{Place}
use Rattle.cache_model.specs.Lists.{AscendByPlace}
use Rattle.leaf_record.specs.Leaf.{Leaf, leaf_text}
use Rattle.leaf_record.specs.History.{History}
use Rattle.node_rules.specs.Machine.{State}
use Rattle.node_rules.proofs.Righting.{got}
use Rattle.output_index.specs.Held.{Held, is_live, leaf_at, NumbersRise}
use Rattle.output_index.specs.Indexed.{IsIndexOf}
use Rattle.output_index.proofs.Standing.{there_is_live, live_is_there}
use Rattle.bridge_prover.specs.Bridge.{BridgeState}
use Rattle.bridge_prover.specs.Standing.{Stands, IsBridge}
use Rattle.bridge_prover.specs.Laws.{KnowsAsOwn}
use Rattle.bridge_prover.specs.Shown.{IsHistory, AreKnown}
use Rattle.bridge_prover.specs.Full.{watched_by, live_leaf, history_of}

by-index : {X : Type 0} (f : ℕ → Option X) (xs : List (Option X)) (k : ℕ) → ((i : ℕ) → i < length xs → f (k + i) ≡ get_or xs i None)
    → map f (range_with_len k (length xs)) ≡ xs
by-index f [] k h = refl
by-index f (x ∷ xs) k h =
    let here : f k ≡ x = ap f (let e : k ≡ k + 0 = omega arith in e) ∙ h 0 (omega arith) in
    ap₂ (λ y ys. y ∷ ys) here (by-index f xs (k + 1) (λ i lt. ap f (let e : k + 1 + i ≡ k + suc i = omega arith in e)
    ∙ h (suc i) (omega (arith, lt))))

module _ (hs : List Held) (us : History) (rise : NumbersRise hs) (index : IsIndexOf hs us) where
  live-leaf : (i : ℕ) → live_leaf hs i ≡ get_or us i None
  live-leaf i = by (get_or us i None) refl
    where
      spent : get_or us i None ≡ None → (b : Bool) → is_live i hs ≡ b → (if b then leaf_at i hs else None) ≡ None
      spent gone false e = refl
      spent gone true e = by_leaf (leaf_at i hs) (live_is_there i hs us rise index e)
        where
          by_leaf : (x : Option Leaf) → option_map Some x ≡ slice_get us i → x ≡ None
          by_leaf None e = refl
          by_leaf (Some leaf) e = absurd (none-some leaf (sym gone ∙ got_at us i leaf (sym e)))
            where
              got_at : (us : History) (i : ℕ) (leaf : Leaf) → slice_get us i ≡ Some (Some leaf) → get_or us i None ≡ Some leaf
              got_at [] i leaf e = absurd (none-some _ e)
              got_at (u ∷ us) zero leaf e = same_Some u (Some leaf) e
              got_at (u ∷ us) (suc i) leaf e = got_at us i leaf e

      by : (u : Option Leaf) → get_or us i None ≡ u → live_leaf hs i ≡ u
      by None e = spent e (is_live i hs) refl
      by (Some leaf) e =
          let there = there_is_live i leaf hs us rise index (got us i leaf e) in
          ap (λ b. if b then leaf_at i hs else None) there.0 ∙ there.1

  pub held-history : map (live_leaf hs) (range_with_len 0 (length us)) ≡ us
  held-history = by-index (live_leaf hs) us 0 (λ i lt. ap (live_leaf hs) (let e : 0 + i ≡ i = omega arith in e) ∙ live-leaf i)

pub is_history : (H : List ℕ → Digest) (s : BridgeState) (us : History) → IsHistory H s.entries s.held us
    → history_of s ≡ us
is_history H s us is =
    ap (λ n. map (live_leaf s.held) (range_with_len 0 n)) (ap length is.entries_are ∙ length-map us (option_map (λ r. H (leaf_text r))))
    ∙ held-history s.held us is.rise is.index

pub newest_history : (H : List ℕ → Digest) (t : State) (s : BridgeState) → IsBridge H s → Stands H t s
    → IsHistory H s.entries s.held t.now.history
newest_history H t s is stands = record { entries_are = stands.entries; index = stands.index; rise = is.rise }

-- and one that the bridge has
pub own_history : (H : List ℕ → Digest) (s : BridgeState) → IsBridge H s
    → IsHistory H s.entries s.held (history_of s)
own_history H s is =
    let have = newest_history H is.levels s is is.stands in
    subst (IsHistory H s.entries s.held) (sym (is_history H s is.levels.now.history have)) have

-- what it knows is what is known under its history
pub known_so : (H : List ℕ → Digest) (s : BridgeState) (known : List (Place × Digest)) → IsBridge H s
    → KnowsAsOwn H s known → AscendByPlace known → AreKnown H (watched_by s) (history_of s) known
known_so H s known is own ascends =
    subst (λ us. AreKnown H (watched_by s) us known)
    (sym (is_history H s is.levels.now.history (newest_history H is.levels s is is.stands)))
    (record { each = own is.levels is.stands; ascend = ascends })
