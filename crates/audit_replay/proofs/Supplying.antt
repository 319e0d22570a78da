-- Sums over all entries, and over all heights.
use Rattle.std.proofs.Common.{◌≡◌, ℕ, zero, suc, ◌+◌, ◌-◌, ◌*◌, ◌<◌, ◌≤◌, ◌^◌, ◌/◌, Bool, true, false, List, [], ◌∷◌, map, length, Option, Some, None}
use Rattle.std.proofs.Common.{refl, sym, ap, ◌∙◌, subst, arith}
use Rattle.std.specs.Prelude.{nat_lt, if◌then◌else◌}
use Rattle.std.specs.List.{range_with_len}
use Rattle.std.proofs.lemmas.List.FromFn.{map-range_with_len_more}
use Rattle.std.proofs.Math.Nat.{div-le_self}
use Rattle.uo_base.specs.declared.event.Net.{Net}
use Rattle.uo_digest.specs.declared.digest.Digest.{Digest}
use Rattle.leaf_record.specs.Leaf.{Leaf}
use Rattle.leaf_record.specs.History.{supply}
use Rattle.leaf_record.proofs.HistoryLaws.{supply-append}
use Rattle.block_rules.specs.Money.{halving, subsidy_at}
use Rattle.node_rules.specs.Machine.{issued}
use Rattle.output_index.specs.Held.{Held}
use Rattle.bridge_prover.specs.Bridge.{BridgeState}
use Rattle.bridge_prover.specs.Full.{live_leaf, history_of}
use Rattle.audit_replay.specs.Audit.{IsAudit, amount_if, amount_at}
use Rattle.audit_replay.proofs.Throughout.{supply_is_of_level}

-- ---- what is live

-- of the first n entries
abbrev pub live_of : List Held → ℕ → ℕ
live_of hs n = supply (map (live_leaf hs) (range_with_len 0 n))

supply-one : (u : Option Leaf) → supply (u ∷ []) ≡ amount_if u
supply-one None = refl
supply-one (Some leaf) = omega arith

pub live_more : (hs : List Held) (n : ℕ) → live_of hs (n + 1) ≡ live_of hs n + amount_at hs n
live_more hs n =
    let more = map-range_with_len_more (live_leaf hs) 0 n n (let e : 0 + n ≡ n = omega arith in e) in
    ap supply more ∙ (supply-append (map (live_leaf hs) (range_with_len 0 n)) (live_leaf hs n ∷ [])
    ∙ ap (λ x. live_of hs n + x) (supply-one (live_leaf hs n)))

live_grows : (hs : List Held) (n k : ℕ) → live_of hs n ≤ live_of hs (n + k)
live_grows hs n zero = (let e : n + 0 ≡ n = omega arith in subst (λ m. live_of hs n ≤ live_of hs m) (sym e) (omega arith))
live_grows hs n (suc k) =
    let before = live_grows hs n k in
    let more = live_more hs (n + k) in
    let e : n + suc k ≡ n + k + 1 = omega arith in
    subst (λ m. live_of hs n ≤ live_of hs m) (sym e) (omega (arith, before, more))

-- ---- what was issued

subsidy_low : (net : Net) (height : ℕ) → subsidy_at net height ≤ 5000000000
subsidy_low net height = by (nat_lt (height / halving net) 64)
  where
    by : (b : Bool) → (if b then 5000000000 / 2 ^ (height / halving net) else 0) ≤ 5000000000
    by true = div-le_self 5000000000 (2 ^ (height / halving net))
    by false = omega arith

issued_low : (net : Net) (k : ℕ) → issued net k ≤ 5000000000 * k
issued_low net zero = omega arith
issued_low net (suc k) = let a = issued_low net k in let b = subsidy_low net k in omega (arith, a, b)

-- up to a height of the chain the sum has room
pub issued_fits : (net : Net) (k blocks : ℕ) → k < blocks → blocks ≤ 2 ^ 31 → issued net k + subsidy_at net k < 2 ^ 64
issued_fits net k blocks lt low = let a = issued_low net (suc k) in omega (arith, a, lt, low)

-- ---- an auditor's

pub live_most : (H : List ℕ → Digest) (s : BridgeState) → IsAudit H s
    → supply (history_of s) ≤ issued s.rules.net s.chain.blocks
live_most H s a =
    let level = supply_is_of_level H a.levels s a.is a.stands in
    let sound = a.sound.0 in
    omega (arith, level.0, level.1, sound)

pub live_fits : (H : List ℕ → Digest) (s : BridgeState) → IsAudit H s → (n : ℕ) → n < length s.entries
    → live_of s.held n + amount_at s.held n < 2 ^ 64
live_fits H s a n lt = by (length s.entries) lt (live_most H s a)
  where
    by : (m : ℕ) → n < m → live_of s.held m ≤ issued s.rules.net s.chain.blocks → live_of s.held n + amount_at s.held n < 2 ^ 64
    by zero lt most = absurd (omega (arith, lt))
    by (suc m) lt most =
        let more = live_more s.held n in
        let grows = live_grows s.held (n + 1) (suc m - (n + 1)) in
        let e : n + 1 + (suc m - (n + 1)) ≡ suc m = omega (arith, lt) in
        let grows' : live_of s.held (n + 1) ≤ live_of s.held (suc m) = subst (λ k. live_of s.held (n + 1) ≤ live_of s.held k) e grows in
        let low = issued_low s.rules.net s.chain.blocks in
        let blocks = a.is.low in
        omega (arith, more, grows', most, low, blocks)
