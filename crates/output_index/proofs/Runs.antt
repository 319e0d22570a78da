-- Entries that are forgotten a few at a time.
use Rattle.std.proofs.Common.{◌≡◌, ◌≢◌, ℕ, suc, ◌+◌, ◌-◌, ◌<◌, ◌≤◌, true, List, [], ◌∷◌, ◌++◌, length, take, drop, get_or, refl, sym, ap, ◌∙◌}
use Rattle.std.proofs.Common.{arith}
use Rattle.std.specs.Prelude.{All, AllPairs}
use Rattle.std.proofs.lemmas.List.{take-append-drop, get_or-take, get_or-drop, length-drop, get_or_default}
use Rattle.uo_base.proofs.Lists.{take_few}
use Rattle.output_index.specs.Held.{Held, is_spent, without, without_all}
use Rattle.output_index.proofs.HeldLaws.{spent-without_other}

without_all-append : (ns ms : List ℕ) (hs : List Held) → without_all (ns ++ ms) hs ≡ without_all ms (without_all ns hs)
without_all-append [] ms hs = refl
without_all-append (n ∷ ns) ms hs = without_all-append ns ms (without n hs)

-- the front, and then what is behind it
pub without_all-parts : (k : ℕ) (ns : List ℕ) (hs : List Held) → without_all (drop k ns) (without_all (take k ns) hs) ≡ without_all ns hs
without_all-parts k ns hs = sym (without_all-append (take k ns) (drop k ns) hs) ∙ ap (λ ms. without_all ms hs) (take-append-drop k ns)

spent-others : (ns : List ℕ) (q : ℕ) (hs : List Held) → ((i : ℕ) → i < length ns → q ≢ get_or ns i 0) → is_spent q (without_all ns hs) ≡ is_spent q hs
spent-others [] q hs other = refl
spent-others (n ∷ ns) q hs other = spent-others ns q (without n hs) (λ i l. other (suc i) (omega (arith, l)))
    ∙ spent-without_other n q hs (other 0 (omega arith))

-- what is behind the front is spent still
pub spent-behind : (k : ℕ) (ns : List ℕ) (hs : List Held) → k ≤ length ns → AllPairs (λ i j. i ≢ j) ns → All (λ i. is_spent i hs ≡ true) ns
    → All (λ i. is_spent i (without_all (take k ns) hs) ≡ true) (drop k ns)
spent-behind k ns hs few apart spent j d l =
    let len : length (drop k ns) ≡ length ns - k = length-drop k ns in
    let within : k + j < length ns = omega (arith, l, len, few) in
    let is : get_or (drop k ns) j d ≡ get_or ns (k + j) d = get_or-drop k ns j d in
    rw is (spent-others (take k ns) (get_or ns (k + j) d) hs (other within) ∙ spent (k + j) d within)
  where
    other : k + j < length ns → (i : ℕ) → i < length (take k ns) → get_or ns (k + j) d ≢ get_or (take k ns) i 0
    other within i b e =
        let t : length (take k ns) ≤ k = take_few k ns in
        let below : i < k = omega (arith, b, t) in
        let same : get_or (take k ns) i 0 ≡ get_or ns i 0 = get_or-take k ns i 0 below in
        let dead : get_or ns i d ≡ get_or ns i 0 = get_or_default ns i d 0 (omega (arith, below, few)) in
        apart i (k + j) d (omega (arith, below)) within (dead ∙ (sym same ∙ sym e))

-- and no two of them are the same
pub apart-behind : (k : ℕ) (ns : List ℕ) → AllPairs (λ i j. i ≢ j) ns → AllPairs (λ i j. i ≢ j) (drop k ns)
apart-behind k ns apart i j d l b e =
    let len : length (drop k ns) ≡ length ns - k = length-drop k ns in
    apart (k + i) (k + j) d (omega (arith, l)) (omega (arith, b, len)) (sym (get_or-drop k ns i d) ∙ (e ∙ get_or-drop k ns j d))

-- the same of the front
pub spent-front : (k : ℕ) (ns : List ℕ) (hs : List Held) → k ≤ length ns → All (λ i. is_spent i hs ≡ true) ns
    → All (λ i. is_spent i hs ≡ true) (take k ns)
spent-front k ns hs few spent j d l =
    let t : length (take k ns) ≤ k = take_few k ns in
    let below : j < k = omega (arith, l, t) in
    rw (get_or-take k ns j d below) (spent j d (omega (arith, below, few)))

pub apart-front : (k : ℕ) (ns : List ℕ) → k ≤ length ns → AllPairs (λ i j. i ≢ j) ns → AllPairs (λ i j. i ≢ j) (take k ns)
apart-front k ns few apart i j d l b e =
    let t : length (take k ns) ≤ k = take_few k ns in
    let below : j < k = omega (arith, b, t) in
    apart i j d l (omega (arith, below, few)) (sym (get_or-take k ns i d (omega (arith, l, below))) ∙ (e ∙ get_or-take k ns j d below))
