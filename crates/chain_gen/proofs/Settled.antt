-- A purse that is kept in two parts: ripe coins in front, and the others behind them.
use Rattle.std.proofs.Common.{◌≡◌, ℕ, zero, suc, ◌+◌, ◌-◌, ◌≤◌, ◌<◌, Bool, true, false, List, [], ◌∷◌, ◌++◌, length, map, take, drop, Some, refl, sym}
use Rattle.std.proofs.Common.{ap, ap₂, ◌∙◌, arith}
use Rattle.std.specs.Prelude.{◌||◌, not, nat_le, slice_index, if◌then◌else◌}
use Rattle.std.specs.List.{AllByRecursion, range_with_len, remove}
use Rattle.std.proofs.lemmas.Bool.{leb-true}
use Rattle.std.proofs.lemmas.Grind.{common_steps}
use Rattle.std.proofs.lemmas.List.{length-append, length-map, length-drop, get_or-map, get_or_append_left, get_or-append-add, get_or-append_right}
use Rattle.std.proofs.lemmas.List.Edits.{remove-append_left, remove-append_right}
use Rattle.std.proofs.lemmas.List.FromFn.{length-range_with_len, get_or-range_with_len}
use Rattle.std.proofs.Math.Seq.{take-length}
use Rattle.uo_base.proofs.Lists.{all-append}
use Rattle.chain_gen.specs.declared.coin.Coin.{Coin}
use Rattle.chain_gen.specs.Draws.{next_word, drawn}
use Rattle.chain_gen.specs.Coins.{zeros, is_ripe, ripe_from, coin_at}
use Rattle.chain_gen.specs.Purses.{PurseValue, places_of, place_drawn, Chosen, AllRipe}
use Rattle.chain_gen.proofs.Plain.{ripe_below, index_below}

abbrev none : Coin
none = record { txid = zeros; index = 0; amount = 0; height = 0; coinbase = false }

abbrev purse : ℕ → List Coin → PurseValue
purse height coins = record { height = height; coins = coins }

-- ---- lists

all_take : {X : Type 0} (P : X → Type 0) (n : ℕ) (xs : List X) → AllByRecursion P xs → AllByRecursion P (take n xs)
all_take P zero xs a = tt
all_take P (suc n) [] a = tt
all_take P (suc n) (x ∷ xs) a = (a.0, all_take P n xs a.1)

all_drop : {X : Type 0} (P : X → Type 0) (n : ℕ) (xs : List X) → AllByRecursion P xs → AllByRecursion P (drop n xs)
all_drop P zero xs a = a
all_drop P (suc n) [] a = tt
all_drop P (suc n) (x ∷ xs) a = all_drop P n xs a.1

all_remove : {X : Type 0} (P : X → Type 0) (xs : List X) (i : ℕ) → AllByRecursion P xs → AllByRecursion P (remove xs i)
all_remove P xs i a = all-append P (take i xs) (drop (suc i) xs) (all_take P i xs a) (all_drop P (suc i) xs a)

all_each : {X : Type 0} (P Q : X → Type 0) (xs : List X) → ((x : X) → P x → Q x) → AllByRecursion P xs → AllByRecursion Q xs
all_each P Q [] f a = tt
all_each P Q (x ∷ xs) f a = (f x a.0, all_each P Q xs f a.1)

pub rest : {X : Type 0} (n : ℕ) (xs : List X) → take (length xs - n) (drop n xs) ≡ drop n xs
rest n xs = ap (λ m. take m (drop n xs)) (sym (length-drop n xs)) ∙ take-length (drop n xs)

-- ---- what stays ripe

later : (height : ℕ) (coin : Coin) → is_ripe height coin ≡ true → is_ripe (height + 1) coin ≡ true
later height coin h = by_kind coin.coinbase h
  where
    by_kind : (b : Bool) → (not b || nat_le (coin.height + 100) height) ≡ true → (not b || nat_le (coin.height + 100) (height + 1)) ≡ true
    by_kind false q = refl
    by_kind true q = let l = leb-true (coin.height + 100) height q in grind (arith, common_steps)

pub ripe-later : (height : ℕ) (coins : List Coin) → AllRipe height coins → AllRipe (height + 1) coins
ripe-later height coins r = all_each (λ c. is_ripe height c ≡ true) (λ c. is_ripe (height + 1) c ≡ true) coins (later height) r

pub ripe-less : (height : ℕ) (coins : List Coin) (k : ℕ) → AllRipe height coins → AllRipe height (remove coins k)
ripe-less height coins k r = all_remove (λ c. is_ripe height c ≡ true) coins k r

pub ripe-more : (height : ℕ) (coins more : List Coin) → AllRipe height coins → AllRipe height more → AllRipe height (coins ++ more)
ripe-more height coins more r s = all-append (λ c. is_ripe height c ≡ true) coins more r s

-- ---- places of the ripe ones

ripe-shift : (height a b : ℕ) (coins : List Coin) → ripe_from height (a + b) coins ≡ map (λ i. a + i) (ripe_from height b coins)
ripe-shift height a b [] = refl
ripe-shift height a b (coin ∷ coins) = by_case (is_ripe height coin) (ap (λ n. ripe_from height n coins) moved ∙ ripe-shift height a (suc b) coins)
  where
    moved : suc (a + b) ≡ a + suc b
    moved = omega arith

    by_case : (t : Bool) → ripe_from height (suc (a + b)) coins ≡ map (λ i. a + i) (ripe_from height (suc b) coins)
        → (if t then (a + b) ∷ ripe_from height (suc (a + b)) coins else ripe_from height (suc (a + b)) coins)
        ≡ map (λ i. a + i) (if t then b ∷ ripe_from height (suc b) coins else ripe_from height (suc b) coins)
    by_case true next = ap (λ xs. (a + b) ∷ xs) next
    by_case false next = next

ripe-front : (height place : ℕ) (front coins : List Coin) → AllRipe height front
    → ripe_from height place (front ++ coins) ≡ range_with_len place (length front) ++ ripe_from height (place + length front) coins
ripe-front height place [] coins a = ap (λ n. ripe_from height n coins) same
  where
    same : place ≡ place + 0
    same = omega arith
ripe-front height place (coin ∷ front) coins a =
    ap (λ b. if b then place ∷ ripe_from height (suc place) (front ++ coins) else ripe_from height (suc place) (front ++ coins)) a.0
    ∙ (ap (λ xs. place ∷ xs) (ripe-front height (suc place) front coins a.1)
    ∙ ap₂ (λ (n m : ℕ). place ∷ (range_with_len n (length front) ++ ripe_from height m coins)) next end)
  where
    next : suc place ≡ place + 1
    next = omega arith

    end : suc place + length front ≡ place + suc (length front)
    end = omega arith

-- those of the front come first, then those of the others
abbrev both : ℕ → List Coin → List Coin → List ℕ
both height front coins = range_with_len 0 (length front) ++ map (λ i. length front + i) (ripe_from height 0 coins)

places-both : (height : ℕ) (front coins : List Coin) → AllRipe height front → places_of (purse height (front ++ coins)) ≡ both height front coins
places-both height front coins a = ripe-front height 0 front coins a
    ∙ ap (λ xs. range_with_len 0 (length front) ++ xs) (ap (λ n. ripe_from height n coins) moved ∙ ripe-shift height (length front) 0 coins)
  where
    moved : 0 + length front ≡ length front + 0
    moved = omega arith

pub count-both : (height : ℕ) (front coins : List Coin) → AllRipe height front
    → length (places_of (purse height (front ++ coins))) ≡ length front + length (ripe_from height 0 coins)
count-both height front coins a =
    let l = length-append (range_with_len 0 (length front)) (map (λ i. length front + i) (ripe_from height 0 coins)) in
    let r = length-range_with_len 0 (length front) in
    let m = length-map (ripe_from height 0 coins) (λ (i : ℕ). length front + i) in
    let p = ap length (places-both height front coins a) in
    omega (arith, l, r, m, p)

-- the place that a number draws
place-in_front : (height k : ℕ) (front coins : List Coin) → AllRipe height front → k < length front
    → slice_index (places_of (purse height (front ++ coins))) k ≡ k
place-in_front height k front coins a l =
    let r = length-range_with_len 0 (length front) in
    ap (λ xs. slice_index xs k) (places-both height front coins a)
    ∙ (get_or_append_left (range_with_len 0 (length front)) (map (λ i. length front + i) (ripe_from height 0 coins)) 0 k (omega (arith, r, l))
    ∙ (get_or-range_with_len 0 (length front) k 0 l ∙ zero_more))
  where
    zero_more : 0 + k ≡ k
    zero_more = omega arith

place-behind : (height k : ℕ) (front coins : List Coin) → AllRipe height front → length front ≤ k
    → k - length front < length (ripe_from height 0 coins) → slice_index (places_of (purse height (front ++ coins))) k
    ≡ length front + slice_index (ripe_from height 0 coins) (k - length front)
place-behind height k front coins a l less =
    ap (λ xs. slice_index xs k) (places-both height front coins a)
    ∙ (get_or-append_right (range_with_len 0 (length front)) (map (λ i. length front + i) (ripe_from height 0 coins)) (length front) k 0
    (length-range_with_len 0 (length front)) l
    ∙ get_or-map (λ i. length front + i) (ripe_from height 0 coins) (k - length front) 0 0 less)

-- ---- one is drawn

drawn-is : (height k word : ℕ) (front coins : List Coin) → AllRipe height front → k ≡ drawn word (length front + length (ripe_from height 0 coins))
    → place_drawn word (purse height (front ++ coins)) ≡ slice_index (places_of (purse height (front ++ coins))) k
drawn-is height k word front coins a e =
    ap (slice_index (places_of (purse height (front ++ coins)))) (ap (drawn word) (count-both height front coins a) ∙ sym e)

pub chosen-none : (height : ℕ) (front others : List Coin) → AllRipe height front → length front + length (ripe_from height 0 others) ≡ 0
    → length (places_of (purse height (front ++ others))) ≡ 0
chosen-none height front others r e = let c = count-both height front others r in omega (arith, c, e)

pub chosen-front : (height old new k : ℕ) (front others : List Coin) → AllRipe height front → new ≡ next_word old
    → k ≡ drawn new (length front + length (ripe_from height 0 others)) → k < length front →
    Chosen old new (purse height (front ++ others)) (purse height (remove front k ++ others)) (Some (coin_at front k))
chosen-front height old new k front others r word choice inside = (
  omega (arith, count, inside),
  word,
  sym (ap (coin_at (front ++ others)) place ∙ get_or_append_left front others none k inside),
  ap (purse height) (sym (ap (remove (front ++ others)) place ∙ remove-append_left front others k inside)),
)
  where
    count : length (places_of (purse height (front ++ others))) ≡ length front + length (ripe_from height 0 others)
    count = count-both height front others r

    place : place_drawn new (purse height (front ++ others)) ≡ k
    place = drawn-is height k new front others r choice ∙ place-in_front height k front others r inside

pub behind-inside : (height k n : ℕ) (others : List Coin) → k < length (ripe_from height 0 others)
    → slice_index (ripe_from height 0 others) k < length others
behind-inside height k n others less = index_below (length others) k (ripe_from height 0 others)
    (ripe_below height 0 (length others) others (omega arith)) less

pub chosen-behind : (height old new k j : ℕ) (front others : List Coin) → AllRipe height front → new ≡ next_word old
    → k ≡ drawn new (length front + length (ripe_from height 0 others)) → k ≡ length front + j → j < length (ripe_from height 0 others) →
    Chosen old new (purse height (front ++ others)) (purse height (front ++ remove others (slice_index (ripe_from height 0 others) j)))
    (Some (coin_at others (slice_index (ripe_from height 0 others) j)))
chosen-behind height old new k j front others r word choice at less = (
  omega (arith, count, less),
  word,
  sym (ap (coin_at (front ++ others)) place ∙ get_or-append-add front others there none),
  ap (purse height) (sym (ap (remove (front ++ others)) place ∙ (remove-append_right front others (length front) (length front + there) refl
      (omega arith) ∙ ap (λ n. front ++ remove others n) back))),
)
  where
    there : ℕ
    there = slice_index (ripe_from height 0 others) j

    count : length (places_of (purse height (front ++ others))) ≡ length front + length (ripe_from height 0 others)
    count = count-both height front others r

    back : (length front + there) - length front ≡ there
    back = omega arith

    rank : k - length front ≡ j
    rank = omega (arith, at)

    place : place_drawn new (purse height (front ++ others)) ≡ length front + there
    place =
        drawn-is height k new front others r choice
        ∙ (place-behind height k front others r (omega (arith, at)) (omega (arith, rank, less))
        ∙ ap (λ n. length front + slice_index (ripe_from height 0 others) n) rank)
