-- What a forest keeps, from one step to the next.
use Rattle.std.proofs.Common.{◌≡◌, ℕ, zero, suc, ◌+◌, ◌*◌, ◌^◌, ◌<◌, ◌≤◌, Bool, true, false, refl, sym, ap, ap₂, ◌∙◌, subst, ⊎_elim, arith}
use Rattle.std.proofs.Common.{List, [], ◌∷◌, ◌++◌, length, get_or, set, take, map, replicate, append_assoc, Option, None}
use Rattle.std.specs.Prelude.{is_some, option_map}
use Rattle.std.specs.List.{range_with_len}
use Rattle.std.proofs.lemmas.Bool.{cases_eq, cases_lt, true≢false, false≢true}
use Rattle.std.proofs.lemmas.List.{get_or-set_same, get_or-set_other, length-set, length-take-le, get_or-take, ext_get_or, get_or_past, append-nil}
use Rattle.std.proofs.lemmas.List.{get_or_append_left, replicate-append-replicate}
use Rattle.std.proofs.lemmas.List.FromFn.{length-map-range_with_len, get_or-map-range_with_len, take-map-range_with_len, map-range_with_len_more}
use Rattle.uo_digest.specs.declared.digest.Digest.{Digest}
use Rattle.forest_model.specs.Content.{content, digest_of, join_digests}
use Rattle.forest_model.specs.Deletion.{entries_without}
use Rattle.forest_model.proofs.Unique.{digest-join}
use Rattle.forest_place.specs.Forest.{InForest}
use Rattle.forest_place.proofs.Parts.{InForest-left, InForest-right}
use Rattle.forest_place.proofs.Slots.{in_forest_iff}
use Rattle.live_forest.specs.Sets.{IsWithout}
use Rattle.live_forest.specs.Stores.{StoreState, stored, is_listed, HasRoomOf, IsLonger, AreStoredOfHalves}
use Rattle.live_forest.specs.Parts.{leaves_of, entries_in, kept, AreParts}
use Rattle.live_forest.specs.Holding.{held_of, IsForest}
use Rattle.live_forest.specs.Lookups.{AreHeld}
use Rattle.live_forest.specs.State.{is_live, is_held, held_without}
use Rattle.live_forest.proofs.Entries.{content-take}
use Rattle.live_forest.proofs.Refreshing.{joined_halves, length-leaves_of, leaves_of-at}

-- ---- lists

pub take_set : {X : Type 0} → (n : ℕ) (xs : List X) (i : ℕ) (x : X) → take n (set xs i x) ≡ set (take n xs) i x
take_set zero xs i x = refl
take_set (suc n) [] i x = refl
take_set (suc n) (y ∷ ys) zero x = refl
take_set (suc n) (y ∷ ys) (suc i) x = ap (λ zs. y ∷ zs) (take_set n ys i x)

pub take_twice : {X : Type 0} → (n m : ℕ) (xs : List X) → n ≤ m → take n (take m xs) ≡ take n xs
take_twice zero m xs le = refl
take_twice (suc n) zero xs le = absurd (omega (arith, le))
take_twice (suc n) (suc m) [] le = refl
take_twice (suc n) (suc m) (x ∷ xs) le = ap (λ zs. x ∷ zs) (take_twice n m xs (omega (arith, le)))

pub take_next : {X : Type 0} → (n : ℕ) (xs : List X) (x : X) → n < length xs → take (suc n) (set xs n x) ≡ take n xs ++ x ∷ []
take_next zero [] x lt = absurd (omega (arith, lt))
take_next (suc n) [] x lt = absurd (omega (arith, lt))
take_next zero (y ∷ ys) x lt = refl
take_next (suc n) (y ∷ ys) x lt = ap (λ zs. y ∷ zs) (take_next n ys x (omega (arith, lt)))

pub take_without : (n : ℕ) (is : List ℕ) (xs : List (Option Digest)) → take n (entries_without is xs) ≡ entries_without is (take n xs)
take_without n [] xs = refl
take_without n (i ∷ is) xs = take_set n (entries_without is xs) i None ∙ ap (λ z. set z i None) (take_without n is xs)

none_set : (xs : List (Option Digest)) (i : ℕ) → get_or (set xs i None) i None ≡ None
none_set [] i = refl
none_set (x ∷ xs) zero = refl
none_set (x ∷ xs) (suc i) = none_set xs i

-- what is left was there
left_was : (is : List ℕ) (xs : List (Option Digest)) (i : ℕ) → is_some (get_or (entries_without is xs) i None) ≡ true
    → is_some (get_or xs i None) ≡ true
left_was [] xs i some = some
left_was (j ∷ is) xs i some =
    ⊎_elim
    (λ e. absurd (false≢true (sym (ap is_some (ap (λ k. get_or (set (entries_without is xs) k None) i None) (sym e)
    ∙ none_set (entries_without is xs) i))
    ∙ some)))
    (λ ne. left_was is xs i (sym (ap is_some (get_or-set_other (entries_without is xs) j i None None ne)) ∙ some))
    (cases_eq i j)

same_map : (f g : ℕ → Bool) (n : ℕ) → ((i : ℕ) → i < n → f i ≡ g i) → map f (range_with_len 0 n) ≡ map g (range_with_len 0 n)
same_map f g n same =
    ext_get_or false (map f (range_with_len 0 n)) (map g (range_with_len 0 n))
    (length-map-range_with_len f 0 n ∙ sym (length-map-range_with_len g 0 n))
    (λ i lt.
    let low : i < n = omega (arith, lt, length-map-range_with_len f 0 n) in
    get_or-map-range_with_len f 0 n i i false low (omega arith) ∙ same i low ∙ sym (get_or-map-range_with_len g 0 n i i false low (omega arith)))

-- ---- entries

pub length-entries : (count : ℕ) (s : StoreState) → count ≤ s.len → length (take count (leaves_of s)) ≡ count
length-entries count s le = length-take-le count (leaves_of s) (omega (arith, le, length-leaves_of s))

pub entry_at : (count : ℕ) (s : StoreState) (i : ℕ) → count ≤ s.len → i < count → get_or (take count (leaves_of s)) i None ≡ stored s 0 i
entry_at count s i le lt = get_or-take count (leaves_of s) i None lt ∙ leaves_of-at s i (omega (arith, lt, le))

pub live_is : (count : ℕ) (s : StoreState) (i : ℕ) → count ≤ s.len → i < count → is_live (take count (leaves_of s)) i ≡ is_some (stored s 0 i)
live_is count s i le lt = ap is_some (entry_at count s i le lt)

pub live_low : (count : ℕ) (s : StoreState) (i : ℕ) → count ≤ s.len → is_live (take count (leaves_of s)) i ≡ true → i < count
live_low count s i le live =
    ⊎_elim
    (λ lt. lt)
    (λ ge. absurd (false≢true (sym (ap is_some (get_or_past (take count (leaves_of s)) i None (omega (arith, ge, length-entries count s le))))
    ∙ live)))
    (cases_lt i count)

pub not_live : (count : ℕ) (s : StoreState) (i : ℕ) → count ≤ s.len → count ≤ i → is_live (take count (leaves_of s)) i ≡ false
not_live count s i le ge = ap is_some (get_or_past (take count (leaves_of s)) i None (omega (arith, ge, length-entries count s le)))

pub length-held_of : (count : ℕ) (s : StoreState) → length (held_of count s) ≡ count
length-held_of count s = length-map-range_with_len (λ i. is_listed s.pages i) 0 count

pub held_at : (count : ℕ) (s : StoreState) (i : ℕ) → i < count → is_held (held_of count s) i ≡ is_listed s.pages i
held_at count s i lt = get_or-map-range_with_len (λ k. is_listed s.pages k) 0 count i i false lt (omega arith)

pub not_held : (count : ℕ) (s : StoreState) (i : ℕ) → count ≤ i → is_held (held_of count s) i ≡ false
not_held count s i ge = get_or_past (held_of count s) i false (omega (arith, ge, length-held_of count s))

pub held_low : (count : ℕ) (s : StoreState) (i : ℕ) → is_held (held_of count s) i ≡ true → i < count
held_low count s i held = ⊎_elim (λ lt. lt) (λ ge. absurd (false≢true (sym (not_held count s i ge) ∙ held))) (cases_lt i count)

pub held_same : (count : ℕ) (s s' : StoreState) → ((i : ℕ) → i < count → is_listed s'.pages i ≡ is_listed s.pages i)
    → held_of count s' ≡ held_of count s
held_same count s s' same = same_map (λ i. is_listed s'.pages i) (λ i. is_listed s.pages i) count same

pub held_more : (count : ℕ) (s : StoreState) → is_listed s.pages count ≡ true → held_of (count + 1) s ≡ held_of count s ++ true ∷ []
held_more count s listed =
    map-range_with_len_more (λ i. is_listed s.pages i) 0 count count (omega arith) ∙ ap (λ b. held_of count s ++ b ∷ []) listed

pub held_grown : (count k : ℕ) (s : StoreState) → ((i : ℕ) → count ≤ i → i < count + k → is_listed s.pages i ≡ true)
    → held_of (count + k) s ≡ held_of count s ++ replicate k true
held_grown count zero s listed =
    let e : count + 0 ≡ count = omega arith in ap (λ m. held_of m s) e ∙ sym (append-nil (held_of count s))
held_grown count (suc k) s listed =
    let e : count + suc k ≡ count + k + 1 = omega arith in
    ap (λ m. held_of m s) e ∙ held_more (count + k) s (listed (count + k) (omega arith) (omega arith))
    ∙ ap (λ l. l ++ true ∷ []) (held_grown count k s (λ i ge lt. listed i ge (omega (arith, lt))))
    ∙ append_assoc (held_of count s) (replicate k true) (true ∷ [])
    ∙ ap (λ l. held_of count s ++ l) (replicate-append-replicate k 1 true ∙ ap (λ m. replicate m true) (let z : k + 1 ≡ suc k = omega arith in z))

pub held_cut : (count n : ℕ) (s : StoreState) → n ≤ count → held_of n s ≡ take n (held_of count s)
held_cut count n s le = sym (take-map-range_with_len (λ i. is_listed s.pages i) 0 count n le)

-- ---- the next step

-- entries change, and no more
pub forest_changed : (H : List ℕ → Digest) (count room : ℕ) (s s' : StoreState) → IsForest H count room s → AreParts H count (leaves_of s') s'
    → HasRoomOf s s' → ((i : ℕ) → i < count → is_some (get_or (leaves_of s') i None) ≡ true → is_listed s.pages i ≡ true)
    → IsForest H count room s'
forest_changed H count room s s' forest right same held = record {
  few = forest.few;
  room = forest.room;
  longer = omega (arith, forest.longer, same.len);
  right = right;
  free = λ i ge lt. same.listed i ∙ forest.free i ge (omega (arith, lt, same.len));
  held = λ i lt some.
      same.listed i ∙ held i lt (ap is_some (leaves_of-at s' i (omega (arith, lt, forest.room, forest.longer, same.len))) ∙ some);
}

held_before : (H : List ℕ → Digest) (count room : ℕ) (s : StoreState) → IsForest H count room s → (i : ℕ) → i < count
    → is_some (get_or (leaves_of s) i None) ≡ true → is_listed s.pages i ≡ true
held_before H count room s forest i lt some =
    forest.held i lt (ap is_some (sym (leaves_of-at s i (omega (arith, lt, forest.room, forest.longer)))) ∙ some)

pub forest_put : (H : List ℕ → Digest) (count room : ℕ) (s s' : StoreState) (number : ℕ) (x : Option Digest) → IsForest H count room s
    → AreParts H count (leaves_of s') s' → HasRoomOf s s' → leaves_of s' ≡ set (leaves_of s) number x → is_listed s.pages number ≡ true
    → IsForest H count room s'
forest_put H count room s s' number x forest right same leaves listed =
    forest_changed H count room s s' forest right same
    (λ i lt some.
    ⊎_elim
    (λ e. ap (is_listed s.pages) e ∙ listed)
    (λ ne.
    held_before H count room s forest i lt
    (sym (ap is_some (ap (λ l. get_or l i None) leaves ∙ get_or-set_other (leaves_of s) number i x None ne)) ∙ some))
    (cases_eq i number))

pub forest_emptied : (H : List ℕ → Digest) (count room : ℕ) (s s' : StoreState) (spent : List ℕ) → IsForest H count room s
    → AreParts H count (leaves_of s') s' → HasRoomOf s s' → leaves_of s' ≡ entries_without spent (leaves_of s) → IsForest H count room s'
forest_emptied H count room s s' spent forest right same leaves =
    forest_changed H count room s s' forest right same
    (λ i lt some.
    held_before H count room s forest i lt (left_was spent (leaves_of s) i (sym (ap (λ l. is_some (get_or l i None)) leaves) ∙ some)))

-- an entry is added
pub forest_added : (H : List ℕ → Digest) (count room : ℕ) (s s' : StoreState) (x : Option Digest) → IsForest H count room s → count + 1 < 2 ^ 40
    → count < room → AreParts H (count + 1) (leaves_of s') s' → HasRoomOf s s' → leaves_of s' ≡ set (leaves_of s) count x
    → IsForest H (count + 1) room s'
forest_added H count room s s' x forest few more right same leaves = record {
  few = few;
  room = omega (arith, more);
  longer = omega (arith, forest.longer, same.len);
  right = right;
  free = λ i ge lt. same.listed i ∙ forest.free i (omega (arith, ge)) (omega (arith, lt, same.len));
  held = λ i lt some.
      same.listed i ∙ ⊎_elim
      (λ e. forest.free i (omega (arith, e)) (omega (arith, e, more, forest.longer)))
      (λ ne.
      let low : i < count = omega (arith, lt, ne) in
      held_before H count room s forest i low
      (sym (ap is_some (ap (λ l. get_or l i None) leaves ∙ get_or-set_other (leaves_of s) count i x None ne))
      ∙ ap is_some (leaves_of-at s' i (omega (arith, low, more, forest.longer, same.len))) ∙ some))
      (cases_eq i count);
}

-- entries are added
pub forest_grown : (H : List ℕ → Digest) (count k room : ℕ) (s s' : StoreState) (more : List (Option Digest)) → IsForest H count room s
    → count + k < 2 ^ 40 → count + k ≤ room → AreParts H (count + k) (leaves_of s') s' → HasRoomOf s s'
    → take (count + k) (leaves_of s') ≡ take count (leaves_of s) ++ more → IsForest H (count + k) room s'
forest_grown H count k room s s' more forest few within right same leaves = record {
  few = few;
  room = within;
  longer = omega (arith, forest.longer, same.len);
  right = right;
  free = λ i ge lt. same.listed i ∙ forest.free i (omega (arith, ge)) (omega (arith, lt, same.len));
  held = λ i lt some.
      same.listed i ∙ ⊎_elim
      (λ low.
      let le : count ≤ s.len = omega (arith, forest.room, forest.longer) in
      let long = length-entries count s le in
      let was : stored s' 0 i ≡ stored s 0 i = sym (entry_at (count + k) s' i (omega (arith, within, forest.longer, same.len)) lt)
      ∙ ap (λ l. get_or l i None) leaves ∙ get_or_append_left (take count (leaves_of s)) more None i (omega (arith, low, long))
      ∙ entry_at count s i le low in
      forest.held i low (ap is_some (sym was) ∙ some))
      (λ high. forest.free i high (omega (arith, lt, within, forest.longer)))
      (cases_lt i count);
}

within_more : (m n row off : ℕ) → m ≤ n → InForest m row off → InForest n row off
within_more m n row off le h = (in_forest_iff n row off).1 (omega (arith, (in_forest_iff m row off).0 h, le))

-- the last ones are dropped
pub forest_cut : (H : List ℕ → Digest) (count room n : ℕ) (s : StoreState) → IsForest H count room s → n ≤ count
    → ((i : ℕ) → n ≤ i → i < count → is_some (stored s 0 i) ≡ true) → IsForest H n room s
forest_cut H count room n s forest le live = record {
  few = omega (arith, le, forest.few);
  room = omega (arith, le, forest.room);
  longer = forest.longer;
  right = record { is = λ row off h. forest.right.is row off (within_more n count row off le h) };
  free = λ i ge lt. ⊎_elim (λ low. forest.held i low (live i ge low)) (λ high. forest.free i high lt) (cases_lt i count);
  held = λ i lt some. forest.held i (omega (arith, lt, le)) some;
}

-- there is more room
pub entries_longer : (count : ℕ) (s s' : StoreState) → count ≤ s.len → IsLonger s s' → take count (leaves_of s') ≡ take count (leaves_of s)
entries_longer count s s' le longer =
    ext_get_or None (take count (leaves_of s')) (take count (leaves_of s))
    (length-entries count s' (omega (arith, le, longer.len)) ∙ sym (length-entries count s le))
    (λ i lt.
    let low : i < count = omega (arith, lt, length-entries count s' (omega (arith, le, longer.len))) in
    entry_at count s' i (omega (arith, le, longer.len)) low ∙ longer.same 0 i (omega (arith, low, le)) ∙ sym (entry_at count s i le low))

leaves_longer : (n : ℕ) (s s' : StoreState) → n ≤ s.len → n ≤ s'.len → take n (leaves_of s') ≡ take n (leaves_of s) → (row off : ℕ)
    → InForest n row off
    → content (leaves_of s') row off ≡ content (leaves_of s) row off
leaves_longer n s s' le le' same row off h =
    sym (content-take (leaves_of s') n row off h) ∙ ap (λ l. content l row off) same ∙ content-take (leaves_of s) n row off h

pub forest_longer : (H : List ℕ → Digest) (count room room' : ℕ) (s s' : StoreState) → IsForest H count room s → IsLonger s s' → count ≤ room'
    → room' ≤ s'.len → IsForest H count room' s'
forest_longer H count room room' s s' forest longer more within =
    let le : count ≤ s.len = omega (arith, forest.room, forest.longer) in
    record {
      few = forest.few;
      room = more;
      longer = within;
      right = record {
        is = λ row off h.
            longer.same row off (within_more count s.len row off le h) ∙ forest.right.is row off h
            ∙ ap (option_map (digest_of H)) (sym (leaves_longer count s s' le (omega (arith, le, longer.len)) (entries_longer count s s' le longer)
            row
            off h));
      };
      free = λ i ge lt.
          ⊎_elim
          (λ low. longer.listed i low ∙ forest.free i ge low)
          (λ high. longer.free i high lt)
          (cases_lt i s.len);
      held = λ i lt some.
          let low : i < s.len = omega (arith, lt, le) in
          longer.listed i low ∙ forest.held i lt (ap is_some (sym (longer.same 0 i (omega (arith, low)))) ∙ some);
    }

-- an entry is let go
pub of_halves_stored : (H : List ℕ → Digest) (n : ℕ) (s : StoreState) → AreParts H n (leaves_of s) s → AreStoredOfHalves s n
of_halves_stored H n s right = record {
  is = λ row off h.
      let leaves = leaves_of s in
      joined_halves H (stored s row (2 * off)) (stored s row (2 * off + 1)) (stored s (suc row) off)
      (right.is (suc row) off h ∙ digest-join H (content leaves row (2 * off)) (content leaves row (2 * off + 1))
      ∙ ap₂ (join_digests H) (sym (right.is row (2 * off) (InForest-left n row off h)))
      (sym (right.is row (2 * off + 1) (InForest-right n row off h))));
}

pub entries_left : (count : ℕ) (s s' : StoreState) → count ≤ s.len → s'.len ≡ s.len
    → ((row off : ℕ) → InForest count row off → stored s' row off ≡ stored s row off) → take count (leaves_of s') ≡ take count (leaves_of s)
entries_left count s s' le len same =
    ext_get_or None (take count (leaves_of s')) (take count (leaves_of s))
    (length-entries count s' (omega (arith, le, len)) ∙ sym (length-entries count s le))
    (λ i lt.
    let low : i < count = omega (arith, lt, length-entries count s' (omega (arith, le, len))) in
    entry_at count s' i (omega (arith, le, len)) low ∙ same 0 i (omega (arith, low)) ∙ sym (entry_at count s i le low))

pub forest_less : (H : List ℕ → Digest) (count room number : ℕ) (s s' : StoreState) → IsForest H count room s → number < count
    → is_some (stored s 0 number) ≡ false → s'.len ≡ s.len → ((row off : ℕ) → InForest count row off → stored s' row off ≡ stored s row off)
    → IsWithout (is_listed s.pages) (is_listed s'.pages) number → IsForest H count room s'
forest_less H count room number s s' forest lt spent len same gone =
    let le : count ≤ s.len = omega (arith, forest.room, forest.longer) in
    record {
      few = forest.few;
      room = forest.room;
      longer = omega (arith, forest.longer, len);
      right = record {
        is = λ row off h.
            same row off h ∙ forest.right.is row off h
            ∙ ap (option_map (digest_of H)) (sym (leaves_longer count s s' le (omega (arith, le, len)) (entries_left count s s' le len same) row off
            h));
      };
      free = λ i ge below. gone.others i (λ e. let z : ⊥ = omega (arith, e, ge, lt) in z) ∙ forest.free i ge (omega (arith, below, len));
      held = λ i low some.
          let before : is_some (stored s 0 i) ≡ true = ap is_some (sym (same 0 i (omega (arith, low)))) ∙ some in
          gone.others i (λ e. true≢false (sym before ∙ ap (λ k. is_some (stored s 0 k)) e ∙ spent)) ∙ forest.held i low before;
    }

pub held_less : (count number : ℕ) (s s' : StoreState) → number < count → IsWithout (is_listed s.pages) (is_listed s'.pages) number
    → held_of count s' ≡ set (held_of count s) number false
held_less count number s s' low gone =
    ext_get_or false (held_of count s') (set (held_of count s) number false)
    (length-held_of count s' ∙ sym (length-held_of count s) ∙ sym (length-set (held_of count s) number false))
    (λ i lt.
    let below : i < count = omega (arith, lt, length-held_of count s') in
    held_at count s' i below ∙ ⊎_elim
    (λ e.
    ap (is_listed s'.pages) e ∙ gone.here
    ∙ sym (ap (λ k. get_or (set (held_of count s) number false) k false) e
    ∙ get_or-set_same (held_of count s) number false false (omega (arith, low, length-held_of count s))))
    (λ ne.
    gone.others i ne ∙ sym (held_at count s i below) ∙ sym (get_or-set_other (held_of count s) number i false false ne))
    (cases_eq i number))

-- one that was let go before
pub held_gone : (count number : ℕ) (s : StoreState) → number < count → is_listed s.pages number ≡ false
    → held_of count s ≡ set (held_of count s) number false
held_gone count number s low gone =
    ext_get_or false (held_of count s) (set (held_of count s) number false) (sym (length-set (held_of count s) number false))
    (λ i lt.
    ⊎_elim
    (λ e.
    ap (λ k. get_or (held_of count s) k false) e ∙ held_at count s number low ∙ gone
    ∙ sym (ap (λ k. get_or (set (held_of count s) number false) k false) e
    ∙ get_or-set_same (held_of count s) number false false (omega (arith, low, length-held_of count s))))
    (λ ne. sym (get_or-set_other (held_of count s) number i false false ne))
    (cases_eq i number))

-- one more is let go
pub held_without-push : (is : List ℕ) (i : ℕ) (held : List Bool) → held_without (is ++ i ∷ []) held ≡ set (held_without is held) i false
held_without-push [] i held = refl
held_without-push (j ∷ is) i held = held_without-push is i (set held j false)

-- the look-ups see the entries and their parts
pub parts_seen : (H : List ℕ → Digest) (count room : ℕ) (s : StoreState) → IsForest H count room s
    → AreParts H (length (entries_in count s)) (entries_in count s) s
parts_seen H count room s forest =
    let long : length (entries_in count s) ≡ count = length-entries count s (omega (arith, forest.room, forest.longer)) in
    record {
      is = λ row off h.
          let within : InForest count row off = subst (λ m. InForest m row off) long h in
          forest.right.is row off within ∙ ap (option_map (digest_of H)) (sym (content-take (leaves_of s) count row off within));
    }

pub held_seen : (H : List ℕ → Digest) (count room : ℕ) (s : StoreState) → IsForest H count room s → AreHeld (entries_in count s) s
held_seen H count room s forest i live =
    let le : count ≤ s.len = omega (arith, forest.room, forest.longer) in
    let low = live_low count s i le live in
    forest.held i low (sym (live_is count s i le low) ∙ live)

-- what is live is kept for its number
pub live_kept : (H : List ℕ → Digest) (count room : ℕ) (s : StoreState) (i : ℕ) → IsForest H count room s → i < count
    → is_live (entries_in count s) i ≡ true → kept (entries_in count s) s 0 i ≡ None → ⊥
live_kept H count room s i forest low live none =
    false≢true (sym (ap is_some none) ∙ sym (live_is count s i (omega (arith, forest.room, forest.longer)) low) ∙ live)
