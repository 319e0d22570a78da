-- A list with a gap, where the gap goes, and what is changed at it.
use Rattle.std.proofs.Common.{◌≡◌, ℕ, zero, suc, ◌+◌, ◌-◌, ◌<◌, ◌≤◌, ◌⊎◌, inl, inr, Bool, true, false, List, [], ◌∷◌, ◌++◌, length, get_or, set, map}
use Rattle.std.proofs.Common.{take, drop, Some, None, refl, sym, ap, ap₂, ◌∙◌, subst, ⊎_elim, arith}
use Rattle.std.proofs.lemmas.Bool.{cases_lt}
use Rattle.std.proofs.lemmas.List.{append-nil, append_assoc, length-append, length-take-le, length-drop, take-set-le, drop-set, drop-set-lt}
use Rattle.std.proofs.lemmas.List.{take_more, take_more_set, drop_more, drop_all, get_or-take, get_or-drop, get_or_default}
use Rattle.uo_digest.specs.declared.digest.Digest.{Digest}
use Rattle.forest_place.specs.declared.place.Place.{Place}
use Rattle.forest_place.specs.Places.{is_before_place}
use Rattle.cache_model.specs.Lists.{AscendByPlace}
use Rattle.cache_model.specs.Search.{IsSplit}
use Rattle.cache_model.specs.Steps.{put}
use Rattle.cache_model.specs.Undo.{change, held_key, is_same_place}
use Rattle.cache_model.proofs.Searching.{IsNarrowed, narrowed-start, narrowed-up, narrowed-down, narrowed-end, change_at, change_end}
use Rattle.cache_model.proofs.Undoing.{place_order}
use Rattle.cache_update.specs.GappedList.{IsGap, around, EndsBefore}
use Rattle.cache_update.specs.Given.{digest_was, digest_none, undo_digests, held_given}
use Rattle.cache_update.proofs.Undone.{undo_long, undo_no_longer, change_short}
use Rattle.cache_update.proofs.Outs.{out_other, out_end}
use Rattle.cache_update.proofs.Puts.{put_there, put_before}

abbrev pub Cells : Type 0
Cells = List (Place × Digest)

module _ (from to : ℕ) (xs : Cells) (g : IsGap from to xs) where
  -- the list, taken apart at the gap
  front_length : length (take from xs) ≡ from
  front_length = let o = g.order in let w = g.within in length-take-le from xs (omega (arith, o, w))

  pub length_around : length (around from to xs) + to ≡ from + length xs
  length_around =
      let w = g.within in
      let a : length (take from xs ++ drop to xs) ≡ length (take from xs) + length (drop to xs) = length-append (take from xs) (drop to xs) in
      let f = front_length in let d = length-drop to xs in
      omega (arith, a, f, d, w)

  pub at_front : (d : Place × Digest) → 0 < from → get_or (around from to xs) (from - 1) d ≡ get_or xs (from - 1) d
  at_front d pos = let f = front_length in
      front_of (take from xs) (drop to xs) (from - 1) d (omega (arith, f, pos)) ∙ get_or-take from xs (from - 1) d (omega (arith, pos))
    where
      front_of : (ks ls : Cells) (i : ℕ) (d : Place × Digest) → i < length ks → get_or (ks ++ ls) i d ≡ get_or ks i d
      front_of [] ls i d lt = absurd (omega (arith, lt))
      front_of (a ∷ ks) ls zero d lt = refl
      front_of (a ∷ ks) ls (suc i) d lt = front_of ks ls i d (omega (arith, lt))

  behind_is : drop from (around from to xs) ≡ drop to xs
  behind_is = let f = front_length in behind_of (take from xs) (drop to xs) from f
    where
      behind_of : (ks ls : Cells) (i : ℕ) → length ks ≡ i → drop i (ks ++ ls) ≡ ls
      behind_of [] ls zero e = refl
      behind_of [] ls (suc i) e = absurd (omega (arith, e))
      behind_of (a ∷ ks) ls zero e = absurd (omega (arith, e))
      behind_of (a ∷ ks) ls (suc i) e = behind_of ks ls i (omega (arith, e))

  front_is : take from (around from to xs) ≡ take from xs
  front_is = let f = front_length in front_part (take from xs) (drop to xs) from f
    where
      front_part : (ks ls : Cells) (i : ℕ) → length ks ≡ i → take i (ks ++ ls) ≡ ks
      front_part [] ls zero e = refl
      front_part [] ls (suc i) e = absurd (omega (arith, e))
      front_part (a ∷ ks) ls zero e = absurd (omega (arith, e))
      front_part (a ∷ ks) ls (suc i) e = ap (λ ys. a ∷ ys) (front_part ks ls i (omega (arith, e)))

  pub at_back : (d : Place × Digest) → to < length xs → get_or (around from to xs) from d ≡ get_or xs to d
  at_back d lt =
      let a : get_or (drop from (around from to xs)) 0 d ≡ get_or (around from to xs) (from + 0) d = get_or-drop from (around from to xs) 0 d in
      let b : get_or (drop to xs) 0 d ≡ get_or xs (to + 0) d = get_or-drop to xs 0 d in
      let x : from + 0 ≡ from = omega arith in
      let y : to + 0 ≡ to = omega arith in
      ap (λ i. get_or (around from to xs) i d) (sym x) ∙ (sym a ∙ (ap (λ ys. get_or ys 0 d) behind_is ∙ (b ∙ ap (λ i. get_or xs i d) y)))

  behind_next : to < length xs → drop (suc from) (around from to xs) ≡ drop (to + 1) xs
  behind_next lt =
      let e : suc to ≡ to + 1 = omega arith in
      drop_step from (around from to xs) ∙ (ap (drop 1) behind_is ∙ (sym (drop_step to xs) ∙ ap (λ i. drop i xs) e))
    where
      drop_step : (i : ℕ) (ys : Cells) → drop (suc i) ys ≡ drop 1 (drop i ys)
      drop_step zero ys = refl
      drop_step (suc i) [] = refl
      drop_step (suc i) (y ∷ ys) = drop_step i ys

  -- the gap goes an element to the front, and to the end
  pub gap_down : (d : Place × Digest) → 0 < from → around (from - 1) (to - 1) (set xs (to - 1) (get_or xs (from - 1) d)) ≡ around from to xs
  gap_down d pos =
      let o = g.order in let w = g.within in
      let x = get_or xs (from - 1) d in
      let p : to - 1 + 1 ≡ to = omega (arith, o, pos) in
      let q : from - 1 + 1 ≡ from = omega (arith, pos) in
      ap₂ (λ (ks ls : Cells). ks ++ ls) (take-set-le (from - 1) xs (to - 1) x (omega (arith, o)))
      (drop-set xs (to - 1) x (omega (arith, o, w, pos)) ∙ ap (λ i. x ∷ drop i xs) p)
      ∙ (sym (append_assoc (take (from - 1) xs) (x ∷ []) (drop to xs))
      ∙ ap (λ (ks : Cells). ks ++ drop to xs) (sym (take_more xs (from - 1) d (omega (arith, o, w, pos))) ∙ ap (λ i. take i xs) q))

  pub gap_up : (d : Place × Digest) → to < length xs → around (from + 1) (to + 1) (set xs from (get_or xs to d)) ≡ around from to xs
  gap_up d lt =
      let o = g.order in
      let x = get_or xs to d in
      ap₂ (λ (ks ls : Cells). ks ++ ls) (take_more_set xs from x (omega (arith, o, lt))) (drop-set-lt (to + 1) xs from x (omega (arith, o)))
      ∙ (append_assoc (take from xs) (x ∷ []) (drop (to + 1) xs) ∙ ap (λ (ls : Cells). take from xs ++ ls) (sym (drop_more xs to d lt)))

  -- where the list is changed at the gap
  module _ (p : Place) (s : IsSplit is_before_place held_key p (around from to xs) from) where
    short : length xs ≤ to → length (around from to xs) ≤ from
    short ge = let l = length_around in omega (arith, l, ge)

    long : to < length xs → from < length (around from to xs)
    long lt = let l = length_around in omega (arith, l, lt)

    pub gap_takes : (d : Place × Digest) → to < length xs → is_same_place p (get_or xs to d).0 ≡ true
        → around from (to + 1) xs ≡ change is_same_place is_before_place held_key p (λ now. None) (around from to xs)
    gap_takes d lt t =
        sym (change_at is_same_place is_before_place held_key place_order p (λ now. None) (around from to xs) from d s (long lt)
        (ap (λ (x : Place × Digest). is_same_place p x.0) (at_back d lt) ∙ t)
        ∙ ap₂ (λ (ks ls : Cells). ks ++ ls) front_is (behind_next lt))

    pub gap_leaves : (to < length xs → (d : Place × Digest) → is_same_place p (get_or xs to d).0 ≡ false)
        → around from to xs ≡ change is_same_place is_before_place held_key p (λ now. None) (around from to xs)
    gap_leaves other = ⊎_elim
        (λ lt. let d : Place × Digest = (p, record { 0 = [] }) in out_other (around from to xs) p from s d (long lt)
        (ap (λ (x : Place × Digest). is_same_place p x.0) (at_back d lt) ∙ other lt d))
        (λ ge. out_end (around from to xs) p from s (short ge))
        (cases_lt to (length xs))

    pub gap_replaces : (x : Digest) (d : Place × Digest) → to < length xs → is_same_place p (get_or xs to d).0 ≡ true
        → around from to (set xs to (p, x)) ≡ put p x (around from to xs)
    gap_replaces x d lt t =
        let o = g.order in
        ap₂ (λ (ks ls : Cells). ks ++ ls) (take-set-le from xs to (p, x) o) (drop-set xs to (p, x) lt)
        ∙ sym (put_there (around from to xs) p x from d s (long lt) (ap (λ (x : Place × Digest). is_same_place p x.0) (at_back d lt) ∙ t)
        ∙ ap₂ (λ (ks ls : Cells). ks ++ (p, x) ∷ ls) front_is (behind_next lt))

    pub gap_puts : (x : Digest) → from < to → (to < length xs → (d : Place × Digest) → is_same_place p (get_or xs to d).0 ≡ false)
        → around from (to - 1) (set xs (to - 1) (p, x)) ≡ put p x (around from to xs)
    gap_puts x room other =
        let o = g.order in let w = g.within in
        let e : to - 1 + 1 ≡ to = omega (arith, room) in
        ap₂ (λ (ks ls : Cells). ks ++ ls) (take-set-le from xs (to - 1) (p, x) (omega (arith, room)))
        (drop-set xs (to - 1) (p, x) (omega (arith, w, room)) ∙ ap (λ i. (p, x) ∷ drop i xs) e)
        ∙ sym (⊎_elim
        (λ lt. let d : Place × Digest = (p, x) in
        put_before (around from to xs) p x from d s (long lt) (ap (λ (x : Place × Digest). is_same_place p x.0) (at_back d lt) ∙ other lt d)
        ∙ ap₂ (λ (ks ls : Cells). ks ++ (p, x) ∷ ls) front_is behind_is)
        (λ ge. change_end is_same_place is_before_place held_key place_order p (λ now. Some (p, x)) (around from to xs) from s (short ge)
        ∙ ap₂ (λ (ks ls : Cells). ks ++ (p, x) ∷ ls) front_is behind_is)
        (cases_lt to (length xs)))

  -- at the end
  pub gap_shut : length xs ≤ to → take from xs ≡ around from to xs
  gap_shut ge = sym (ap (λ (ls : Cells). take from xs ++ ls) (drop_all to xs ge) ∙ append-nil (take from xs))

-- a gap at the end
pub gap_opened : (hs more : Cells) (from to : ℕ) → from ≡ length hs → to ≡ length (hs ++ more) → around from to (hs ++ more) ≡ hs
gap_opened hs more from to e f =
    ap₂ (λ (ks ls : Cells). ks ++ ls) (ap (λ i. take i (hs ++ more)) e ∙ front_all hs more) (drop_all to (hs ++ more) (omega (arith, f)))
    ∙ append-nil hs
  where
    front_all : (ks ls : Cells) → take (length ks) (ks ++ ls) ≡ ks
    front_all [] ls = refl
    front_all (a ∷ ks) ls = ap (λ ys. a ∷ ys) (front_all ks ls)

-- where the gap goes no further
pub ends_at : (hs : Cells) (i : ℕ) (p : Place) → i ≡ 0 → EndsBefore hs i p
ends_at hs i p e = λ pos d. absurd (omega (arith, e, pos))

pub split_here : (hs : Cells) (i : ℕ) (p : Place) → AscendByPlace hs → i ≤ length hs → EndsBefore hs i p
    → (i < length hs → (d : Place × Digest) → is_before_place (get_or hs i d).0 p ≡ false) → IsSplit is_before_place held_key p hs i
split_here hs i p a inside before behind =
    narrowed-end is_same_place is_before_place held_key place_order p hs i i
    (high (low (narrowed-start is_same_place is_before_place held_key place_order p hs))) (omega arith)
  where
    x : Place × Digest
    x = (p, record { 0 = [] })

    low : IsNarrowed is_same_place is_before_place held_key place_order p hs 0 (length hs)
        → IsNarrowed is_same_place is_before_place held_key place_order p hs i (length hs)
    low n = ⊎_elim
        (λ pos. let e : i - 1 + 1 ≡ i = omega (arith, pos) in
        subst (λ l. IsNarrowed is_same_place is_before_place held_key place_order p hs l (length hs)) e
        (narrowed-up is_same_place is_before_place held_key place_order p hs 0 (length hs) (i - 1) x a n (omega (arith, pos, inside)) (omega arith)
        (before pos x)))
        (λ none. let e : 0 ≡ i = omega (arith, none) in
        subst (λ l. IsNarrowed is_same_place is_before_place held_key place_order p hs l (length hs)) e n)
        (cases_lt 0 i)

    high : IsNarrowed is_same_place is_before_place held_key place_order p hs i (length hs)
        → IsNarrowed is_same_place is_before_place held_key place_order p hs i i
    high n = ⊎_elim
        (λ lt. narrowed-down is_same_place is_before_place held_key place_order p hs i (length hs) i x a n lt (omega arith) (behind lt x))
        (λ ge. let e : length hs ≡ i = omega (arith, ge, inside) in
        subst (λ h. IsNarrowed is_same_place is_before_place held_key place_order p hs i h) e n)
        (cases_lt i (length hs))

-- where the gap goes no further, on the way to a place
module _ (hs : Cells) (from to : ℕ) (xs : Cells) (p : Place) (g : IsGap from to xs) (same : around from to xs ≡ hs) where
  pub ends_before : (x : Place × Digest) → 0 < from → is_before_place (get_or xs (from - 1) x).0 p ≡ true → EndsBefore hs from p
  ends_before x pos b = λ pos' d.
      let o = g.order in let w = g.within in
      ap (λ (ys : Cells). is_before_place (get_or ys (from - 1) d).0 p) (sym same)
      ∙ (ap (λ (y : Place × Digest). is_before_place y.0 p)
      (at_front from to xs g d pos ∙ get_or_default xs (from - 1) d x (omega (arith, o, w, pos))) ∙ b)

  pub ends_more : (x : Place × Digest) → to < length xs → is_before_place (get_or xs to x).0 p ≡ true → EndsBefore hs (from + 1) p
  ends_more x lt b = λ pos d.
      let e : from + 1 - 1 ≡ from = omega arith in
      ap (λ i. is_before_place (get_or hs i d).0 p) e
      ∙ (ap (λ (ys : Cells). is_before_place (get_or ys from d).0 p) (sym same)
      ∙ (ap (λ (y : Place × Digest). is_before_place y.0 p) (at_back from to xs g d lt ∙ get_or_default xs to d x lt) ∙ b))

  inside : from ≤ length hs
  inside = let w = g.within in let l = length_around from to xs g in let e = ap length same in omega (arith, w, l, e)

  pub split_inside : (x : Place × Digest) → AscendByPlace hs → EndsBefore hs from p → to < length xs → is_before_place (get_or xs to x).0 p ≡ false
      → IsSplit is_before_place held_key p hs from
  split_inside x a before lt b = split_here hs from p a inside before (λ below d.
      ap (λ (ys : Cells). is_before_place (get_or ys from d).0 p) (sym same)
      ∙ (ap (λ (y : Place × Digest). is_before_place y.0 p) (at_back from to xs g d lt ∙ get_or_default xs to d x lt) ∙ b))

  pub split_at_end : AscendByPlace hs → EndsBefore hs from p → length xs ≤ to → IsSplit is_before_place held_key p hs from
  split_at_end a before ge = split_here hs from p a inside before (λ below d.
      let l = length_around from to xs g in let e = ap length same in absurd (omega (arith, below, l, e, ge)))

-- what stands right behind the gap, whatever the default
pub behind_there : (xs : Cells) (to : ℕ) (p : Place) (x : Place × Digest) (b c : Bool) → to < length xs → b ≡ is_same_place p (get_or xs to x).0
    → b ≡ c → (d : Place × Digest) → is_same_place p (get_or xs to d).0 ≡ c
behind_there xs to p x b c lt e f d = ap (λ (y : Place × Digest). is_same_place p y.0) (get_or_default xs to d x lt) ∙ (sym e ∙ f)

-- as long as something is to be put, there is a gap: as many cells as are to come, or more than the list has at the end
pub room_starts : (lost now : Cells) (i cells : ℕ) → i ≡ length lost
    → undo_digests (map digest_was lost) now ≡ undo_digests (map digest_was (take i lost)) now →
    (length now + length lost ≤ cells) ⊎ (length (undo_digests (map digest_was lost) now) < cells) → (length now + i ≤ cells)
    ⊎ (length (undo_digests (map digest_was (take i lost)) now) < cells)
room_starts lost now i cells e f (inl h) = inl (omega (arith, e, h))
room_starts lost now i cells e f (inr h) = inr (let l = ap length f in omega (arith, l, h))

pub has_gap : (lost : Cells) (from to : ℕ) (xs : Cells) (i : ℕ) → IsGap from to xs → 0 < i → (length (around from to xs) + i ≤ length xs)
    ⊎ (length (undo_digests (map digest_was (take i lost)) (around from to xs)) < length xs) → from < to
has_gap lost from to xs i g pos (inl h) = let l = length_around from to xs g in omega (arith, l, h, pos)
has_gap lost from to xs i g pos (inr h) =
    let l = length_around from to xs g in
    let long = undo_long is_same_place is_before_place held_key digest_was (λ x v. refl) (take i lost) (around from to xs) in
    omega (arith, l, h, long)

pub room_stays : (lost now next : Cells) (p : Place) (x : Digest) (cells i j : ℕ) → j + 1 ≡ i → next ≡ put p x now
    → undo_digests (map digest_was (take i lost)) now ≡ undo_digests (map digest_was (take j lost)) next →
    (length now + i ≤ cells) ⊎ (length (undo_digests (map digest_was (take i lost)) now) < cells) → (length next + j ≤ cells)
    ⊎ (length (undo_digests (map digest_was (take j lost)) next) < cells)
room_stays lost now next p x cells i j e f g (inl h) =
    let l = ap length f in
    let short = change_short is_same_place is_before_place held_key p (λ y. Some (p, x)) now in
    inl (omega (arith, e, l, short, h))
room_stays lost now next p x cells i j e f g (inr h) = inr (let l = ap length g in omega (arith, l, h))

-- a list that is written in place is as long as it was
pub room_kept : (a b cells cells' : ℕ) → cells' ≡ cells → (a ≤ cells) ⊎ (b < cells) → (a ≤ cells') ⊎ (b < cells')
room_kept a b cells cells' e (inl h) = inl (omega (arith, e, h))
room_kept a b cells cells' e (inr h) = inr (omega (arith, e, h))

pub room_between : (lost : Cells) (gained : List Place) (hs now : Cells) (cells cells' : ℕ) → now ≡ undo_digests (map digest_none gained) hs
    → cells' ≡ cells →
    (length hs + length lost ≤ cells) ⊎ (length (held_given lost gained hs) < cells) → (length now + length lost ≤ cells')
    ⊎ (length (undo_digests (map digest_was lost) now) < cells')
room_between lost gained hs now cells cells' e f (inl h) =
    let l = ap length e in
    let short = undo_no_longer is_same_place is_before_place held_key digest_none (λ p. refl) gained hs in
    inl (omega (arith, f, l, short, h))
room_between lost gained hs now cells cells' e f (inr h) =
    inr (let l = ap (λ (xs : Cells). length (undo_digests (map digest_was lost) xs)) e in omega (arith, f, l, h))

-- and so there is from the start
pub room_opened : (lost : Cells) (gained : List Place) (hs opened held : Cells) (from to len capacity : ℕ) → IsGap from to held → opened ≡ hs
    → len ≡ length hs → (len + length lost ≤ to) ⊎ (capacity ≤ to) →
    length (held_given lost gained hs) < capacity → (length opened + length lost ≤ length held)
    ⊎ (length (held_given lost gained opened) < length held)
room_opened lost gained hs opened held from to len capacity g e f (inl h) room =
    inl (let l = ap length e in let w = g.within in omega (arith, l, f, w, h))
room_opened lost gained hs opened held from to len capacity g e f (inr h) room =
    inr (let l = ap (λ (xs : Cells). length (held_given lost gained xs)) e in let w = g.within in omega (arith, l, w, h, room))

-- what is changed behind a way to a place
module _ (hs : Cells) (from to : ℕ) (xs : Cells) (p : Place) (g : IsGap from to xs) (same : around from to xs ≡ hs)
    (s : IsSplit is_before_place held_key p hs from) where
  here : IsSplit is_before_place held_key p (around from to xs) from
  here = subst (λ (ys : Cells). IsSplit is_before_place held_key p ys from) (sym same) s

  pub taken_out : (d : Place × Digest) → to < length xs → is_same_place p (get_or xs to d).0 ≡ true
      → around from (to + 1) xs ≡ change is_same_place is_before_place held_key p (λ now. None) hs
  taken_out d lt t = gap_takes from to xs g p here d lt t ∙ ap (change is_same_place is_before_place held_key p (λ now. None)) same

  pub left_out : (to < length xs → (d : Place × Digest) → is_same_place p (get_or xs to d).0 ≡ false)
      → around from to xs ≡ change is_same_place is_before_place held_key p (λ now. None) hs
  left_out other = gap_leaves from to xs g p here other ∙ ap (change is_same_place is_before_place held_key p (λ now. None)) same

  pub replaced : (x : Digest) (d : Place × Digest) → to < length xs → is_same_place p (get_or xs to d).0 ≡ true
      → around from to (set xs to (p, x)) ≡ put p x hs
  replaced x d lt t = gap_replaces from to xs g p here x d lt t ∙ ap (put p x) same

  pub put_new : (x : Digest) → from < to → (to < length xs → (d : Place × Digest) → is_same_place p (get_or xs to d).0 ≡ false)
      → around from (to - 1) (set xs (to - 1) (p, x)) ≡ put p x hs
  put_new x room other = gap_puts from to xs g p here x room other ∙ ap (put p x) same
