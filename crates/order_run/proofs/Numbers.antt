-- The frames of blocks, one number after the other.
use Rattle.std.proofs.Common.{◌≡◌, ℕ, ◌+◌, ◌<◌, ◌≤◌, List, [], ◌∷◌, ◌++◌, Option, Some, None, length, get_or, take, drop, map, refl, sym, ap, ap₂}
use Rattle.std.proofs.Common.{◌∙◌, subst, arith, append-nil}
use Rattle.std.specs.Prelude.{slice_get, All}
use Rattle.std.specs.List.{flat_map}
use Rattle.std.proofs.lemmas.List.{take_more, drop_more, take-append-drop, length-map}
use Rattle.std.proofs.lemmas.List.Concat.{flat_map-append}
use Rattle.std.proofs.lemmas.List.Elements.{All-nil, All-cons, All-get_or}
use Rattle.std.proofs.lemmas.Option.{slice_get_within, slice_get-get_or}
use Rattle.uo_base.specs.declared.event.Net.{Net}
use Rattle.uo_base.specs.declared.event.Net.TheVariants.{Main, Regtest}
use Rattle.feed_frame.specs.Frames.{block_magic, most_block}
use Rattle.feed_frame.specs.Written.{frame_text}
use Rattle.chain_order.specs.Arrivals.{Arrival}
use Rattle.chain_order.specs.Walk.{AreNumbers}
use Rattle.order_run.specs.Frames.{AreShort, frame_of, numbered_text}
use Rattle.order_run.specs.Machine.{path_text}

module _ (net : Net) (arrivals : List Arrival) (numbers : List ℕ) (i : ℕ) (in' : i < length numbers) where
  abbrev at : ℕ → List ℕ
  at k = frame_of net (slice_get arrivals k)

  abbrev number : ℕ
  number = get_or numbers i 0

  -- one more is written
  pub one_more : numbered_text net arrivals (take (i + 1) numbers) ≡ numbered_text net arrivals (take i numbers)
      ++ frame_of net (slice_get arrivals (get_or numbers i 0))
  one_more =
      ap (λ ks. flat_map at ks) (take_more numbers i 0 in') ∙ flat_map-append at (take i numbers) (number ∷ [])
      ∙ ap (λ l. numbered_text net arrivals (take i numbers) ++ l) (append-nil (at number))

  -- what stands before it, it, and what comes behind
  pub all_parts : numbered_text net arrivals numbers
      ≡ numbered_text net arrivals (take i numbers)
      ++ (frame_of net (slice_get arrivals (get_or numbers i 0)) ++ numbered_text net arrivals (drop (i + 1) numbers))
  all_parts =
      ap (λ ks. flat_map at ks) (sym (take-append-drop i numbers)) ∙ flat_map-append at (take i numbers) (drop i numbers)
      ∙ ap (λ ks. numbered_text net arrivals (take i numbers) ++ flat_map at ks) (drop_more numbers i 0 in')

-- the bytes of the block of a number are those of its frame
pub frame_is : (net : Net) (arrivals : List Arrival) (number : ℕ) (body : List ℕ) → number < length arrivals
    → ((one : Arrival) → slice_get arrivals number ≡ Some one → body ≡ one.body)
    → frame_text (block_magic net) body ≡ frame_of net (slice_get arrivals number)
frame_is net arrivals number body lt same = by (slice_get arrivals number) refl
  where
    none : slice_get arrivals number ≡ None → (r : List Arrival) → r ≡ arrivals → ⊥
    none e [] n = absurd (let z = ap (λ (xs : List Arrival). length xs) n in omega (arith, lt, z))
    none e (a ∷ r) n = let s = slice_get-get_or arrivals number a lt in absurd cc

    by : (r : Option Arrival) → slice_get arrivals number ≡ r → frame_text (block_magic net) body ≡ frame_of net (slice_get arrivals number)
    by None e = absurd (none e arrivals refl)
    by (Some one) e = ap (λ b. frame_text (block_magic net) b) (same one e) ∙ sym (ap (λ o. frame_of net o) e)

-- and few enough
pub frame_short : (arrivals : List Arrival) (number : ℕ) (body : List ℕ) → AreShort arrivals → number < length arrivals
    → ((one : Arrival) → slice_get arrivals number ≡ Some one → body ≡ one.body) → length body ≤ most_block
frame_short [] number body short lt same = absurd (omega (arith, lt))
frame_short (a ∷ arrivals) number body short lt same =
    let one = get_or (a ∷ arrivals) number a in
    let is = same one (slice_get-get_or (a ∷ arrivals) number a lt) in
    subst (λ b. length b ≤ most_block) (sym is) (All-get_or (λ (x : Arrival). length x.body ≤ most_block) (a ∷ arrivals) number a lt short)

-- ---- no numbers

pub some_left : (numbers : List ℕ) (i : ℕ) → numbers ≡ [] → i < length numbers → ⊥
some_left numbers i none within = let z = ap (λ (l : List ℕ). length l) none in omega (arith, within, z)

-- a frame is no empty text
frame_some : (net : Net) (body others : List ℕ) → frame_text (block_magic net) body ++ others ≡ [] → ⊥
frame_some Main body others e = cc
frame_some Regtest body others e = cc

pub no_numbers : (net : Net) (arrivals : List Arrival) (numbers : List ℕ) → All (λ number. number < length arrivals) numbers
    → numbered_text net arrivals numbers ≡ [] → numbers ≡ []
no_numbers net arrivals [] within e = refl
no_numbers net [] (n ∷ numbers) within e = absurd (let lt = within 0 0 (omega arith) in omega (arith, lt))
no_numbers net (a ∷ arrivals) (n ∷ numbers) within e =
    let one = slice_get-get_or (a ∷ arrivals) n a (within 0 0 (omega arith)) in
    absurd (frame_some net _ _ (ap (λ o. frame_of net o ++ numbered_text net (a ∷ arrivals) numbers) (sym one) ∙ e))

-- ---- the numbers of a path

pub numbers_within : (arrivals : List Arrival) (numbers : List ℕ) (path : List Arrival) → AreNumbers arrivals numbers path
    → All (λ number. number < length arrivals) numbers
numbers_within arrivals [] path e = All-nil (λ number. number < length arrivals)
numbers_within arrivals (n ∷ numbers) [] e = absurd cc
numbers_within arrivals (n ∷ numbers) (a ∷ path) e =
    let first : slice_get arrivals n ≡ Some a = cc in
    let others : map (slice_get arrivals) numbers ≡ map Some path = cc in
    All-cons (λ number. number < length arrivals) n numbers (slice_get_within arrivals n a first) (numbers_within arrivals numbers path others)

pub numbers_text : (net : Net) (arrivals : List Arrival) (numbers : List ℕ) (path : List Arrival) → AreNumbers arrivals numbers path
    → numbered_text net arrivals numbers ≡ path_text net path
numbers_text net arrivals [] [] e = refl
numbers_text net arrivals [] (a ∷ path) e = absurd cc
numbers_text net arrivals (n ∷ numbers) [] e = absurd cc
numbers_text net arrivals (n ∷ numbers) (a ∷ path) e =
    let first : slice_get arrivals n ≡ Some a = cc in
    let others : map (slice_get arrivals) numbers ≡ map Some path = cc in
    ap₂ (λ l m. l ++ m) (ap (λ o. frame_of net o) first) (numbers_text net arrivals numbers path others)

pub numbers_len : (arrivals : List Arrival) (numbers : List ℕ) (path : List Arrival) → AreNumbers arrivals numbers path → length numbers ≡ length path
numbers_len arrivals numbers path e =
    sym (length-map numbers (slice_get arrivals)) ∙ ap (λ l. length l) e ∙ length-map path (λ (a : Arrival). let o : Option Arrival = Some a in o)
