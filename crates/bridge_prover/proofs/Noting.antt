-- The numbers of watched outputs, while the index changes, and which of them are live.
use Rattle.std.proofs.Common.{◌≡◌, ℕ, suc, ◌+◌, ◌<◌, Bool, true, false, cond, List, [], ◌∷◌, ◌++◌, map, length, take, Option, Some, None, refl, sym}
use Rattle.std.proofs.Common.{ap, ap₂, ◌∙◌, subst, ⊎_elim, arith, ne_eqb, eq-eqb}
use Rattle.std.specs.Prelude.{◌==◌, ◌&&◌, ◌||◌, not, nat_lt, option_map, is_some, slice_get, if◌then◌else◌}
use Rattle.std.specs.List.{AllByRecursion, filter}
use Rattle.std.proofs.lemmas.List.Elements.{All-from_recursion}
use Rattle.std.proofs.lemmas.Bool.{cases_Bool, cases_eq, false≢true, eqb-true}
use Rattle.std.proofs.Math.Bool.{or-false, or-true}
use Rattle.uo_base.proofs.Lists.{filter_all}
use Rattle.leaf_record.specs.Leaf.{Leaf}
use Rattle.leaf_record.specs.History.{History, Entry}
use Rattle.cache_model.specs.Known.{is_watched, kept_from, kept}
use Rattle.output_index.specs.Held.{Held, held_at, leaf_at, is_live, with_live_at, with_live, without, NumbersRise}
use Rattle.output_index.specs.Indexed.{entry_of, lives, lives_from, IsIndexOf}
use Rattle.output_index.proofs.HeldLaws.{leaf-without_other, leaf-without_same}
use Rattle.output_index.proofs.Standing.{later_not}
use Rattle.bridge_prover.specs.Own.{numbered, spent_in, forgotten_in, cut_in, unspent_in}
use Rattle.bridge_prover.specs.Watched.{scripts_of, is_noted, noted_in, kept_in}
use Rattle.bridge_prover.proofs.Gathering.{took_more}
use Rattle.bridge_prover.proofs.Indexing.{numbered-push}
use Rattle.bridge_prover.proofs.Rising.{all_mapped, same_number, same_leaf}

-- ---- lists

abbrev numbers_of : List Held → List ℕ
numbers_of hs = map (λ (h : Held). h.number) hs

-- two tests that agree on a list
filter_alike : (p q : ℕ → Bool) (xs : List ℕ) → AllByRecursion (λ x. p x ≡ q x) xs → filter p xs ≡ filter q xs
filter_alike p q [] a = refl
filter_alike p q (x ∷ xs) a = ap₂ (λ (b : Bool) (ys : List ℕ). cond b (x ∷ ys) ys) a.0 (filter_alike p q xs a.1)

-- a test that implies another
filter_twice : (p q : ℕ → Bool) → ((x : ℕ) → q x ≡ false → p x ≡ false) → (xs : List ℕ) → filter p (filter q xs) ≡ filter p xs
filter_twice p q h [] = refl
filter_twice p q h (x ∷ xs) =
    ⊎_elim
    (λ t. ap (λ b. filter p (cond b (x ∷ filter q xs) (filter q xs))) t ∙ ap (λ (ys : List ℕ). cond (p x) (x ∷ ys) ys) (filter_twice p q h xs))
    (λ f. ap (λ b. filter p (cond b (x ∷ filter q xs) (filter q xs))) f
    ∙ (filter_twice p q h xs ∙ sym (ap (λ b. cond b (x ∷ filter p xs) (filter p xs)) (h x f))))
    (cases_Bool (q x))

-- numbers that rise
abbrev pub Ascend : List ℕ → Type 0
Ascend [] = Unit {0}
Ascend (n ∷ ns) = AllByRecursion (λ m. n < m) ns × Ascend ns

-- without a list none is noted
pub noted_without : (watch : Option (List (List ℕ))) → is_some watch ≡ false → (hs : List Held) → noted_in (scripts_of watch) hs ≡ []
noted_without None none [] = refl
noted_without None none (h ∷ hs) = noted_without None none hs
noted_without (Some scripts) none hs = absurd (false≢true (sym none))

module _ (scripts : List (List ℕ)) where
  abbrev noted : List Held → List Held
  noted hs = filter (is_noted scripts) hs

  -- ---- the index while a block spends and adds, and while it is undone

  pub noted-append : (hs ks : List Held) → noted_in scripts (hs ++ ks) ≡ noted_in scripts hs ++ noted_in scripts ks
  noted-append [] ks = refl
  noted-append (h ∷ hs) ks = by_case (is_noted scripts h) (noted-append hs ks)
    where
      by_case : (b : Bool) → noted_in scripts (hs ++ ks) ≡ noted_in scripts hs ++ noted_in scripts ks
          → numbers_of (cond b (h ∷ noted (hs ++ ks)) (noted (hs ++ ks))) ≡ numbers_of (cond b (h ∷ noted hs) (noted hs)) ++ noted_in scripts ks
      by_case true r = ap (λ ns. h.number ∷ ns) r
      by_case false r = r

  -- one more new output
  pub noted_more : (n i : ℕ) (new : List Leaf) (leaf : Leaf) (old after : List ℕ) → slice_get new i ≡ Some leaf → length (take i new) ≡ i
      → old ≡ noted_in scripts (numbered n (take i new)) →
      after ≡ old ++ noted_in scripts (record { number = n + i; leaf = leaf; live = true } ∷ [])
      → after ≡ noted_in scripts (numbered n (take (i + 1) new))
  noted_more n i new leaf old after got long was e =
      let pushed = numbered-push n (take i new) leaf
      ∙ ap (λ k. (let h : Held = record { number = n + k; leaf = leaf; live = true } in numbered n (take i new) ++ h ∷ [])) long in
      e
      ∙ (ap (λ xs. (let h : Held = record { number = n + i; leaf = leaf; live = true } in xs ++ noted_in scripts (h ∷ []))) was
      ∙ (sym (noted-append (numbered n (take i new)) _) ∙ ap (noted_in scripts) (sym pushed ∙ ap (numbered n) (took_more new i leaf got))))

  noted-with_live : (n : ℕ) (live : Bool) (hs : List Held) → noted_in scripts (with_live n live hs) ≡ noted_in scripts hs
  noted-with_live n live [] = refl
  noted-with_live n live (h ∷ hs) =
      ap (λ (l : Leaf). numbers_of (cond (is_watched scripts (Some l)) (with_live_at n live h ∷ noted (with_live n live hs))
      (noted (with_live n live hs)))) (same_leaf n live h)
      ∙ by_case (is_noted scripts h) (noted-with_live n live hs)
    where
      by_case : (b : Bool) → noted_in scripts (with_live n live hs) ≡ noted_in scripts hs
          → numbers_of (cond b (with_live_at n live h ∷ noted (with_live n live hs)) (noted (with_live n live hs)))
          ≡ numbers_of (cond b (h ∷ noted hs) (noted hs))
      by_case true r = ap₂ (λ (m : ℕ) (ms : List ℕ). m ∷ ms) (same_number n live h) r
      by_case false r = r

  noted-spent : (ns : List ℕ) (hs : List Held) → noted_in scripts (spent_in ns hs) ≡ noted_in scripts hs
  noted-spent [] hs = refl
  noted-spent (n ∷ ns) hs = noted-spent ns (with_live n false hs) ∙ noted-with_live n false hs

  noted-unspent : (ns : List ℕ) (hs : List Held) → noted_in scripts (unspent_in ns hs) ≡ noted_in scripts hs
  noted-unspent [] hs = refl
  noted-unspent (n ∷ ns) hs = noted-unspent ns (with_live n true hs) ∙ noted-with_live n true hs

  -- those whose numbers pass a test
  abbrev passing : (ℕ → Bool) → List Held → List Held
  passing q hs = filter (λ (h : Held). q h.number) hs

  noted-filtered : (q : ℕ → Bool) (hs : List Held) → noted_in scripts (filter (λ h. q h.number) hs) ≡ filter q (noted_in scripts hs)
  noted-filtered q [] = refl
  noted-filtered q (h ∷ hs) =
      ⊎_elim
      (λ t. ap (λ b. noted_in scripts (cond b (h ∷ passing q hs) (passing q hs))) t ∙ passed (is_noted scripts h) t (noted-filtered q hs))
      (λ f. ap (λ b. noted_in scripts (cond b (h ∷ passing q hs) (passing q hs))) f ∙ (noted-filtered q hs ∙ failed (is_noted scripts h) f))
      (cases_Bool (q h.number))
    where
      passed : (b : Bool) → q h.number ≡ true → noted_in scripts (passing q hs) ≡ filter q (noted_in scripts hs)
          → numbers_of (cond b (h ∷ noted (passing q hs)) (noted (passing q hs))) ≡ filter q (numbers_of (cond b (h ∷ noted hs) (noted hs)))
      passed true t r = ap (λ ns. h.number ∷ ns) r
          ∙ sym (ap (λ b. cond b (h.number ∷ filter q (noted_in scripts hs)) (filter q (noted_in scripts hs))) t)
      passed false t r = r

      failed : (b : Bool) → q h.number ≡ false → filter q (noted_in scripts hs) ≡ filter q (numbers_of (cond b (h ∷ noted hs) (noted hs)))
      failed true f = sym (ap (λ b. cond b (h.number ∷ filter q (noted_in scripts hs)) (filter q (noted_in scripts hs))) f)
      failed false f = refl

  noted-cut : (n : ℕ) (hs : List Held) → noted_in scripts (cut_in n hs) ≡ filter (λ i. nat_lt i n) (noted_in scripts hs)
  noted-cut n hs = noted-filtered (λ i. nat_lt i n) hs

  -- each of them is held
  noted-held : (hs : List Held) → AllByRecursion (λ i. is_some (leaf_at i hs) ≡ true) (noted_in scripts hs)
  noted-held [] = tt
  noted-held (h ∷ hs) = by_case (is_noted scripts h)
      (all_mapped (λ i. is_some (leaf_at i hs) ≡ true) (λ i. is_some (leaf_at i (h ∷ hs)) ≡ true) more (noted_in scripts hs) (noted-held hs))
    where
      more : (i : ℕ) → is_some (leaf_at i hs) ≡ true → is_some (leaf_at i (h ∷ hs)) ≡ true
      more i e = by (h.number == i)
        where
          by : (b : Bool) → is_some (option_map (λ (x : Held). x.leaf) (if b then Some h else held_at i hs)) ≡ true
          by true = refl
          by false = e

      by_case : (b : Bool) → AllByRecursion (λ i. is_some (leaf_at i (h ∷ hs)) ≡ true) (noted_in scripts hs)
          → AllByRecursion (λ i. is_some (leaf_at i (h ∷ hs)) ≡ true) (numbers_of (cond b (h ∷ noted hs) (noted hs)))
      by_case true r = (
        ap (λ b. is_some (option_map (λ (x : Held). x.leaf) (if b then Some h else held_at h.number hs)))
            (eq-eqb h.number h.number refl),
        r,
      )
      by_case false r = r

  -- ---- what is not held any more

  gone-still : (n m : ℕ) (hs : List Held) → leaf_at n hs ≡ None → leaf_at n (without m hs) ≡ None
  gone-still n m hs e =
      ⊎_elim
      (λ same. subst (λ k. leaf_at n (without k hs) ≡ None) same (leaf-without_same n hs))
      (λ other. leaf-without_other m n hs other ∙ e)
      (cases_eq n m)

  gone-later : (n : ℕ) (ns : List ℕ) (hs : List Held) → leaf_at n hs ≡ None → leaf_at n (forgotten_in ns hs) ≡ None
  gone-later n [] hs e = e
  gone-later n (m ∷ ns) hs e = gone-later n ns (without m hs) (gone-still n m hs e)

  noted-forgotten : (ns : List ℕ) (hs : List Held)
      → noted_in scripts (forgotten_in ns hs) ≡ filter (λ i. is_some (leaf_at i (forgotten_in ns hs))) (noted_in scripts hs)
  noted-forgotten [] hs = sym (filter_all (λ i. is_some (leaf_at i hs)) (noted_in scripts hs)
      (All-from_recursion (λ i. is_some (leaf_at i hs) ≡ true) (noted_in scripts hs) (noted-held hs)))
  noted-forgotten (n ∷ ns) hs =
      let last = forgotten_in ns (without n hs) in
      noted-forgotten ns (without n hs)
      ∙ (ap (filter (λ i. is_some (leaf_at i last))) (noted-filtered (λ i. not (i == n)) hs)
      ∙ filter_twice (λ i. is_some (leaf_at i last)) (λ i. not (i == n)) (λ i f. ap (λ k. is_some (leaf_at k last)) (is_same i (i == n) refl f)
      ∙ ap is_some (gone-later n ns (without n hs) (leaf-without_same n hs))) (noted_in scripts hs))
    where
      is_same : (i : ℕ) (b : Bool) → (i == n) ≡ b → not b ≡ false → i ≡ n
      is_same i true e f = eqb-true i n e
      is_same i false e f = absurd (false≢true (sym f))

  -- ---- a block, and the way back

  pub noted_then : (ns dropped : List ℕ) (n : ℕ) (new : List Leaf) (hs : List Held) (before more after : List ℕ) (put left : List Held)
      → before ≡ noted_in scripts hs → more ≡ noted_in scripts (numbered n new) →
      put ≡ spent_in ns (hs ++ numbered n new) → left ≡ forgotten_in dropped put → after ≡ filter (λ i. is_some (leaf_at i left)) (before ++ more)
      → after ≡ noted_in scripts left
  noted_then ns dropped n new hs before more after put left was add p l e =
      let all : before ++ more ≡ noted_in scripts put = ap₂ (λ (xs ys : List ℕ). xs ++ ys) was add
      ∙ (sym (noted-append hs (numbered n new)) ∙ (sym (noted-spent ns (hs ++ numbered n new)) ∙ ap (noted_in scripts) (sym p))) in
      e
      ∙ (ap (filter (λ i. is_some (leaf_at i left))) all
      ∙ (ap (λ x. filter (λ i. is_some (leaf_at i x)) (noted_in scripts put)) l
      ∙ (sym (noted-forgotten dropped put) ∙ ap (noted_in scripts) (sym l))))

  pub noted_back : (ns : List ℕ) (n : ℕ) (hs cut back : List Held) (before after : List ℕ) → before ≡ noted_in scripts hs → cut ≡ cut_in n hs
      → back ≡ unspent_in ns cut → after ≡ filter (λ i. nat_lt i n) before → after ≡ noted_in scripts back
  noted_back ns n hs cut back before after was c b e =
      e ∙ (ap (filter (λ i. nat_lt i n)) was ∙ (sym (noted-cut n hs)
      ∙ (ap (noted_in scripts) (sym c) ∙ (sym (noted-unspent ns cut) ∙ ap (noted_in scripts) (sym b)))))

  -- ---- those that are live

  all_noted : (P : ℕ → Type 0) (hs : List Held) → AllByRecursion (λ h. P h.number) hs → AllByRecursion P (noted_in scripts hs)
  all_noted P [] a = tt
  all_noted P (h ∷ hs) a = by_case (is_noted scripts h) (all_noted P hs a.1)
    where
      by_case : (b : Bool) → AllByRecursion P (noted_in scripts hs) → AllByRecursion P (numbers_of (cond b (h ∷ noted hs) (noted hs)))
      by_case true r = (a.0, r)
      by_case false r = r

  abbrev kept_held : List Held → List Held
  kept_held hs = filter (λ (h : Held). h.live && is_noted scripts h) hs

  other_live : (h : Held) (hs : List Held) (i : ℕ) → h.number < i → is_live i (h ∷ hs) ≡ is_live i hs
  other_live h hs i lt = ap (λ b. b && h.live || is_live i hs) (ne_eqb h.number i (λ e. omega (arith, lt, e)))

  others_live : (h : Held) (hs : List Held) → AllByRecursion (λ other. h.number < other.number) hs
      → filter (λ i. is_live i (h ∷ hs)) (noted_in scripts hs) ≡ filter (λ i. is_live i hs) (noted_in scripts hs)
  others_live h hs a =
      filter_alike (λ i. is_live i (h ∷ hs)) (λ i. is_live i hs) (noted_in scripts hs)
      (all_noted (λ i. is_live i (h ∷ hs) ≡ is_live i hs) hs (all_mapped (λ (x : Held). h.number < x.number)
      (λ (x : Held). is_live x.number (h ∷ hs) ≡ is_live x.number hs) (λ x lt. other_live h hs x.number lt) hs a))

  first_live : (h : Held) (hs : List Held) → AllByRecursion (λ other. h.number < other.number) hs → is_live h.number (h ∷ hs) ≡ h.live
  first_live h hs a = ap (λ b. b && h.live || is_live h.number hs) (eq-eqb h.number h.number refl)
      ∙ (ap (λ b. h.live || b) (later_not h.number hs a) ∙ or-false h.live)

  pub kept-live : (hs : List Held) → NumbersRise hs → filter (λ i. is_live i hs) (noted_in scripts hs) ≡ kept_in scripts hs
  kept-live [] r = refl
  kept-live (h ∷ hs) r = by_case (is_noted scripts h) (kept-live hs r.1)
    where
      by_live : (b : Bool) → cond b (h.number ∷ numbers_of (kept_held hs)) (numbers_of (kept_held hs))
          ≡ numbers_of (cond (b && true) (h ∷ kept_held hs) (kept_held hs))
      by_live true = refl
      by_live false = refl

      no_more : (b : Bool) → numbers_of (kept_held hs) ≡ numbers_of (cond (b && false) (h ∷ kept_held hs) (kept_held hs))
      no_more true = refl
      no_more false = refl

      by_case : (b : Bool) → filter (λ i. is_live i hs) (noted_in scripts hs) ≡ numbers_of (kept_held hs)
          → filter (λ i. is_live i (h ∷ hs)) (numbers_of (cond b (h ∷ noted hs) (noted hs)))
          ≡ numbers_of (cond (h.live && b) (h ∷ kept_held hs) (kept_held hs))
      by_case true e = ap₂ (λ (b : Bool) (ns : List ℕ). cond b (h.number ∷ ns) ns) (first_live h hs r.0) (others_live h hs r.0 ∙ e) ∙ by_live h.live
      by_case false e = others_live h hs r.0 ∙ (e ∙ no_more h.live)

  -- ---- by the history

  abbrev watched : List Entry → List Entry
  watched es = filter (λ (e : Entry). is_watched scripts (Some e.leaf)) es

  abbrev entry_numbers : List Entry → List ℕ
  entry_numbers es = map (λ (e : Entry). e.number) es

  kept_lives : (hs : List Held) → kept_in scripts hs ≡ entry_numbers (watched (lives hs))
  kept_lives [] = refl
  kept_lives (h ∷ hs) = by_live h.live (kept_lives hs)
    where
      by_case : (b : Bool) → numbers_of (kept_held hs) ≡ entry_numbers (watched (lives hs))
          → numbers_of (cond b (h ∷ kept_held hs) (kept_held hs)) ≡ entry_numbers (cond b (entry_of h ∷ watched (lives hs)) (watched (lives hs)))
      by_case true r = ap (λ ns. h.number ∷ ns) r
      by_case false r = r

      by_live : (b : Bool) → numbers_of (kept_held hs) ≡ entry_numbers (watched (lives hs))
          → numbers_of (cond (b && is_noted scripts h) (h ∷ kept_held hs) (kept_held hs))
          ≡ entry_numbers (watched (if b then entry_of h ∷ lives hs else lives hs))
      by_live true r = by_case (is_noted scripts h) r
      by_live false r = r

  kept_history : (n : ℕ) (us : History) → kept_from n scripts us ≡ entry_numbers (watched (lives_from n us))
  kept_history n [] = refl
  kept_history n (None ∷ us) = kept_history (suc n) us
  kept_history n (Some leaf ∷ us) = by_case (is_watched scripts (Some leaf)) (kept_history (suc n) us)
    where
      by_case : (b : Bool) → kept_from (suc n) scripts us ≡ entry_numbers (watched (lives_from (suc n) us)) →
          (if b then n ∷ kept_from (suc n) scripts us else kept_from (suc n) scripts us)
          ≡ entry_numbers (cond b (record { number = n; leaf = leaf } ∷ watched (lives_from (suc n) us)) (watched (lives_from (suc n) us)))
      by_case true r = ap (λ ns. n ∷ ns) r
      by_case false r = r

  pub kept_same : (hs : List Held) (us : History) → IsIndexOf hs us → kept_in scripts hs ≡ kept scripts us
  kept_same hs us index = kept_lives hs ∙ (ap (λ es. entry_numbers (watched es)) index ∙ sym (kept_history 0 us))

  -- they rise, and are live

  all_kept : (P : ℕ → Type 0) (hs : List Held) → AllByRecursion (λ h. P h.number) hs → AllByRecursion P (kept_in scripts hs)
  all_kept P [] a = tt
  all_kept P (h ∷ hs) a = by_case (h.live && is_noted scripts h) (all_kept P hs a.1)
    where
      by_case : (b : Bool) → AllByRecursion P (kept_in scripts hs) → AllByRecursion P (numbers_of (cond b (h ∷ kept_held hs) (kept_held hs)))
      by_case true r = (a.0, r)
      by_case false r = r

  pub kept_rise : (hs : List Held) → NumbersRise hs → Ascend (kept_in scripts hs)
  kept_rise [] r = tt
  kept_rise (h ∷ hs) r = by_case (h.live && is_noted scripts h) (kept_rise hs r.1)
    where
      by_case : (b : Bool) → Ascend (kept_in scripts hs) → Ascend (numbers_of (cond b (h ∷ kept_held hs) (kept_held hs)))
      by_case true s = (all_kept (λ m. h.number < m) hs r.0, s)
      by_case false s = s

  pub kept_live : (hs : List Held) → AllByRecursion (λ i. is_live i hs ≡ true) (kept_in scripts hs)
  kept_live [] = tt
  kept_live (h ∷ hs) = by_case (h.live && is_noted scripts h) refl
      (all_mapped (λ i. is_live i hs ≡ true) (λ i. is_live i (h ∷ hs) ≡ true)
      (λ i e. ap (λ b. h.number == i && h.live || b) e ∙ or-true (h.number == i && h.live)) (kept_in scripts hs) (kept_live hs))
    where
      is_live_one : (b c : Bool) → (b && c) ≡ true → b ≡ true
      is_live_one true c e = refl
      is_live_one false c e = absurd (false≢true e)

      by_case : (b : Bool) → (h.live && is_noted scripts h) ≡ b → AllByRecursion (λ i. is_live i (h ∷ hs) ≡ true) (kept_in scripts hs)
          → AllByRecursion (λ i. is_live i (h ∷ hs) ≡ true) (numbers_of (cond b (h ∷ kept_held hs) (kept_held hs)))
      by_case true e r = (
        ap₂ (λ (a b : Bool). a && b || is_live h.number hs) (eq-eqb h.number h.number refl)
            (is_live_one h.live (is_noted scripts h) e),
        r,
      )
      by_case false e r = r
