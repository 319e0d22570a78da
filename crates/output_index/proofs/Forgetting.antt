-- Entries that are forgotten one after the other, and what is known of them before.
use Rattle.std.proofs.Common.{◌≡◌, ◌≢◌, ℕ, zero, suc, ◌+◌, ◌<◌, ◌≤◌, true, false, List, [], ◌∷◌, ◌++◌, length, take, drop, get_or, Option, Some, None}
use Rattle.std.proofs.Common.{refl, sym, ap, ◌∙◌, subst, ⊎_elim, arith}
use Rattle.std.specs.Prelude.{option_map, is_some, nat_eq}
use Rattle.std.specs.List.{AllZip}
use Rattle.std.specs.Option.{option_eq}
use Rattle.std.proofs.lemmas.Bool.{cases_eq, cases_lt, eqb-true, false≢true, true≢false, OnTrue_at, OnTrue_from}
use Rattle.std.proofs.lemmas.List.{drop_more, take_more}
use Rattle.std.proofs.lemmas.Option.{none-some, same_Some}
use Rattle.output_index.specs.declared.entry.Entry.{Entry}
use Rattle.output_index.specs.declared.entry_to_forget.EntryToForget.{EntryToForget}
use Rattle.output_index.specs.Held.{Held, without, without_all}
use Rattle.output_index.specs.Marks.{mark_of}
use Rattle.output_index.specs.Entries.{held_in, entry_at, removed}
use Rattle.output_index.specs.Links.{mark_in, mark_at, held_mark, IsLast, Below, Any, AreLinked, IsChained}
use Rattle.output_index.specs.NewestByMark.{MarkNumbers, newest_with}
use Rattle.output_index.specs.Overflow.{TellsOther}
use Rattle.output_index.specs.Forgetting.{IsOldest, IsAlone, IsToForget}
use Rattle.output_index.proofs.Chaining.{chained-newest, mark-from}
use Rattle.output_index.proofs.HeldLaws.{leaf-without_other, leaf-without_same}
use Rattle.output_index.proofs.Holding.{leaf_at-in}

-- ---- one more of them

pub without_all-more : (ns : List ℕ) (i : ℕ) (hs : List Held) → i < length ns
    → without_all (drop i ns) hs ≡ without_all (drop (i + 1) ns) (without (get_or ns i 0) hs)
without_all-more ns i hs lt = ap (λ ms. without_all ms hs) (drop_more ns i 0 lt)

-- ---- marks

-- the entries of the index have the marks of what contracts see
pub mark-in : (n : ℕ) (es : List (ℕ × Entry)) → held_mark (held_in es) n ≡ mark_at es n
mark-in n es = ap (option_map (λ leaf. mark_of leaf.point)) (leaf_at-in n es) ∙ by_case (entry_at n es)
  where
    by_case : (x : Option Entry) → option_map (λ leaf. mark_of leaf.point) (option_map (λ (e : Entry). e.leaf) x) ≡ option_map mark_in x
    by_case None = refl
    by_case (Some e) = refl

-- so a mark that contracts tell is that of the entry
pub mark-inside : (n m : ℕ) (es : List (ℕ × Entry)) (hs : List Held) → held_in es ≡ hs → held_mark hs n ≡ Some m → mark_at es n ≡ Some m
mark-inside n m es hs v h = sym (mark-in n es) ∙ (ap (λ xs. held_mark xs n) v ∙ h)

pub mark-without_other : (n q : ℕ) (hs : List Held) → q ≢ n → held_mark (without n hs) q ≡ held_mark hs q
mark-without_other n q hs o = ap (option_map (λ leaf. mark_of leaf.point)) (leaf-without_other n q hs o)

-- ---- the only one of its mark

-- an entry that tells no older one is the oldest
pub oldest_from : (n : ℕ) (e : Entry) (es : List (ℕ × Entry)) → AreLinked es → entry_at n es ≡ Some e → is_some e.older ≡ false
    → IsOldest (held_in es) n (mark_in e)
oldest_from n e es linked at none = by_case e.older (linked n e at) none
  where
    by_case : (r : Option ℕ) → IsLast (mark_at es) (mark_in e) (Below n) r → is_some r ≡ false → IsOldest (held_in es) n (mark_in e)
    by_case None l h = λ j q. ⊎_elim (λ b. absurd (l j b (sym (mark-in j es) ∙ q))) (λ b. b) (cases_lt j n)
    by_case (Some i) l h = absurd (true≢false h)

-- what the code compares with a number
pub equal_some : (x : Option ℕ) (n : ℕ) → option_eq nat_eq x (Some n) ≡ true → x ≡ Some n
equal_some None n h = absurd (false≢true h)
equal_some (Some t) n h = ap Some (eqb-true t n h)

-- the oldest is the only one, where it is the newest too
pub alone_from : (n m : ℕ) (es : List (ℕ × Entry)) (marks : MarkNumbers) → IsChained es marks → IsOldest (held_in es) n m
    → newest_with marks m ≡ Some n
    → IsAlone (held_in es) n m
alone_from n m es marks h oldest top j q =
    let l : IsLast (mark_at es) m Any (Some n) = subst (λ r. IsLast (mark_at es) m Any r) top (h.newest m) in
    let most : j ≤ n = ⊎_elim (λ b. absurd (l.2 j tt b (sym (mark-in j es) ∙ q))) (λ b. b) (cases_lt n j) in
    let least : n ≤ j = oldest j q in
    omega (arith, most, least)

-- it stays so while others are forgotten
alone-without : (n m q : ℕ) (hs : List Held) → IsAlone hs n m → IsAlone (without q hs) n m
alone-without n m q hs h j is =
    ⊎_elim
    (λ s. absurd (none-some m (sym (ap (option_map (λ leaf. mark_of leaf.point)) (leaf-without_same q hs))
    ∙ subst (λ k. held_mark (without q hs) k ≡ Some m) s is)))
    (λ o. h j (sym (mark-without_other q j hs o) ∙ is))
    (cases_eq j q)

pub to_forget-without : (n q : ℕ) (known : EntryToForget) (hs : List Held) → q ≢ n → IsToForget hs q known → IsToForget (without n hs) q known
to_forget-without n q known hs o h = record {
  mark = mark-without_other n q hs o ∙ h.mark;
  alone = OnTrue_from known.alone (IsAlone (without n hs) q known.mark) (λ t. alone-without q known.mark n hs (OnTrue_at t h.alone));
}

-- the only one tells no older one, and is told of its mark
alone-older : (n : ℕ) (e : Entry) (es : List (ℕ × Entry)) → AreLinked es → entry_at n es ≡ Some e → IsAlone (held_in es) n (mark_in e)
    → e.older ≡ None
alone-older n e es linked at alone = by_case e.older (linked n e at)
  where
    by_case : (r : Option ℕ) → IsLast (mark_at es) (mark_in e) (Below n) r → r ≡ None
    by_case None l = refl
    by_case (Some i) l = absurd (let same : i ≡ n = alone i (mark-in i es ∙ l.1) in omega (arith, same, l.0))

alone-newest : (n m : ℕ) (es : List (ℕ × Entry)) (marks : MarkNumbers) → IsChained es marks → mark_at es n ≡ Some m → IsAlone (held_in es) n m
    → newest_with marks m ≡ Some n
alone-newest n m es marks h is alone = by_case (newest_with marks m) (h.newest m)
  where
    by_case : (r : Option ℕ) → IsLast (mark_at es) m Any r → r ≡ Some n
    by_case None l = absurd (l n tt is)
    by_case (Some t) l = ap Some (alone t (mark-in t es ∙ l.1))

tells_none : (n : ℕ) (r : Option ℕ) → TellsOther n (Some n) r → r ≡ None
tells_none n None h = refl
tells_none n (Some t) h = absurd (h.1 (sym (same_Some n t h.0)))

-- so it is taken out with its mark, and all others hang together as they did
pub chained-alone : (n m : ℕ) (es : List (ℕ × Entry)) (old new : MarkNumbers) (r : Option ℕ) → mark_at es n ≡ Some m → IsAlone (held_in es) n m
    → TellsOther n (newest_with old m) r → (r ≡ None → newest_with new m ≡ None) →
    ((k : ℕ) → k ≢ m → newest_with new k ≡ newest_with old k) → IsChained es old → IsChained (removed n es) new
chained-alone n m es old new r mark alone other gone others h = by_entry (mark-from n m es mark)
  where
    by_entry : (e : Entry) × (entry_at n es ≡ Some e) × (mark_in e ≡ m) → IsChained (removed n es) new
    by_entry (e, at, is) =
        let top : newest_with old m ≡ Some n = alone-newest n m es old h mark alone in
        let none : r ≡ None = tells_none n r (subst (λ t. TellsOther n t r) top other) in
        let older : e.older ≡ None = alone-older n e es h.older at (subst (IsAlone (held_in es) n) (sym is) alone) in
        chained-newest n e es old new at (subst (λ k. newest_with old k ≡ Some n) (sym is) top)
        (subst (λ k. newest_with new k ≡ None) (sym is) (gone none) ∙ sym older) (λ k o. others k (λ s. o (s ∙ sym is))) h

-- ---- what is known of entries, one after the other

module _ {A B : Type 0} (R : A → B → Type 0) where
  zip-push : (xs : List A) (ys : List B) (x : A) (y : B) → AllZip R xs ys → R x y → AllZip R (xs ++ x ∷ []) (ys ++ y ∷ [])
  zip-push [] [] x y h r = (r, tt)
  zip-push [] (z ∷ ys) x y h r = absurd h
  zip-push (w ∷ xs) [] x y h r = absurd h
  zip-push (w ∷ xs) (z ∷ ys) x y h r = (h.0, zip-push xs ys x y h.1 r)

  pub zip-more : (xs : List A) (ys : List B) (i : ℕ) (d : A) (y : B) → i < length xs → AllZip R (take i xs) ys → R (get_or xs i d) y
      → AllZip R (take (i + 1) xs) (ys ++ y ∷ [])
  zip-more xs ys i d y lt h r = subst (λ l. AllZip R l (ys ++ y ∷ [])) (sym (take_more xs i d lt)) (zip-push (take i xs) ys (get_or xs i d) y h r)

  pub zip-at : (xs : List A) (ys : List B) (i : ℕ) (d : A) (e : B) → AllZip R xs ys → i < length xs → R (get_or xs i d) (get_or ys i e)
  zip-at [] ys i d e h lt = absurd (omega (arith, lt))
  zip-at (x ∷ xs) [] i d e h lt = absurd h
  zip-at (x ∷ xs) (y ∷ ys) zero d e h lt = h.0
  zip-at (x ∷ xs) (y ∷ ys) (suc i) d e h lt = zip-at xs ys i d e h.1 (omega (arith, lt))
