-- What stands before a byte, and what behind it.
use Rattle.std.proofs.Common.{◌≡◌, ℕ, zero, suc, ◌+◌, ◌-◌, ◌<◌, ◌==◌, Bool, true, false, List, [], ◌∷◌, ◌++◌, length, get_or, take, take_all, drop}
use Rattle.std.proofs.Common.{Option, Some, None, refl, sym, ap, subst, ◌∙◌, arith, if◌then◌else◌}
use Rattle.std.proofs.lemmas.Bool.{eq-eqb, eqb-true, eqb-false, ne_eqb, cond-true, cond-false}
use Rattle.std.proofs.lemmas.List.{length-drop}
use Rattle.relay_script.specs.Reading.{cut_at, put_byte}

-- the byte is none of the first ones
abbrev pub IsBehind : (byte : ℕ) (text : List ℕ) (i : ℕ) → Type 0
IsBehind byte text i = (j : ℕ) → j < i → get_or text j 0 ≡ byte → ⊥

pub none_yet : (byte : ℕ) (text : List ℕ) → IsBehind byte text 0
none_yet byte text j few e = absurd (omega (arith, few))

pub one_more : (byte : ℕ) (text : List ℕ) (i : ℕ) → IsBehind byte text i → (get_or text i 0 ≡ byte → ⊥) → IsBehind byte text (i + 1)
one_more byte text i before other j few e = by (j == i) refl
  where
    by : (b : Bool) → (j == i) ≡ b → ⊥
    by true t = other (subst (λ k. get_or text k 0 ≡ byte) (eqb-true j i t) e)
    by false t = let apart = eqb-false j i t in before j (omega (arith, few, apart)) e

abbrev cut_parts : List ℕ → List ℕ → Option (List ℕ × List ℕ)
cut_parts front rest = Some (front, rest)

abbrev pub one_cut : Bool → ℕ → List ℕ → Option (List ℕ × List ℕ) → Option (List ℕ × List ℕ)
one_cut t b text x = if t then Some ([], text) else put_byte b x

found_at : (byte : ℕ) (text : List ℕ) (i : ℕ) → i < length text → IsBehind byte text i → get_or text i 0 ≡ byte
    → cut_at byte text ≡ Some (take i text, drop (suc i) text)
unfolding cut_at
found_at byte [] i within before e = absurd (omega (arith, within))
found_at byte (b ∷ text) zero within before e = cond-true _ _ _ (eq-eqb b byte e)
found_at byte (b ∷ text) (suc i) within before e =
    cond-false _ _ _ (ne_eqb b byte (before 0 (omega arith)))
    ∙ ap (put_byte b) (found_at byte text i (omega (arith, within)) (λ j few. before (suc j) (omega (arith, few))) e)

pub found_here : (byte : ℕ) (text : List ℕ) (i : ℕ) → i < length text → IsBehind byte text i → get_or text i 0 ≡ byte
    → Some (take i text, take (length text - (i + 1)) (drop (i + 1) text)) ≡ cut_at byte text
found_here byte text i within before e =
    let next : i + 1 ≡ suc i = omega arith in
    let whole = take_all (length text - (i + 1)) (drop (i + 1) text) (omega (arith, length-drop (i + 1) text)) in
    ap (cut_parts (take i text)) whole ∙ ap (λ k. cut_parts (take i text) (drop k text)) next ∙ sym (found_at byte text i within before e)

pub found_none : (byte : ℕ) (text : List ℕ) → IsBehind byte text (length text) → None ≡ cut_at byte text
unfolding cut_at
found_none byte [] before = refl
found_none byte (b ∷ text) before =
    sym (cond-false _ _ _ (ne_eqb b byte (before 0 (omega arith)))
    ∙ ap (put_byte b) (sym (found_none byte text (λ j few. before (suc j) (omega (arith, few))))))

-- what was cut is all of the text
pub is_whole : (byte : ℕ) (text front rest : List ℕ) → cut_at byte text ≡ Some (front, rest) → text ≡ front ++ byte ∷ rest
unfolding cut_at
is_whole byte [] front rest e = absurd cc
is_whole byte (b ∷ text) front rest e = by (b == byte) refl (cut_at byte text) refl e (is_whole byte text)
  where
    pair_is : (p q : List ℕ × List ℕ) → ◌≡◌ {A = Option (List ℕ × List ℕ)} (Some p) (Some q) → p ≡ q
    pair_is p q e = cc

    by : (t : Bool) → (b == byte) ≡ t → (x : Option (List ℕ × List ℕ)) → cut_at byte text ≡ x → one_cut t b text x ≡ Some (front, rest)
        → ((front rest : List ℕ) → cut_at byte text ≡ Some (front, rest) → text ≡ front ++ byte ∷ rest) → b ∷ text ≡ front ++ byte ∷ rest
    by true t x f e more = subst (λ (p : List ℕ × List ℕ). b ∷ text ≡ p.0 ++ byte ∷ p.1) (pair_is _ _ e) (ap (λ c. c ∷ text) (eqb-true b byte t))
    by false t None f e more = absurd cc
    by false t (Some p) f e more = subst (λ (q : List ℕ × List ℕ). b ∷ text ≡ q.0 ++ byte ∷ q.1) (pair_is _ _ e) (ap (λ l. b ∷ l) (more p.0 p.1 f))
