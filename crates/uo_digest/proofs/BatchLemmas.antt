-- Lists of digests that are made in parts.
use Rattle.std.proofs.Common.{◌≡◌, ℕ, suc, ◌+◌, ◌≤◌, List, [], ◌∷◌, ◌++◌, length, map, take, drop, get_or, refl, sym, ap, ◌∙◌, subst, arith}
use Rattle.std.proofs.Math.Seq.{take-add, take-append_seam}
use Rattle.std.proofs.lemmas.Grind.{common_steps}
use Rattle.std.specs.Borrow.{Bor}
use Rattle.digest_lanes.specs.Texts.{IsGivenAt}
use Rattle.uo_digest.specs.declared.digest.Digest.{Digest}
use Rattle.uo_digest.specs.Batches.{AreGiven}
use Rattle.uo_digest.proofs.DigestLaws.{digest_is}

abbrev of_bytes : List ℕ → Digest
of_bytes bytes = record { 0 = bytes }

-- a list whose entries are said one by one
pub given_all : (g : List ℕ → List ℕ) (texts : List (Bor (List ℕ))) (out : List Digest) → length out ≡ length texts
    → ((i : ℕ) → IsGivenAt (λ text (v : Digest). v.0 ≡ g text) texts out i) → out ≡ map (λ (t : Bor (List ℕ)). of_bytes (g t.now)) texts
given_all g [] [] same given = refl
given_all g [] (d ∷ out) same given = absurd (omega (arith, same))
given_all g (t ∷ texts) [] same given = absurd (omega (arith, same))
given_all g (t ∷ texts) (d ∷ out) same given =
    ap (λ (x : Digest). x ∷ out) (digest_is d (g t.now) (given 0 d refl))
    ∙ ap (λ xs. of_bytes (g t.now) ∷ xs) (given_all g texts out (omega (arith, same)) (λ i. given (suc i)))

-- two of them
pub same_two : {a b p q : List ℕ} → a ≡ p → b ≡ q
    → ◌≡◌ {A = List Digest} (of_bytes a ∷ of_bytes b ∷ []) (of_bytes p ∷ of_bytes q ∷ [])
same_two i j = rw (i, j) refl

pub two_of : {X : Type 0} (f : X → Digest) (xs : List X) (d : X) → length xs ≡ 2 → f (get_or xs 0 d) ∷ f (get_or xs 1 d) ∷ [] ≡ map f xs
two_of f [] d is = absurd (omega (arith, is))
two_of f (a ∷ []) d is = absurd (omega (arith, is))
two_of f (a ∷ b ∷ []) d is = refl
two_of f (a ∷ b ∷ c ∷ xs) d is = absurd (omega (arith, is))

-- three of them
pub same_three : {a b c p q r : List ℕ} → a ≡ p → b ≡ q → c ≡ r
    → ◌≡◌ {A = List Digest} (of_bytes a ∷ of_bytes b ∷ of_bytes c ∷ []) (of_bytes p ∷ of_bytes q ∷ of_bytes r ∷ [])
same_three i j k = rw (i, j, k) refl

pub three_of : {X : Type 0} (f : X → Digest) (xs : List X) (d : X) → length xs ≡ 3
    → f (get_or xs 0 d) ∷ f (get_or xs 1 d) ∷ f (get_or xs 2 d) ∷ [] ≡ map f xs
three_of f [] d is = absurd (omega (arith, is))
three_of f (a ∷ xs) d is = ap (λ (rest : List Digest). f a ∷ rest) (two_of f xs d (omega (arith, is)))

-- four of them
pub same_four : {a b c d p q r s : List ℕ} → a ≡ p → b ≡ q → c ≡ r → d ≡ s
    → ◌≡◌ {A = List Digest} (of_bytes a ∷ of_bytes b ∷ of_bytes c ∷ of_bytes d ∷ []) (of_bytes p ∷ of_bytes q ∷ of_bytes r ∷ of_bytes s ∷ [])
same_four i j k l = rw (i, j, k, l) refl

pub four_of : {X : Type 0} (f : X → Digest) (xs : List X) (d : X) → length xs ≡ 4
    → f (get_or xs 0 d) ∷ f (get_or xs 1 d) ∷ f (get_or xs 2 d) ∷ f (get_or xs 3 d) ∷ [] ≡ map f xs
four_of f [] d is = absurd (omega (arith, is))
four_of f (a ∷ []) d is = absurd (omega (arith, is))
four_of f (a ∷ b ∷ xs) d is = ap (λ (rest : List Digest). f a ∷ f b ∷ rest) (two_of f xs d (omega (arith, is)))

-- eight of them
pub same_eight : {a b c d e f g h i j k l m n o p : List ℕ} → a ≡ i → b ≡ j → c ≡ k → d ≡ l → e ≡ m → f ≡ n → g ≡ o → h ≡ p
    → ◌≡◌ {A = List Digest}
    (of_bytes a ∷ of_bytes b ∷ of_bytes c ∷ of_bytes d ∷ of_bytes e ∷ of_bytes f ∷ of_bytes g ∷ of_bytes h ∷ [])
    (of_bytes i ∷ of_bytes j ∷ of_bytes k ∷ of_bytes l ∷ of_bytes m ∷ of_bytes n ∷ of_bytes o ∷ of_bytes p ∷ [])
same_eight q r s t u v w x = rw (q, r, s, t, u, v, w, x) refl

pub eight_of : {X : Type 0} (f : X → Digest) (xs : List X) (d : X) → length xs ≡ 8
    → f (get_or xs 0 d) ∷ f (get_or xs 1 d) ∷ f (get_or xs 2 d) ∷ f (get_or xs 3 d)
    ∷ f (get_or xs 4 d) ∷ f (get_or xs 5 d) ∷ f (get_or xs 6 d) ∷ f (get_or xs 7 d) ∷ [] ≡ map f xs
eight_of f [] d is = absurd (omega (arith, is))
eight_of f (a ∷ []) d is = absurd (omega (arith, is))
eight_of f (a ∷ b ∷ []) d is = absurd (omega (arith, is))
eight_of f (a ∷ b ∷ c ∷ []) d is = absurd (omega (arith, is))
eight_of f (a ∷ b ∷ c ∷ e ∷ xs) d is =
    ap (λ (rest : List Digest). f a ∷ f b ∷ f c ∷ f e ∷ rest) (four_of f xs d (omega (arith, is)))

-- a part is put behind what is before it
pub put_part : {X : Type 0} (f : X → Digest) (xs : List X) (out : List Digest) (from n : ℕ) (part rest : List Digest)
    → from + n ≤ length xs → AreGiven f xs out from → part ≡ map f (take n (drop from xs))
    → take (from + n) (take from out ++ (part ++ rest)) ≡ map f (take (from + n) xs)
put_part f xs out from n part rest le before is =
    let long : length (map f (take (from + n) xs)) ≡ from + n = grind (arith, common_steps) in
    let parts : map f (take from xs) ++ (map f (take n (drop from xs)) ++ rest) ≡ map f (take (from + n) xs) ++ rest =
    rw (take-add from n xs) (grind (arith, common_steps)) in
    ap (λ ds. take (from + n) (ds ++ (part ++ rest))) before
    ∙ ap (λ ds. take (from + n) (map f (take from xs) ++ (ds ++ rest))) is
    ∙ ap (take (from + n)) parts
    ∙ ap (λ k. take k (map f (take (from + n) xs) ++ rest)) (sym long)
    ∙ take-append_seam (map f (take (from + n) xs)) rest

-- the last part
pub put_last : {X : Type 0} (f : X → Digest) (xs : List X) (out : List Digest) (from n : ℕ) (part rest : List Digest)
    → from + n ≡ length xs → AreGiven f xs out from → part ≡ map f (take n (drop from xs))
    → AreGiven f xs (take from out ++ (part ++ rest)) (length xs)
put_last f xs out from n part rest whole before is =
    subst (AreGiven f xs (take from out ++ (part ++ rest))) whole (put_part f xs out from n part rest (omega (arith, whole)) before is)
