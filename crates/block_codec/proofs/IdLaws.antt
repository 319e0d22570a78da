-- Ids out of lists of texts, and those in the legacy form among them.
use Rattle.std.proofs.Common.{◌≡◌, ℕ, zero, suc, ◌+◌, ◌-◌, ◌<◌, ◌≤◌, Bool, true, false, not, cond, List, [], ◌∷◌, ◌++◌}
use Rattle.std.proofs.Common.{length, map, take, drop, get_or, set, refl, sym, ap, subst, ◌∙◌, arith}
use Rattle.std.specs.Borrow.{Bor}
use Rattle.std.proofs.lemmas.List.{length-map, length-drop, length-take-le, append-nil, map-append, take-append-le}
use Rattle.std.proofs.lemmas.List.{take_all, take_more, take_more_set, take_at, drop_at, drop_more}
use Rattle.std.proofs.Math.Seq.{take-add}
use Rattle.std.proofs.lemmas.List.Elements.{filter-append}
use Rattle.sha2.specs.Sha256.{sha256}
use Rattle.uo_digest.specs.declared.digest.Digest.{Digest}
use Rattle.uo_digest.specs.Batches.{AreGiven}
use Rattle.tx_codec.specs.Transaction.{Transaction, has_stacks, legacy_text, tx_text}
use Rattle.tx_codec.specs.Ids.{txid_of}
use Rattle.tx_codec.proofs.ViewLaws.{legacy_whole}
use Rattle.block_codec.specs.Ids.{AreTexts, legacy_of}

abbrev now_of : Bor (List ℕ) → List ℕ
now_of t = t.now

abbrev is_legacy : Transaction → Bool
is_legacy tx = not (has_stacks tx.stacks)

-- ---- texts

pub as-many : (f : Transaction → List ℕ) (texts : List (Bor (List ℕ))) (txs : List Transaction) → AreTexts f texts txs → length texts ≡ length txs
as-many f texts txs are = sym (length-map texts now_of) ∙ ap length are ∙ length-map txs f

few_taken : (k : ℕ) (txs : List Transaction) → length (take k txs) ≤ k
few_taken zero txs = omega arith
few_taken (suc k) [] = omega arith
few_taken (suc k) (tx ∷ txs) = omega (arith, few_taken k txs)

-- there is room for one more
pub room_left : (f : Transaction → List ℕ) (texts : List (Bor (List ℕ))) (txs : List Transaction) (i most : ℕ) → i < length txs → length txs ≤ most
    → AreTexts f texts (take i txs) → length texts < most
room_left f texts txs i most lt few are = omega (arith, as-many f texts (take i txs) are, few_taken i txs)

pub texts-more : (f : Transaction → List ℕ) (texts : List (Bor (List ℕ))) (txs : List Transaction) (i : ℕ) (tx : Transaction) (t : Bor (List ℕ))
    → i < length txs → tx ≡ get_or txs i tx → t.now ≡ f tx → AreTexts f texts (take i txs) → AreTexts f (texts ++ t ∷ []) (take (i + 1) txs)
texts-more f texts txs i tx t lt is text are =
    map-append now_of texts (t ∷ [])
    ∙ ap (λ (l : List (List ℕ)). l ++ t.now ∷ []) are
    ∙ ap (λ (x : List ℕ). map f (take i txs) ++ x ∷ []) text
    ∙ sym (map-append f (take i txs) (tx ∷ []))
    ∙ ap (λ (x : Transaction). map f (take i txs ++ x ∷ [])) is
    ∙ ap (map f) (sym (take_more txs i tx lt))

abbrev hash_of : List ℕ → Digest
hash_of text = record { 0 = sha256 (sha256 text) }

hashed : (f : Transaction → List ℕ) (texts : List (Bor (List ℕ))) (txs : List Transaction) → AreTexts f texts txs
    → map (λ (t : Bor (List ℕ)). hash_of t.now) texts ≡ map (λ (tx : Transaction). hash_of (f tx)) txs
hashed f texts txs are = sym (each texts now_of) ∙ ap (map hash_of) are ∙ each txs f where
  each : {A : Type 0} (xs : List A) (g : A → List ℕ) → map hash_of (map g xs) ≡ map (λ x. hash_of (g x)) xs
  each [] g = refl
  each (x ∷ xs) g = ap (λ (l : List Digest). hash_of (g x) ∷ l) (each xs g)

-- what the texts hash to are the ids
pub ids_of_texts : (f : Transaction → List ℕ) (texts lent : List (Bor (List ℕ))) (txs : List Transaction) (out : List Digest) → lent ≡ texts
    → out ≡ map (λ (t : Bor (List ℕ)). hash_of t.now) lent → AreTexts f texts txs → out ≡ map (λ (tx : Transaction). hash_of (f tx)) txs
ids_of_texts f texts lent txs out lends is are = is ∙ ap (map (λ (t : Bor (List ℕ)). hash_of t.now)) lends ∙ hashed f texts txs are

-- ---- those in the legacy form

pub legacy-more : (before : List Transaction) (tx : Transaction) (texts : List (Bor (List ℕ))) (t : Bor (List ℕ)) → has_stacks tx.stacks ≡ false
    → t.now ≡ tx_text tx → AreTexts legacy_text texts (legacy_of before) → AreTexts legacy_text (texts ++ t ∷ []) (legacy_of (before ++ tx ∷ []))
legacy-more before tx texts t none text are =
    map-append now_of texts (t ∷ [])
    ∙ ap (λ (l : List (List ℕ)). l ++ t.now ∷ []) are
    ∙ ap (λ (x : List ℕ). map legacy_text (legacy_of before) ++ x ∷ []) (text ∙ legacy_whole tx none)
    ∙ sym (map-append legacy_text (legacy_of before) (tx ∷ []))
    ∙ ap (λ b. map legacy_text (legacy_of before ++ cond (not b) (tx ∷ []) [])) (sym none)
    ∙ ap (map legacy_text) (sym (filter-append is_legacy before (tx ∷ [])))

pub legacy-same : (before : List Transaction) (tx : Transaction) (texts : List (Bor (List ℕ))) → has_stacks tx.stacks ≡ true
    → AreTexts legacy_text texts (legacy_of before) → AreTexts legacy_text texts (legacy_of (before ++ tx ∷ []))
legacy-same before tx texts some are =
    are
    ∙ ap (map legacy_text) (sym (append-nil (legacy_of before)))
    ∙ ap (λ b. map legacy_text (legacy_of before ++ cond (not b) (tx ∷ []) [])) (sym some)
    ∙ ap (map legacy_text) (sym (filter-append is_legacy before (tx ∷ [])))

pub legacy-taken : (texts : List (Bor (List ℕ))) (txs : List Transaction) (i : ℕ) (tx : Transaction) → i < length txs → tx ≡ get_or txs i tx
    → AreTexts legacy_text texts (legacy_of (take i txs ++ tx ∷ [])) → AreTexts legacy_text texts (legacy_of (take (i + 1) txs))
legacy-taken texts txs i tx lt is are =
    are ∙ ap (λ (l : List Transaction). map legacy_text (legacy_of l))
    (ap (λ (x : Transaction). take i txs ++ x ∷ []) is ∙ sym (take_more txs i tx lt))

-- the ids of those in the legacy form, from a place on
abbrev pub AreLeft : List Digest → List Transaction → Type 0
AreLeft left txs = left ≡ map txid_of (legacy_of txs)

-- the first of the ids that are left is that of this transaction
pub record IsNextId (txs : List Transaction) (known : List Digest) (i next : ℕ) (tx : Transaction) : Type 0 where
  pub within : next < length known
  pub is : (d : Digest) → get_or known next d ≡ txid_of tx
  pub left : AreLeft (drop (next + 1) known) (drop (i + 1) txs)

first_known : (known : List Digest) (next : ℕ) (id : Digest) (ids : List Digest) → drop next known ≡ id ∷ ids
    → (next < length known) × (((d : Digest) → get_or known next d ≡ id) × (drop (suc next) known ≡ ids))
first_known [] zero id ids e = absurd cc
first_known [] (suc n) id ids e = absurd cc
first_known (k ∷ known) zero id ids e = (omega arith, ((λ d. ap (λ l. get_or l 0 k) e), ap (drop 1) e))
first_known (k ∷ known) (suc n) id ids e = let r = first_known known n id ids e in (omega (arith, r.0), r.1)

pub next_known : (txs : List Transaction) (known : List Digest) (i next : ℕ) (tx : Transaction) → i < length txs → tx ≡ get_or txs i tx
    → has_stacks tx.stacks ≡ false → AreLeft (drop next known) (drop i txs) → IsNextId txs known i next tx
next_known txs known i next tx lt is none left =
    let here : drop next known ≡ txid_of tx ∷ map txid_of (legacy_of (drop (i + 1) txs)) =
    left
    ∙ ap (λ (l : List Transaction). map txid_of (legacy_of l)) (drop_more txs i tx lt ∙ ap (λ (x : Transaction). x ∷ drop (i + 1) txs) (sym is))
    ∙ ap (λ b. map txid_of (cond (not b) (tx ∷ legacy_of (drop (i + 1) txs)) (legacy_of (drop (i + 1) txs)))) none in
    let f = first_known known next _ _ here in
    let on : next + 1 ≡ suc next = omega arith in
    record { within = f.0; is = f.1.0; left = ap (λ n. drop n known) on ∙ f.1.1 }

pub next_hashed : (txs : List Transaction) (known : List Digest) (i next : ℕ) (tx : Transaction) → i < length txs → tx ≡ get_or txs i tx
    → has_stacks tx.stacks ≡ true → AreLeft (drop next known) (drop i txs) → AreLeft (drop next known) (drop (i + 1) txs)
next_hashed txs known i next tx lt is some left =
    left
    ∙ ap (λ (l : List Transaction). map txid_of (legacy_of l)) (drop_more txs i tx lt ∙ ap (λ (x : Transaction). x ∷ drop (i + 1) txs) (sym is))
    ∙ ap (λ b. map txid_of (cond (not b) (tx ∷ legacy_of (drop (i + 1) txs)) (legacy_of (drop (i + 1) txs)))) some

-- ---- parts of a list of ids

-- one more
pub put_one : {X : Type 0} (f : X → Digest) (xs : List X) (out : List Digest) (i : ℕ) (x : X) (id : Digest) → length out ≡ length xs → i < length xs
    → x ≡ get_or xs i x → id ≡ f x → AreGiven f xs out i → AreGiven f xs (set out i id) (i + 1)
put_one f xs out i x id same lt is gives before =
    take_more_set out i id (omega (arith, same, lt))
    ∙ ap (λ (l : List Digest). l ++ id ∷ []) before
    ∙ ap (λ (d : Digest). map f (take i xs) ++ d ∷ []) (gives ∙ ap f is)
    ∙ sym (map-append f (take i xs) (get_or xs i x ∷ []))
    ∙ ap (map f) (sym (take_more xs i x lt))

-- a front of what is behind a place
put_behind : {X : Type 0} (f : X → Digest) (xs : List X) (out part rest : List Digest) (from n : ℕ) → from ≤ length out → n ≤ length part
    → AreGiven f xs out from → AreGiven f (drop from xs) part n → AreGiven f xs (take from out ++ (part ++ rest)) (from + n)
put_behind f xs out part rest from n within long before is =
    let all = take from out ++ (part ++ rest) in
    let size = length-take-le from out within in
    take-add from n all
    ∙ ap (λ (l : List Digest). l ++ take n (drop from all)) (take_at (take from out) (part ++ rest) from size ∙ before)
    ∙ ap (λ (l : List Digest). map f (take from xs) ++ take n l) (drop_at (take from out) (part ++ rest) from size)
    ∙ ap (λ (l : List Digest). map f (take from xs) ++ l) (take-append-le n part rest long ∙ is)
    ∙ sym (map-append f (take from xs) (take n (drop from xs)))
    ∙ ap (map f) (sym (take-add from n xs))

-- up to an end
pub put_upto : {X : Type 0} (f : X → Digest) (xs : List X) (out part rest : List Digest) (from end : ℕ) → length out ≡ length xs → from ≤ end
    → end ≤ length xs → AreGiven f xs out from → part ≡ map f (take (end - from) (drop from xs))
    → AreGiven f xs (take from out ++ (part ++ rest)) end
put_upto f xs out part rest from end same le within before is =
    let count = end - from in
    let size : from + count ≡ end = omega arith in
    let some : length (take count (drop from xs)) ≡ count = length-take-le count (drop from xs) (omega (arith, length-drop from xs)) in
    let long : length part ≡ count = ap length is ∙ length-map (take count (drop from xs)) f ∙ some in
    subst (AreGiven f xs (take from out ++ (part ++ rest))) size
    (put_behind f xs out part rest from count (omega (arith, same)) (omega (arith, long)) before (take_all count part (omega (arith, long)) ∙ is))

-- a front of all that is behind a place
pub put_more : {X : Type 0} (f : X → Digest) (xs : List X) (out part rest : List Digest) (from n : ℕ) → from ≤ length out
    → length part ≡ length (take (length xs - from) (drop from xs)) → n ≤ length (take (length xs - from) (drop from xs)) → AreGiven f xs out from
    → AreGiven f (take (length xs - from) (drop from xs)) part n → AreGiven f xs (take from out ++ (part ++ rest)) (from + n)
put_more {X = X} f xs out part rest from n within same long before given =
    let all : take (length xs - from) (drop from xs) ≡ drop from xs =
    take_all (length xs - from) (drop from xs) (omega (arith, length-drop from xs)) in
    put_behind f xs out part rest from n within (omega (arith, same, long)) before (subst (λ (l : List X). AreGiven f l part n) all given)
