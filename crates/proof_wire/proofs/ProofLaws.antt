-- What a message says is a lawful format.
use Rattle.std.proofs.Common.{◌≡◌, ℕ, ◌^◌, ◌<◌, cond, eqb, Bool, true, false, List, [], ◌∷◌, ◌++◌, length, Some, None, refl, sym, ap, ap₂, subst, ◌∙◌}
use Rattle.std.proofs.Common.{append_assoc, arith}
use Rattle.std.specs.Int.{w64, to_le_bytes}
use Rattle.std.specs.List.{flat_map, AllByRecursion}
use Rattle.std.proofs.lemmas.Bool.{eqb-true}
use Rattle.std.proofs.lemmas.List.{append-nil, nil_from_length, length-map}
use Rattle.uo_base.specs.Reading.{IsBytes, ◌>>=◌, number_at, times, OneReading}
use Rattle.uo_base.specs.Compact.{counted, counted_at}
use Rattle.uo_base.proofs.Formats.{Lawful, same, led, ended, repeated, bind_some, passed, not_both, one_reading, Always, u64_lawful}
use Rattle.uo_base.proofs.CompactLaws.{AreCounted, counted_lawful}
use Rattle.uo_digest.specs.declared.digest.Digest.{Digest}
use Rattle.uo_digest.specs.Reading.{IsDigest, digest_text, digest_in_front}
use Rattle.uo_digest.proofs.DigestLaws.{digest_lawful}
use Rattle.forest_place.specs.declared.naming.Naming.{Naming}
use Rattle.forest_place.proofs.NamedLaws.{one_naming}
use Rattle.leaf_record.specs.Leaf.{Rest, RestFits, rest_text}
use Rattle.leaf_record.specs.Reading.{rest_at}
use Rattle.leaf_record.proofs.LeafLaws.{rest_lawful}
use Rattle.proof_wire.specs.BlockProof.{Spend, BlockProof, ProofMessage, targets_of, rests_of, body_text, kind_of, message_text, SpendFits, ProofFits}
use Rattle.proof_wire.specs.BlockProof.{MessageFits, spends_of}
use Rattle.proof_wire.specs.Reading.{body_at, whole_at}

abbrev IsTarget : ℕ → Type 0
IsTarget n = n < 2 ^ 64

-- ---- each target with its rest

pub targets-spends : (ts : List ℕ) (rs : List Rest) → length rs ≡ length ts → targets_of (spends_of ts rs) ≡ ts
targets-spends [] rs e = refl
targets-spends (t ∷ ts) [] e = absurd (omega arith)
targets-spends (t ∷ ts) (r ∷ rs) e = ap (λ xs. t ∷ xs) (targets-spends ts rs (omega arith))

pub rests-spends : (ts : List ℕ) (rs : List Rest) → length rs ≡ length ts → rests_of (spends_of ts rs) ≡ rs
rests-spends [] [] e = refl
rests-spends [] (r ∷ rs) e = absurd (omega arith)
rests-spends (t ∷ ts) [] e = absurd (omega arith)
rests-spends (t ∷ ts) (r ∷ rs) e = ap (λ xs. r ∷ xs) (rests-spends ts rs (omega arith))

-- a list of spends is told by its targets and rests
pub spends_told : (ss : List Spend) → spends_of (targets_of ss) (rests_of ss) ≡ ss
spends_told [] = refl
spends_told (s ∷ ss) = ap (λ xs. s ∷ xs) (spends_told ss)

pub parts_fit : (ss : List Spend) → AllByRecursion SpendFits ss → AllByRecursion IsTarget (targets_of ss) × AllByRecursion RestFits (rests_of ss)
parts_fit [] all = (tt, tt)
parts_fit (s ∷ ss) all = let others = parts_fit ss all.1 in ((all.0.target, others.0), (all.0.rest, others.1))

pub spends_fit : (ss : List Spend) → AllByRecursion IsTarget (targets_of ss) → AllByRecursion RestFits (rests_of ss) → AllByRecursion SpendFits ss
spends_fit [] ts rs = tt
spends_fit (s ∷ ss) ts rs = (record { target = ts.0; rest = rs.0 }, spends_fit ss ts.1 rs.1)

-- ---- the parts of a body

targets_lawful : Lawful (AreCounted IsTarget) (counted (to_le_bytes w64)) (counted_at (number_at w64))
targets_lawful = counted_lawful IsTarget (to_le_bytes w64) (number_at w64) u64_lawful

hashes_lawful : Lawful (AreCounted IsDigest) (counted digest_text) (counted_at digest_in_front)
hashes_lawful = counted_lawful IsDigest digest_text digest_in_front digest_lawful

-- as many rests as there are targets
abbrev RestsFit : ℕ → List Rest → Type 0
RestsFit n rs = (length rs ≡ n) × AllByRecursion RestFits rs

abbrev Told : List ℕ → BlockProof → Type 0
Told ts p = Unit {0} × (targets_of p.spends ≡ ts)

abbrev Behind : BlockProof → Type 0
Behind p = AllByRecursion RestFits (rests_of p.spends) × (AreCounted IsDigest p.hashes × Unit {0})

behind_text : BlockProof → List ℕ
behind_text p = flat_map rest_text (rests_of p.spends) ++ (counted digest_text p.hashes ++ [])

count_told : (ss : List Spend) (ts : List ℕ) → targets_of ss ≡ ts → length (rests_of ss) ≡ length ts
count_told ss ts e = simp length-map (simp length-map at (ap length e))

behind_lawful : (ts : List ℕ) → Lawful (λ p. Told ts p × Behind p) behind_text
    (λ bytes. times rest_at (length ts) bytes >>= λ rests. counted_at digest_in_front rests.1 >>= λ hashes.
    Some (record { spends = spends_of ts rests.0; hashes = hashes.0 }, hashes.1))
unfolding behind_text
behind_lawful ts =
    same _ (λ p. Told ts p × Behind p) _ behind_text _
    (led (Told ts) (RestsFit (length ts)) (flat_map rest_text) (times rest_at (length ts)) (λ p. rests_of p.spends) _ _ _
    (repeated RestFits rest_text rest_at rest_lawful (length ts)) (λ rs fits.
    led (λ p. Told ts p × (rests_of p.spends ≡ rs)) (AreCounted IsDigest) (counted digest_text) (counted_at digest_in_front) (λ p. p.hashes) _ _ _
    hashes_lawful (λ hs _.
    ended (λ p. (Told ts p × (rests_of p.spends ≡ rs)) × (p.hashes ≡ hs))
    (record { spends = spends_of ts rs; hashes = hs }) (((tt, targets-spends ts rs fits.0), rests-spends ts rs fits.0), refl)
    (λ p e. rw (← e.0.0.1, ← e.0.1, ← e.1) (ap (with_hashes p.hashes) (sym (spends_told p.spends)))))))
    (λ p f. (f.0, (f.1.0.1, f.1.1)))
    (λ p f. (f.0, ((count_told p.spends ts f.0.1, f.1.0), f.1.1)))
    (λ p _. refl)
  where
    with_hashes : List Digest → List Spend → BlockProof
    with_hashes hs ss = record { spends = ss; hashes = hs }

pub body_lawful : Lawful ProofFits body_text body_at
unfolding body_at body_text behind_text
body_lawful =
    same _ ProofFits (λ p. counted (to_le_bytes w64) (targets_of p.spends) ++ behind_text p) body_text body_at
    (led Always (AreCounted IsTarget) (counted (to_le_bytes w64)) (counted_at (number_at w64)) (λ p. targets_of p.spends) Behind behind_text _
    targets_lawful (λ ts _. behind_lawful ts))
    (λ p f. record {
      count_of_spends = rw length-map at f.1.0.0;
      spends = spends_fit p.spends f.1.0.1 f.1.1.0;
      count_of_hashes = f.1.1.1.0.0;
      hashes = f.1.1.1.0.1;
    })
    (λ p f.
    let parts = parts_fit p.spends f.spends in
    (tt, ((rw length-map f.count_of_spends, parts.0), (parts.1, ((f.count_of_hashes, f.hashes), tt)))))
    (λ p _. regrouped (counted (to_le_bytes w64) (targets_of p.spends)) (flat_map rest_text (rests_of p.spends)) (counted digest_text p.hashes))
  where
    regrouped : (t r h : List ℕ) → t ++ (r ++ (h ++ [])) ≡ t ++ r ++ h
    regrouped t r h = simp (append_assoc, append-nil)

-- ---- the whole

-- bytes are the body of what fits
pub record IsBody (bytes : List ℕ) (p : BlockProof) : Type 0 where
  pub fits : ProofFits p
  pub text : bytes ≡ body_text p

pub whole_took : (bytes : List ℕ) (p : BlockProof) (left : List ℕ) → IsBytes bytes → whole_at bytes ≡ Some (p, left) → IsBody bytes p
unfolding whole_at
whole_took bytes p left is_bytes e =
    let s = bind_some (body_at bytes) (λ x. cond (eqb (length x.1) 0) (Some x) None) (p, left) e in
    let g = passed (eqb (length s.0.1) 0) s.0 (p, left) s.2 in
    let t = body_lawful.took bytes s.0.0 s.0.1 is_bytes s.1 in
    let none : s.0.1 ≡ [] = nil_from_length s.0.1 (eqb-true _ _ g.0) in
    let text : bytes ≡ body_text s.0.0 = t.parts ∙ ap (λ (r : List ℕ). body_text s.0.0 ++ r) none ∙ append-nil (body_text s.0.0) in
    subst (λ (q : BlockProof × List ℕ). IsBody bytes q.0) g.1 (record { fits = t.fits; text = text })

pub whole_again : (p : BlockProof) → ProofFits p → whole_at (body_text p) ≡ Some (p, [])
unfolding whole_at
whole_again p fits =
    let e : body_at (body_text p) ≡ Some (p, []) = ap body_at (sym (append-nil (body_text p))) ∙ body_lawful.again p [] fits in
    rw e refl

pub no_body : (bytes : List ℕ) → whole_at bytes ≡ None → (p : BlockProof) → ProofFits p → bytes ≡ body_text p → ⊥
no_body bytes none p fits e = not_both (whole_at bytes) (p, []) none (ap whole_at e ∙ whole_again p fits)

-- kinds are told apart
one_kind : (a b : Bool) → kind_of a ≡ kind_of b → a ≡ b
one_kind false false e = refl
one_kind false true e = absurd (let z : 0 ≡ 1 = e in omega arith)
one_kind true false e = absurd (let z : 1 ≡ 0 = e in omega arith)
one_kind true true e = refl

-- a message's text is the front of no other's
pub one_message : OneReading MessageFits message_text
one_message x y a b fx fy e =
    let body = one_reading _ _ _ body_lawful x.proof y.proof a b fx fy (tails e) in (
      ap (λ v. made v x.lean x.proof) (one_naming x.naming y.naming (versions e)) ∙ ap₂ (made y.naming) (one_kind x.lean y.lean (kinds e)) body.0,
      body.1,
    )
  where
    tails : {v w k l : ℕ} {xs ys : List ℕ} → v ∷ k ∷ xs ≡ w ∷ l ∷ ys → xs ≡ ys
    tails e = cc

    kinds : {v w k l : ℕ} {xs ys : List ℕ} → v ∷ k ∷ xs ≡ w ∷ l ∷ ys → k ≡ l
    kinds e = cc

    versions : {v w : ℕ} {xs ys : List ℕ} → v ∷ xs ≡ w ∷ ys → v ≡ w
    versions e = cc

    made : Naming → Bool → BlockProof → ProofMessage
    made naming lean p = record { naming = naming; lean = lean; proof = p }
