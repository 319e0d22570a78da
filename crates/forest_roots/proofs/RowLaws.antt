-- Nodes of a row that are paired.
use Rattle.std.proofs.Common.{◌≡◌, ℕ, zero, suc, ◌+◌, ◌-◌, ◌*◌, ◌/◌, ◌%◌, ◌<◌, ◌≤◌, List, [], ◌∷◌, ◌++◌, length, take, drop, set, get_or}
use Rattle.std.proofs.Common.{Option, Some, None, refl, sym, ap, ◌∙◌, arith, append_assoc, append-nil, length-set}
use Rattle.std.proofs.lemmas.List.{take_more_set, take_all, drop_all, drop-drop, map-append}
use Rattle.std.proofs.Math.Seq.{drop-cons, take-append_seam}
use Rattle.std.proofs.lemmas.Slice.{drop-append-drop}
use Rattle.std.proofs.lemmas.Grind.{common_steps}
use Rattle.uo_digest.specs.declared.digest.Digest.{Digest}
use Rattle.forest_roots.specs.Rows.{neighbours, odd_one, digests_over, IsLifted}

-- ---- the last node

pub odd_is : (xs : List Digest) (d : Digest) → length xs % 2 ≡ 1 → Some (get_or xs (length xs - 1) d) ≡ odd_one xs
unfolding odd_one
odd_is [] d e = absurd (omega (arith, e))
odd_is (x ∷ []) d e = refl
odd_is (x ∷ y ∷ xs) d e =
    let last : suc (suc (length xs)) - 1 ≡ suc (suc (length xs - 1)) = omega (arith, e) in
    rw last (odd_is xs d (omega (arith, e)))

pub odd_none : (xs : List Digest) → (length xs % 2 ≡ 1 → ⊥) → ◌≡◌ {A = Option Digest} None (odd_one xs)
unfolding odd_one
odd_none [] e = refl
odd_none (x ∷ []) e = absurd (e refl)
odd_none (x ∷ y ∷ xs) e = odd_none xs (λ odd. e (omega (arith, odd)))

-- ---- pairs

neighbours_few : (xs : List Digest) → length xs < 2 → neighbours xs ≡ []
unfolding neighbours
neighbours_few [] lt = refl
neighbours_few (x ∷ []) lt = refl
neighbours_few (x ∷ y ∷ xs) lt = absurd (omega (arith, lt))

-- the pairs of the front, and those of what is left
neighbours_parts : (k : ℕ) (xs : List Digest) → 2 * k ≤ length xs → neighbours xs ≡ neighbours (take (2 * k) xs) ++ neighbours (drop (2 * k) xs)
unfolding neighbours
neighbours_parts zero xs le = refl
neighbours_parts (suc k) [] le = absurd (omega (arith, le))
neighbours_parts (suc k) (x ∷ []) le = absurd (omega (arith, le))
neighbours_parts (suc k) (x ∷ y ∷ xs) le =
    let next : 2 * suc k ≡ suc (suc (2 * k)) = omega arith in
    rw next (ap (λ (ps : List (Digest × Digest)). (x, y) ∷ ps) (neighbours_parts k xs (omega (arith, le))))

pair_at : (xs : List Digest) (i : ℕ) (d : Digest) → 2 * i + 1 < length xs
    → neighbours (drop (2 * i) xs) ≡ (get_or xs (2 * i) d, get_or xs (2 * i + 1) d) ∷ neighbours (drop (2 * (i + 1)) xs)
unfolding neighbours
pair_at xs i d lt =
    let one : suc (2 * i) ≡ 2 * i + 1 = omega arith in
    let two : suc (suc (2 * i)) ≡ 2 * (i + 1) = omega arith in
    ap neighbours (drop-cons xs (2 * i) d (omega arith)
    ∙ ap (λ (ys : List Digest). get_or xs (2 * i) d ∷ ys) (drop-cons xs (suc (2 * i)) d (omega arith)))
    ∙ rw (two, one) refl

-- the first i pairs are put
pub record ArePut (nodes : List Digest) (pairs : List (Digest × Digest)) (i : ℕ) : Type 0 where
  pub len : length nodes ≡ 2 * length pairs
  pub put : neighbours nodes ≡ take i pairs ++ neighbours (drop (2 * i) nodes)

pub put-more : (nodes : List Digest) (pairs : List (Digest × Digest)) (i : ℕ) (d : Digest) → i < length pairs → ArePut nodes pairs i
    → ArePut nodes (set pairs i (get_or nodes (2 * i) d, get_or nodes (2 * i + 1) d)) (i + 1)
put-more nodes pairs i d lt are =
    let both : Digest × Digest = (get_or nodes (2 * i) d, get_or nodes (2 * i + 1) d) in
    record {
      len = are.len ∙ ap (λ n. 2 * n) (sym (length-set pairs i both));
      put =
          are.put ∙ ap (λ ps. take i pairs ++ ps) (pair_at nodes i d (omega (arith, lt, are.len)))
          ∙ sym (append_assoc (take i pairs) (both ∷ []) (neighbours (drop (2 * (i + 1)) nodes))) ∙ rw (take_more_set pairs i both lt) refl;
    }

pub put-end : (nodes : List Digest) (pairs : List (Digest × Digest)) (i : ℕ) → length pairs ≤ i → ArePut nodes pairs i → pairs ≡ neighbours nodes
unfolding neighbours
put-end nodes pairs i end are =
    let nothing : neighbours (drop (2 * i) nodes) ≡ [] = rw (drop_all (2 * i) nodes (omega (arith, end, are.len))) refl in
    sym (are.put ∙ rw (nothing, take_all i pairs end) (append-nil pairs))

-- ---- a row that goes up, with the next one in place

module _ (H : List ℕ → Digest) where
  pub lifted-some : (start now above : List Digest) (i some : ℕ) → 2 * i + 2 * some ≤ length now
      → above ≡ digests_over H (neighbours (take (2 * some) (drop (2 * i) now))) → length above ≡ some → IsLifted H start now i
      → IsLifted H start (take i now ++ (above ++ drop some (drop i now))) (i + some)
  lifted-some start now above i some within is long r =
      let rest = drop (2 * i) now in
      let front : length (take i now ++ above) ≡ i + some = grind (arith, common_steps) in
      let behind : drop some (drop i now) ≡ drop (i + some) now = drop-drop some i now in
      let parted : take i now ++ (above ++ drop (i + some) now) ≡ (take i now ++ above) ++ drop (i + some) now =
      sym (append_assoc (take i now) above (drop (i + some) now)) in
      let taken : take (i + some) ((take i now ++ above) ++ drop (i + some) now) ≡ take i now ++ above =
      ap (λ n. take n ((take i now ++ above) ++ drop (i + some) now)) (sym front) ∙ take-append_seam (take i now ++ above) (drop (i + some) now) in
      let left : drop (2 * (i + some)) ((take i now ++ above) ++ drop (i + some) now) ≡ drop (2 * (i + some)) now =
      drop-append-drop (i + some) now (take i now ++ above) (2 * (i + some)) (omega arith) front in
      let twice : 2 * i + 2 * some ≡ 2 * (i + some) = omega arith in
      let parts : digests_over H (neighbours rest) ≡ above ++ digests_over H (neighbours (drop (2 * (i + some)) now)) =
      ap (digests_over H) (neighbours_parts some rest (grind (arith, common_steps)))
      ∙ map-append (λ (both : Digest × Digest). H (both.0.0 ++ both.1.0)) (neighbours (take (2 * some) rest)) (neighbours (drop (2 * some) rest))
      ∙ rw (drop-drop (2 * some) (2 * i) now, twice, ← is) refl in
      record {
        len = grind (arith, common_steps);
        above =
            r.above ∙ ap (λ ys. take i now ++ ys) parts
            ∙ sym (append_assoc (take i now) above (digests_over H (neighbours (drop (2 * (i + some)) now))))
            ∙ rw (behind, parted, taken, left) refl;
      }

  pub lifted-end : (start now : List Digest) (i : ℕ) → length start / 2 ≤ i → IsLifted H start now i → take i now ≡ digests_over H (neighbours start)
  lifted-end start now i end r =
      let few : length (drop (2 * i) now) < 2 = grind (arith, common_steps, r.len) in
      sym (r.above ∙ rw (neighbours_few (drop (2 * i) now) few) (append-nil (take i now)))
