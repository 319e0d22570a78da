-- A rest is a lawful format, and a leaf's text tells its leaf.
use Rattle.std.proofs.Common.{◌≡◌, ℕ, ◌+◌, ◌*◌, ◌/◌, ◌%◌, ◌^◌, ◌<◌, ◌≤◌, Bool, true, false, cond, eqb, leb, List, [], ◌++◌, length, Option, Some}
use Rattle.std.proofs.Common.{refl, sym, ap, ◌∙◌, append_assoc, arith, eq-eqb, inl, inr}
use Rattle.std.specs.Int.{w32, w64, to_le_bytes}
use Rattle.std.proofs.lemmas.Bool.{le-leb, leb-true, ne_eqb, cases_lt}
use Rattle.std.proofs.lemmas.List.{append-nil, length-append, append_cancel_left}
use Rattle.sha2.specs.Sha512.{first_words, schedule, rounds, compress, hash_after, digest_bytes, sha512}
use Rattle.sha2.proofs.Facts512.{length-sha512}
use Rattle.uo_base.specs.Reading.{◌>>=◌, bytes_at, number_at, OneReading}
use Rattle.uo_base.specs.Compact.{compact, compact_at, sized}
use Rattle.uo_base.proofs.Formats.{Lawful, same, led, ended, tested, one_reading, bytes_lawful, Always, u32_lawful, u64_lawful}
use Rattle.uo_digest.specs.Reading.{IsDigest, digest_text, digest_in_front}
use Rattle.uo_digest.proofs.DigestLaws.{digest_lawful}
use Rattle.uo_base.proofs.CompactLaws.{compact_lawful, compact_1, compact_2}
use Rattle.leaf_record.specs.declared.leaf.TheConstants.{TAG}
use Rattle.leaf_record.specs.Leaf.{Outpoint, Rest, Leaf, code_of, longest_script, payload_text, rest_text, tag, output_text, leaf_text, RestFits}
use Rattle.leaf_record.specs.Leaf.{LeafFits}
use Rattle.leaf_record.specs.Reading.{short_count_at, script_at, rest_at}
use Rattle.leaf_record.specs.Laws.{OneLeaf, LeafTextIsLong}

-- ---- the script

abbrev IsScript : List ℕ → Type 0
IsScript xs = length xs ≤ longest_script

pub short_count_lawful : Lawful (λ n. (n < 2 ^ 64) × (leb n longest_script ≡ true)) compact short_count_at
unfolding short_count_at
short_count_lawful = tested (λ n. n < 2 ^ 64) compact compact_at (λ n. leb n longest_script) compact_lawful

pub script_lawful : Lawful IsScript sized script_at
unfolding script_at
script_lawful =
    same _ IsScript sized sized script_at
    (led Always (λ n. (n < 2 ^ 64) × (leb n longest_script ≡ true)) compact short_count_at length (λ _. Unit {0}) (λ xs. xs) bytes_at
    short_count_lawful
    (λ n _. same (λ xs. length xs ≡ n) (λ xs. (Unit {0} × (length xs ≡ n)) × Unit {0}) (λ xs. xs) (λ xs. xs) (bytes_at n) (bytes_lawful n)
    (λ xs e. ((tt, e), tt)) (λ xs e. e.0.1) (λ xs _. refl)))
    (λ xs f. leb-true _ _ f.1.0.1)
    (λ xs f. (tt, ((omega (arith, f), le-leb _ _ f), tt)))
    (λ xs _. refl)

-- ---- height and coinbase as one number

pub code_again : (n : ℕ) → 2 * (n / 2) + cond (eqb (n % 2) 1) 1 0 ≡ n
code_again n =
    elim (cases_lt (n % 2) 1) [
      | inl lt ↦ rw (ne_eqb (n % 2) 1 (λ e. omega arith)) (omega arith)
      | inr ge ↦ rw (eq-eqb (n % 2) 1 (omega arith)) (omega arith)
    ]

code_back : (h : ℕ) (b : Bool) → ((2 * h + cond b 1 0) / 2 ≡ h) × (eqb ((2 * h + cond b 1 0) % 2) 1 ≡ b)
code_back h true = (omega arith, eq-eqb _ _ (omega arith))
code_back h false = (omega arith, ne_eqb _ _ (λ e. absurd (omega arith)))

code_small : (h : ℕ) (b : Bool) → h < 2 ^ 31 → 2 * h + cond b 1 0 < 2 ^ 32
code_small h true lt = omega arith
code_small h false lt = omega arith

height_small : (h : ℕ) (b : Bool) → 2 * h + cond b 1 0 < 2 ^ 32 → h < 2 ^ 31
height_small h true lt = omega arith
height_small h false lt = omega arith

-- a rest is told by its parts
rest_by_parts : (r : Rest) → record {
  block = r.block;
  height = code_of r / 2;
  coinbase = eqb (code_of r % 2) 1;
  amount = r.amount;
  script =
      r.script;
} ≡ r
rest_by_parts r = let back = code_back r.height r.coinbase in rw (back.0, back.1) refl

-- ---- the rest

pub rest_lawful : Lawful RestFits rest_text rest_at
unfolding rest_at rest_text payload_text
rest_lawful =
    same _ RestFits _ rest_text rest_at
    (led Always IsDigest digest_text digest_in_front (λ r. r.block) _ _ _ digest_lawful (λ block _.
    led (λ r. Unit {0} × (r.block ≡ block)) (λ n. n < 2 ^ 32) (to_le_bytes w32) (number_at w32) code_of _ _ _ u32_lawful (λ code _.
    led (λ r. (Unit {0} × (r.block ≡ block)) × (code_of r ≡ code)) (λ n. n < 2 ^ 64) (to_le_bytes w64) (number_at w64) (λ r. r.amount) _ _ _
    u64_lawful (λ amount _.
    led (λ r. ((Unit {0} × (r.block ≡ block)) × (code_of r ≡ code)) × (r.amount ≡ amount)) IsScript sized script_at (λ r. r.script) _ _ _
    script_lawful (λ script _.
    ended (λ r. (((Unit {0} × (r.block ≡ block)) × (code_of r ≡ code)) × (r.amount ≡ amount)) × (r.script ≡ script))
    (record { block = block; height = code / 2; coinbase = eqb (code % 2) 1; amount = amount; script = script })
    ((((tt, refl), code_again code), refl), refl)
    (λ r e. rw (← e.0.0.0.1, ← e.0.0.1, ← e.0.1, ← e.1) (sym (rest_by_parts r))))))))
    (λ r f. record { block = f.1.0; height = height_small r.height r.coinbase f.1.1.0; amount = f.1.1.1.0; script = f.1.1.1.1.0 })
    (λ r f. (tt, (f.block, (code_small r.height r.coinbase f.height, (f.amount, (f.script, tt))))))
    (λ r _. regrouped r.block.0 (to_le_bytes w32 (code_of r)) (to_le_bytes w64 r.amount) (sized r.script))
  where
    regrouped : (b c a s : List ℕ) → b ++ (c ++ (a ++ (s ++ []))) ≡ b ++ (c ++ a ++ s)
    regrouped b c a s = simp (append_assoc, append-nil)

-- ---- the leaf

-- what follows the two tags
abbrev untagged_text : Leaf → List ℕ
untagged_text l = l.rest.block.0 ++ (l.point.txid.0
    ++ (to_le_bytes w32 l.point.index ++ (to_le_bytes w32 (code_of l.rest) ++ (to_le_bytes w64 l.rest.amount ++ sized l.rest.script))))

leaf_is : (l : Leaf) → leaf_text l ≡ tag ++ (tag ++ untagged_text l)
unfolding leaf_text output_text payload_text
leaf_is l = regrouped tag l.rest.block.0 l.point.txid.0 (to_le_bytes w32 l.point.index) (to_le_bytes w32 (code_of l.rest))
    (to_le_bytes w64 l.rest.amount) (sized l.rest.script) where
      regrouped : (t b x i c a s : List ℕ) → t ++ t ++ (b ++ x ++ i ++ (c ++ a ++ s)) ≡ t ++ (t ++ (b ++ (x ++ (i ++ (c ++ (a ++ s))))))
      regrouped t b x i c a s = simp append_assoc

pub behind_tags : (l : Leaf) → (tag ++ tag) ++ output_text l ≡ leaf_text l
unfolding leaf_text
behind_tags l = regrouped tag (output_text l) where
  regrouped : (t o : List ℕ) → (t ++ t) ++ o ≡ t ++ t ++ o
  regrouped t o = simp append_assoc

untagged_at : List ℕ → Option (Leaf × List ℕ)
untagged_at bytes = do
  block ← digest_in_front bytes
  txid ← digest_in_front block.1
  index ← number_at w32 txid.1
  code ← number_at w32 index.1
  amount ← number_at w64 code.1
  script ← script_at amount.1
  Some (
    record {
      point = record { txid = txid.0; index = index.0 };
      rest = record { block = block.0; height = code.0 / 2; coinbase = eqb (code.0 % 2) 1; amount = amount.0; script = script.0 };
    },
    script.1,
  )

untagged_lawful : Lawful LeafFits untagged_text untagged_at
unfolding untagged_at
untagged_lawful =
    same _ LeafFits _ untagged_text untagged_at
    (led Always IsDigest digest_text digest_in_front (λ l. l.rest.block) _ _ _ digest_lawful (λ block _.
    led (λ l. Unit {0} × (l.rest.block ≡ block)) IsDigest digest_text digest_in_front (λ l. l.point.txid) _ _ _ digest_lawful (λ txid _.
    led (λ l. (Unit {0} × (l.rest.block ≡ block)) × (l.point.txid ≡ txid)) (λ n. n < 2 ^ 32) (to_le_bytes w32) (number_at w32) (λ l. l.point.index) _
    _ _ u32_lawful (λ index _.
    led (λ l. ((Unit {0} × (l.rest.block ≡ block)) × (l.point.txid ≡ txid)) × (l.point.index ≡ index)) (λ n. n < 2 ^ 32) (to_le_bytes w32)
    (number_at w32) (λ l. code_of l.rest) _ _ _ u32_lawful (λ code _.
    led (λ l. (((Unit {0} × (l.rest.block ≡ block)) × (l.point.txid ≡ txid)) × (l.point.index ≡ index)) × (code_of l.rest ≡ code)) (λ n. n < 2 ^ 64)
    (to_le_bytes w64) (number_at w64) (λ l. l.rest.amount) _ _ _ u64_lawful (λ amount _.
    led (λ l. ((((Unit {0} × (l.rest.block ≡ block)) × (l.point.txid ≡ txid)) × (l.point.index ≡ index)) × (code_of l.rest ≡ code))
    × (l.rest.amount ≡ amount)) IsScript sized script_at (λ l. l.rest.script) _ _ _ script_lawful (λ script _.
    ended (λ l. (((((Unit {0} × (l.rest.block ≡ block)) × (l.point.txid ≡ txid)) × (l.point.index ≡ index)) × (code_of l.rest ≡ code))
    × (l.rest.amount ≡ amount)) × (l.rest.script ≡ script))
    (record {
      point = record { txid = txid; index = index };
      rest = record { block = block; height = code / 2; coinbase = eqb (code % 2) 1; amount = amount; script = script };
    })
    ((((((tt, refl), refl), refl), code_again code), refl), refl)
    (λ l e. rw (← e.0.0.0.0.0.1, ← e.0.0.0.0.1, ← e.0.0.0.1, ← e.0.0.1, ← e.0.1, ← e.1) (sym (ap (with_point l.point) (rest_by_parts l.rest)))))))))))
    (λ l f. record {
      txid = f.1.1.0;
      index = f.1.1.1.0;
      rest = record {
        block = f.1.0;
        height =
            height_small l.rest.height l.rest.coinbase f.1.1.1.1.0;
        amount = f.1.1.1.1.1.0;
        script = f.1.1.1.1.1.1.0;
      };
    })
    (λ l f. (tt, (f.rest.block, (f.txid, (f.index, (code_small l.rest.height l.rest.coinbase f.rest.height, (f.rest.amount, (f.rest.script, tt))))))))
    (λ l _. ended_by l.rest.block.0 l.point.txid.0 (to_le_bytes w32 l.point.index) (to_le_bytes w32 (code_of l.rest)) (to_le_bytes w64 l.rest.amount)
    (sized l.rest.script))
  where
    with_point : Outpoint → Rest → Leaf
    with_point p r = record { point = p; rest = r }

    ended_by : (b x i c a s : List ℕ) → b ++ (x ++ (i ++ (c ++ (a ++ (s ++ []))))) ≡ b ++ (x ++ (i ++ (c ++ (a ++ s))))
    ended_by b x i c a s = simp append-nil

-- behind the tags, which all texts share
behind : (l : Leaf) (rest : List ℕ) → leaf_text l ++ rest ≡ tag ++ (tag ++ (untagged_text l ++ rest))
behind l rest = ap (λ (t : List ℕ). t ++ rest) (leaf_is l) ∙ regrouped tag (untagged_text l) rest where
  regrouped : (t b r : List ℕ) → (t ++ (t ++ b)) ++ r ≡ t ++ (t ++ (b ++ r))
  regrouped t b r = simp append_assoc

pub leaf_reading : OneReading LeafFits leaf_text
leaf_reading = λ x y a b fx fy e.
    let tagged = sym (behind x a) ∙ e ∙ behind y b in
    let once = append_cancel_left tag _ _ tagged in
    one_reading _ _ _ untagged_lawful x y a b fx fy (append_cancel_left tag _ _ once)

pub one_leaf : OneLeaf
one_leaf a b fa fb e = (leaf_reading a b [] [] fa fb (ap (λ (t : List ℕ). t ++ []) e)).0

-- ---- lengths

pub length-tag : length tag ≡ 64
unfolding tag
length-tag = length-sha512 _

pub length-compact : (n : ℕ) → n ≤ longest_script → (1 ≤ length (compact n)) × (length (compact n) ≤ 3)
length-compact n le =
    elim (cases_lt n 253) [
      | inl lt ↦ rw (compact_1 n lt) (omega arith, omega arith)
      | inr ge ↦ rw (compact_2 n ge (omega (arith, le))) (omega arith, omega arith)
    ]

-- how long a leaf's text is: 208 bytes, and the script with its count
pub length-leaf : (l : Leaf) → LeafFits l → length (leaf_text l) ≡ 208 + (length (compact (length l.rest.script)) + length l.rest.script)
length-leaf l fits = ap length (leaf_is l) ∙ long tag l.rest.block.0 l.point.txid.0 (to_le_bytes w32 l.point.index) (to_le_bytes w32 (code_of l.rest))
    (to_le_bytes w64 l.rest.amount) (compact (length l.rest.script)) l.rest.script length-tag fits.rest.block fits.txid refl refl refl where
      long : (t b x i c a n s : List ℕ) → length t ≡ 64 → length b ≡ 32 → length x ≡ 32 → length i ≡ 4 → length c ≡ 4 → length a ≡ 8
          → length (t ++ (t ++ (b ++ (x ++ (i ++ (c ++ (a ++ (n ++ s)))))))) ≡ 208 + (length n + length s)
      long t b x i c a n s et eb ex ei ec ea = simp length-append (omega arith)

pub leaf_long : LeafTextIsLong
leaf_long l fits =
    let count = length-compact (length l.rest.script) fits.rest.script in
    let len = length-leaf l fits in
    (omega (arith, len, count.0), omega (arith, len, count.1, fits.rest.script))

-- ---- the tag

pub tag_is : TAG ≡ tag
unfolding first_words schedule rounds compress hash_after digest_bytes sha512 tag
tag_is = refl
