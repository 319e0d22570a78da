-- Texts that are put one behind the other, cut apart again, and digested.
use Rattle.std.proofs.Common.{◌≡◌, ℕ, ◌+◌, ◌-◌, ◌<◌, ◌≤◌, List, [], ◌∷◌, ◌++◌, length, map, take, drop, set, get_or}
use Rattle.std.proofs.Common.{sum, Some, refl, sym, ap, ap₂, ◌∙◌, subst}
use Rattle.std.proofs.Common.{append_assoc, arith}
use Rattle.std.specs.Prelude.{slice_get}
use Rattle.std.specs.Borrow.{Bor}
use Rattle.std.specs.List.{flat_map, AllByRecursion}
use Rattle.std.proofs.lemmas.List.{length-append, length-take-le, length-drop, take-append-drop, take_at, drop_at, get_or-drop, drop_more, take_more}
use Rattle.std.proofs.lemmas.List.{take_more_set, flat_map_more, map_push}
use Rattle.std.proofs.lemmas.List.Concat.{length-flat_map}
use Rattle.std.proofs.lemmas.List.Sums.{sum-map, sum_by-cons}
use Rattle.std.proofs.lemmas.Option.{slice_get_within, get_or_from_slice_get}
use Rattle.std.proofs.Math.Seq.{take-add}
use Rattle.uo_base.proofs.Lists.{all-append}
use Rattle.uo_digest.specs.declared.digest.Digest.{Digest}
use Rattle.leaf_record.specs.Leaf.{Leaf, LeafFits, tag, output_text, leaf_text}
use Rattle.leaf_record.specs.Batches.{parts_of}
use Rattle.leaf_record.proofs.LeafLaws.{behind_tags}

-- ---- each leaf fits

pub fit_on : (leaves : List Leaf) (from n : ℕ) → AllByRecursion LeafFits (take from leaves) → AllByRecursion LeafFits (take n (drop from leaves))
    → AllByRecursion LeafFits (take (from + n) leaves)
fit_on leaves from n first second =
    subst (AllByRecursion LeafFits) (sym (take-add from n leaves)) (all-append LeafFits (take from leaves) (take n (drop from leaves)) first second)

-- ---- texts are put

-- the texts of so many leaves from an index on stand in the room up to an end, and these are their lengths
pub record IsPutting (leaves : List Leaf) (from : ℕ) (room lengths : List ℕ) (count end : ℕ) : Type 0 where
  pub sizes : take count lengths ≡ map (λ leaf. length (output_text leaf)) (take count (drop from leaves))
  pub texts : take end room ≡ flat_map output_text (take count (drop from leaves))
  pub fit : AllByRecursion LeafFits (take count (drop from leaves))
  pub within : end ≤ length room
  pub begins : count ≡ 0 → end ≡ 0

one_more : {X : Type 0} (xs : List X) (from count : ℕ) (x : X) → slice_get xs (from + count) ≡ Some x
    → take (count + 1) (drop from xs) ≡ take count (drop from xs) ++ x ∷ []
one_more xs from count x is =
    let lt : count < length (drop from xs) = omega (arith, length-drop from xs, slice_get_within xs (from + count) x is) in
    take_more (drop from xs) count x lt
    ∙ ap (λ y. take count (drop from xs) ++ y ∷ []) (get_or-drop from xs count x ∙ get_or_from_slice_get xs (from + count) x x is)

-- one more text is put behind an end
pub goes_on : (room new text : List ℕ) (end next : ℕ) → end ≤ length room → take next new ≡ take end room ++ text → next ≤ length new → end ≤ next
goes_on room new text end next within put le =
    omega (arith, ap length put, length-take-le next new le, length-take-le end room within, length-append (take end room) text)

pub putting_more : {leaves : List Leaf} {from : ℕ} {room lengths : List ℕ} {count end : ℕ} (leaf : Leaf) (new : List ℕ) (next : ℕ)
    → IsPutting leaves from room lengths count end → slice_get leaves (from + count) ≡ Some leaf → LeafFits leaf → count < length lengths
    → take next new ≡ take end room ++ output_text leaf → next ≤ length new
    → IsPutting leaves from new (set lengths count (next - end)) (count + 1) next
putting_more {leaves} {from} {room} {lengths} {count} {end} leaf new next p is fits lt put le =
    let one = one_more leaves from count leaf is in
    let size : next - end ≡ length (output_text leaf) = omega (
      arith,
      ap length put,
      length-take-le next new le,
      length-take-le end room p.within,
      length-append (take end room) (output_text leaf),
    ) in
    record {
      sizes = take_more_set lengths count (next - end) lt
          ∙ ap₂ (λ (ns : List ℕ) (n : ℕ). ns ++ n ∷ []) p.sizes size
          ∙ sym (map_push (λ l. length (output_text l)) (take count (drop from leaves)) leaf)
          ∙ ap (map (λ l. length (output_text l))) (sym one);
      texts = put
          ∙ ap (λ (t : List ℕ). t ++ output_text leaf) p.texts
          ∙ flat_map_more output_text [] (take count (drop from leaves)) leaf
          ∙ ap (flat_map output_text) (sym one);
      fit = subst (AllByRecursion LeafFits) (sym one) (all-append LeafFits (take count (drop from leaves)) (leaf ∷ []) p.fit (fits, tt));
      within = le;
      begins = λ e. absurd (omega (arith, e));
    }

-- ---- and cut apart again

cut_again : (leaves : List Leaf) (rest : List ℕ)
    → parts_of (map (λ leaf. length (output_text leaf)) leaves) (flat_map output_text leaves ++ rest) ≡ map output_text leaves
cut_again [] rest = refl
cut_again (l ∷ ls) rest =
    let t = output_text l in
    let others = flat_map output_text ls in
    ap₂ (λ (part left : List ℕ). part ∷ parts_of (map (λ leaf. length (output_text leaf)) ls) left)
    (ap (take (length t)) (append_assoc t others rest) ∙ take_at t (others ++ rest) (length t) refl)
    (ap (drop (length t)) (append_assoc t others rest) ∙ drop_at t (others ++ rest) (length t) refl)
    ∙ ap (λ (ts : List (List ℕ)). t ∷ ts) (cut_again ls rest)

module _ {leaves : List Leaf} {from : ℕ} {room lengths : List ℕ} {count end : ℕ} (p : IsPutting leaves from room lengths count end) where
  pub put_parts : parts_of (take count lengths) room ≡ map output_text (take count (drop from leaves))
  put_parts =
      let put = take count (drop from leaves) in
      ap₂ parts_of p.sizes (sym (take-append-drop end room) ∙ ap (λ (t : List ℕ). t ++ drop end room) p.texts) ∙ cut_again put (drop end room)

  pub put_within : sum (take count lengths) ≤ length room
  put_within =
      let put = take count (drop from leaves) in
      omega (
        arith,
        ap sum p.sizes,
        sum-map (λ leaf. length (output_text leaf)) put,
        length-flat_map output_text put,
        ap length p.texts,
        length-take-le end room p.within,
        p.within,
      )

pub cut_more : (ns : List ℕ) (parts : List (Bor (List ℕ))) (i : ℕ) (part : Bor (List ℕ)) (left behind : List ℕ) (whole : List (List ℕ))
    → map (λ (part : Bor (List ℕ)). part.now) (take i parts) ++ parts_of (drop i ns) left ≡ whole → i < length ns → i < length parts
    → part.now ≡ take (get_or ns i 0) left → behind ≡ drop (get_or ns i 0) left
    → map (λ (part : Bor (List ℕ)). part.now) (take (i + 1) (set parts i part)) ++ parts_of (drop (i + 1) ns) behind ≡ whole
cut_more ns parts i part left behind whole so_far lt room is rest =
    let now : Bor (List ℕ) → List ℕ = λ part. part.now in
    let front = map now (take i parts) in
    ap (λ (ps : List (Bor (List ℕ))). map now ps ++ parts_of (drop (i + 1) ns) behind) (take_more_set parts i part room)
    ∙ ap (λ (ts : List (List ℕ)). ts ++ parts_of (drop (i + 1) ns) behind) (map_push now (take i parts) part)
    ∙ append_assoc front (now part ∷ []) (parts_of (drop (i + 1) ns) behind)
    ∙ ap₂ (λ (t u : List ℕ). front ++ (t ∷ parts_of (drop (i + 1) ns) u)) is rest
    ∙ ap (λ (ms : List ℕ). front ++ parts_of ms left) (sym (drop_more ns i 0 lt))
    ∙ so_far

pub first_within : (ns : List ℕ) (i room : ℕ) → i < length ns → sum (drop i ns) ≤ room
    → (get_or ns i 0 ≤ room) × (sum (drop (i + 1) ns) ≤ room - get_or ns i 0)
first_within ns i room lt le =
    let more = ap sum (drop_more ns i 0 lt) ∙ sum_by-cons (λ n. n) (get_or ns i 0) (drop (i + 1) ns) in
    (omega (arith, more, le), omega (arith, more, le))

-- the parts of a room in which these texts were put
pub cut_texts : (sizes all : List ℕ) (parts texts : List (Bor (List ℕ))) (count : ℕ) (room : List ℕ) (leaves : List Leaf)
    → sizes ≡ take count all → length sizes ≡ count → map (λ (part : Bor (List ℕ)). part.now) (take (length sizes) parts) ≡ parts_of sizes room
    → parts_of (take count all) room ≡ map output_text leaves → texts ≡ take count parts
    → map (λ (part : Bor (List ℕ)). part.now) texts ≡ map output_text leaves
cut_texts sizes all parts texts count room leaves are long cut put front =
    ap (map (λ (part : Bor (List ℕ)). part.now)) (front ∙ ap (λ n. take n parts) (sym long)) ∙ cut ∙ ap (λ (ns : List ℕ). parts_of ns room) are ∙ put

-- ---- and digested

values_of : (digest : List ℕ → Digest) (texts : List (Bor (List ℕ))) → map (λ (t : Bor (List ℕ)). digest t.now) texts
    ≡ map digest (map (λ (t : Bor (List ℕ)). t.now) texts)
values_of digest [] = refl
values_of digest (t ∷ texts) = ap (λ (ds : List Digest). digest t.now ∷ ds) (values_of digest texts)

tagged : (digest : List ℕ → Digest) (leaves : List Leaf)
    → map (λ text. digest ((tag ++ tag) ++ text)) (map output_text leaves) ≡ map (λ leaf. digest (leaf_text leaf)) leaves
tagged digest [] = refl
tagged digest (l ∷ ls) = ap₂ (λ (d : Digest) (ds : List Digest). d ∷ ds) (ap digest (behind_tags l)) (tagged digest ls)

pub digests_behind : (digest : List ℕ → Digest) (texts : List (Bor (List ℕ))) (leaves : List Leaf)
    → map (λ (t : Bor (List ℕ)). t.now) texts ≡ map output_text leaves
    → map (λ (t : Bor (List ℕ)). digest ((tag ++ tag) ++ t.now)) texts ≡ map (λ leaf. digest (leaf_text leaf)) leaves
digests_behind digest texts leaves are =
    values_of (λ text. digest ((tag ++ tag) ++ text)) texts ∙ ap (map (λ text. digest ((tag ++ tag) ++ text))) are ∙ tagged digest leaves
