-- Targets have shape where their positions in order rise, and none is beneath one of them.
use Rattle.std.proofs.Common.{◌≡◌, ℕ, true, List, sym, ◌∙◌}
use Rattle.std.specs.List.Sorted.{IsNonDecreasing, IsStrictlyIncreasing, IsPermutation}
use Rattle.std.proofs.lemmas.Bool.{false≢true, true≢false, false_from_ne_true}
use Rattle.forest_place.specs.declared.place.Place.{Place}
use Rattle.forest_place.specs.Places.{has_place, AreWithin}
use Rattle.forest_place.proofs.Listed.{place}
use Rattle.forest_place.specs.Position.{positions_of}
use Rattle.forest_model.specs.Cover.{HasShape}
use Rattle.proof_shape.specs.Found.{HasNoneAbove}
use Rattle.proof_shape.proofs.Ordered.{sorted_number_is, distinct_from_rising, rising_from_distinct}

abbrev pub AreApart : ℕ → List Place → List ℕ → Type 0
AreApart n ps ys = (r o : ℕ) → has_place ps r o ≡ true → HasNoneAbove n ys (place r o)

module _ (n : ℕ) (ps : List Place) (ys : List ℕ) (within : AreWithin n ps) (perm : IsPermutation (positions_of n ps) ys) where
  pub shape_from_sorted : IsStrictlyIncreasing ys → AreApart n ps ys → HasShape n ps
  shape_from_sorted rising apart = record {
    within = λ p h. within p.row p.off h;
    distinct = distinct_from_rising n ps ys within perm rising;
    apart = λ p q hp hq. false_from_ne_true _ (λ above.
        let k = within p.row p.off hp in
        false≢true (sym (apart q.row q.off hq p k above) ∙ (sorted_number_is n ps ys p within perm k ∙ hp)));
  }

  pub rising_from_shape : IsNonDecreasing ys → HasShape n ps → IsStrictlyIncreasing ys
  rising_from_shape up s = rising_from_distinct n ps ys within perm up s.distinct

  pub apart_from_shape : HasShape n ps → AreApart n ps ys
  apart_from_shape s r o h q k above =
      sorted_number_is n ps ys q within perm k ∙ false_from_ne_true _ (λ hq. true≢false (sym above ∙ s.apart q (place r o) hq h))
