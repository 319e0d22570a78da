-- Where nothing is a target, nothing is covered and nothing is needed.
use Rattle.std.proofs.Common.{◌≡◌, ℕ, zero, suc, ◌*◌, ◌+◌, ◌<◌, ◌^◌, Bool, true, false, List, [], ◌∷◌, None, is_some, filter, refl, sym, ap, arith}
use Rattle.std.specs.Prelude.{◌&&◌, not}
use Rattle.std.proofs.lemmas.Bool.{false≢true}
use Rattle.forest_place.specs.declared.place.Place.{Place}
use Rattle.forest_place.specs.Forest.{is_root, sibling_off}
use Rattle.forest_place.specs.Places.{places}
use Rattle.forest_model.specs.Cover.{cover, is_needed}
use Rattle.forest_model.specs.Deletion.{is_gone}
use Rattle.proof_shape.specs.Moves.{HasPart, IsSurveyed}
use Rattle.proof_shape.specs.Survey.{IsCoverOf}
use Rattle.proof_shape.specs.Targeted.{IsShaped}
use Rattle.proof_shape.proofs.Longer.{shape_none}

pub none_covered : (row off : ℕ) → cover [] row off ≡ None
none_covered zero off = refl
none_covered (suc row) off = rw (none_covered row (2 * off), none_covered row (2 * off + 1)) refl

ends_false : (a b c : Bool) → c ≡ false → (a && b && c) ≡ false
ends_false true true c e = e
ends_false true false c e = refl
ends_false false b c e = refl

pub none_needed : (n : ℕ) (p : Place) → is_needed n [] p ≡ false
none_needed n p =
    ends_false (not (is_root n p.row p.off)) (not (is_some (cover [] p.row p.off))) (is_some (cover [] p.row (sibling_off p.off)))
    (ap is_some (none_covered p.row (sibling_off p.off)))

none_of : (n : ℕ) (ps : List Place) → filter (is_needed n []) ps ≡ []
none_of n [] = refl
none_of n (p ∷ ps) = rw (none_needed n p) (none_of n ps)

pub covers : (n : ℕ) → IsCoverOf n [] []
covers n = record {
  within = λ r o h. absurd (false≢true h);
  rises = λ a b lt below. absurd (omega (arith, below));
  covered = λ q h. sym (ap is_some (none_covered q.row q.off));
  needed = sym (none_of n (places n));
}

none_gone : (row off : ℕ) → is_gone [] row off ≡ false
none_gone zero off = refl
none_gone (suc row) off = rw (none_gone row (2 * off)) refl

pub untargeted : (n : ℕ) → n < 2 ^ 40 → IsShaped (record { leaves = n; targets = [] })
untargeted n few = record { few = few; shape = shape_none n }

no_part : HasPart [] []
no_part = record { rises = λ k lt. absurd (omega (arith, lt)); part_rises = λ k lt. absurd (omega (arith, lt)); there = λ x h. h }

pub surveyed : (n : ℕ) → IsSurveyed n [] [] [] [] [] []
surveyed n = record {
  needed_is = sym (none_of n (places n));
  cover_is = covers n;
  numbers_are = refl;
  gone = record { part = no_part; places = λ k lt. absurd (omega (arith, lt)); tell = λ row off h. sym (none_gone row off) };
}
