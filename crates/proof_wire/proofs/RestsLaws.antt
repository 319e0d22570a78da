-- What rests that are spelled one behind the other keep: they are read again, and they are no more than the bytes of their text.
use Rattle.std.proofs.Common.{◌≡◌, ℕ, ◌+◌, ◌≤◌, List, [], ◌∷◌, ◌++◌, length, Some, sym, ap, ◌∙◌, arith}
use Rattle.std.specs.Option.{option_map_or}
use Rattle.std.specs.List.{flat_map, AllByRecursion}
use Rattle.std.proofs.lemmas.List.{append-nil, length-append}
use Rattle.std.proofs.lemmas.List.Concat.{flat_map-append, flat_map-cons}
use Rattle.uo_base.specs.Reading.{times}
use Rattle.uo_base.proofs.Formats.{repeated}
use Rattle.uo_base.proofs.Lists.{all-push}
use Rattle.leaf_record.specs.Leaf.{Rest, RestFits, payload_text, code_of, rest_text}
use Rattle.leaf_record.specs.Reading.{rest_at}
use Rattle.leaf_record.proofs.LeafLaws.{rest_lawful}
use Rattle.proof_wire.specs.Making.{rests_made, IsOfRests}

module _ (n : ℕ) (text : List ℕ) (made : IsOfRests n text) where
  again : times rest_at n text ≡ Some (made.rests, [])
  again =
      ap (times rest_at n) (made.told ∙ sym (append-nil (flat_map rest_text made.rests)))
      ∙ (repeated RestFits rest_text rest_at rest_lawful n).again made.rests [] (made.count, made.fit)

  pub rests_read : rests_made n text ≡ made.rests
  rests_read = ap (λ r. option_map_or (λ p. p.0) r []) again

-- a text is not empty
rest_long : (r : Rest) → RestFits r → 1 ≤ length (rest_text r)
unfolding rest_text
rest_long r fits = omega (arith, fits.block, length-append r.block.0 (payload_text (code_of r) r.amount r.script))

rests_few : (rs : List Rest) → AllByRecursion RestFits rs → length rs ≤ length (flat_map rest_text rs)
rests_few [] all = omega arith
rests_few (r ∷ rs) all =
    rw (flat_map-cons rest_text r rs, length-append (rest_text r) (flat_map rest_text rs)) (omega (arith, rest_long r all.0, rests_few rs all.1))

pub no_more_than_bytes : (n : ℕ) (text : List ℕ) → IsOfRests n text → n ≤ length text
no_more_than_bytes n text made = omega (arith, rests_few made.rests made.fit, made.count, ap length made.told)

-- ---- one more

pub told_more : (rs : List Rest) (r : Rest) → flat_map rest_text (rs ++ r ∷ []) ≡ flat_map rest_text rs ++ rest_text r
told_more rs r =
    flat_map-append rest_text rs (r ∷ [])
    ∙ ap (λ (t : List ℕ). flat_map rest_text rs ++ t) (flat_map-cons rest_text r [] ∙ append-nil (rest_text r))

module _ (n : ℕ) (text more : List ℕ) (made : IsOfRests n text) (rest : Rest) (fits : RestFits rest) (told : more ≡ text ++ rest_text rest) where
  -- there are fewer than bytes
  pub count_fits : n + 1 ≤ length more
  count_fits = omega (arith, no_more_than_bytes n text made, rest_long rest fits, ap length told, length-append text (rest_text rest))

  pub one_rest_more : IsOfRests (n + 1) more
  one_rest_more = record {
    rests = made.rests ++ rest ∷ [];
    fit = all-push RestFits made.rests rest made.fit fits;
    count = length-append made.rests (rest ∷ []) ∙ ap (λ (k : ℕ). k + 1) made.count;
    told = told ∙ ap (λ (t : List ℕ). t ++ rest_text rest) made.told ∙ sym (told_more made.rests rest);
  }

  pub rests_more : rests_made (n + 1) more ≡ rests_made n text ++ rest ∷ []
  unfolding one_rest_more
  rests_more = rests_read (n + 1) more one_rest_more ∙ ap (λ (rs : List Rest). rs ++ rest ∷ []) (sym (rests_read n text made))
