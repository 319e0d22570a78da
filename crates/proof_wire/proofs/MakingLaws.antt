-- What a message that is made keeps: its targets and its rests' text are those of some spends, and these are what it says.
use Rattle.std.proofs.Common.{◌≡◌, ℕ, suc, get_or, ◌^◌, ◌<◌, List, [], ◌∷◌, ◌++◌, length, refl, sym, ap, ap₂, subst, ◌∙◌, arith}
use Rattle.std.specs.Int.{w64, to_le_bytes}
use Rattle.std.specs.List.{flat_map, AllByRecursion}
use Rattle.std.proofs.lemmas.List.{length-map, map-append}
use Rattle.uo_base.specs.Compact.{counted}
use Rattle.uo_base.proofs.Lists.{all-push}
use Rattle.uo_digest.specs.declared.digest.Digest.{Digest}
use Rattle.uo_digest.specs.Reading.{digest_text}
use Rattle.leaf_record.specs.Leaf.{Rest, RestFits, rest_text}
use Rattle.proof_wire.specs.BlockProof.{Spend, BlockProof, SpendFits, ProofFits, rests_of, body_text, spends_of}
use Rattle.proof_wire.specs.Making.{rests_made, IsOfRests, proof_made, IsOfSpends, IsMade}
use Rattle.proof_wire.proofs.ProofLaws.{targets-spends, rests-spends, parts_fit, spends_fit, spends_told}
use Rattle.proof_wire.proofs.RestsLaws.{rests_read, told_more}

module _ (targets text : List ℕ) (made : IsOfSpends targets text) where
  count : length targets ≡ length made.spends
  count = ap length made.at ∙ length-map made.spends _

  rests_told : IsOfRests (length targets) text
  rests_told = record {
    rests = rests_of made.spends;
    fit = (parts_fit made.spends made.fit).1;
    count = length-map made.spends _ ∙ sym count;
    told = made.told;
  }

  spends_made : spends_of targets (rests_made (length targets) text) ≡ made.spends
  unfolding rests_told
  spends_made = ap₂ spends_of made.at (rests_read (length targets) text rests_told) ∙ spends_told made.spends

  -- its text, part by part
  pub text_made : (hashes : List Digest) → body_text (proof_made targets text hashes) ≡ counted (to_le_bytes w64) targets ++ text
      ++ counted digest_text hashes
  unfolding body_text
  text_made hashes = rw (spends_made, made.told, made.at) refl

-- what is made fits
pub proof_fits : (targets text : List ℕ) (hashes : List Digest) → IsMade targets text hashes → length targets < 2 ^ 64 → length hashes < 2 ^ 64
    → ProofFits (proof_made targets text hashes)
proof_fits targets text hashes made few few_hashes =
    let are = spends_made targets text made.0 in
    record {
      count_of_spends = omega (arith, few, ap length are, count targets text made.0);
      spends = subst (AllByRecursion SpendFits) (sym are) made.0.fit;
      count_of_hashes = few_hashes;
      hashes = made.1;
    }

text_more : (spends : List Spend) (s : Spend) → flat_map rest_text (rests_of (spends ++ s ∷ [])) ≡ flat_map rest_text (rests_of spends)
    ++ rest_text s.rest
text_more spends s = ap (flat_map rest_text) (map-append (λ (x : Spend). x.rest) spends (s ∷ [])) ∙ told_more (rests_of spends) s.rest

-- one more spend
module _ (targets text more more_text : List ℕ) (made : IsOfSpends targets text) (target : ℕ) (rest : Rest) (small : target < 2 ^ 64)
    (fits : RestFits rest)
    (at : more ≡ targets ++ target ∷ []) (told : more_text ≡ text ++ rest_text rest) where
  abbrev spend : Spend
  spend = record { target = target; rest = rest }

  pub one_more : IsOfSpends more more_text
  one_more = record {
    spends = made.spends ++ spend ∷ [];
    fit = all-push SpendFits made.spends spend made.fit (record { target = small; rest = fits });
    at = at ∙ ap (λ (ts : List ℕ). ts ++ target ∷ []) made.at ∙ sym (map-append (λ (s : Spend). s.target) made.spends (spend ∷ []));
    told = told ∙ ap (λ (t : List ℕ). t ++ rest_text rest) made.told ∙ sym (text_more made.spends spend);
  }

  pub proof_more : (hashes : List Digest) → proof_made more more_text hashes
      ≡ record { spends = (proof_made targets text hashes).spends ++ spend ∷ []; hashes = hashes }
  unfolding one_more
  proof_more hashes =
      ap (λ (ss : List Spend). with_hashes ss)
      (spends_made more more_text one_more ∙ ap (λ (ss : List Spend). ss ++ spend ∷ []) (sym (spends_made targets text made)))
    where
      with_hashes : List Spend → BlockProof
      with_hashes ss = record { spends = ss; hashes = hashes }

-- ---- of rests that are spelled already

all_small : (targets : List ℕ) → ((i d : ℕ) → i < length targets → get_or targets i d < 2 ^ 64) → AllByRecursion (λ n. n < 2 ^ 64) targets
all_small [] small = tt
all_small (t ∷ ts) small = (small 0 0 (omega arith), all_small ts (λ i d lt. small (suc i) d (omega (arith, lt))))

module _ (targets : List ℕ) (n : ℕ) (text : List ℕ) (made : IsOfRests n text) (same : length targets ≡ length (rests_made n text)) where
  -- a target for each rest
  each : length made.rests ≡ length targets
  each = ap length (sym (rests_read n text made)) ∙ sym same

  pub of_rests : ((i d : ℕ) → i < length targets → get_or targets i d < 2 ^ 64) → IsOfSpends targets text
  of_rests small =
      let at = targets-spends targets made.rests each in
      let rests = rests-spends targets made.rests each in
      record {
        spends = spends_of targets made.rests;
        fit = spends_fit _ (subst (AllByRecursion (λ n. n < 2 ^ 64)) (sym at) (all_small targets small))
            (subst (AllByRecursion RestFits) (sym rests) made.fit);
        at = sym at;
        told = made.told ∙ ap (flat_map rest_text) (sym rests);
      }

  pub spends_are : spends_of targets (rests_made (length targets) text) ≡ spends_of targets (rests_made n text)
  spends_are = ap (λ k. spends_of targets (rests_made k text)) (sym each ∙ made.count)
