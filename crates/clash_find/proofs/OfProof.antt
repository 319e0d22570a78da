-- What the search finds in a proof of targets, with a leaf for each and the hashes of all needed places.
use Rattle.std.proofs.Common.{◌≡◌, ◌≢◌, ℕ, Bool, true, false, List, [], map, length, Option, Some, None, refl, sym, ap, ◌∙◌, subst}
use Rattle.std.specs.Prelude.{option_map, slice_get}
use Rattle.std.proofs.lemmas.List.{length-map, map-id}
use Rattle.std.proofs.lemmas.Option.{none-some}
use Rattle.uo_digest.specs.declared.digest.Digest.{Digest}
use Rattle.forest_place.specs.declared.place.Place.{Place}
use Rattle.forest_place.proofs.Ascending.{distinct_from_ascending}
use Rattle.forest_model.specs.Content.{IsDigest}
use Rattle.forest_model.specs.Standing.{root}
use Rattle.forest_model.specs.Cover.{need, HasShape}
use Rattle.forest_model.specs.Evaluation.{beside, hash_of, nothing_known, IsAccepted}
use Rattle.forest_model.specs.Right.{entries, IsKnowledge}
use Rattle.forest_model.proofs.Lists.{need_ascending, map_from}
use Rattle.leaf_record.specs.Leaf.{Leaf, LeafFits, leaf_text}
use Rattle.leaf_record.specs.History.{History}
use Rattle.output_index.specs.Held.{Held, leaf_at}
use Rattle.clash_find.specs.Clashes.{TextClash}
use Rattle.clash_find.specs.Answers.{StandForHistory, AcceptsAll, IsAnswerIn}
use Rattle.clash_find.specs.Found.{IsFirstPair}
use Rattle.clash_find.specs.Searched.{digests_of, AreFound, IsSearched}
use Rattle.clash_find.proofs.Answering.{first_by, IsReady, accepts, differs, right, exact, some_found}
use Rattle.proof_verify.proofs.Values.{asked_all}

-- the hashes of all needed places are those by their ranks
pub all_shown : (H : List ℕ → Digest) (n : ℕ) (ts : List Place) (hs : List Digest) → length hs ≡ length (need n ts)
    → hs ≡ map (λ p. hash_of H n ts nothing_known hs p.row p.off) (need n ts)
all_shown H n ts hs e =
    sym (map-id hs)
    ∙ map_from (λ (d : Digest). d) (λ (p : Place). hash_of H n ts nothing_known hs p.row p.off) (H []) (need n ts) hs
    (distinct_from_ascending (need n ts) (need_ascending n ts)) e
    (λ r o i. ap (λ (ps : List Place). beside (H []) ps hs r o) (sym (asked_all n ts)))

module _ (H : List ℕ → Digest) (long : (x : List ℕ) → IsDigest (H x)) (outputs : List Held) (ts : List Place) (rs : List Leaf)
    (hs : List Digest) where
  abbrev AcceptedOver : List (Option Digest) → Type 0
  AcceptedOver es = IsAccepted H (length es) (root H es) ts nothing_known (digests_of H rs) hs

  -- another number of hashes is never accepted
  other_count : (n : ℕ) (roots : ℕ → Option Digest) → length hs ≢ length (need n ts) → IsAccepted H n roots ts nothing_known (digests_of H rs) hs → ⊥
  other_count n roots other a = other (a.one_hash_each ∙ ap length (asked_all n ts))

  pub count_answer : (es : List (Option Digest)) → length hs ≢ length (need (length es) ts) → (us : History) → StandForHistory H es outputs us
      → IsAnswerIn H us ts rs hs None
  count_answer es other us s a =
      let same : length us ≡ length es = sym (length-map us (option_map (λ (r : Leaf). H (leaf_text r)))) ∙ ap length (sym s.entries_are) in
      absurd (other_count (length us) (root H (entries H leaf_text us)) (subst (λ j. length hs ≢ length (need j ts)) (sym same) other) a)

  pub count_exact : (es : List (Option Digest)) → length hs ≢ length (need (length es) ts) → (us : History) → StandForHistory H es outputs us
      → IsFirstPair H us ts rs hs None
  count_exact es other us s =
      let same : length us ≡ length es = sym (length-map us (option_map (λ (r : Leaf). H (leaf_text r)))) ∙ ap length (sym s.entries_are) in
      record {
        accepted =
            λ a. absurd (other_count (length us) (root H (entries H leaf_text us)) (subst (λ j. length hs ≢ length (need j ts)) (sym same) other) a);
        refused = λ a. refl;
      }

  -- what was searched
  pub record IsFoundIn (es : List (Option Digest)) (answer : Option TextClash) : Type 0 where
    pub shape : HasShape (length es) ts
    pub each_leaf : length rs ≡ length ts
    pub count : length hs ≡ length (need (length es) ts)
    pub searched : IsSearched H es outputs ts rs hs answer

  module _ (us : History) (held : (i : ℕ) (l : Leaf) → slice_get us i ≡ Some (Some l) → leaf_at i outputs ≡ Some l) (fit : (i : ℕ) (l : Leaf)
      → slice_get us i ≡ Some (Some l) → LeafFits l)
      (answer : Option TextClash) (w : IsFoundIn (entries H leaf_text us) answer) where
    abbrev es : List (Option Digest)
    es = entries H leaf_text us

    abbrev same_length : length es ≡ length us
    same_length = length-map us (option_map (λ (r : Leaf). H (leaf_text r)))

    ready : IsReady H (length es) ts rs nothing_known hs w.searched.items
    ready = record {
      shape = w.shape;
      each_leaf = w.each_leaf;
      count = w.count ∙ ap length (sym (asked_all (length es) ts));
      full = hs;
      hashes_are = all_shown H (length es) ts hs w.count;
      fit = w.searched.fit;
      evaluated = w.searched.evaluated;
    }

    to_us : AcceptedOver es → AcceptsAll H us ts rs hs
    to_us a = subst (λ j. IsAccepted H j (root H es) ts nothing_known (digests_of H rs) hs) same_length a

    to_es : AcceptsAll H us ts rs hs → AcceptedOver es
    to_es a = subst (λ j. IsAccepted H j (root H es) ts nothing_known (digests_of H rs) hs) (sym same_length) a

    nothing_is_so : IsKnowledge H es nothing_known
    nothing_is_so row off d e = absurd (none-some d e)

    pub answered : IsAnswerIn H us ts rs hs answer
    answered = by w.searched.agree answer w.searched.found
      where
        by : (b : Bool) (x : Option TextClash) → AreFound H es outputs rs w.searched.items b x → IsAnswerIn H us ts rs hs x
        by false x f = subst (IsAnswerIn H us ts rs hs) (sym f.1)
            (λ a. absurd (differs H long us outputs held fit ts rs nothing_known hs w.searched.items ready f.0 (to_es a)))
        by true None f = λ a. right H long us outputs held fit ts rs nothing_known hs w.searched.items ready f.0 f.1
        by true (Some c) f =
            let s = some_found H long us outputs held fit ts rs nothing_known hs w.searched.items ready nothing_is_so c f.1 in (
              to_us (accepts H long us outputs held fit ts rs nothing_known hs w.searched.items ready f.0),
              s.0,
              record { of_forest = s.1.of_forest; of_proof = s.1.of_proof; differ = s.1.differ; first_is = s.1.first_is; second_is = s.1.second_is },
            )

    pub which : IsFirstPair H us ts rs hs answer
    which = by w.searched.agree answer w.searched.found
      where
        by : (b : Bool) (x : Option TextClash) → AreFound H es outputs rs w.searched.items b x → IsFirstPair H us ts rs hs x
        by false x f = record {
          accepted = λ a. absurd (differs H long us outputs held fit ts rs nothing_known hs w.searched.items ready f.0 (to_es a));
          refused = λ no. f.1;
        }
        by true x f = record {
          accepted = λ a. exact H long us outputs held fit ts rs nothing_known hs w.searched.items ready x f.1
              ∙ ap (λ j. first_by H us j ts rs nothing_known hs) same_length;
          refused = λ no. absurd (no (to_us (accepts H long us outputs held fit ts rs nothing_known hs w.searched.items ready f.0)));
        }

  pub found_answer : (es0 : List (Option Digest)) (answer : Option TextClash) → IsFoundIn es0 answer → (us : History)
      → StandForHistory H es0 outputs us → IsAnswerIn H us ts rs hs answer
  found_answer es0 answer w us s = answered us s.held s.fit answer (subst (λ (e : List (Option Digest)). IsFoundIn e answer) s.entries_are w)

  pub found_exact : (es0 : List (Option Digest)) (answer : Option TextClash) → IsFoundIn es0 answer → (us : History)
      → StandForHistory H es0 outputs us → IsFirstPair H us ts rs hs answer
  found_exact es0 answer w us s = which us s.held s.fit answer (subst (λ (e : List (Option Digest)). IsFoundIn e answer) s.entries_are w)

  -- by the names of the calls
  pub found_so : (es0 : List (Option Digest)) (n0 : ℕ) (answer : Option TextClash) → n0 ≡ length es0 → HasShape n0 ts → length rs ≡ length ts
      → length hs ≡ length (need n0 ts) → IsSearched H es0 outputs ts rs hs answer → IsFoundIn es0 answer
  found_so es0 n0 answer at shape each count searched = record {
    shape = subst (λ j. HasShape j ts) at shape;
    each_leaf = each;
    count = subst (λ j. length hs ≡ length (need j ts)) at count;
    searched = searched;
  }

  pub other_so : (es0 : List (Option Digest)) (n0 : ℕ) (needed : List Place) → n0 ≡ length es0 → needed ≡ need n0 ts → (length hs ≡ length needed → ⊥)
      → length hs ≢ length (need (length es0) ts)
  other_so es0 n0 needed at is other e = other (e ∙ sym (ap length is ∙ ap (λ j. length (need j ts)) at))
