-- What the search finds in the proof of a message.
use Rattle.std.proofs.Common.{◌≡◌, ◌≢◌, ℕ, Bool, true, false, List, map, length, Option, Some, None, Err, refl, sym, ap, ◌∙◌, subst}
use Rattle.std.specs.Prelude.{is_none, option_map, slice_get, if◌then◌else◌}
use Rattle.std.proofs.lemmas.Bool.{false_from_ne_true}
use Rattle.std.proofs.lemmas.List.{length-map}
use Rattle.std.proofs.lemmas.Option.{none-some}
use Rattle.uo_digest.specs.declared.digest.Digest.{Digest}
use Rattle.forest_place.specs.declared.place.Place.{Place}
use Rattle.forest_model.specs.Content.{IsDigest}
use Rattle.forest_model.specs.Standing.{root}
use Rattle.forest_model.specs.Cover.{HasShape}
use Rattle.forest_model.specs.Evaluation.{IsAccepted}
use Rattle.forest_model.specs.Right.{entries, IsKnowledge, IsRight, IsValueText}
use Rattle.leaf_record.specs.Leaf.{Outpoint, Leaf, LeafFits, leaf_text}
use Rattle.leaf_record.specs.History.{History}
use Rattle.proof_shape.specs.Targeted.{Targeted}
use Rattle.proof_verify.specs.Evaluation.{AreEvaluatedAt}
use Rattle.block_rules.specs.declared.chain.Outside.{Outside}
use Rattle.block_rules.specs.declared.fault.RuleFault.{RuleFault}
use Rattle.block_rules.specs.declared.fault.RuleFault.TheVariants.{Refused}
use Rattle.block_rules.specs.declared.refusal.ProofRefusal.{ProofRefusal}
use Rattle.block_rules.specs.declared.refusal.Refusal.{Refusal}
use Rattle.output_index.specs.Held.{Held, leaf_at}
use Rattle.node_rules.specs.Messages.{Message, point_of, points_of, named, targets, known_to}
use Rattle.node_rules.specs.Accepting.{proof_fault}
use Rattle.node_rules.specs.Judged.{AreNamed, TargetsJudged, AreHashes, HashesJudged}
use Rattle.node_rules.proofs.Faults.{accepted, passes}
use Rattle.node_rules.proofs.Righting.{right_is_tested}
use Rattle.node_rules.proofs.Told.{targets_are, named_all}
use Rattle.node_rules.proofs.ClaimedLeaves.{message-long}
use Rattle.clash_find.specs.Clashes.{TextClash}
use Rattle.clash_find.specs.Texts.{claims}
use Rattle.clash_find.specs.Answers.{StandForHistory, IsAnswer}
use Rattle.clash_find.specs.Found.{clash_in}
use Rattle.clash_find.specs.Searched.{digests_of, AreFound, IsSearched}
use Rattle.clash_find.proofs.Refusing.{targets_long, no_shape, no_count}
use Rattle.clash_find.proofs.Answering.{first_by, IsReady, accepts, differs, right, exact, some_found}

module _ (H : List ℕ → Digest) (long : (x : List ℕ) → IsDigest (H x)) (outputs : List Held) (ext : List Outside) (m : Message)
    (count : length m.proof.spends ≡ length ext) (known : ℕ → ℕ → Option Digest) where
  abbrev points : List Outpoint
  points = points_of ext

  abbrev rs : List Leaf
  rs = claims ext m

  abbrev hs : List Digest
  hs = m.proof.hashes

  abbrev k : ℕ → ℕ → Option Digest
  k = known_to m.lean known

  points_count : length m.proof.spends ≡ length points
  points_count = count ∙ sym (length-map ext point_of)

  abbrev fault_over : ℕ → (ℕ → Option Digest) → Option ProofRefusal
  fault_over n roots = proof_fault H (record { n = n; roots = roots; known = known }) points m

  abbrev clash_by : History → ℕ → Option ProofRefusal → Option TextClash
  clash_by us n x = if is_none x then first_by H us n (targets n m) rs k hs else None

  -- ---- where targets or hashes are refused

  pub none_accepted : (es0 : List (Option Digest)) → ((roots : ℕ → Option Digest) → fault_over (length es0) roots ≢ None) → (us : History)
      → StandForHistory H es0 outputs us → IsAnswer H us known points m None
  none_accepted es0 refused us s none =
      let same : length us ≡ length es0 = sym (length-map us (option_map (λ (r : Leaf). H (leaf_text r)))) ∙ ap length (sym s.entries_are) in
      absurd (refused (root H (entries H leaf_text us)) (subst (λ j. fault_over j (root H (entries H leaf_text us)) ≡ None) same none))

  pub none_exact : (es0 : List (Option Digest)) → ((roots : ℕ → Option Digest) → fault_over (length es0) roots ≢ None) → (us : History)
      → StandForHistory H es0 outputs us → None ≡ clash_in H us known ext m
  none_exact es0 refused us s = by_fault (fault_over (length us) (root H (entries H leaf_text us))) refl
    where
      by_fault : (x : Option ProofRefusal) → fault_over (length us) (root H (entries H leaf_text us)) ≡ x → None ≡ clash_by us (length us) x
      by_fault None e =
          let same : length us ≡ length es0 = sym (length-map us (option_map (λ (r : Leaf). H (leaf_text r)))) ∙ ap length (sym s.entries_are) in
          absurd (refused (root H (entries H leaf_text us)) (subst (λ j. fault_over j (root H (entries H leaf_text us)) ≡ None) same e))
      by_fault (Some f) e = refl

  -- ---- what was searched

  pub record IsFoundFor (es : List (Option Digest)) (t : Targeted) (full : List Digest) (answer : Option TextClash) : Type 0 where
    pub named_so : AreNamed (length es) m t
    pub shape : HasShape t.leaves t.targets
    pub hashes : AreHashes m t known full
    pub searched : IsSearched H es outputs t.targets rs full answer

  lean_view : (es : List (Option Digest)) → IsKnowledge H es known → (lean : Bool) → IsKnowledge H es (known_to lean known)
  lean_view es view true = view
  lean_view es view false = λ row off d e. absurd (none-some d e)

  module _ (us : History) (held : (i : ℕ) (l : Leaf) → slice_get us i ≡ Some (Some l) → leaf_at i outputs ≡ Some l) (fit : (i : ℕ) (l : Leaf)
      → slice_get us i ≡ Some (Some l) → LeafFits l)
      (t : Targeted) (full : List Digest) (answer : Option TextClash) (w : IsFoundFor (entries H leaf_text us) t full answer) where
    abbrev es : List (Option Digest)
    es = entries H leaf_text us

    abbrev n : ℕ
    n = length es

    abbrev ts : List Place
    ts = targets n m

    abbrev same_length : n ≡ length us
    same_length = length-map us (option_map (λ (r : Leaf). H (leaf_text r)))

    same : t ≡ record { leaves = n; targets = ts }
    same = targets_are n m t w.named_so

    all : named n m ≡ map Some ts
    all = named_all n m t w.named_so

    here : AreHashes m (record { leaves = n; targets = ts }) known full
    here = subst (λ (x : Targeted). AreHashes m x known full) same w.hashes

    ready : IsReady H n ts rs k hs w.searched.items
    ready = record {
      shape = subst (λ (x : Targeted). HasShape x.leaves x.targets) same w.shape;
      each_leaf = message-long ext m count ∙ (sym count ∙ (sym (targets_long n m t w.named_so) ∙ ap (λ (x : Targeted). length x.targets) same));
      count = here.count;
      full = full;
      hashes_are = here.hashes_are H;
      fit = w.searched.fit;
      evaluated = subst (λ (x : Targeted). AreEvaluatedAt H n x.targets (digests_of H rs) full w.searched.items) same w.searched.evaluated;
    }

    abbrev Accepts : Type 0
    Accepts = IsAccepted H n (root H es) ts k (digests_of H rs) hs

    no_fault : Accepts → fault_over n (root H es) ≡ None
    no_fault a = passes H (record { n = n; roots = root H es; known = known }) points m a all

    taken : fault_over n (root H es) ≡ None → Accepts
    taken e = (accepted H (record { n = n; roots = root H es; known = known }) points m points_count e).0

    abbrev RightBy : ℕ → Type 0
    RightBy j = IsRight H leaf_text us (targets j m) k rs hs

    pub answered : IsKnowledge H es known → IsAnswer H us known points m answer
    answered view = by w.searched.agree answer w.searched.found
      where
        by : (b : Bool) (x : Option TextClash) → AreFound H es outputs rs w.searched.items b x → IsAnswer H us known points m x
        by false x f =
            subst (IsAnswer H us known points m) (sym f.1)
            (λ none. absurd (differs H long us outputs held fit ts rs k hs w.searched.items ready f.0
            (taken (subst (λ j. fault_over j (root H es) ≡ None) (sym same_length) none))))
        by true None f =
            λ none. (right_is_tested H us known points m).1 (
              subst RightBy same_length (right H long us outputs held fit ts rs k hs w.searched.items ready f.0 f.1),
              subst (λ j. named j m ≡ map Some (targets j m)) same_length all,
              points_count,
            )
        by true (Some c) f =
            let s = some_found H long us outputs held fit ts rs k hs w.searched.items ready (lean_view es view m.lean) c f.1 in (
              subst (λ j. fault_over j (root H es) ≡ None) same_length
                  (no_fault (accepts H long us outputs held fit ts rs k hs w.searched.items ready f.0)),
              false_from_ne_true _ (λ tested. s.0 (subst RightBy (sym same_length) ((right_is_tested H us known points m).0 tested).0)),
              record {
                of_forest = s.1.of_forest;
                of_proof = subst (λ j. IsValueText H leaf_text (length us) (targets j m) k rs hs c.second) same_length s.1.of_proof;
                differ = s.1.differ;
                first_is = s.1.first_is;
                second_is = s.1.second_is;
              },
            )

    -- by this number of entries
    which_by : answer ≡ clash_by us n (fault_over n (root H es))
    which_by = by w.searched.agree answer w.searched.found
      where
        by_fault : (x : Option ProofRefusal) → fault_over n (root H es) ≡ x → (fault_over n (root H es) ≡ None → ⊥) → None ≡ clash_by us n x
        by_fault None e never = absurd (never e)
        by_fault (Some f) e never = refl

        by : (b : Bool) (x : Option TextClash) → AreFound H es outputs rs w.searched.items b x → x ≡ clash_by us n (fault_over n (root H es))
        by false x f = f.1 ∙ by_fault (fault_over n (root H es)) refl
            (λ e. differs H long us outputs held fit ts rs k hs w.searched.items ready f.0 (taken e))
        by true x f =
            exact H long us outputs held fit ts rs k hs w.searched.items ready x f.1
            ∙ sym (ap (clash_by us n) (no_fault (accepts H long us outputs held fit ts rs k hs w.searched.items ready f.0)))

    pub which : answer ≡ clash_in H us known ext m
    which = which_by ∙ ap (λ j. clash_by us j (fault_over j (root H es))) same_length

  -- by the names of the calls
  pub found_so : (es0 : List (Option Digest)) (n0 : ℕ) (t : Targeted) (full seen_full : List Digest) (seen : List Leaf) (ext0 : List Outside)
      (answer : Option TextClash) → n0 ≡ length es0 → ext0 ≡ ext → AreNamed n0 m t → HasShape t.leaves t.targets → AreHashes m t known full →
      seen ≡ claims ext0 m → seen_full ≡ full → IsSearched H es0 outputs t.targets seen seen_full answer → IsFoundFor es0 t full answer
  found_so es0 n0 t full seen_full seen ext0 answer at same named_so shape hashes leaves_are full_is searched = record {
    named_so = subst (λ j. AreNamed j m t) at named_so;
    shape = shape;
    hashes = hashes;
    searched = subst (λ l. IsSearched H es0 outputs t.targets l full answer) (leaves_are ∙ ap (λ x. claims x m) same)
        (subst (λ l. IsSearched H es0 outputs t.targets seen l answer) full_is searched);
  }

  pub found_answer : (es0 : List (Option Digest)) (t : Targeted) (full : List Digest) (answer : Option TextClash) → IsFoundFor es0 t full answer
      → (us : History) → StandForHistory H es0 outputs us → IsKnowledge H es0 known → IsAnswer H us known points m answer
  found_answer es0 t full answer w us s view =
      answered us s.held s.fit t full answer (subst (λ (e : List (Option Digest)). IsFoundFor e t full answer) s.entries_are w)
      (subst (λ (e : List (Option Digest)). IsKnowledge H e known) s.entries_are view)

  pub found_exact : (es0 : List (Option Digest)) (t : Targeted) (full : List Digest) (answer : Option TextClash) → IsFoundFor es0 t full answer
      → (us : History) → StandForHistory H es0 outputs us → answer ≡ clash_in H us known ext m
  found_exact es0 t full answer w us s =
      which us s.held s.fit t full answer (subst (λ (e : List (Option Digest)). IsFoundFor e t full answer) s.entries_are w)

  -- as many leaves as targets
  pub leaves_long : (n0 : ℕ) (t : Targeted) (ext0 : List Outside) (seen : List Leaf) → ext0 ≡ ext → AreNamed n0 m t → seen ≡ claims ext0 m
      → length seen ≡ length t.targets
  leaves_long n0 t ext0 seen same a is = ap length (is ∙ ap (λ x. claims x m) same)
      ∙ (message-long ext m count ∙ (sym count ∙ sym (targets_long n0 m t a)))

  -- where the targets or the hashes are refused
  pub shape_refused : (es0 : List (Option Digest)) (n0 : ℕ) (fault : RuleFault) (why : Refusal) → n0 ≡ length es0 → TargetsJudged n0 m (Err fault)
      → fault ≡ Refused why → (roots : ℕ → Option Digest) → fault_over (length es0) roots ≢ None
  shape_refused es0 n0 fault why at h is roots =
      no_shape H (length es0) ext m known roots why
      (subst (λ j. TargetsJudged j m (Err (Refused why))) at (subst (λ f. TargetsJudged n0 m (Err f)) is h))

  pub count_refused : (es0 : List (Option Digest)) (n0 : ℕ) (t : Targeted) (fault : RuleFault) (why : Refusal) → n0 ≡ length es0 → AreNamed n0 m t
      → HashesJudged m t known (Err fault) → fault ≡ Refused why → (roots : ℕ → Option Digest) → fault_over (length es0) roots ≢ None
  count_refused es0 n0 t fault why at a h is roots =
      no_count H (length es0) ext m known roots t why (subst (λ j. AreNamed j m t) at a) (subst (λ f. HashesJudged m t known (Err f)) is h)
