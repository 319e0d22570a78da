-- A ticket beside a message with one spend.
use Rattle.std.proofs.Common.{◌≡◌, ◌≢◌, ℕ, ◌≤◌, ◌^◌, Bool, true, false, List, [], ◌∷◌, map, length, get_or, Option, Some, None, refl, sym, ap, ◌∙◌}
use Rattle.std.proofs.Common.{subst, ap₂, arith}
use Rattle.std.specs.Prelude.{◌↔◌, if◌then◌else◌, option_map}
use Rattle.std.specs.List.{AllPairs}
use Rattle.std.proofs.lemmas.Bool.{and_parts, and_from}
use Rattle.std.proofs.lemmas.Option.{none-some, same_Some}
use Rattle.uo_digest.specs.declared.digest.Digest.{Digest}
use Rattle.forest_place.specs.declared.place.Place.{Place}
use Rattle.forest_place.specs.declared.naming.Naming.TheVariants.{FixedPosition}
use Rattle.forest_place.specs.Named.{place_by}
use Rattle.forest_model.specs.Cover.{HasShape}
use Rattle.forest_model.specs.Standing.{root}
use Rattle.forest_model.specs.Evaluation.{nothing_known, IsAccepted}
use Rattle.forest_model.specs.Right.{entries, IsRight}
use Rattle.forest_model.proofs.Right.{accepted_from_right}
use Rattle.forest_roots.specs.Stump.{Stump, root_in}
use Rattle.block_codec.specs.Merkle.{is_same}
use Rattle.leaf_record.specs.Leaf.{Leaf, leaf_text}
use Rattle.leaf_record.specs.History.{History, somes}
use Rattle.proof_shape.specs.declared.fault.ShapeFault.{ShapeFault}
use Rattle.proof_shape.specs.declared.fault.ShapeFault.TheVariants as Shape
use Rattle.proof_shape.specs.Shape.{AreFixedTargets, IsFixedFault}
use Rattle.proof_shape.specs.Targeted.{Targeted}
use Rattle.proof_verify.specs.declared.fault.ProofFault.{ProofFault}
use Rattle.proof_verify.specs.Verified.{IsProofFault, IsDeleted}
use Rattle.block_rules.specs.declared.refusal.ProofRefusal.{ProofRefusal}
use Rattle.block_rules.specs.declared.refusal.ProofRefusal.TheVariants.{Outside}
use Rattle.node_rules.specs.Messages.{Message, named, targets}
use Rattle.node_rules.specs.Accepting.{View, shape_fault}
use Rattle.node_rules.specs.Refusing.{proof_refusal}
use Rattle.node_rules.proofs.Faults.{accepted, passes}
use Rattle.node_rules.proofs.Placing.{named_by}
use Rattle.node_rules.proofs.Righting.{right_is_tested, no_none}
use Rattle.node_rules.proofs.Same.{is_same-true, is_same-same}
use Rattle.node_rules.proofs.Shapes.{shape_passes}
use Rattle.node_rules.proofs.Claiming.{full_told}
use Rattle.ticket_check.specs.Tickets.{Ticket}
use Rattle.ticket_check.specs.declared.verdict.TicketVerdict.TheVariants as Said
use Rattle.ticket_check.specs.Alone.{alone, target_at}
use Rattle.ticket_check.specs.Judging.{TicketAccepts, TicketRight, target_in, ticket_message, points, stump_view, ticket_fault, unless_refused}
use Rattle.ticket_check.specs.Judging.{ticket_verdict, is_ticket_right}

-- ---- the target of one number

one_place : (n x : ℕ) (ts : List Place) → place_by FixedPosition n x ∷ [] ≡ map Some ts
    → option_map (alone n) (place_by FixedPosition n x) ≡ Some (record { leaves = n; targets = ts })
one_place n x [] e = absurd cc
one_place n x (p ∷ []) e = let same : place_by FixedPosition n x ≡ Some p = cc in ap (option_map (alone n)) same
one_place n x (p ∷ q ∷ ts) e = absurd cc

pub target_found : (n x : ℕ) (t : Targeted) → n ≤ 2 ^ 40 → t.leaves ≡ n → AreFixedTargets n (x ∷ []) t.targets → Some t ≡ target_at n x
target_found n x t few counted a =
    sym (one_place n x t.targets (named_by FixedPosition n few (x ∷ []) t.targets a)
    ∙ ap (λ (j : ℕ). let y : Option Targeted = Some (record { leaves = j; targets = t.targets }) in y) (sym counted))

pub none_found : (n x i : ℕ) (whole : ShapeFault) → whole ≡ Shape.Outside i → IsFixedFault n (x ∷ []) whole → None ≡ target_at n x
none_found n x i whole is w =
    let z = subst (IsFixedFault n (x ∷ [])) is w in
    let first : i ≡ 0 = (let b = z.0.below in omega (arith, b)) in
    sym (ap (option_map (alone n)) (subst (λ j. place_by FixedPosition n (get_or (x ∷ []) j 0) ≡ None) first z.1))

pub none_repeated : (n x i j : ℕ) (whole : ShapeFault) → whole ≡ Shape.Repeated i j → IsFixedFault n (x ∷ []) whole → ⊥
none_repeated n x i j whole is w = let z = subst (IsFixedFault n (x ∷ [])) is w in let b = z.first.below in let e = z.earlier in omega (arith, b, e)

pub none_beneath : (n x i j : ℕ) (whole : ShapeFault) → whole ≡ Shape.Beneath i j → IsFixedFault n (x ∷ []) whole → ⊥
none_beneath n x i j whole is w = let z = subst (IsFixedFault n (x ∷ [])) is w in let b = z.first.below in let e = z.earlier in omega (arith, b, e)

-- the place that it is
pub record IsTarget (n x : ℕ) (t : Targeted) : Type 0 where
  pub place : Place
  pub named : place_by FixedPosition n x ≡ Some place
  pub is : t ≡ alone n place

pub target_is : (n x : ℕ) (t : Targeted) → target_at n x ≡ Some t → IsTarget n x t
target_is n x t e = by_place (place_by FixedPosition n x) refl e
  where
    by_place : (q : Option Place) → place_by FixedPosition n x ≡ q → option_map (alone n) q ≡ Some t → IsTarget n x t
    by_place None f h = absurd (none-some t h)
    by_place (Some p) f h = record { place = p; named = f; is = sym (same_Some (alone n p) t h) }

-- ---- a proof of one leaf

module _ (H : List ℕ → Digest) (v : View) (k : Ticket) where
  abbrev m : Message
  m = ticket_message k

  abbrev AcceptsAt : List Place → Type 0
  AcceptsAt ts = IsAccepted H v.n v.roots ts nothing_known (H (leaf_text k.leaf) ∷ []) k.hashes

  -- no place is named
  pub outside_told : target_in v.n k ≡ None → Some (Outside 0) ≡ ticket_fault H v k
  outside_told e = rw e refl

  module _ (p : Place) (e : target_in v.n k ≡ Some p) where
    named_one : named v.n m ≡ Some p ∷ []
    named_one = ap (λ (x : Option Place). x ∷ []) e

    pub target_one : targets v.n m ≡ p ∷ []
    target_one = ap somes named_one

    all_named : named v.n m ≡ map Some (targets v.n m)
    all_named = named_one ∙ sym (ap (map Some) target_one)

    -- no fault is found exactly where the roots accept it
    pub accepted_one : ticket_fault H v k ≡ None → AcceptsAt (p ∷ [])
    accepted_one none = subst AcceptsAt target_one (accepted H v (points k) m refl none).0

    pub passes_one : AcceptsAt (p ∷ []) → ticket_fault H v k ≡ None
    passes_one a = passes H v (points k) m (subst AcceptsAt (sym target_one) a) all_named

-- ---- what the check of the roots answers

module _ (H : List ℕ → Digest) (f : Stump) (k : Ticket) (p : Place) (e : target_in f.leaves k ≡ Some p) (shape : HasShape f.leaves (p ∷ [])) where
  abbrev v : View
  v = stump_view f

  abbrev leaves : List Digest
  leaves = H (leaf_text k.leaf) ∷ []

  shaped : shape_fault f.leaves [] 0 (named f.leaves (ticket_message k)) ≡ None
  shaped = ap (shape_fault f.leaves [] 0) (named_one H v k p e) ∙ shape_passes f.leaves [] (p ∷ []) 0 shape

  abbrev Told : List Place → ProofFault → Type 0
  Told ts fault = IsProofFault H f ts leaves k.hashes fault

  fault_told : (fault : ProofFault) → Told (p ∷ []) fault → Some (proof_refusal fault) ≡ ticket_fault H v k
  fault_told fault w = sym (full_told H f nothing_known (points k) FixedPosition (ticket_message k).proof shaped fault
      (subst (λ ts. Told ts fault) (sym (target_one H v k p e)) w))

-- ---- what was asked, by the names of the calls

module _ (H : List ℕ → Digest) (f : Stump) (k : Ticket) (t : Targeted) (asked_for : target_at f.leaves k.target ≡ Some t)
    (shaped_so : HasShape t.leaves t.targets)
    (seen : Stump) (d : Digest) (l : Leaf) (hs : List Digest) (same : seen ≡ f) (digest : d ≡ H (leaf_text l)) (leaf_is : l ≡ k.leaf)
    (hashes_are : hs ≡ k.hashes) where
  abbrev it : IsTarget f.leaves k.target t
  it = target_is f.leaves k.target t asked_for

  shape_so : HasShape f.leaves (it.place ∷ [])
  shape_so = subst (λ (x : Targeted). HasShape x.leaves x.targets) it.is shaped_so

  brought : (P : Stump → List Place → List Digest → List Digest → Type 0) → P seen t.targets (d ∷ []) hs
      → P f (it.place ∷ []) (H (leaf_text k.leaf) ∷ []) k.hashes
  brought P w =
      subst (P f (it.place ∷ []) (H (leaf_text k.leaf) ∷ [])) hashes_are
      (subst (λ x. P f (it.place ∷ []) (x ∷ []) hs) (digest ∙ ap (λ x. H (leaf_text x)) leaf_is)
      (subst (λ (x : Targeted). P f x.targets (d ∷ []) hs) it.is (subst (λ x. P x t.targets (d ∷ []) hs) same w)))

  pub done_so : (tells : Bool) (pairs : List (Place × Digest)) (g : Stump) → IsDeleted tells H seen t.targets (d ∷ []) hs pairs g
      → None ≡ ticket_fault H (stump_view f) k
  done_so tells pairs g w = sym (passes_one H (stump_view f) k it.place it.named
      (brought (λ x ts leaves hashes. IsAccepted H x.leaves (root_in x) ts nothing_known leaves hashes) w.accepted))

  pub stays_so : (fault : ProofFault) (said : ProofRefusal) → IsProofFault H seen t.targets (d ∷ []) hs fault → said ≡ proof_refusal fault
      → Some said ≡ ticket_fault H (stump_view f) k
  stays_so fault said w is = ap Some is ∙ fault_told H f k it.place it.named shape_so fault
      (brought (λ x ts leaves hashes. IsProofFault H x ts leaves hashes fault) w)

-- ---- the laws

module _ (H : List ℕ → Digest) (v : View) (tip : Digest) (k : Ticket) where
  live_at : (p : Place) → target_in v.n k ≡ Some p → k.tip ≡ tip → ticket_fault H v k ≡ None → TicketAccepts H v.n v.roots tip k
  live_at p e same none = record { tip_is = same; place = p; named = e; accepted = accepted_one H v k p e none }

  named_somewhere : (x : Option Place) → target_in v.n k ≡ x → ticket_fault H v k ≡ None → k.tip ≡ tip → TicketAccepts H v.n v.roots tip k
  named_somewhere None e none same = absurd (none-some (Outside 0) (sym none ∙ sym (outside_told H v k e)))
  named_somewhere (Some p) e none same = live_at p e same none

  live_from : (b : Bool) (x : Option ProofRefusal) → is_same k.tip tip ≡ b → ticket_fault H v k ≡ x
      → (if b then unless_refused x else Said.Tip) ≡ Said.Live → TicketAccepts H v.n v.roots tip k
  live_from false x same e live = absurd cc
  live_from true (Some why) same e live = absurd cc
  live_from true None same e live = named_somewhere (target_in v.n k) refl e (is_same-true k.tip tip same)

  pub live_is_accepted : (ticket_verdict H v tip k ≡ Said.Live) ↔ TicketAccepts H v.n v.roots tip k
  live_is_accepted = (
    λ live. live_from (is_same k.tip tip) (ticket_fault H v k) refl refl live,
    λ a.
        ap₂ (λ b x. if b then unless_refused x else Said.Tip) (subst (λ d. is_same k.tip d ≡ true) a.tip_is (is_same-same k.tip))
        (passes_one H v k a.place a.named a.accepted),
  )

module _ (H : List ℕ → Digest) (us : History) (tip : Digest) (k : Ticket) where
  abbrev over : View
  over = record { n = length us; roots = root H (entries H leaf_text us); known = nothing_known }

  abbrev RightAt : List Place → Type 0
  RightAt ts = IsRight H leaf_text us ts nothing_known (k.leaf ∷ []) k.hashes

  right_from : (x : Option Place) → target_in (length us) k ≡ x → k.tip ≡ tip → RightAt (targets (length us) (ticket_message k))
      → named (length us) (ticket_message k) ≡ map Some (targets (length us) (ticket_message k)) → TicketRight H us tip k
  right_from None e same right all = absurd (no_none [] (targets (length us) (ticket_message k)) (sym (ap (λ (x : Option Place). x ∷ []) e) ∙ all))
  right_from (Some p) e same right all = record { tip_is = same; place = p; named = e; right = subst RightAt (target_one H over k p e) right }

  pub ticket_right_is_tested : (is_ticket_right H us tip k ≡ true) ↔ TicketRight H us tip k
  ticket_right_is_tested = (
    λ h.
        let w = and_parts (is_same k.tip tip) _ h in
        let r = (right_is_tested H us nothing_known (points k) (ticket_message k)).0 w.1 in
        right_from (target_in (length us) k) refl (is_same-true k.tip tip w.0) r.0 r.1,
    λ r.
        and_from (is_same k.tip tip) _ (subst (λ d. is_same k.tip d ≡ true) r.tip_is (is_same-same k.tip))
        ((right_is_tested H us nothing_known (points k) (ticket_message k)).1
        (subst RightAt (sym (target_one H over k r.place r.named)) r.right, all_named H over k r.place r.named, refl)),
  )

  pub right_is_live : TicketRight H us tip k → TicketAccepts H (length us) (root H (entries H leaf_text us)) tip k
  right_is_live r = record {
    tip_is = r.tip_is;
    place = r.place;
    named = r.named;
    accepted = accepted_from_right H leaf_text us (r.place ∷ []) nothing_known (k.leaf ∷ []) k.hashes (λ row off d e. absurd (none-some d e)) single
        r.right;
  }
    where
      single : AllPairs (λ a b. a ≢ b) (k.leaf ∷ [])
      single i j d lt le = absurd (omega (arith, lt, le))
