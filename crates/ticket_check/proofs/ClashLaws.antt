-- What the search over the whole forest finds of an accepted ticket.
use Rattle.std.proofs.Common.{◌≡◌, ℕ, List, [], ◌∷◌, length, Option, Some, None, sym, ap, ◌∙◌, subst}
use Rattle.std.specs.Prelude.{option_map, is_none, if◌then◌else◌}
use Rattle.std.proofs.lemmas.List.{length-map}
use Rattle.std.proofs.lemmas.Option.{none-some, same_Some}
use Rattle.uo_digest.specs.declared.digest.Digest.{Digest}
use Rattle.forest_place.specs.declared.place.Place.{Place}
use Rattle.forest_model.specs.Standing.{root}
use Rattle.forest_model.specs.Evaluation.{nothing_known, IsAccepted}
use Rattle.forest_model.specs.Right.{entries, IsRight}
use Rattle.leaf_record.specs.Leaf.{Leaf, leaf_text}
use Rattle.leaf_record.specs.History.{History}
use Rattle.block_rules.specs.declared.refusal.ProofRefusal.{ProofRefusal}
use Rattle.proof_shape.specs.Targeted.{Targeted}
use Rattle.output_index.specs.Held.{Held}
use Rattle.node_rules.specs.Messages.{targets}
use Rattle.node_rules.specs.Accepting.{View}
use Rattle.clash_find.specs.Clashes.{TextClash}
use Rattle.clash_find.specs.Answers.{StandForHistory, IsAnswerIn, AcceptsAll}
use Rattle.clash_find.specs.Found.{IsFirstPair, first_pair}
use Rattle.ticket_check.specs.Tickets.{Ticket}
use Rattle.ticket_check.specs.Alone.{target_at}
use Rattle.ticket_check.specs.Judging.{TicketAccepts, target_in, ticket_message}
use Rattle.ticket_check.specs.Clashing.{IsTicketAnswer, ticket_clash_in}
use Rattle.ticket_check.proofs.Tickets.{IsTarget, target_is, target_one, passes_one}

module _ (H : List ℕ → Digest) (es : List (Option Digest)) (held : List Held) (tip : Digest) (k : Ticket)
    (a : TicketAccepts H (length es) (root H es) tip k) (n target : ℕ) (counted : n ≡ length es) (target_is_so : target ≡ k.target) where
  -- a place is named
  pub never_none : (x : Option Targeted) → x ≡ target_at n target → x ≡ None → ⊥
  never_none x found none =
      none-some _ (sym none ∙ (found ∙ (ap (λ j. target_at j target) counted
      ∙ (ap (target_at (length es)) target_is_so
      ∙ ap (option_map (λ (p : Place). let t : Targeted = record { leaves = length es; targets = p ∷ [] } in t)) a.named))))

  module _ (t : Targeted) (seen : List (Option Digest)) (seen_held : List Held) (rs : List Leaf) (hs : List Digest)
      (found : Some t ≡ target_at n target)
      (seen_is : seen ≡ es) (held_is : seen_held ≡ held) (leaves_are : rs ≡ k.leaf ∷ []) (hashes_are : hs ≡ k.hashes) where
    abbrev it : IsTarget n target t
    it = target_is n target t (sym found)

    abbrev p : Place
    p = it.place

    named : target_in (length es) k ≡ Some p
    named = subst (λ j. target_in j k ≡ Some p) counted
        (subst (λ (x : ℕ). target_in n (record { tip = k.tip; target = x; leaf = k.leaf; hashes = k.hashes }) ≡ Some p) target_is_so it.named)

    place_is : a.place ≡ p
    place_is = same_Some a.place p (sym a.named ∙ named)

    accepted : IsAccepted H (length es) (root H es) (p ∷ []) nothing_known (H (leaf_text k.leaf) ∷ []) k.hashes
    accepted = subst (λ (q : Place). IsAccepted H (length es) (root H es) (q ∷ []) nothing_known (H (leaf_text k.leaf) ∷ []) k.hashes) place_is
        a.accepted

    brought : (P : List Place → List Leaf → List Digest → Type 0) → P t.targets rs hs → P (p ∷ []) (k.leaf ∷ []) k.hashes
    brought P w =
        subst (P (p ∷ []) (k.leaf ∷ [])) hashes_are (subst (λ l. P (p ∷ []) l hs) leaves_are (subst (λ (x : Targeted). P x.targets rs hs) it.is w))

    stand : (us : History) → StandForHistory H es held us → StandForHistory H seen seen_held us
    stand us s = subst (λ h. StandForHistory H seen h us) (sym held_is) (subst (λ e. StandForHistory H e held us) (sym seen_is) s)

    module _ (us : History) (s : StandForHistory H es held us) where
      same_length : length es ≡ length us
      same_length = ap length s.entries_are ∙ length-map us (option_map (λ (r : Leaf). H (leaf_text r)))

      named_there : target_in (length us) k ≡ Some p
      named_there = subst (λ j. target_in j k ≡ Some p) same_length named

      accepted_there : AcceptsAll H us (p ∷ []) (k.leaf ∷ []) k.hashes
      accepted_there =
          subst (λ j. IsAccepted H j (root H (entries H leaf_text us)) (p ∷ []) nothing_known (H (leaf_text k.leaf) ∷ []) k.hashes) same_length
          (subst (λ (e : List (Option Digest)). IsAccepted H (length es) (root H e) (p ∷ []) nothing_known (H (leaf_text k.leaf) ∷ []) k.hashes)
          s.entries_are accepted)

      by_answer : (x : Option TextClash) → IsAnswerIn H us (p ∷ []) (k.leaf ∷ []) k.hashes x → IsTicketAnswer H us tip k x
      by_answer None w = record { tip_is = a.tip_is; place = p; named = named_there; right = w accepted_there }
      by_answer (Some c) w = (
        λ r. w.1 (subst (λ (q : Place). IsRight H leaf_text us (q ∷ []) nothing_known (k.leaf ∷ []) k.hashes)
            (same_Some r.place p (sym r.named ∙ named_there)) r.right),
        record { place = p; named = named_there; clash = w.2 },
      )

    pub answer_so : (x : Option TextClash) → ((us : History) → StandForHistory H seen seen_held us → IsAnswerIn H us t.targets rs hs x)
        → (us : History) → StandForHistory H es held us → IsTicketAnswer H us tip k x
    answer_so x w us s = by_answer us s x (brought (λ ts l d. IsAnswerIn H us ts l d x) (w us (stand us s)))

    -- it is the first pair of texts in the proof of this target
    whole : (us : History) → StandForHistory H es held us → ticket_clash_in H us k ≡ first_pair H us (p ∷ []) (k.leaf ∷ []) nothing_known k.hashes
    whole us s =
        let over : View = record { n = length us; roots = root H (entries H leaf_text us); known = nothing_known } in
        ap (λ (y : Option ProofRefusal). if is_none y then first_pair H us (targets (length us) (ticket_message k)) (k.leaf ∷ []) nothing_known
        k.hashes else None) (passes_one H over k p (named_there us s) (accepted_there us s))
        ∙ ap (λ ts. first_pair H us ts (k.leaf ∷ []) nothing_known k.hashes) (target_one H over k p (named_there us s))

    pub exact_so : (x : Option TextClash) → ((us : History) → StandForHistory H seen seen_held us → IsFirstPair H us t.targets rs hs x)
        → (us : History) → StandForHistory H es held us → x ≡ ticket_clash_in H us k
    exact_so x w us s =
        let first = brought (λ ts l d. IsFirstPair H us ts l d x) (w us (stand us s)) in
        first.accepted (accepted_there us s) ∙ sym (whole us s)
