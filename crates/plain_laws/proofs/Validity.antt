-- What the machine with the whole history says is what a node can say that reads no proof.
use Rattle.std.proofs.Common.{◌≡◌, ℕ, true, List, [], ◌∷◌, length, Option, Some, None, refl, sym, ap, ◌∙◌, subst}
use Rattle.std.specs.Prelude.{is_some}
use Rattle.std.specs.List.{cons_option}
use Rattle.std.proofs.lemmas.Bool.{false≢true, and_parts}
use Rattle.std.proofs.lemmas.Option.{none-some, same_Some}
use Rattle.uo_digest.specs.declared.digest.Digest.{Digest}
use Rattle.block_codec.specs.Block.{Block, block_hash_of}
use Rattle.leaf_record.specs.History.{History}
use Rattle.block_rules.specs.declared.chain.Found.{Found}
use Rattle.block_rules.specs.declared.refusal.Refusal.{Refusal}
use Rattle.block_rules.specs.declared.verdict.Verdict.{Verdict}
use Rattle.block_rules.specs.declared.verdict.Verdict.TheVariants.{Accepted, Refused}
use Rattle.block_rules.specs.Steps.{first_of}
use Rattle.block_rules.specs.Money.{spends_of, money_steps}
use Rattle.node_rules.specs.Reading.{Handed}
use Rattle.node_rules.specs.Judging.{Rules, Evidence, refusal}
use Rattle.node_rules.specs.Machine.{ChainEvent, BlockCame, RollbackCame, StrayCame, State, Judge, Outcome, chain_of, full_judge, by_refusal}
use Rattle.node_rules.specs.Machine.{by_evidence, level_after, pushed, step, verdict_before, verdicts, never_stops}
use Rattle.node_rules.proofs.Value.{Pays, middle, once, full_judge-pays}
use Rattle.plain_laws.specs.Valid.{found_at, founds, IsValid, TakesBlock, Takes, AreValid}

-- what is found of the entries that are spent is what is found by the proof
founds_are : (us : History) (ns : List ℕ) (fs : List Found) → Pays us ns fs → founds us ns ≡ fs
founds_are us [] [] p = refl
founds_are us [] (f ∷ fs) p = absurd p
founds_are us (n ∷ ns) [] p = absurd p
founds_are us (n ∷ ns) (f ∷ fs) p =
    ap (λ x. cons_option (found_at x) (founds us ns)) p.0.1 ∙ (ap (λ x. x ∷ founds us ns) p.0.2 ∙ ap (λ xs. f ∷ xs) (founds_are us ns fs p.1))

abbrev made : State → Option Verdict → Outcome
made s v = record { verdict = v; state = s }

module _ (H : List ℕ → Digest) (scripts : List (List ℕ)) (rules : Rules) where
  abbrev judge : Judge
  judge = full_judge H scripts rules

  is_valid : (s : State) (b : Block) (m : Handed) (e : Evidence) → judge s.now b m ≡ Some e → refusal rules (chain_of s.now) b e ≡ None
      → IsValid rules s.now b e.numbers
  is_valid s b m e j q =
      let paid = full_judge-pays H scripts rules s.now b m e j q in
      let parts = middle s.now.history rules (chain_of s.now) b e q in
      record {
        alone = parts.0;
        spends = once s.now.history rules (chain_of s.now) b e q paid;
        pays = subst (λ fs. first_of (money_steps (spends_of rules.net s.now.blocks b) fs) ≡ None)
            (sym (founds_are s.now.history e.numbers e.found paid.pays)) parts.2;
      }

  takes_block : (s : State) (b : Block) (m : Handed) (v : Verdict) (x : Option Evidence) → judge s.now b m ≡ x
      → (by_evidence rules s b x).verdict ≡ Some v → TakesBlock rules s b v (by_evidence rules s b x).state
  takes_block s b m v None j h = absurd (none-some v h)
  takes_block s b m v (Some e) j h = by_case (refusal rules (chain_of s.now) b e) refl h
    where
      by_case : (x : Option Refusal) → refusal rules (chain_of s.now) b e ≡ x → (by_refusal s b e x).verdict ≡ Some v
          → TakesBlock rules s b v (by_refusal s b e x).state
      by_case (Some why) q k =
          subst (λ w. TakesBlock rules s b w s) (same_Some (Refused s.now.blocks (Some (block_hash_of b)) why) v k) refl
      by_case None q k =
          let l = level_after s.now b e in
          subst (λ w. TakesBlock rules s b w (pushed l s)) (same_Some (Accepted s.now.blocks (block_hash_of b) (length l.history)) v k)
          (e.numbers, is_valid s b m e j q, refl, refl, refl, refl)

  takes : (s : State) (e : ChainEvent) (v : Verdict) → (step rules judge s e).verdict ≡ Some v → Takes rules s e v (step rules judge s e).state
  takes s (BlockCame None m) v h = ap (made s) h
  takes s (BlockCame (Some b) m) v h = takes_block s b m v (judge s.now b m) refl h
  takes s (RollbackCame k) v h = ap (made (step rules judge s (RollbackCame k)).state) h
  takes s StrayCame v h = ap (made s) h

  pub are_valid : (s : State) (es : List ChainEvent) → never_stops rules judge s es ≡ true → AreValid rules s es (verdicts rules judge s es)
  are_valid s [] h = tt
  are_valid s (e ∷ es) h =
      let o = step rules judge s e in
      let k = and_parts (is_some o.verdict) (never_stops rules judge o.state es) h in
      by_verdict o.verdict refl k.0 (are_valid o.state es k.1)
    where
      by_verdict : (x : Option Verdict) → (step rules judge s e).verdict ≡ x → is_some x ≡ true
          → AreValid rules (step rules judge s e).state es (verdicts rules judge (step rules judge s e).state es)
          → AreValid rules s (e ∷ es) (verdict_before x (verdicts rules judge (step rules judge s e).state es))
      by_verdict None q t more = absurd (false≢true t)
      by_verdict (Some v) q t more = ((step rules judge s e).state, takes s e v q, more)
