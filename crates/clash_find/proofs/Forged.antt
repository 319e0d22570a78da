-- A clash is found exactly at a forged event.
use Rattle.std.proofs.Common.{◌≡◌, ℕ, Bool, false, List, ◌++◌, Option, Some, None, refl, ap, subst}
use Rattle.std.specs.Prelude.{not, ◌&&◌, is_none, is_some}
use Rattle.std.proofs.Math.Path.{fun_ext}
use Rattle.uo_digest.specs.declared.digest.Digest.{Digest}
use Rattle.block_codec.specs.Block.{Block}
use Rattle.leaf_record.specs.History.{History}
use Rattle.block_rules.specs.declared.chain.Chain.{Chain}
use Rattle.block_rules.specs.declared.refusal.ProofRefusal.{ProofRefusal}
use Rattle.block_rules.specs.Steps.{first_of}
use Rattle.block_rules.specs.Blocks.{external}
use Rattle.block_rules.specs.Rules.{block_steps}
use Rattle.node_rules.specs.Messages.{Message, points_of}
use Rattle.node_rules.specs.Accepting.{proof_fault}
use Rattle.node_rules.specs.Right.{is_right}
use Rattle.cache_model.specs.Known.{known_at}
use Rattle.node_rules.specs.Reading.{read}
use Rattle.node_rules.specs.Judging.{Rules, message_steps, is_forged}
use Rattle.clash_find.specs.Clashes.{TextClash}
use Rattle.clash_find.specs.Answers.{view_over, IsAnswer}

module _ (H : List ℕ → Digest) (us : History) (scripts : List (List ℕ)) (rules : Rules) (chain : Chain) (b : Block) (m : Message)
    (passes : first_of (block_steps rules.net rules.limits chain b ++ message_steps (external b chain.blocks) (read m)) ≡ None) where
  abbrev known : ℕ → ℕ → Option Digest
  known = known_at H scripts us

  abbrev fault : Option ProofRefusal
  fault = proof_fault H (view_over H us known) (points_of (external b chain.blocks)) m

  abbrev right : Bool
  right = is_right H us known (points_of (external b chain.blocks)) m

  by_answer : (r : Option TextClash) → IsAnswer H us known (points_of (external b chain.blocks)) m r → (is_none fault && not right) ≡ is_some r
  by_answer None a = by_fault fault refl
    where
      by_fault : (x : Option ProofRefusal) → fault ≡ x → (is_none x && not right) ≡ false
      by_fault None e = ap not (a e)
      by_fault (Some f) e = refl
  by_answer (Some c) (none, wrong, clash) = rw (none, wrong) refl

  pub forged_is : (k : ℕ → ℕ → Option Digest) → ((row off : ℕ) → k row off ≡ known row off) → (r : Option TextClash)
      → IsAnswer H us k (points_of (external b chain.blocks)) m r → is_forged H scripts rules chain us b (read m) ≡ is_some r
  forged_is k same r a =
      let e : k ≡ known = fun_ext (λ row. fun_ext (λ off. same row off)) in
      rw passes (by_answer r (subst (λ (f : ℕ → ℕ → Option Digest). IsAnswer H us f (points_of (external b chain.blocks)) m r) e a))
