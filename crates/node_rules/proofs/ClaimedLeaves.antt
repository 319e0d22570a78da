-- The leaves that a message claims, gone through one by one.
use Rattle.std.proofs.Common.{◌≡◌, ℕ, zero, suc, List, [], ◌∷◌, length, Some, refl, ap, ap₂, ◌∙◌, arith}
use Rattle.std.specs.Prelude.{slice_get}
use Rattle.std.proofs.lemmas.List.{length-map}
use Rattle.std.proofs.lemmas.Option.{none-some, same_Some}
use Rattle.uo_digest.specs.declared.digest.Digest.{Digest}
use Rattle.leaf_record.specs.Leaf.{Rest, Leaf, leaf_text}
use Rattle.proof_wire.specs.BlockProof.{rests_of}
use Rattle.block_rules.specs.declared.chain.Outside.{Outside}
use Rattle.node_rules.specs.Messages.{Message, point_of, points_of, claimed}
use Rattle.node_rules.specs.Accepting.{leaves_of}

pub claim_at : (ext : List Outside) (rests : List Rest) (i : ℕ) (at : Outside) (rest : Rest) → slice_get ext i ≡ Some at
    → slice_get rests i ≡ Some rest → slice_get (claimed (points_of ext) rests) i ≡ Some (record { point = point_of at; rest = rest })
claim_at [] rests i at rest e f = absurd (none-some at e)
claim_at (x ∷ ext) [] i at rest e f = absurd (none-some rest f)
claim_at (x ∷ ext) (r ∷ rests) zero at rest e f =
    ap₂ (λ (a : Outside) (b : Rest). let l : Leaf = record { point = point_of a; rest = b } in Some l) (same_Some x at e) (same_Some r rest f)
claim_at (x ∷ ext) (r ∷ rests) (suc i) at rest e f = claim_at ext rests i at rest e f

pub claims-long : (ext : List Outside) (rests : List Rest) → length rests ≡ length ext → length (claimed (points_of ext) rests) ≡ length ext
claims-long [] [] e = refl
claims-long [] (r ∷ rests) e = absurd (omega (arith, e))
claims-long (x ∷ ext) [] e = absurd (omega (arith, e))
claims-long (x ∷ ext) (r ∷ rests) e = ap suc (claims-long ext rests (omega (arith, e)))

-- where it has a rest for each input
pub message-long : (ext : List Outside) (m : Message) → length m.proof.spends ≡ length ext
    → length (claimed (points_of ext) (rests_of m.proof.spends)) ≡ length ext
message-long ext m e = claims-long ext (rests_of m.proof.spends) (length-map m.proof.spends (λ s. s.rest) ∙ e)

pub leaves-long : (H : List ℕ → Digest) (ext : List Outside) (m : Message) → length m.proof.spends ≡ length ext
    → length (leaves_of H (points_of ext) m) ≡ length ext
leaves-long H ext m e =
    length-map (claimed (points_of ext) (rests_of m.proof.spends)) (λ leaf. H (leaf_text leaf))
    ∙ message-long ext m e
