use Rattle.std.proofs.Common.{◌≡◌, ◌++◌, List, ℕ, append_assoc}
use Rattle.std.specs.Int.{w32, w64, to_le_bytes}
use Rattle.leaf_record.specs.Leaf.{payload_text}
use Rattle.leaf_record.proofs.rest.put_payload.Goals as goal

joined : (o a b s x y z : List ℕ) → x ≡ o ++ a → y ≡ x ++ b → z ≡ y ++ s → z ≡ o ++ (a ++ b ++ s)
joined o a b s x y z ex ey ez = rw (ez, ey, ex) (simp append_assoc)

pub returns-clause-ok : goal.returns-clause-ok
unfolding payload_text
returns-clause-ok c =
    joined _ (to_le_bytes w32 c.args.code) (to_le_bytes w64 c.args.amount) _ _ _ _
    (rw c.to_le_bytes.ensures at c.in_ok-extend_from_slice.ensures.items)
    (rw c.to_le_bytes-2.ensures at c.in_ok-extend_from_slice-2.ensures.items)
    c.in_ok-put_sized.ensures.ok
