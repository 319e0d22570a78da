use Rattle.std.proofs.Common.{◌≡◌, ◌++◌, List, ℕ, append_assoc, length, arith}
use Rattle.std.specs.Int.{w32, w64, to_le_bytes}
use Rattle.leaf_record.specs.Leaf.{payload_text}
use Rattle.leaf_record.proofs.LeafLaws.{length-compact}
use Rattle.leaf_record.proofs.leaf.put_payload_at.Goals as goal

joined : (o a b n s x y z w : List ℕ) → x ≡ o ++ a → y ≡ x ++ b → z ≡ y ++ n → w ≡ z ++ s → w ≡ o ++ (a ++ b ++ (n ++ s))
joined o a b n s x y z w ex ey ez ew = rw (ew, ez, ey, ex) (simp append_assoc)

pub put_at-requires : goal.put_at-requires
put_at-requires c =
    let count = (length-compact (length c.args.script.now) c.requires.script).1 in
    let code = c.put_at-behind_code.ensures.end in
    let amount = c.put_at-behind_amount.ensures.end in
    let behind = c.put_count-behind_count.ensures.end in
    omega (arith, count, code, amount, behind, c.requires.room, c.requires.script)

pub returns-clause-text : goal.returns-clause-text
unfolding payload_text
returns-clause-text c =
    joined _ (to_le_bytes w32 c.args.code) (to_le_bytes w64 c.args.amount) _ _ _ _ _ _
    (rw c.to_le_bytes.ensures at c.put_at-behind_code.ensures.text)
    (rw c.to_le_bytes-2.ensures at c.put_at-behind_amount.ensures.text)
    c.put_count-behind_count.ensures.text
    c.put_at.ensures.text
