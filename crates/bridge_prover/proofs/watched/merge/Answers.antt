use Rattle.std.proofs.Common.{◌≤◌, length, inl, inr}
use Rattle.std.specs.Prelude.{◌⊎◌}
use Rattle.std.proofs.lemmas.List.{take_rest}
use Rattle.bridge_prover.proofs.Merging.{merge_ends}
use Rattle.bridge_prover.proofs.watched.merge.Goals as goal
use Rattle.bridge_prover.proofs.watched.merge.Goals.{then-loop-i-test+else-j-right, else-loop-i-test}

pub returns : goal.returns
returns c =
    let ends : (length c.args.left.now ≤ c.loop-i.i) ⊎ (length c.args.right.now ≤ c.loop-i.j) =
    elim c.loop-i-test.branch [ then-loop-i-test+else-j-right w ↦ inr w.if-j-right.false | else-loop-i-test w ↦ inl w.loop-i-test.false ] in
    rw (
      c.in_ok-extend_from_slice-2.ensures.items,
      c.in_ok-extend_from_slice.ensures.items,
      take_rest c.args.left.now c.loop-i.i,
      take_rest c.args.right.now c.loop-i.j,
    )
    (merge_ends c.loop-i.out.items c.args.left.now c.args.right.now c.loop-i.i c.loop-i.j c.loop-i.invariant.whole ends)
