use Rattle.std.proofs.Common.{◌≡◌, ◌++◌, ◌≤◌, ℕ, List, length, map, take, drop, sum}
use Rattle.std.specs.Borrow.{Bor}
use Rattle.leaf_record.specs.Batches.{parts_of}
use Rattle.leaf_record.proofs.batch.cut.Given as goal

abbrev pub invariant-parts : goal.invariant-parts
invariant-parts l = record {
  text : map (λ (part : Bor (List ℕ)). part.now) (take l.i l.parts) ++ parts_of (drop l.i l.lengths) l.left ≡ parts_of l.lengths l.text;
  len : length l.parts ≡ 16;
  within : sum (drop l.i l.lengths) ≤ length l.left;
}
