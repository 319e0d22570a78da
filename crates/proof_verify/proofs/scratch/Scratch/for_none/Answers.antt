use Rattle.std.proofs.Common.{ℕ, ◌<◌, ◌^◌, Bool, true, false, [], refl, arith}
use Rattle.proof_shape.proofs.Longer.{shape_none}
use Rattle.proof_shape.proofs.Untargeted.{covers}
use Rattle.proof_verify.specs.Reserved.{IsReserved, AreToldPlaces}
use Rattle.proof_verify.proofs.scratch.Scratch.for_none.Goals as goal

none_new : (tells : Bool) (n : ℕ) → AreToldPlaces tells n [] [] []
none_new true n = record {
  rises = λ a b lt below. absurd (omega (arith, below));
  numbered = λ a below. absurd (omega (arith, below));
  within = λ a below. absurd (omega (arith, below));
  there = λ a below. absurd (omega (arith, below));
  inner = λ a below. absurd (omega (arith, below));
  goes = λ a below. absurd (omega (arith, below));
  each = λ m q below. absurd (omega (arith, below));
}
none_new false n = refl

none_reserved : (tells : Bool) (n : ℕ) → n < 2 ^ 40 → IsReserved tells n [] [] [] [] [] []
none_reserved tells n few = record {
  targeted = record { few = few; counted = omega arith; shape = shape_none n };
  cover = [];
  plan = record {
    cover_is = covers n;
    long = refl;
    targets = λ m below. absurd (omega (arith, below));
    inner = λ m below. absurd (omega (arith, below));
  };
  nodes_long = refl;
  tops_are = λ row below slot. refl;
  new_places = none_new tells n;
  pairs_long = refl;
}

pub invariant_of-result : goal.invariant_of-result
invariant_of-result c =
    rw (c.new.ensures.items, c.new-2.ensures.items, c.new-3.ensures.items, c.new-4.ensures.items, c.new-5.ensures.items, c.new-6.ensures.items)
    (none_reserved c.args.tells c.args.leaves c.requires)
