use Rattle.std.proofs.Common.{◌≤◌, List, [], length, ℕ, ap, ⊎_elim, arith}
use Rattle.std.specs.Borrow.{Bor}
use Rattle.std.proofs.Math.Nat.{mul-le-mul_left}
use Rattle.std.proofs.lemmas.Bool.{cases_eq}
use Rattle.std.proofs.lemmas.List.{get_or-map}
use Rattle.digest_lanes.specs.Texts.{text_at}
use Rattle.digest_lanes.proofs.group.blocks_of.Goals as goal

pub loop-i-preserved : goal.loop-i-preserved
loop-i-preserved c =
    let texts = c.args.texts.now in
    let size = c.args.size in
    let i = c.loop-i.i in
    let now = c.loop-i.invariant in
    let last = c.blocks_in.ensures in
    let least = c.with-blocks.ensures.least in
    let most = c.with-blocks.ensures.most in
    let fewer : c.with-blocks.result.least ≤ c.loop-i.blocks.least = omega (arith, least) in
    let fewer_here : c.with-blocks.result.least ≤ c.blocks_in.result = omega (arith, least) in
    let more : c.loop-i.blocks.most ≤ c.with-blocks.result.most = omega (arith, most) in
    let more_here : c.blocks_in.result ≤ c.with-blocks.result.most = omega (arith, most) in
    let blank : Bor (List ℕ) = record { ref_ptr = (0, 0); now = [] } in
    let here = get_or-map (λ (text : Bor (List ℕ)). text.now) texts i blank [] c.loop-i-test.true in
    record {
      some = omega (arith, least, now.some, last.some);
      from = λ k lt. ⊎_elim
          (λ same. omega (arith, mul-le-mul_left size fewer_here, last.from, ap length here, ap (λ j. length (text_at texts j)) same))
          (λ other. let before = now.from k (omega (arith, lt, other)) in omega (arith, before, mul-le-mul_left size fewer))
          (cases_eq k i);
      upto = λ k lt few. ⊎_elim
          (λ same. let fits = last.upto (omega (arith, few, more_here)) in
          omega (arith, fits, mul-le-mul_left size more_here, ap length here, ap (λ j. length (text_at texts j)) same))
          (λ other. let before = now.upto k (omega (arith, lt, other)) (omega (arith, few, more)) in
          omega (arith, before, mul-le-mul_left size more))
          (cases_eq k i);
    }
