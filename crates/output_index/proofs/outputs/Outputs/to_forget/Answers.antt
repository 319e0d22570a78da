use Rattle.std.proofs.Common.{◌≡◌, Some, sym, subst, ◌∙◌}
use Rattle.std.proofs.lemmas.Bool.{OnTrue_at, OnTrue_from}
use Rattle.output_index.specs.Forgetting.{IsOldest, IsAlone}
use Rattle.output_index.proofs.Chaining.{first-newest}
use Rattle.output_index.proofs.Forgetting.{alone_from, equal_some}
use Rattle.output_index.proofs.outputs.Outputs.to_forget.Goals as goal

pub returns-then-eq : goal.returns-then-eq
returns-then-eq c =
    let n = c.args.number in
    let m = c.args.read.mark in
    let es = c.self.inside.entries in
    let marks = c.self.inside.marks in
    let first : c.first.result ≡ Some n = equal_some c.first.result n (sym c.eq.ensures ∙ c.if-eq.true) in
    record {
      mark = c.requires.mark;
      alone = OnTrue_from c.args.read.oldest (IsAlone c.args.self.now n m)
          (λ t. subst (λ hs. IsAlone hs n m) c.self.view_is (alone_from n m es marks c.self.invariant
          (subst (λ hs. IsOldest hs n m) (sym c.self.view_is) (OnTrue_at t c.requires.oldest))
          (first-newest marks m n (sym c.first.ensures ∙ first))));
    }
