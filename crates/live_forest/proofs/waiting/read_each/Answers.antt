use Rattle.std.proofs.Common.{◌≡◌, ◌+◌, ◌*◌, ◌<◌, Some, length, get_or, set, sym, ap, ◌∙◌, ⊎_elim, arith}
use Rattle.std.proofs.lemmas.Bool.{cases_eq}
use Rattle.std.proofs.lemmas.List.{get_or-set_same, get_or-set_other, length-set}
use Rattle.uo_digest.specs.declared.digest.Digest.{Digest}
use Rattle.live_forest.specs.Stores.{stored}
use Rattle.live_forest.specs.Rows.{part_above}
use Rattle.live_forest.proofs.waiting.read_each.Goals as goal

pub loop-j-preserved : goal.loop-j-preserved
loop-j-preserved c =
    let s = c.args.store.now in
    let row = c.args.row in
    let ns = c.args.numbers.now in
    let j = c.loop-j.j in
    let ps = c.loop-j.pairs in
    let p = c.pair.result in
    let at : part_above ns row j ≡ c.part_of.result = sym c.part_of.ensures in
    let inside : j < length ps = omega (arith, c.loop-j-test.true, c.loop-j.invariant.count) in
    record {
      count = length-set ps j p ∙ c.loop-j.invariant.count;
      left = λ i d lt.
          ⊎_elim
          (λ same.
          ap (λ k. stored s row (2 * part_above ns row k)) same ∙ ap (λ o. stored s row (2 * o)) at ∙ c.pair.ensures.left
          ∙ ap (λ (q : Digest × Digest). Some q.0) (sym (ap (λ k. get_or (set ps j p) k d) same ∙ get_or-set_same ps j p d inside)))
          (λ ne.
          c.loop-j.invariant.left i d (omega (arith, lt, ne)) ∙ ap (λ (q : Digest × Digest). Some q.0) (sym (get_or-set_other ps j i p d ne)))
          (cases_eq i j);
      right = λ i d lt.
          ⊎_elim
          (λ same.
          ap (λ k. stored s row (2 * part_above ns row k + 1)) same ∙ ap (λ o. stored s row (2 * o + 1)) at ∙ c.pair.ensures.right
          ∙ ap (λ (q : Digest × Digest). Some q.1) (sym (ap (λ k. get_or (set ps j p) k d) same ∙ get_or-set_same ps j p d inside)))
          (λ ne.
          c.loop-j.invariant.right i d (omega (arith, lt, ne)) ∙ ap (λ (q : Digest × Digest). Some q.1) (sym (get_or-set_other ps j i p d ne)))
          (cases_eq i j);
    }
