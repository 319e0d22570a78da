use Rattle.std.proofs.Common.{◌≤◌, length, ap, ap₂, ◌∙◌, arith}
use Rattle.output_index.specs.Held.{without_all}
use Rattle.output_index.proofs.Runs.{without_all-parts, spent-front, apart-front, spent-behind, apart-behind}
use Rattle.output_index.proofs.outputs.Outputs.forget_all.Goals as goal

pub forget_run-requires : goal.forget_run-requires
forget_run-requires c =
    let ns = c.runs.rest.now in
    let k = c.min.result in
    let few : k ≤ length ns = omega (arith, c.min.ensures) in
    record {
      spent = rw c.split_at.ensures.front (spent-front k ns c.runs.self few c.runs.invariant.spent);
      apart = rw c.split_at.ensures.front (apart-front k ns few c.runs.invariant.apart);
      few = omega (arith, c.split_at.ensures.front_len, c.min.ensures);
    }

pub runs-preserved : goal.runs-preserved
runs-preserved c =
    let ns = c.runs.rest.now in
    let hs = c.runs.self in
    let k = c.min.result in
    let few : k ≤ length ns = omega (arith, c.min.ensures) in
    record {
      same = ap₂ (λ ms xs. without_all ms xs) c.split_at.ensures.back (c.forget_run.ensures ∙ ap (λ ms. without_all ms hs) c.split_at.ensures.front)
          ∙ (without_all-parts k ns hs ∙ c.runs.invariant.same);
      spent = rw (c.split_at.ensures.back, c.forget_run.ensures, c.split_at.ensures.front)
          (spent-behind k ns hs few c.runs.invariant.apart c.runs.invariant.spent);
      apart = rw c.split_at.ensures.back (apart-behind k ns c.runs.invariant.apart);
    }
