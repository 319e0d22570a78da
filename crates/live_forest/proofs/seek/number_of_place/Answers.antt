use Rattle.std.proofs.Common.{◌<◌, sym, ap, ap₂, ◌∙◌, arith}
use Rattle.forest_model.specs.Content.{join}
use Rattle.live_forest.specs.Parts.{entries_in}
use Rattle.live_forest.specs.State.{leaf_number}
use Rattle.live_forest.proofs.Seeking.{outside, tree_above}
use Rattle.live_forest.proofs.Walking.{not_within}
use Rattle.live_forest.proofs.seek.number_of_place.Goals as goal

pub returns-then-not-is_within : goal.returns-then-not-is_within
returns-then-not-is_within c =
    ap leaf_number (sym (outside (entries_in c.args.n c.args.store.now) c.args.store.now c.requires.alike c.args.row c.args.off
    (not_within _ _ c.if-not-is_within.true c.is_within.ensures)))

pub returns-else-q-eq0 : goal.returns-else-q-eq0
returns-else-q-eq0 c =
    let es = entries_in c.args.n c.args.store.now in
    let q = c.smallest-q.result in
    let high : 0 < q.row = omega (arith, c.if-q-eq0.false) in
    let both = c.smallest-q.ensures.split high in
    sym (ap leaf_number (c.in-Some.ensures.is ∙ c.smallest-q.ensures.same ∙ tree_above es q.row q.off high ∙ ap₂ join both.2 both.3))
