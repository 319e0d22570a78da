use Rattle.std.proofs.Common.{◌≡◌, ◌+◌, ◌*◌, ◌/◌, ◌^◌, suc, Some, sym, ap, ap₂, ◌∙◌}
use Rattle.forest_model.specs.Content.{join_digests}
use Rattle.live_forest.specs.Stores.{stored}
use Rattle.live_forest.proofs.Renewing.{put_step, put_joined}
use Rattle.live_forest.proofs.waiting.put_one.Goals as goal

pub returns-clause-step : goal.returns-clause-step
returns-clause-step g c = λ new is.
    let H = g.D.Digester.digest_of in
    let s = c.args.store.now in
    let row = c.args.row in
    let off = c.args.number / 2 ^ suc row in
    let left = ap (λ o. stored s row (2 * o)) (sym c.part_of.ensures) ∙ c.pair.ensures.left in
    let right = ap (λ o. stored s row (2 * o + 1)) (sym c.part_of.ensures) ∙ c.pair.ensures.right in
    let own : Some c.pair-2.result ≡ join_digests H (stored s row (2 * off)) (stored s row (2 * off + 1)) =
    ap Some c.pair-2.ensures.value ∙ ap₂ (join_digests H) (sym left) (sym right) in
    put_step H new row c.args.number s c.put_joined.new.self (Some c.pair-2.result) is own c.put_joined.ensures.put c.put_joined.ensures.room

pub returns-clause-done : goal.returns-clause-done
returns-clause-done g c =
    let H = g.D.Digester.digest_of in
    let s = c.args.store.now in
    let row = c.args.row in
    let off = c.args.number / 2 ^ suc row in
    let left = ap (λ o. stored s row (2 * o)) (sym c.part_of.ensures) ∙ c.pair.ensures.left in
    let right = ap (λ o. stored s row (2 * o + 1)) (sym c.part_of.ensures) ∙ c.pair.ensures.right in
    let own : Some c.pair-2.result ≡ join_digests H (stored s row (2 * off)) (stored s row (2 * off + 1)) =
    ap Some c.pair-2.ensures.value ∙ ap₂ (join_digests H) (sym left) (sym right) in
    put_joined H row c.args.number s c.put_joined.new.self (Some c.pair-2.result) own c.put_joined.ensures.put

pub put_joined-requires-clause-left : goal.put_joined-requires-clause-left
put_joined-requires-clause-left g c = c.requires.left
