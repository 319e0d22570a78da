use Rattle.std.proofs.Common.{◌≡◌, ◌+◌, ◌++◌, List, take, ap, subst, ◌∙◌}
use Rattle.chain_gen.specs.declared.coin.Coin.{Coin}
use Rattle.chain_gen.specs.Purses.{AllRipe}
use Rattle.chain_gen.proofs.Settled.{ripe-later, ripe-more}
use Rattle.chain_gen.proofs.purse.Purse.rise.Goals as goal

pub invariant_of-self-2 : goal.invariant_of-self-2
invariant_of-self-2 c =
    let h = c.self.inside.height in
    let n = c.ripe_front-count.result in
    let settled = c.self.inside.settled in
    let recent = c.self.inside.recent.items in
    let pile_is = c.in_ok-new.ensures ∙ (c.in_ok-front.ensures.items ∙ ap (take n) c.deref-2.ensures.value) in
    let settled_is : c.push.new.self ≡ settled ++ take n recent = c.in_ok-push.ensures.pushed ∙ ap (λ (xs : List Coin). settled ++ xs) pile_is in
    let ripe = subst (λ (xs : List Coin). AllRipe (h + 1) (take n xs)) c.deref.ensures.value c.ripe_front-count.ensures.ripe in
    rw settled_is (ripe-more (h + 1) settled (take n recent) (ripe-later h settled c.self.invariant) ripe)
