use Rattle.std.proofs.Common.{◌<◌, List, length, sym, ap, ◌∙◌, subst}
use Rattle.std.specs.List.{remove}
use Rattle.std.specs.Prelude.{slice_set}
use Rattle.chain_gen.specs.declared.coin.Coin.{Coin}
use Rattle.chain_gen.specs.Coins.{coin_at}
use Rattle.chain_gen.specs.Piles.{IsAt, all_of}
use Rattle.chain_gen.proofs.Piled.{coin-there, others-left, counted-less}
use Rattle.chain_gen.proofs.piles.Piles.take.Goals as goal

pub invariant_of-self : goal.invariant_of-self
invariant_of-self c =
    let piles = c.self.inside.piles.items in
    let i = c.args.index in
    let number = c.find-number.result.0 in
    let within = c.find-number.result.1 in
    let found : IsAt piles i number within = subst (λ (ps : List (List Coin)). IsAt ps i number within) c.deref.ensures.value c.find-number.ensures in
    let inside : i < length (all_of piles) = subst (λ (xs : List Coin). i < length xs) (sym c.self.view_is) c.requires in
    counted-less piles (slice_set piles number c.in_ok-others.others) c.self.inside.len i c.self.invariant inside
    (others-left piles i number within c.index-2.result.now c.in_ok-others.others found c.index-2.ensures c.in_ok-others.ensures)

pub returns-clause-coin : goal.returns-clause-coin
returns-clause-coin c =
    let piles = c.self.inside.piles.items in
    let i = c.args.index in
    let number = c.find-number.result.0 in
    let within = c.find-number.result.1 in
    let found : IsAt piles i number within = subst (λ (ps : List (List Coin)). IsAt ps i number within) c.deref.ensures.value c.find-number.ensures in
    c.coin-coin.ensures ∙ (coin-there piles i number within c.index.result.now found c.index.ensures
    ∙ ap (λ (xs : List Coin). coin_at xs i) c.self.view_is)

pub returns-clause-taken : goal.returns-clause-taken
returns-clause-taken c =
    let piles = c.self.inside.piles.items in
    let i = c.args.index in
    let number = c.find-number.result.0 in
    let within = c.find-number.result.1 in
    let found : IsAt piles i number within = subst (λ (ps : List (List Coin)). IsAt ps i number within) c.deref.ensures.value c.find-number.ensures in
    others-left piles i number within c.index-2.result.now c.in_ok-others.others found c.index-2.ensures c.in_ok-others.ensures
    ∙ ap (λ (xs : List Coin). remove xs i) c.self.view_is
