use Rattle.std.proofs.Common.{◌≡◌, ◌+◌, ◌-◌, ◌<◌, ◌++◌, ℕ, List, length, Some, sym, ap, ap₂, subst, ◌∙◌, arith}
use Rattle.std.specs.Prelude.{slice_index}
use Rattle.std.specs.List.{remove}
use Rattle.chain_gen.specs.declared.coin.Coin.{Coin}
use Rattle.chain_gen.specs.Draws.{drawn}
use Rattle.chain_gen.specs.Coins.{ripe_from, coin_at}
use Rattle.chain_gen.specs.Purses.{PurseValue, Chosen}
use Rattle.chain_gen.proofs.Plain.{same_index}
use Rattle.chain_gen.proofs.Settled.{chosen-front, chosen-behind, behind-inside}
use Rattle.chain_gen.proofs.purse.Purse.choose.Goals as goal

pub returns-then-chosen-settled : goal.returns-then-chosen-settled
returns-then-chosen-settled c =
    let h = c.self.inside.height in
    let front = c.self.inside.settled in
    let others = c.self.inside.recent.items in
    let old = c.args.word.now in
    let new = c.draw-chosen.new.word in
    let k = c.draw-chosen.result in
    let ripe : c.in_ok-places.places.items ≡ ripe_from h 0 others = c.in_ok-places.ensures ∙ ap (ripe_from h 0) c.deref.ensures.value in
    let many : c.len-settled.result + c.len.result ≡ length front + length (ripe_from h 0 others) =
    ap₂ (λ (a b : ℕ). a + b) c.len-settled.ensures.len (c.len.ensures ∙ (c.in_ok-places.places.ok.0 ∙ ap length ripe)) in
    let choice : k ≡ drawn new (length front + length (ripe_from h 0 others)) = c.draw-chosen.ensures.value ∙ ap (drawn new) many in
    let less : k < length front = let t = c.if-chosen-settled.true in let l = c.len-settled.ensures.len in omega (arith, t, l) in
    let made = chosen-front h old new k front others c.self.invariant c.draw-chosen.ensures.word choice less in
    let made_2 = subst (λ (x : Coin). Chosen old new (record { height = h; coins = front ++ others })
    (record { height = h; coins = remove front k ++ others }) (Some x)) (sym c.in_ok-take.ensures.coin) made in
    let made_3 = subst (λ (xs : List Coin). Chosen old new (record { height = h; coins = front ++ others })
    (record { height = h; coins = xs ++ others }) (Some c.in_ok-take.field-0)) (sym c.in_ok-take.ensures.taken) made_2 in
    subst (λ (p : PurseValue). Chosen old new p (record { height = h; coins = c.take.new.self ++ others }) (Some c.in_ok-take.field-0)) c.self.view_is
    made_3

pub remove-requires : goal.remove-requires
remove-requires c =
    let h = c.self.inside.height in
    let others = c.self.inside.recent.items in
    let j = c.draw-chosen.result - c.len-settled.result in
    let ripe : c.in_ok-places.places.items ≡ ripe_from h 0 others = c.in_ok-places.ensures ∙ ap (ripe_from h 0) c.deref.ensures.value in
    let less : j < length (ripe_from h 0 others) = let f = c.if-chosen-settled.false in let l = c.draw-chosen.ensures.less in
    let n = c.len.ensures ∙ (c.in_ok-places.places.ok.0 ∙ ap length ripe) in omega (arith, f, l, n) in
    let inside = behind-inside h j 0 others less in
    let place : c.index.result.now ≡ slice_index (ripe_from h 0 others) j =
    c.index.ensures ∙ (same_index c.in_ok-places.places.items j c.index.result.now 0 (let n = ap length ripe in omega (arith, n, less))
    ∙ ap (λ xs. slice_index xs j) ripe) in
    let fits = c.self.inside.recent.ok.0 in
    omega (arith, fits, place, inside)

pub returns : goal.returns
returns c =
    let h = c.self.inside.height in
    let front = c.self.inside.settled in
    let others = c.self.inside.recent.items in
    let old = c.args.word.now in
    let new = c.draw-chosen.new.word in
    let k = c.draw-chosen.result in
    let j = k - c.len-settled.result in
    let ripe : c.in_ok-places.places.items ≡ ripe_from h 0 others = c.in_ok-places.ensures ∙ ap (ripe_from h 0) c.deref.ensures.value in
    let many : c.len-settled.result + c.len.result ≡ length front + length (ripe_from h 0 others) =
    ap₂ (λ (a b : ℕ). a + b) c.len-settled.ensures.len (c.len.ensures ∙ (c.in_ok-places.places.ok.0 ∙ ap length ripe)) in
    let choice : k ≡ drawn new (length front + length (ripe_from h 0 others)) = c.draw-chosen.ensures.value ∙ ap (drawn new) many in
    let f = c.if-chosen-settled.false in
    let less : j < length (ripe_from h 0 others) = let l = c.draw-chosen.ensures.less in
    let n = c.len.ensures ∙ (c.in_ok-places.places.ok.0 ∙ ap length ripe) in omega (arith, f, l, n) in
    let at : k ≡ length front + j = let l = c.len-settled.ensures.len in omega (arith, f, l) in
    let made = chosen-behind h old new k j front others c.self.invariant c.draw-chosen.ensures.word choice at less in
    let there : c.index.result.now ≡ slice_index (ripe_from h 0 others) j =
    c.index.ensures ∙ (same_index c.in_ok-places.places.items j c.index.result.now 0 (let n = ap length ripe in omega (arith, n, less))
    ∙ ap (λ xs. slice_index xs j) ripe) in
    let inside = subst (λ i. i < length others) (sym there) (behind-inside h j 0 others less) in
    let coin : c.remove.result ≡ coin_at others (slice_index (ripe_from h 0 others) j) =
    c.remove.ensures.value ∙ (same_index others c.index.result.now _ _ inside ∙ ap (coin_at others) there) in
    let left : c.remove.new.self.items ≡ remove others (slice_index (ripe_from h 0 others) j) = c.remove.ensures.items ∙ ap (remove others) there in
    let made_2 = subst (λ (x : Coin). Chosen old new (record { height = h; coins = front ++ others })
    (record { height = h; coins = front ++ remove others (slice_index (ripe_from h 0 others) j) }) (Some x)) (sym coin) made in
    let made_3 = subst (λ (cs : List Coin). Chosen old new (record { height = h; coins = front ++ others })
    (record { height = h; coins = front ++ cs }) (Some c.remove.result)) (sym left) made_2 in
    subst (λ (p : PurseValue). Chosen old new p (record { height = h; coins = front ++ c.remove.new.self.items }) (Some c.remove.result))
    c.self.view_is made_3
