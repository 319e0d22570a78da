use Rattle.std.proofs.Common.{◌≡◌, ◌≤◌, take, ap, ◌∙◌, arith}
use Rattle.live_forest.specs.Parts.{leaves_of}
use Rattle.live_forest.specs.Holding.{held_of}
use Rattle.live_forest.proofs.Holding.{entries_longer, forest_longer, held_same}
use Rattle.live_forest.proofs.forest.Forest.reserve.Goals as goal

pub invariant_of-self : goal.invariant_of-self
invariant_of-self g c =
    let n = c.self.inside.count in
    let s = c.self.inside.store in
    let le : n ≤ s.len = omega (arith, c.self.invariant.room, c.self.invariant.longer) in
    let entries : take n (leaves_of s) ≡ c.args.self.now.entries = ap (λ b. b.entries) c.self.view_is in
    forest_longer g.D.Digester.digest_of n c.self.inside.room c.self.inside.room s c.lengthen.new.self c.self.invariant
    c.in_err-lengthen.ensures.longer c.self.invariant.room (omega (arith, c.self.invariant.longer, c.in_err-lengthen.ensures.longer.len))

pub returns-in_err-lengthen-clause-entries : goal.returns-in_err-lengthen-clause-entries
returns-in_err-lengthen-clause-entries g c =
    let n = c.self.inside.count in
    let s = c.self.inside.store in
    let le : n ≤ s.len = omega (arith, c.self.invariant.room, c.self.invariant.longer) in
    let entries : take n (leaves_of s) ≡ c.args.self.now.entries = ap (λ b. b.entries) c.self.view_is in
    entries_longer n s c.lengthen.new.self le c.in_err-lengthen.ensures.longer ∙ entries

pub returns-in_err-lengthen-clause-held : goal.returns-in_err-lengthen-clause-held
returns-in_err-lengthen-clause-held g c =
    let n = c.self.inside.count in
    let s = c.self.inside.store in
    let le : n ≤ s.len = omega (arith, c.self.invariant.room, c.self.invariant.longer) in
    let entries : take n (leaves_of s) ≡ c.args.self.now.entries = ap (λ b. b.entries) c.self.view_is in
    let held : held_of n s ≡ c.args.self.now.held = ap (λ b. b.held) c.self.view_is in
    held_same n s c.lengthen.new.self (λ i lt. c.in_err-lengthen.ensures.longer.listed i (omega (arith, lt, le))) ∙ held

pub invariant_of-self-2 : goal.invariant_of-self-2
invariant_of-self-2 g c =
    let n = c.self.inside.count in
    let s = c.self.inside.store in
    let le : n ≤ s.len = omega (arith, c.self.invariant.room, c.self.invariant.longer) in
    let entries : take n (leaves_of s) ≡ c.args.self.now.entries = ap (λ b. b.entries) c.self.view_is in
    forest_longer g.D.Digester.digest_of n c.self.inside.room c.larger-self-inside.result s c.lengthen.new.self c.self.invariant
    c.in_ok-lengthen.ensures.longer (omega (arith, c.self.invariant.room, c.larger-self-inside.ensures))
    (omega (arith, c.self.invariant.longer, c.larger-self-inside.ensures, c.in_ok-lengthen.ensures.ok))

pub returns-clause-entries : goal.returns-clause-entries
returns-clause-entries g c =
    let n = c.self.inside.count in
    let s = c.self.inside.store in
    let le : n ≤ s.len = omega (arith, c.self.invariant.room, c.self.invariant.longer) in
    let entries : take n (leaves_of s) ≡ c.args.self.now.entries = ap (λ b. b.entries) c.self.view_is in
    entries_longer n s c.lengthen.new.self le c.in_ok-lengthen.ensures.longer ∙ entries

pub returns-clause-held : goal.returns-clause-held
returns-clause-held g c =
    let n = c.self.inside.count in
    let s = c.self.inside.store in
    let le : n ≤ s.len = omega (arith, c.self.invariant.room, c.self.invariant.longer) in
    let entries : take n (leaves_of s) ≡ c.args.self.now.entries = ap (λ b. b.entries) c.self.view_is in
    let held : held_of n s ≡ c.args.self.now.held = ap (λ b. b.held) c.self.view_is in
    held_same n s c.lengthen.new.self (λ i lt. c.in_ok-lengthen.ensures.longer.listed i (omega (arith, lt, le))) ∙ held
