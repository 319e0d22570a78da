use Rattle.std.proofs.Common.{◌≡◌, ◌≤◌, take, sym, ap, ◌∙◌, arith}
use Rattle.live_forest.specs.Parts.{leaves_of}
use Rattle.live_forest.specs.Holding.{held_of}
use Rattle.live_forest.specs.State.{is_live, is_held}
use Rattle.live_forest.proofs.Holding.{live_is, held_at, not_held}
use Rattle.std.proofs.lemmas.Bool.{le-ltb}
use Rattle.live_forest.proofs.forest.Forest.held.Goals as goal

pub returns-then-number-self-clause-is : goal.returns-then-number-self-clause-is
returns-then-number-self-clause-is g c =
    let n = c.self.inside.count in
    let s = c.self.inside.store in
    let le : n ≤ s.len = omega (arith, c.self.invariant.room, c.self.invariant.longer) in
    let entries : take n (leaves_of s) ≡ c.args.self.now.entries = ap (λ b. b.entries) c.self.view_is in
    let held : held_of n s ≡ c.args.self.now.held = ap (λ b. b.held) c.self.view_is in
    c.is_listed.ensures ∙ sym (held_at n s c.args.number c.if-number-self.true) ∙ ap (λ h. is_held h c.args.number) held

pub returns-then-number-self-clause-live : goal.returns-then-number-self-clause-live
returns-then-number-self-clause-live g c =
    let n = c.self.inside.count in
    let s = c.self.inside.store in
    let le : n ≤ s.len = omega (arith, c.self.invariant.room, c.self.invariant.longer) in
    let entries : take n (leaves_of s) ≡ c.args.self.now.entries = ap (λ b. b.entries) c.self.view_is in
    λ live.
    c.is_listed.ensures ∙ c.self.invariant.held c.args.number c.if-number-self.true
    (sym (live_is n s c.args.number le c.if-number-self.true) ∙ ap (λ l. is_live l c.args.number) entries ∙ live)

pub returns-else-number-self-clause-is : goal.returns-else-number-self-clause-is
returns-else-number-self-clause-is g c =
    let n = c.self.inside.count in
    let s = c.self.inside.store in
    let le : n ≤ s.len = omega (arith, c.self.invariant.room, c.self.invariant.longer) in
    let entries : take n (leaves_of s) ≡ c.args.self.now.entries = ap (λ b. b.entries) c.self.view_is in
    let held : held_of n s ≡ c.args.self.now.held = ap (λ b. b.held) c.self.view_is in
    le-ltb c.args.number n c.if-number-self.false ∙ sym (not_held n s c.args.number c.if-number-self.false)
    ∙ ap (λ h. is_held h c.args.number) held
