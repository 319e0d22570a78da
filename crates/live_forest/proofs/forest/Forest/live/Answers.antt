use Rattle.std.proofs.Common.{◌≡◌, ◌≤◌, take, sym, ap, ◌∙◌, arith}
use Rattle.live_forest.specs.Parts.{leaves_of}
use Rattle.live_forest.specs.State.{is_live}
use Rattle.live_forest.proofs.Holding.{live_is}
use Rattle.live_forest.proofs.forest.Forest.live.Goals as goal

pub returns-then-number-self : goal.returns-then-number-self
returns-then-number-self g c =
    let n = c.self.inside.count in
    let s = c.self.inside.store in
    let le : n ≤ s.len = omega (arith, c.self.invariant.room, c.self.invariant.longer) in
    let entries : take n (leaves_of s) ≡ c.args.self.now.entries = ap (λ b. b.entries) c.self.view_is in
    c.has.ensures ∙ sym (live_is n s c.args.number le c.if-number-self.true)
    ∙ ap (λ l. is_live l c.args.number) entries
