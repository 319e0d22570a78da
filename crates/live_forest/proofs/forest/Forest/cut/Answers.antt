use Rattle.std.proofs.Common.{◌≡◌, ◌≤◌, length, take, sym, ap, ◌∙◌, arith}
use Rattle.live_forest.specs.Parts.{leaves_of}
use Rattle.live_forest.specs.Holding.{held_of}
use Rattle.live_forest.specs.State.{is_live}
use Rattle.live_forest.proofs.Holding.{length-entries, live_is, forest_cut, held_cut}
use Rattle.live_forest.proofs.forest.Forest.cut.Goals as goal

pub invariant_of-self : goal.invariant_of-self
invariant_of-self g c =
    let n = c.self.inside.count in
    let s = c.self.inside.store in
    let le : n ≤ s.len = omega (arith, c.self.invariant.room, c.self.invariant.longer) in
    let entries : take n (leaves_of s) ≡ c.args.self.now.entries = ap (λ b. b.entries) c.self.view_is in
    let long : length c.args.self.now.entries ≡ n = sym (ap length entries) ∙ length-entries n s le in
    let given : c.args.n ≤ n = omega (arith, c.requires.given, long) in
    forest_cut g.D.Digester.digest_of n c.self.inside.room c.args.n s c.self.invariant given
    (λ i ge lt. sym (live_is n s i le lt) ∙ ap (λ l. is_live l i) entries ∙ c.requires.live i ge (omega (arith, lt, long)))

pub returns-clause-spare : goal.returns-clause-spare
returns-clause-spare g c =
    let n = c.self.inside.count in
    let s = c.self.inside.store in
    let le : n ≤ s.len = omega (arith, c.self.invariant.room, c.self.invariant.longer) in
    let entries : take n (leaves_of s) ≡ c.args.self.now.entries = ap (λ b. b.entries) c.self.view_is in
    let long : length c.args.self.now.entries ≡ n = sym (ap length entries) ∙ length-entries n s le in
    omega (arith, ap (λ b. b.spare) c.self.view_is, long, c.requires.given, c.self.invariant.room)

pub returns-clause-held : goal.returns-clause-held
returns-clause-held g c =
    let n = c.self.inside.count in
    let s = c.self.inside.store in
    let le : n ≤ s.len = omega (arith, c.self.invariant.room, c.self.invariant.longer) in
    let entries : take n (leaves_of s) ≡ c.args.self.now.entries = ap (λ b. b.entries) c.self.view_is in
    let long : length c.args.self.now.entries ≡ n = sym (ap length entries) ∙ length-entries n s le in
    let held : held_of n s ≡ c.args.self.now.held = ap (λ b. b.held) c.self.view_is in
    held_cut n c.args.n s (omega (arith, c.requires.given, long)) ∙ ap (take c.args.n) held
