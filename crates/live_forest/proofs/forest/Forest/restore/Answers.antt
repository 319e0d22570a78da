use Rattle.std.proofs.Common.{◌≡◌, ◌<◌, ◌≤◌, true, length, take, set, Some, sym, ap, ◌∙◌, arith}
use Rattle.live_forest.specs.Parts.{leaves_of}
use Rattle.live_forest.specs.Holding.{held_of}
use Rattle.live_forest.specs.Stores.{is_listed}
use Rattle.live_forest.specs.State.{is_held}
use Rattle.live_forest.proofs.Holding.{length-entries, held_at, take_set, forest_put}
use Rattle.forest_place.specs.Position.{rows}
use Rattle.live_forest.proofs.forest.Forest.restore.Goals as goal

pub put-requires-clause-listed : goal.put-requires-clause-listed
put-requires-clause-listed g c =
    let n = c.self.inside.count in
    let s = c.self.inside.store in
    let le : n ≤ s.len = omega (arith, c.self.invariant.room, c.self.invariant.longer) in
    let entries : take n (leaves_of s) ≡ c.args.self.now.entries = ap (λ b. b.entries) c.self.view_is in
    let long : length c.args.self.now.entries ≡ n = sym (ap length entries) ∙ length-entries n s le in
    let held : held_of n s ≡ c.args.self.now.held = ap (λ b. b.held) c.self.view_is in
    let lt : c.args.number < n = omega (arith, c.requires.given, long) in
    let listed : is_listed s.pages c.args.number ≡ true =
    sym (held_at n s c.args.number lt) ∙ ap (λ h. is_held h c.args.number) held ∙ c.requires.held in
    listed

pub invariant_of-self : goal.invariant_of-self
invariant_of-self g c =
    let n = c.self.inside.count in
    let s = c.self.inside.store in
    let le : n ≤ s.len = omega (arith, c.self.invariant.room, c.self.invariant.longer) in
    let entries : take n (leaves_of s) ≡ c.args.self.now.entries = ap (λ b. b.entries) c.self.view_is in
    let long : length c.args.self.now.entries ≡ n = sym (ap length entries) ∙ length-entries n s le in
    let held : held_of n s ≡ c.args.self.now.held = ap (λ b. b.held) c.self.view_is in
    let lt : c.args.number < n = omega (arith, c.requires.given, long) in
    let listed : is_listed s.pages c.args.number ≡ true =
    sym (held_at n s c.args.number lt) ∙ ap (λ h. is_held h c.args.number) held ∙ c.requires.held in
    forest_put g.D.Digester.digest_of n c.self.inside.room s c.put.new.store c.args.number (Some c.args.digest) c.self.invariant c.put.ensures.right
    c.put.ensures.room c.put.ensures.leaves listed

pub returns-clause-entries : goal.returns-clause-entries
returns-clause-entries g c =
    let n = c.self.inside.count in
    let s = c.self.inside.store in
    let le : n ≤ s.len = omega (arith, c.self.invariant.room, c.self.invariant.longer) in
    let entries : take n (leaves_of s) ≡ c.args.self.now.entries = ap (λ b. b.entries) c.self.view_is in
    ap (take n) c.put.ensures.leaves ∙ take_set n (leaves_of s) c.args.number (Some c.args.digest)
    ∙ ap (λ l. set l c.args.number (Some c.args.digest)) entries

pub returns-clause-steps : goal.returns-clause-steps
returns-clause-steps g c =
    let n = c.self.inside.count in
    let s = c.self.inside.store in
    let le : n ≤ s.len = omega (arith, c.self.invariant.room, c.self.invariant.longer) in
    let entries : take n (leaves_of s) ≡ c.args.self.now.entries = ap (λ b. b.entries) c.self.view_is in
    let long : length c.args.self.now.entries ≡ n = sym (ap length entries) ∙ length-entries n s le in
    omega (arith, c.put.ensures.cost, ap rows long)
