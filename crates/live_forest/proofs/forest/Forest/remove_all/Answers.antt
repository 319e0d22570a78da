use Rattle.std.proofs.Common.{◌≡◌, ◌*◌, ◌≤◌, true, length, take, get_or, sym, ap, ◌∙◌, arith}
use Rattle.live_forest.specs.Parts.{leaves_of}
use Rattle.live_forest.specs.State.{is_live}
use Rattle.live_forest.proofs.Holding.{length-entries, live_low, live_is, take_without, forest_emptied}
use Rattle.forest_place.specs.Position.{rows}
use Rattle.forest_model.specs.Deletion.{entries_without}
use Rattle.live_forest.proofs.forest.Forest.remove_all.Goals as goal

pub empty_all-requires-clause-listed : goal.empty_all-requires-clause-listed
empty_all-requires-clause-listed g c =
    let n = c.self.inside.count in
    let s = c.self.inside.store in
    let le : n ≤ s.len = omega (arith, c.self.invariant.room, c.self.invariant.longer) in
    let entries : take n (leaves_of s) ≡ c.args.self.now.entries = ap (λ b. b.entries) c.self.view_is in
    λ k d low.
    let i = get_or c.args.spent.now k d in
    let live : is_live (take n (leaves_of s)) i ≡ true = ap (λ l. is_live l i) entries ∙ c.requires k d low in
    let lt = live_low n s i le live in
    c.self.invariant.held i lt (sym (live_is n s i le lt) ∙ live)

pub invariant_of-self : goal.invariant_of-self
invariant_of-self g c =
    let n = c.self.inside.count in
    let s = c.self.inside.store in
    let le : n ≤ s.len = omega (arith, c.self.invariant.room, c.self.invariant.longer) in
    let entries : take n (leaves_of s) ≡ c.args.self.now.entries = ap (λ b. b.entries) c.self.view_is in
    forest_emptied g.D.Digester.digest_of n c.self.inside.room s c.empty_all.new.store c.args.spent.now c.self.invariant c.empty_all.ensures.right
    c.empty_all.ensures.room c.empty_all.ensures.leaves

pub returns-clause-entries : goal.returns-clause-entries
returns-clause-entries g c =
    let n = c.self.inside.count in
    let s = c.self.inside.store in
    let le : n ≤ s.len = omega (arith, c.self.invariant.room, c.self.invariant.longer) in
    let entries : take n (leaves_of s) ≡ c.args.self.now.entries = ap (λ b. b.entries) c.self.view_is in
    ap (take n) c.empty_all.ensures.leaves ∙ take_without n c.args.spent.now (leaves_of s) ∙ ap (entries_without c.args.spent.now) entries

pub returns-clause-steps : goal.returns-clause-steps
returns-clause-steps g c =
    let n = c.self.inside.count in
    let s = c.self.inside.store in
    let le : n ≤ s.len = omega (arith, c.self.invariant.room, c.self.invariant.longer) in
    let entries : take n (leaves_of s) ≡ c.args.self.now.entries = ap (λ b. b.entries) c.self.view_is in
    let long : length c.args.self.now.entries ≡ n = sym (ap length entries) ∙ length-entries n s le in
    omega (arith, c.empty_all.ensures.cost, ap (λ k. length c.args.spent.now * rows k) long)
