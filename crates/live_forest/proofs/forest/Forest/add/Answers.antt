use Rattle.std.proofs.Common.{◌≡◌, suc, ◌+◌, ◌<◌, ◌≤◌, true, [], ◌∷◌, ◌++◌, length, take, Some, sym, ap, ◌∙◌, subst, arith}
use Rattle.live_forest.specs.Parts.{leaves_of}
use Rattle.live_forest.specs.Holding.{held_of}
use Rattle.live_forest.proofs.Holding.{length-entries, take_next, forest_added, held_more, held_same}
use Rattle.std.specs.Prelude.{count_ones}
use Rattle.std.proofs.lemmas.List.{length_push}
use Rattle.live_forest.specs.Parts.{IsClimbed}
use Rattle.live_forest.specs.State.{addition_steps}
use Rattle.live_forest.proofs.Refreshing.{length-leaves_of}
use Rattle.live_forest.proofs.Counting.{added_cost}
use Rattle.live_forest.proofs.Ones.{addition_few, roots_as_many}
use Rattle.live_forest.proofs.forest.Forest.add.Goals as goal

pub put_next-requires-clause-small : goal.put_next-requires-clause-small
put_next-requires-clause-small g c =
    let n = c.self.inside.count in
    let s = c.self.inside.store in
    let le : n ≤ s.len = omega (arith, c.self.invariant.room, c.self.invariant.longer) in
    let entries : take n (leaves_of s) ≡ c.args.self.now.entries = ap (λ b. b.entries) c.self.view_is in
    let long : length c.args.self.now.entries ≡ n = sym (ap length entries) ∙ length-entries n s le in
    omega (arith, c.requires.few, long)

pub invariant_of-self : goal.invariant_of-self
invariant_of-self g c =
    let n = c.self.inside.count in
    let s = c.self.inside.store in
    let le : n ≤ s.len = omega (arith, c.self.invariant.room, c.self.invariant.longer) in
    let entries : take n (leaves_of s) ≡ c.args.self.now.entries = ap (λ b. b.entries) c.self.view_is in
    let long : length c.args.self.now.entries ≡ n = sym (ap length entries) ∙ length-entries n s le in
    let more : n < c.self.inside.room = omega (arith, c.requires.room, ap (λ b. b.spare) c.self.view_is) in
    let lt : n < length (leaves_of s) = omega (arith, more, c.self.invariant.longer, length-leaves_of s) in
    forest_added g.D.Digester.digest_of n c.self.inside.room s c.put_next.new.store (Some c.args.digest) c.self.invariant
    (omega (arith, c.requires.few, long)) more c.put_next.ensures.right c.put_next.ensures.room c.put_next.ensures.leaves

pub returns-clause-number : goal.returns-clause-number
returns-clause-number g c =
    let n = c.self.inside.count in
    let s = c.self.inside.store in
    let le : n ≤ s.len = omega (arith, c.self.invariant.room, c.self.invariant.longer) in
    let entries : take n (leaves_of s) ≡ c.args.self.now.entries = ap (λ b. b.entries) c.self.view_is in
    let long : length c.args.self.now.entries ≡ n = sym (ap length entries) ∙ length-entries n s le in
    sym long

pub returns-clause-entries : goal.returns-clause-entries
returns-clause-entries g c =
    let n = c.self.inside.count in
    let s = c.self.inside.store in
    let le : n ≤ s.len = omega (arith, c.self.invariant.room, c.self.invariant.longer) in
    let entries : take n (leaves_of s) ≡ c.args.self.now.entries = ap (λ b. b.entries) c.self.view_is in
    let more : n < c.self.inside.room = omega (arith, c.requires.room, ap (λ b. b.spare) c.self.view_is) in
    let lt : n < length (leaves_of s) = omega (arith, more, c.self.invariant.longer, length-leaves_of s) in
    let e : n + 1 ≡ suc n = omega arith in
    let whole : take (n + 1) (leaves_of c.put_next.new.store) ≡ c.args.self.now.entries ++ Some c.args.digest ∷ [] =
    ap (λ k. take k (leaves_of c.put_next.new.store)) e ∙ ap (take (suc n)) c.put_next.ensures.leaves
    ∙ take_next n (leaves_of s) (Some c.args.digest) lt ∙ ap (λ l. l ++ Some c.args.digest ∷ []) entries in
    whole

pub returns-clause-held : goal.returns-clause-held
returns-clause-held g c =
    let n = c.self.inside.count in
    let s = c.self.inside.store in
    let le : n ≤ s.len = omega (arith, c.self.invariant.room, c.self.invariant.longer) in
    let entries : take n (leaves_of s) ≡ c.args.self.now.entries = ap (λ b. b.entries) c.self.view_is in
    let more : n < c.self.inside.room = omega (arith, c.requires.room, ap (λ b. b.spare) c.self.view_is) in
    let lt : n < length (leaves_of s) = omega (arith, more, c.self.invariant.longer, length-leaves_of s) in
    let held : held_of n s ≡ c.args.self.now.held = ap (λ b. b.held) c.self.view_is in
    held_more n c.put_next.new.store
    (c.put_next.ensures.room.listed n ∙ c.self.invariant.free n (omega arith) (omega (arith, more, c.self.invariant.longer)))
    ∙ ap (λ h. h ++ true ∷ []) (held_same n s c.put_next.new.store (λ i low. c.put_next.ensures.room.listed i) ∙ held)

pub returns-clause-steps : goal.returns-clause-steps
returns-clause-steps g c =
    let n = c.self.inside.count in
    let s = c.self.inside.store in
    let le : n ≤ s.len = omega (arith, c.self.invariant.room, c.self.invariant.longer) in
    let entries : take n (leaves_of s) ≡ c.args.self.now.entries = ap (λ b. b.entries) c.self.view_is in
    let more : n < c.self.inside.room = omega (arith, c.requires.room, ap (λ b. b.spare) c.self.view_is) in
    let lt : n < length (leaves_of s) = omega (arith, more, c.self.invariant.longer, length-leaves_of s) in
    let climbed = subst (λ x. IsClimbed (n + 1) x n c.args.steps.now c.put_next.new.steps) c.put_next.ensures.leaves c.put_next.ensures.cost in
    added_cost g.D.Digester.digest_of n (leaves_of s) c.args.digest lt c.args.steps.now c.put_next.new.steps climbed
    ∙ ap (λ x. c.args.steps.now + addition_steps g.D.Digester.digest_of x) entries

pub returns-clause-few : goal.returns-clause-few
returns-clause-few g c =
    let n = c.self.inside.count in
    let s = c.self.inside.store in
    let le : n ≤ s.len = omega (arith, c.self.invariant.room, c.self.invariant.longer) in
    let entries : take n (leaves_of s) ≡ c.args.self.now.entries = ap (λ b. b.entries) c.self.view_is in
    let more : n < c.self.inside.room = omega (arith, c.requires.room, ap (λ b. b.spare) c.self.view_is) in
    let lt : n < length (leaves_of s) = omega (arith, more, c.self.invariant.longer, length-leaves_of s) in
    let e : n + 1 ≡ suc n = omega arith in
    let whole : take (n + 1) (leaves_of c.put_next.new.store) ≡ c.args.self.now.entries ++ Some c.args.digest ∷ [] =
    ap (λ k. take k (leaves_of c.put_next.new.store)) e ∙ ap (take (suc n)) c.put_next.ensures.leaves
    ∙ take_next n (leaves_of s) (Some c.args.digest) lt ∙ ap (λ l. l ++ Some c.args.digest ∷ []) entries in
    let more_long = ap length whole ∙ length_push c.args.self.now.entries (Some c.args.digest)
    ∙ (let z : length c.args.self.now.entries + 1 ≡ suc (length c.args.self.now.entries) = omega arith in z) in
    omega (arith, returns-clause-steps g c, addition_few g.D.Digester.digest_of c.args.self.now.entries, ap count_ones more_long)

pub returns-clause-as_roots : goal.returns-clause-as_roots
returns-clause-as_roots g c =
    λ roots stands.
    returns-clause-steps g c ∙ ap (λ k. c.args.steps.now + k) (sym (roots_as_many g.D.Digester.digest_of c.args.self.now.entries roots stands))
