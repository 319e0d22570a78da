use Rattle.std.proofs.Common.{◌≡◌, ◌+◌, ◌≤◌, true, ◌++◌, length, take, map, Some, refl, sym, ap, ap₂, ◌∙◌, arith}
use Rattle.std.proofs.lemmas.Simd.{splat_is_map}
use Rattle.live_forest.specs.Parts.{leaves_of}
use Rattle.live_forest.specs.Holding.{held_of}
use Rattle.live_forest.proofs.Holding.{length-entries, forest_grown, held_grown, held_same}
use Rattle.live_forest.proofs.forest.Forest.add_all.Goals as goal

pub put_all-requires-clause-small : goal.put_all-requires-clause-small
put_all-requires-clause-small g c =
    let n = c.self.inside.count in
    let s = c.self.inside.store in
    let le : n ≤ s.len = omega (arith, c.self.invariant.room, c.self.invariant.longer) in
    let entries : take n (leaves_of s) ≡ c.args.self.now.entries = ap (λ b. b.entries) c.self.view_is in
    let long : length c.args.self.now.entries ≡ n = sym (ap length entries) ∙ length-entries n s le in
    omega (arith, c.requires.few, long)

pub put_all-requires-clause-room : goal.put_all-requires-clause-room
put_all-requires-clause-room g c = omega (
  arith,
  c.requires.room,
  c.self.invariant.room,
  c.self.invariant.longer,
  ap (λ b. b.spare) c.self.view_is,
)

pub put_all-requires-clause-listed : goal.put_all-requires-clause-listed
put_all-requires-clause-listed g c =
    let fits : c.self.inside.count + length c.args.added.now ≤ c.self.inside.store.len = omega (
      arith,
      c.requires.room,
      c.self.invariant.room,
      c.self.invariant.longer,
      ap (λ b. b.spare) c.self.view_is,
    ) in
    λ i ge lt. c.self.invariant.free i ge (omega (arith, lt, fits))

pub invariant_of-self : goal.invariant_of-self
invariant_of-self g c =
    let n = c.self.inside.count in
    let s = c.self.inside.store in
    let le : n ≤ s.len = omega (arith, c.self.invariant.room, c.self.invariant.longer) in
    let entries : take n (leaves_of s) ≡ c.args.self.now.entries = ap (λ b. b.entries) c.self.view_is in
    let long : length c.args.self.now.entries ≡ n = sym (ap length entries) ∙ length-entries n s le in
    forest_grown g.D.Digester.digest_of n (length c.args.added.now) c.self.inside.room s c.put_all.new.store (map Some c.args.added.now)
    c.self.invariant (omega (arith, c.requires.few, long))
    (omega (arith, c.requires.room, c.self.invariant.room, ap (λ b. b.spare) c.self.view_is)) c.put_all.ensures.right c.put_all.ensures.room
    c.put_all.ensures.leaves

pub returns-clause-entries : goal.returns-clause-entries
returns-clause-entries g c =
    c.put_all.ensures.leaves ∙ ap (λ l. l ++ map Some c.args.added.now) (ap (λ b. b.entries) c.self.view_is)

pub returns-clause-held : goal.returns-clause-held
returns-clause-held g c =
    let n = c.self.inside.count in
    let s = c.self.inside.store in
    let s' = c.put_all.new.store in
    let k = length c.args.added.now in
    let fits : n + k ≤ s.len = omega (
      arith,
      c.requires.room,
      c.self.invariant.room,
      c.self.invariant.longer,
      ap (λ b. b.spare) c.self.view_is,
    ) in
    let held : held_of n s ≡ c.args.self.now.held = ap (λ b. b.held) c.self.view_is in
    held_grown n k s' (λ i ge lt. c.put_all.ensures.room.listed i ∙ c.self.invariant.free i ge (omega (arith, lt, fits)))
    ∙ ap₂ (λ a b. a ++ b) (held_same n s s' (λ i low. c.put_all.ensures.room.listed i) ∙ held) (splat_is_map c.args.added.now k true refl)
