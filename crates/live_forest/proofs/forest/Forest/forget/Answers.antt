use Rattle.std.proofs.Common.{◌≡◌, ◌<◌, ◌≤◌, false, length, take, set, sym, ap, ◌∙◌, arith}
use Rattle.live_forest.specs.Parts.{leaves_of}
use Rattle.live_forest.specs.Holding.{held_of}
use Rattle.live_forest.specs.Stores.{stored}
use Rattle.live_forest.specs.State.{is_live}
use Rattle.std.specs.Prelude.{is_some}
use Rattle.live_forest.proofs.Holding.{length-entries, live_is, of_halves_stored, forest_less, entries_left, held_less, held_gone}
use Rattle.live_forest.proofs.Telling.{none_is}
use Rattle.live_forest.proofs.forest.Forest.forget.Goals as goal

pub let_go-requires-clause-spent : goal.let_go-requires-clause-spent
let_go-requires-clause-spent g c =
    let n = c.self.inside.count in
    let s = c.self.inside.store in
    let le : n ≤ s.len = omega (arith, c.self.invariant.room, c.self.invariant.longer) in
    let entries : take n (leaves_of s) ≡ c.args.self.now.entries = ap (λ b. b.entries) c.self.view_is in
    let long : length c.args.self.now.entries ≡ n = sym (ap length entries) ∙ length-entries n s le in
    let lt : c.args.number < n = omega (arith, c.requires.given, long) in
    let spent : is_some (stored s 0 c.args.number) ≡ false =
    sym (live_is n s c.args.number le lt) ∙ ap (λ l. is_live l c.args.number) entries ∙ c.requires.spent in
    none_is (stored s 0 c.args.number) spent

pub let_go-requires-clause-halves : goal.let_go-requires-clause-halves
let_go-requires-clause-halves g c =
    of_halves_stored g.D.Digester.digest_of c.self.inside.count c.self.inside.store c.self.invariant.right

pub invariant_of-self : goal.invariant_of-self
invariant_of-self g c =
    let n = c.self.inside.count in
    let s = c.self.inside.store in
    let le : n ≤ s.len = omega (arith, c.self.invariant.room, c.self.invariant.longer) in
    let entries : take n (leaves_of s) ≡ c.args.self.now.entries = ap (λ b. b.entries) c.self.view_is in
    let long : length c.args.self.now.entries ≡ n = sym (ap length entries) ∙ length-entries n s le in
    let lt : c.args.number < n = omega (arith, c.requires.given, long) in
    let spent : is_some (stored s 0 c.args.number) ≡ false =
    sym (live_is n s c.args.number le lt) ∙ ap (λ l. is_live l c.args.number) entries ∙ c.requires.spent in
    forest_less g.D.Digester.digest_of n c.self.inside.room c.args.number s c.let_go.new.self c.self.invariant lt spent c.let_go.ensures.len
    c.let_go.ensures.same c.let_go.ensures.listed

pub returns-then-is_listed-clause-entries : goal.returns-then-is_listed-clause-entries
returns-then-is_listed-clause-entries g c =
    let n = c.self.inside.count in
    let s = c.self.inside.store in
    let le : n ≤ s.len = omega (arith, c.self.invariant.room, c.self.invariant.longer) in
    let entries : take n (leaves_of s) ≡ c.args.self.now.entries = ap (λ b. b.entries) c.self.view_is in
    entries_left n s c.let_go.new.self le c.let_go.ensures.len c.let_go.ensures.same ∙ entries

pub returns-then-is_listed-clause-held : goal.returns-then-is_listed-clause-held
returns-then-is_listed-clause-held g c =
    let n = c.self.inside.count in
    let s = c.self.inside.store in
    let le : n ≤ s.len = omega (arith, c.self.invariant.room, c.self.invariant.longer) in
    let entries : take n (leaves_of s) ≡ c.args.self.now.entries = ap (λ b. b.entries) c.self.view_is in
    let long : length c.args.self.now.entries ≡ n = sym (ap length entries) ∙ length-entries n s le in
    let held : held_of n s ≡ c.args.self.now.held = ap (λ b. b.held) c.self.view_is in
    held_less n c.args.number s c.let_go.new.self (omega (arith, c.requires.given, long)) c.let_go.ensures.listed
    ∙ ap (λ h. set h c.args.number false) held

pub returns-else-is_listed-clause-held : goal.returns-else-is_listed-clause-held
returns-else-is_listed-clause-held g c =
    let n = c.self.inside.count in
    let s = c.self.inside.store in
    let le : n ≤ s.len = omega (arith, c.self.invariant.room, c.self.invariant.longer) in
    let entries : take n (leaves_of s) ≡ c.args.self.now.entries = ap (λ b. b.entries) c.self.view_is in
    let long : length c.args.self.now.entries ≡ n = sym (ap length entries) ∙ length-entries n s le in
    let held : held_of n s ≡ c.args.self.now.held = ap (λ b. b.held) c.self.view_is in
    sym held ∙ held_gone n c.args.number s (omega (arith, c.requires.given, long)) (sym c.is_listed.ensures ∙ c.if-is_listed.false)
    ∙ ap (λ h. set h c.args.number false) held
