use Rattle.std.proofs.Common.{◌≡◌, ◌≤◌, true, ap, ◌∙◌, subst, arith}
use Rattle.forest_model.specs.Content.{content}
use Rattle.forest_model.specs.Standing.{tree_at}
use Rattle.live_forest.specs.Parts.{entries_in}
use Rattle.live_forest.specs.State.{is_live}
use Rattle.live_forest.proofs.Holding.{parts_seen, live_low, live_kept}
use Rattle.live_forest.proofs.Seeking.{alike, entry_place-stands}
use Rattle.live_forest.proofs.forest.Forest.place.Goals as goal

pub place_from-requires-clause-alike : goal.place_from-requires-clause-alike
place_from-requires-clause-alike g c =
    alike g.D.Digester.digest_of (entries_in c.self.inside.count c.self.inside.store) c.self.inside.store
    (parts_seen g.D.Digester.digest_of c.self.inside.count c.self.inside.room c.self.inside.store c.self.invariant)

pub returns-clause-is : goal.returns-clause-is
returns-clause-is g c =
    let view : entries_in c.self.inside.count c.self.inside.store ≡ c.args.self.now.entries = ap (λ b. b.entries) c.self.view_is in
    entry_place-stands c.args.self.now.entries c.args.number c.place_from.result c.requires
    (subst (λ es. tree_at es c.place_from.result.row c.place_from.result.off ≡ content es 0 c.args.number) view c.place_from.ensures.stands)

pub place_from-requires-clause-some : goal.place_from-requires-clause-some
place_from-requires-clause-some g c =
    let n = c.self.inside.count in
    let s = c.self.inside.store in
    let le : n ≤ s.len = omega (arith, c.self.invariant.room, c.self.invariant.longer) in
    let live : is_live (entries_in n s) c.args.number ≡ true = ap (λ b. is_live b.entries c.args.number) c.self.view_is ∙ c.requires in
    live_kept g.D.Digester.digest_of n c.self.inside.room s c.args.number c.self.invariant (live_low n s c.args.number le live) live
