use Rattle.std.proofs.Common.{◌≡◌, true, Some, sym, ap, ◌∙◌, subst}
use Rattle.std.proofs.lemmas.Bool.{and_from}
use Rattle.leaf_record.specs.Leaf.{Outpoint}
use Rattle.leaf_record.specs.History.{same_point}
use Rattle.output_index.specs.Links.{IsHead}
use Rattle.output_index.specs.Entries.{lives_in, lives_at}
use Rattle.output_index.proofs.Searching.{walk-starts, walk-finds}
use Rattle.output_index.proofs.outputs.newest_at.Goals as goal

pub returns-in-Some : goal.returns-in-Some
returns-in-Some c =
    let p : Outpoint = c.args.name.now in
    let es = c.args.entries.now in
    let n = c.in-Some.number in
    let e = c.at.result.now in
    let live : e.live ≡ true = sym (c.requires.live ∙ (ap (lives_at es) c.in-Some.is ∙ ap lives_in c.at.ensures)) ∙ c.if-live.true in
    let fits = and_from e.live (same_point e.leaf.point p) live
    (ap (same_point e.leaf.point) (sym c.name.view_is) ∙ (sym c.is_of.ensures ∙ c.if-is_of.true)) in
    sym (walk-finds p es n e c.requires.rising c.at.ensures fits (walk-starts p es (Some n) (subst (IsHead es p) c.in-Some.is c.requires.head)))
