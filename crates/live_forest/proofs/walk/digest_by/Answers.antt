use Rattle.std.proofs.Common.{sym, ap, arith}
use Rattle.std.specs.Prelude.{option_map}
use Rattle.forest_model.specs.Content.{digest_of}
use Rattle.live_forest.proofs.Seeking.{alike, outside}
use Rattle.live_forest.proofs.Walking.{not_within, fewer_told}
use Rattle.live_forest.specs.Parts.{entries_in}
use Rattle.live_forest.proofs.walk.digest_by.Goals as goal

pub returns-then-not-is_within : goal.returns-then-not-is_within
returns-then-not-is_within g c =
    let H = g.D.Digester.digest_of in
    let es = (entries_in c.args.n c.args.store.now) in
    ap (option_map (digest_of H)) (sym (outside es c.args.store.now (alike H es c.args.store.now c.requires.right) c.args.place.row c.args.place.off
    (not_within _ _ c.if-not-is_within.true c.is_within.ensures)))

pub part_by-requires-clause-told : goal.part_by-requires-clause-told
part_by-requires-clause-told g c = fewer_told (entries_in c.args.n c.args.store.now) c.args.above.now c.args.nodes.now 0 c.args.at (omega arith)
    c.requires.told
