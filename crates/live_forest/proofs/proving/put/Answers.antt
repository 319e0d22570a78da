use Rattle.std.proofs.lemmas.List.{length-set}
use Rattle.live_forest.proofs.Beneath.{put_here}
use Rattle.live_forest.proofs.proving.put.Goals as goal

pub returns-clause-here : goal.returns-clause-here
returns-clause-here c = put_here c.push.result c.args.rows.now.items
    (record { place = c.args.place; digest = c.args.digest.now }) c.index_mut.result.now c.push.new.self c.requires
    c.index_mut.ensures.value c.push.ensures.ok

pub returns-clause-len : goal.returns-clause-len
returns-clause-len c = length-set c.args.rows.now.items c.args.place.row c.push.new.self
