use Rattle.std.proofs.Common.{drop, suc, length, refl, ap, ◌∙◌, arith}
use Rattle.leaf_record.specs.Leaf.{Leaf, leaf_text}
use Rattle.compact_node.proofs.Growing.{growing_begins, growing_left, growing_watched, growing_few, grown_once, grown_roots, grown_kept, grown_held}
use Rattle.compact_node.proofs.Growing.{grown_steps, item_there, got_of}
use Rattle.compact_node.proofs.Pending.{pending_count, pending_next, pending_on, head_taken, none_pending}
use Rattle.compact_node.proofs.grow.append.Goals as goal

pub loop-i-init : goal.loop-i-init
loop-i-init g c = record {
  left = c.requires.leaves;
  growing = growing_begins g.D.Digester.digest_of c.args.cache.now.watch c.args.roots.now c.args.cache.now.parts c.args.mark.now
      c.args.steps.now c.args.spends.now.new _ c.requires.fits refl c.requires.adds
      (c.requires.watched ∙ (ap length c.requires.leaves ∙ pending_count c.args.cache.now.watch c.args.spends.now.new 0)) c.requires.count;
}

pub add-requires-clause-fits : goal.add-requires-clause-fits
add-requires-clause-fits g c = c.loop-i.invariant.growing.on.fits

pub add-requires-clause-left : goal.add-requires-clause-left
add-requires-clause-left g c =
    let scripts = c.args.cache.now.watch in let new = c.args.spends.now.new in
    let at = item_there new c.loop-i.i (omega (arith, c.loop-i-test.true, c.new_count-i-end.ensures)) in
    let left = pending_next scripts new c.loop-i.i at.0 c.loop-i.left.items at.1 c.loop-i.invariant.left in
    let taken = c.take_watched-watched.ensures scripts at.0 (drop (suc c.loop-i.i) new) left in
    growing_left _ _ _ _ _ _ _ _ _ _ _ _ _ _ c.loop-i.invariant.growing _ _
    (head_taken scripts new c.loop-i.i at.0 c.take_watched-watched.result at.1 taken.0)

pub add-requires-clause-watched : goal.add-requires-clause-watched
add-requires-clause-watched g c =
    let scripts = c.args.cache.now.watch in let new = c.args.spends.now.new in
    let at = item_there new c.loop-i.i (omega (arith, c.loop-i-test.true, c.new_count-i-end.ensures)) in
    let left = pending_next scripts new c.loop-i.i at.0 c.loop-i.left.items at.1 c.loop-i.invariant.left in
    let taken = c.take_watched-watched.ensures scripts at.0 (drop (suc c.loop-i.i) new) left in
    growing_watched _ _ _ _ _ _ _ _ _ _ _ _ _ _ c.loop-i.invariant.growing _ _
    (head_taken scripts new c.loop-i.i at.0 c.take_watched-watched.result at.1 taken.0)

pub add-requires-clause-count : goal.add-requires-clause-count
add-requires-clause-count g c = c.loop-i.invariant.growing.leaves

pub add-requires-clause-few : goal.add-requires-clause-few
add-requires-clause-few g c =
    let scripts = c.args.cache.now.watch in let new = c.args.spends.now.new in
    let at = item_there new c.loop-i.i (omega (arith, c.loop-i-test.true, c.new_count-i-end.ensures)) in
    let left = pending_next scripts new c.loop-i.i at.0 c.loop-i.left.items at.1 c.loop-i.invariant.left in
    let taken = c.take_watched-watched.ensures scripts at.0 (drop (suc c.loop-i.i) new) left in
    growing_few _ _ _ _ _ _ _ _ _ _ _ _ _ _ c.loop-i.invariant.growing _ _
    (head_taken scripts new c.loop-i.i at.0 c.take_watched-watched.result at.1 taken.0) c.requires.few

pub loop-i-preserved : goal.loop-i-preserved
loop-i-preserved g c =
    let scripts = c.args.cache.now.watch in let new = c.args.spends.now.new in
    let at = item_there new c.loop-i.i (omega (arith, c.loop-i-test.true, c.new_count-i-end.ensures)) in
    let left = pending_next scripts new c.loop-i.i at.0 c.loop-i.left.items at.1 c.loop-i.invariant.left in
    let taken = c.take_watched-watched.ensures scripts at.0 (drop (suc c.loop-i.i) new) left in
    let digest = got_of (λ (leaf : Leaf). g.D.Digester.digest_of (leaf_text leaf)) new c.args.digests.now c.loop-i.i at.0 _ c.requires.digests at.1 in
    record {
      left = pending_on scripts new c.loop-i.i _ taken.1;
      growing = grown_once _ _ _ _ _ _ _ _ _ _ _ _ _ _ c.loop-i.invariant.growing _ _
          (head_taken scripts new c.loop-i.i at.0 c.take_watched-watched.result at.1 taken.0)
          at.0 _ _ _ _ _ _ at.1 digest c.add.ensures.roots c.add.ensures.steps c.add.ensures.kept c.add.ensures.held c.add.ensures.watch
          c.add.ensures.on c.add.ensures.leaves c.add.ensures.adds c.add.ensures.watched;
    }

pub returns-clause-roots : goal.returns-clause-roots
returns-clause-roots g c = grown_roots _ _ _ _ _ _ _ _ _ _ _ _ _ _ c.loop-i.invariant.growing
    (none_pending c.args.cache.now.watch c.args.spends.now.new c.loop-i.i (omega (arith, c.new_count-i-end.ensures)))

pub returns-clause-kept : goal.returns-clause-kept
returns-clause-kept g c = grown_kept _ _ _ _ _ _ _ _ _ _ _ _ _ _ c.loop-i.invariant.growing
    (none_pending c.args.cache.now.watch c.args.spends.now.new c.loop-i.i (omega (arith, c.new_count-i-end.ensures)))

pub returns-clause-held : goal.returns-clause-held
returns-clause-held g c = grown_held _ _ _ _ _ _ _ _ _ _ _ _ _ _ c.loop-i.invariant.growing
    (none_pending c.args.cache.now.watch c.args.spends.now.new c.loop-i.i (omega (arith, c.new_count-i-end.ensures)))

pub returns-clause-watch : goal.returns-clause-watch
returns-clause-watch g c = c.loop-i.invariant.growing.watch_is

pub returns-clause-on : goal.returns-clause-on
returns-clause-on g c = c.loop-i.invariant.growing.on

pub returns-clause-steps : goal.returns-clause-steps
returns-clause-steps g c = grown_steps _ _ _ _ _ _ _ _ _ _ _ _ _ _ c.loop-i.invariant.growing
    (none_pending c.args.cache.now.watch c.args.spends.now.new c.loop-i.i (omega (arith, c.new_count-i-end.ensures))) c.leaves-count.ensures.stump.few
