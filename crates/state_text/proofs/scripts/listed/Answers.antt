use Rattle.std.proofs.Common.{ℕ, ◌<◌, [], map, length, sym, ap₂, ◌∙◌, subst, arith}
use Rattle.std.specs.Global.{Vec}
use Rattle.std.proofs.lemmas.List.{length-map}
use Rattle.leaf_cache.specs.Watched.{IsScript, put_script}
use Rattle.leaf_cache.proofs.Scripts.{item_at}
use Rattle.state_text.proofs.Agreeing.{all_at}
use Rattle.state_text.proofs.ScriptLaws.{put_next}
use Rattle.state_text.proofs.scripts.listed.Goals as goal

pub insert-requires-clause-some : goal.insert-requires-clause-some
insert-requires-clause-some c =
    let xs = map (λ (s : Vec ℕ). s.items) c.args.scripts.now in
    let i = c.loop-script.script-index in
    let lt : i < length xs = omega (arith, c.loop-script-test.true, length-map c.args.scripts.now (λ (s : Vec ℕ). s.items)) in
    subst IsScript (item_at c.args.scripts.now i c.script-item.result c.deref.result.now c.loop-script-test.true c.script-item.is
    c.deref.ensures.value) (all_at IsScript xs c.requires.each i [] lt)

pub loop-script-preserved : goal.loop-script-preserved
loop-script-preserved c =
    let xs = map (λ (s : Vec ℕ). s.items) c.args.scripts.now in
    let i = c.loop-script.script-index in
    let lt : i < length xs = omega (arith, c.loop-script-test.true, length-map c.args.scripts.now (λ (s : Vec ℕ). s.items)) in
    let item = item_at c.args.scripts.now i c.script-item.result c.deref.result.now c.loop-script-test.true c.script-item.is c.deref.ensures.value in
    c.in_ok-insert.ensures.ok ∙ (ap₂ put_script (sym item) c.loop-script.invariant ∙ put_next xs c.requires.rise i lt)
