use Rattle.std.proofs.Common.{◌≡◌, length, map, sym, ap, ap₂, ◌∙◌, subst, arith}
use Rattle.state_text.specs.Merged.{merged, told_pair, StandsIn, AreRightRoots}
use Rattle.std.specs.List.{AllByRecursion}
use Rattle.state_text.proofs.Proved.{wrong_count, all_inside, wrong_root, is_accepted, is_told}
use Rattle.state_text.proofs.telling.told_of.Goals as goal

pub returns-then-hashes-needed : goal.returns-then-hashes-needed
returns-then-hashes-needed g c =
    let t = c.args.targets.now in
    wrong_count g.D.Digester.digest_of c.args.roots.now t.leaves c.requires.same t.targets c.args.leaves.now c.args.hashes.now
    c.needed-needed.result.now c.needed-needed.ensures (λ e. omega (arith, e))

pub judge_roots-requires : goal.judge_roots-requires
judge_roots-requires g c =
    let t = c.args.targets.now in
    let f = c.args.roots.now in
    subst (AllByRecursion (StandsIn f.leaves)) (sym c.deref.ensures.value)
    (all_inside g.D.Digester.digest_of f t.leaves c.requires.same t.targets c.args.leaves.now c.args.hashes.now c.in_ok-covered.covered.items
    c.in_ok-covered.ensures.evaluated)

pub returns-then-not-judge_roots : goal.returns-then-not-judge_roots
returns-then-not-judge_roots g c =
    let t = c.args.targets.now in
    let f = c.args.roots.now in
    wrong_root g.D.Digester.digest_of f t.leaves c.requires.same t.targets c.args.leaves.now c.args.hashes.now c.in_ok-covered.covered.items
    c.in_ok-covered.ensures.evaluated
    (λ right. c.if-not-judge_roots.ensures.wrong (subst (AreRightRoots f) (sym c.deref.ensures.value) right))

pub returns : goal.returns
returns g c =
    let H = g.D.Digester.digest_of in
    let t = c.args.targets.now in
    let f = c.args.roots.now in
    let leaves = c.args.leaves.now in
    let hashes = c.args.hashes.now in
    let items = c.in_ok-covered.covered.items in
    let needed = c.needed-needed.result.now in
    let long : length hashes ≡ length needed = omega arith in
    let right = subst (AreRightRoots f) c.deref.ensures.value c.if-not-judge_roots.ensures.right in
    let above = c.deref-3.ensures.value ∙ (c.in_ok-above.ensures ∙ ap (map told_pair) c.deref-2.ensures.value) in
    let beside = c.deref-4.ensures.value ∙ c.in_ok-beside.ensures in (
      is_accepted H f t.leaves c.requires.same t.targets leaves hashes items c.in_ok-covered.ensures.evaluated needed c.needed-needed.ensures long
          c.leaves-count.ensures.shaped.shape c.requires.leaves right,
      c.in_ok-merge.ensures ∙ (ap₂ merged above beside ∙ is_told H f t.leaves c.requires.same t.targets leaves hashes items
          c.in_ok-covered.ensures.evaluated needed c.needed-needed.ensures long),
    )
