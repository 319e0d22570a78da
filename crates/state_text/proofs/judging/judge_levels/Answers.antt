use Rattle.std.proofs.Common.{◌≡◌, List, [], ◌∷◌, ◌++◌, map, sym, ap, ◌∙◌, subst, append_assoc, rules, arith}
use Rattle.std.proofs.lemmas.Grind.{common_steps}
use Rattle.state_text.specs.Stored.{LevelValue}
use Rattle.state_text.specs.Cached.{level_in}
use Rattle.state_text.specs.Ordered.{AreMadeLevels}
use Rattle.std.proofs.lemmas.Result.{err_from_is_err_and}
use Rattle.std.specs.List.{AllByRecursion}
use Rattle.state_text.specs.Fits.{IsStoredLevel}
use Rattle.state_text.proofs.Judged.{denied}
use Rattle.state_text.proofs.Filling.{all_one, levels_more}
use Rattle.state_text.proofs.judging.judge_levels.Goals as goal

pub loop-level-init : goal.loop-level-init
loop-level-init g c = record {
  rest = sym c.into_iter-level-iterator.ensures.into_iter_gives.0;
  made = record { sound = tt; same = ap (map level_in) c.in_ok-made.ensures.items; filled = rw c.in_ok-made.ensures.items tt };
}

pub returns-in_err-judge_level : goal.returns-in_err-judge_level
returns-in_err-judge_level g c =
    let Good = IsStoredLevel g.D.Digester.digest_of c.args.watch.now in
    let p = err_from_is_err_and c.from_residual-in_err-judge_level.result c.from_residual-in_err-judge_level.ensures.1 in
    let split = c.loop-level.invariant.rest ∙ ap (λ xs. c.loop-level.yielded ++ xs) c.in-Some.ensures.steps.0 in
    rw (p.1, p.2) (denied _ (Good c.in-Some.level) (AllByRecursion Good c.args.levels.items)
    (λ all. all_one Good c.loop-level.yielded _ c.in-Some.level (subst (AllByRecursion Good) split all)) c.in_err-judge_level.ensures)

pub loop-level-preserved : goal.loop-level-preserved
loop-level-preserved g c = record {
  rest = c.loop-level.invariant.rest ∙ (ap (λ xs. c.loop-level.yielded ++ xs) c.in-Some.ensures.steps.0
      ∙ sym (append_assoc c.loop-level.yielded (c.in-Some.level ∷ []) _));
  made = rw c.in_ok-push.ensures.items (levels_more _ _ _ _ _ _ c.loop-level.invariant.made c.in_ok-judge_level.ensures);
}

pub returns : goal.returns
returns g c =
    let all : c.loop-level.yielded ≡ c.args.levels.items = first_of (search rules, grind (arith, common_steps)) in
    subst (λ (ls : List LevelValue). AreMadeLevels g.D.Digester.digest_of c.args.watch.now ls c.loop-level.made.items) all c.loop-level.invariant.made
