use Rattle.std.proofs.Common.{Some, Ok, ap, subst}
use Rattle.uo_base.specs.FeedEvent.{event_of}
use Rattle.node_rules.specs.Machine.{event_in}
use Rattle.bridge_prover.specs.Full.{JudgesAsFull, LevelsJudged, verdict_in}
use Rattle.bridge_prover.specs.Standing.{IsBridge}
use Rattle.bridge_prover.specs.declared.judged.Judged.TheVariants as Said
use Rattle.bridge_prover.proofs.Fully.{bridge_is_full, levels_judged, judged_so}
use Rattle.bridge_prover.proofs.bridge.Bridge.judge.Goals as goal

pub returns-in-Block-clause-levels : goal.returns-in-Block-clause-levels
returns-in-Block-clause-levels g c =
    let H = g.D.Digester.digest_of in
    let s = c.args.self.now in
    let is = subst (IsBridge H) c.self.view_is c.self.invariant.0 in
    judged_so verdict_in H (λ e v s'. LevelsJudged s v s') s c.judge_bytes.new.self c.args.event _ c.judge_bytes.result
    (ap (λ x. event_in (event_of x)) c.in-Block.is)
    (λ e. levels_judged H s e is) c.judge_bytes.ensures.verdict c.judge_bytes.ensures.next

pub returns-in-Block-clause-refines : goal.returns-in-Block-clause-refines
returns-in-Block-clause-refines g c =
    let H = g.D.Digester.digest_of in
    let s = c.args.self.now in
    let is = subst (IsBridge H) c.self.view_is c.self.invariant.0 in
    judged_so verdict_in H (JudgesAsFull H s) s c.judge_bytes.new.self c.args.event _ c.judge_bytes.result
    (ap (λ x. event_in (event_of x)) c.in-Block.is)
    (λ e. bridge_is_full H s e is) c.judge_bytes.ensures.verdict c.judge_bytes.ensures.next

pub returns-in-Rollback-clause-levels : goal.returns-in-Rollback-clause-levels
returns-in-Rollback-clause-levels g c =
    let H = g.D.Digester.digest_of in
    let s = c.args.self.now in
    let is = subst (IsBridge H) c.self.view_is c.self.invariant.0 in
    judged_so {E = Unit {0}} verdict_in H (λ e v s'. LevelsJudged s v s') s c.roll_back.new.self c.args.event _
    (Ok (Said.Verdict c.roll_back.result)) (ap (λ x. event_in (event_of x)) c.in-Rollback.is)
    (λ e. levels_judged H s e is) (ap Some c.roll_back.ensures.verdict) c.roll_back.ensures.next

pub returns-in-Rollback-clause-refines : goal.returns-in-Rollback-clause-refines
returns-in-Rollback-clause-refines g c =
    let H = g.D.Digester.digest_of in
    let s = c.args.self.now in
    let is = subst (IsBridge H) c.self.view_is c.self.invariant.0 in
    judged_so {E = Unit {0}} verdict_in H (JudgesAsFull H s) s c.roll_back.new.self c.args.event _
    (Ok (Said.Verdict c.roll_back.result)) (ap (λ x. event_in (event_of x)) c.in-Rollback.is)
    (λ e. bridge_is_full H s e is) (ap Some c.roll_back.ensures.verdict) c.roll_back.ensures.next
