use Rattle.std.proofs.Common.{Some, refl, sym, ap, ◌∙◌, subst}
use Rattle.uo_base.specs.FeedEvent.{event_of}
use Rattle.node_rules.specs.Machine.{is_made}
use Rattle.node_rules.specs.Proving.{CanBeWritten}
use Rattle.node_commands.specs.Prover.{ProverState, beside, proved_of, next_prover}
use Rattle.node_commands.proofs.ProveLemmas.{reached-next, passed-short}
use Rattle.node_commands.proofs.prover.Prover.tell.Goals as goal

pub invariant_of-self-2 : goal.invariant_of-self-2
unfolding next_prover
invariant_of-self-2 g c =
    let p : ProverState = record {
      net = c.self.inside.net;
      bridge = c.self.inside.bridge;
      events = c.self.inside.events;
      refused =
          c.self.inside.refused;
    } in
    let r = reached-next g.D.Digester.digest_of p (event_of c.args.event) c.requires.bytes c.self.invariant in
    record { limits = r.limits; few = r.few; watch = r.watch; events = r.events; bytes = r.bytes; is = c.in_ok-proved.ensures.next ∙ r.is }

pub returns-clause-verdict : goal.returns-clause-verdict
unfolding proved_of
returns-clause-verdict g c = rw (← c.self.view_is) c.in_ok-proved.ensures.verdict

pub returns-clause-next : goal.returns-clause-next
unfolding proved_of next_prover
returns-clause-next g c = rw (← c.self.view_is, c.is_refused.ensures, c.in_ok-proved.ensures.verdict, c.in_ok-proved.ensures.next) refl

pub returns-clause-fits : goal.returns-clause-fits
unfolding proved_of
returns-clause-fits g c = λ made.
    let p : ProverState = record {
      net = c.self.inside.net;
      bridge = c.self.inside.bridge;
      events = c.self.inside.events;
      refused =
          c.self.inside.refused;
    } in
    subst (λ m. CanBeWritten (beside m (event_of c.args.event))) (sym c.in_ok-proved.ensures.message)
    (passed-short g.D.Digester.digest_of g.met.D.Digester.has_32_bytes p (event_of c.args.event) c.requires.bytes c.self.invariant
    (ap (λ v. is_made (Some v)) (sym c.in_ok-proved.ensures.verdict) ∙ made))
