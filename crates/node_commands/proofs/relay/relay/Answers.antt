use Rattle.std.proofs.Common.{Ok, Err, inl, ap, ap₂, subst, ◌∙◌}
use Rattle.uo_base.proofs.PortLemmas.{told_text, Tells-told_text}
use Rattle.bridge_prover.specs.Watched.{scripts_of}
use Rattle.feed_run.specs.declared.status.Status.TheVariants.{Prior}
use Rattle.relay_script.specs.Reading.{script_in}
use Rattle.report_lines.specs.declared.line.Line.TheVariants as Line
use Rattle.node_commands.specs.PriorText.{prior_text}
use Rattle.node_commands.specs.Relaying.{IsScriptText, RelayStart, lists_for, read_as, relay_start, relaying, relay_script_of}
use Rattle.node_commands.specs.Watching.{IsListOf}
use Rattle.node_commands.proofs.RanLemmas.{ran-unbegun, ran-refusing, ran-begun}
use Rattle.node_commands.proofs.RelayLemmas.{relay-begins, relay-serves, fresh-is}
use Rattle.node_commands.proofs.relay.relay.Goals as goal

pub returns-in_err-watch-clause-ran : goal.returns-in_err-watch-clause-ran
returns-in_err-watch-clause-ran g c = λ out. ran-unbegun _ _ _ _ _ _ _ _ c.from_residual.ensures.0 tt

pub returns-in-Err-clause-ran : goal.returns-in-Err-clause-ran
returns-in-Err-clause-ran g c =
    λ out.
    let prior = g.P.Source.left c.args.prior.now in
    let l = subst (IsListOf _ _ _) c.in-Err.is c.in_ok-watch.ensures.list in
    ran-refusing (relaying g.D.Digester.digest_of c.args.limits c.args.followers c.args.net c.args.scripted c.args.listed) _ prior _ (told_text prior)
    l.text (Tells-told_text prior) l.told c.in-Err.bad
    (ap (λ x. relay_start c.args.followers x (relay_script_of (prior_text c.args.scripted c.args.limits.bytes (told_text prior)))) l.is) _ _ _ _
    c.say.result c.say.ensures.status c.say.ensures.whole c.say.ensures.part tt

pub returns-in_err-text-clause-ran : goal.returns-in_err-text-clause-ran
returns-in_err-text-clause-ran g c = λ out. ran-unbegun _ _ _ _ _ _ _ _ c.from_residual-in_err-text.ensures.0 tt

pub returns-in-Err-2-clause-ran : goal.returns-in-Err-2-clause-ran
returns-in-Err-2-clause-ran g c =
    λ out.
    let l = subst (IsListOf _ _ _) c.in-Ok.is c.in_ok-watch.ensures.list in
    let t = subst (λ x. IsScriptText c.args.scripted c.args.limits.bytes (g.P.Source.left c.args.prior.now) (read_as (λ text. text.items) x))
    c.in-Err-2.is c.in_ok-text.ensures.text in
    ran-refusing (relaying g.D.Digester.digest_of c.args.limits c.args.followers c.args.net c.args.scripted c.args.listed) _ _ _ t.text l.text t.told
    l.told c.in-Err-2.bad
    (ap₂ (λ x y. relay_start c.args.followers x (relay_script_of y)) l.is t.is) _ _ _ _ c.say-in-Err-2.result c.say-in-Err-2.ensures.status
    c.say-in-Err-2.ensures.whole c.say-in-Err-2.ensures.part tt

pub returns-clause-read : goal.returns-clause-read
returns-clause-read g c = λ failed. inl (c.serve_script.ensures.read failed)

pub returns-in-Err-read_script-clause-ran : goal.returns-in-Err-read_script-clause-ran
returns-in-Err-read_script-clause-ran g c =
    λ out.
    let l = subst (IsListOf _ _ _) c.in-Ok.is c.in_ok-watch.ensures.list in
    let t = subst (λ x. IsScriptText c.args.scripted c.args.limits.bytes (g.P.Source.left c.args.prior.now) (read_as (λ text. text.items) x))
    c.in-Ok-2.is c.in_ok-text.ensures.text in
    let fault = c.in-Err-read_script.fault in
    ran-refusing (relaying g.D.Digester.digest_of c.args.limits c.args.followers c.args.net c.args.scripted c.args.listed) _ _ _ t.text l.text t.told
    l.told (record { status = Prior; line = Line.Script fault.line })
    (relay-begins c.args.followers _ _ c.in-Ok.watch c.in-Ok-2.text.items (Err fault) l.is t.is
    (c.in-Err-read_script.ensures.exact ∙ ap script_in c.as_slice.ensures.value))
    _ _ _ _ c.say-in-Err-read_script.result c.say-in-Err-read_script.ensures.status c.say-in-Err-read_script.ensures.whole
    c.say-in-Err-read_script.ensures.part tt

pub returns-in_err-lists-clause-ran : goal.returns-in_err-lists-clause-ran
returns-in_err-lists-clause-ran g c = λ out. ran-unbegun _ _ _ _ _ _ _ _ c.from_residual-in_err-lists.ensures.0 tt

pub returns-in_err-world-clause-ran : goal.returns-in_err-world-clause-ran
returns-in_err-world-clause-ran g c = λ out. ran-unbegun _ _ _ _ _ _ _ _ c.from_residual-in_err-world.ensures.0 tt

pub returns-clause-ran : goal.returns-clause-ran
returns-clause-ran g c =
    λ out.
    let l = subst (IsListOf _ _ _) c.in-Ok.is c.in_ok-watch.ensures.list in
    let t = subst (λ x. IsScriptText c.args.scripted c.args.limits.bytes (g.P.Source.left c.args.prior.now) (read_as (λ text. text.items) x))
    c.in-Ok-2.is c.in_ok-text.ensures.text in
    let lines = c.in-Ok-read_script.script in
    let lists = lists_for c.args.followers (scripts_of c.in-Ok.watch) in
    let begun : RelayStart = record { lists = lists; script = lines } in
    let fresh = fresh-is c.args.limits c.args.net c.new-relayer.result c.in_ok-world.world c.in_ok-lists.lists.items lists lines c.new-relayer.ensures
    c.in_ok-world.ensures.is
    (c.in_ok-lists.ensures ∙ ap (lists_for c.args.followers) c.watched-watch.ensures) in
    ran-begun (relaying g.D.Digester.digest_of c.args.limits c.args.followers c.args.net c.args.scripted c.args.listed) _ _ _ t.text l.text t.told
    l.told begun
    (relay-begins c.args.followers _ _ c.in-Ok.watch c.in-Ok-2.text.items (Ok lines) l.is t.is
    (c.in-Ok-read_script.ensures.exact ∙ ap script_in c.as_slice.ensures.value)) _ _
    (relay-serves g.D.Digester.digest_of c.args.limits c.args.net lists lines c.new-relayer.result fresh _ _ (c.serve_script.ensures.served out))
