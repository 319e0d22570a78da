use Rattle.std.proofs.Common.{refl}
use Rattle.uo_base.proofs.PortLemmas.{told_text, Tells-told_text}
use Rattle.node_commands.specs.Generating.{gen_answer, generating}
use Rattle.node_commands.proofs.QuietLemmas.{no_blocks}
use Rattle.node_commands.proofs.RanLemmas.{ran-begun, serves-once}
use Rattle.node_commands.proofs.generating.make_feed.Goals as goal

pub returns-clause-ran : goal.returns-clause-ran
unfolding gen_answer
returns-clause-ran g c =
    λ limit feed prior watch.
    ran-begun (generating c.args.number c.args.blocks c.args.net) limit prior watch (told_text prior) (told_text watch) (Tells-told_text prior)
    (Tells-told_text watch) tt refl _ _
    (serves-once (generating c.args.number c.args.blocks c.args.net) tt feed refl refl tt
    (λ none. c.store_generated.ensures.untouched (no_blocks c.args.number c.args.blocks c.args.net none)) c.store_generated.result _ _ _ _
    c.store_generated.ensures.status c.store_generated.ensures.said c.store_generated.ensures.sent
    c.store_generated.ensures.part_said c.store_generated.ensures.part_sent c.store_generated.ensures.order c.store_generated.ensures.read)
