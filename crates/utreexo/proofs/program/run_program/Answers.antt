use Rattle.std.proofs.Common.{◌≡◌, map, ap₂, subst}
use Rattle.std.specs.String.{string_bytes}
use Rattle.uo_base.specs.declared.event.Limits.{Limits}
use Rattle.node_commands.specs.Commands.{meaning_of}
use Rattle.node_commands.specs.Runs.{Did}
use Rattle.utreexo.specs.Program.{program_digest, program_limits}
use Rattle.utreexo.proofs.program.run_program.Goals as goal

limits_of : (l : Limits) → l.leaves ≡ program_limits.leaves → l.bytes ≡ program_limits.bytes → l ≡ program_limits
limits_of l leaves bytes = ap₂ (λ a b. let m : Limits = record { leaves = a; bytes = b } in m) leaves bytes

pub returns-clause-did : goal.returns-clause-did
returns-clause-did g c =
    subst (λ (l : Limits). Did (meaning_of program_digest l (map string_bytes c.args.words.now)) l.bytes (g.F.Source.left c.args.feed.now)
    (g.F.Source.left c.run.new.feed)
    (g.P.Source.left c.args.prior.now) (g.W.Source.left c.args.watch.now)
    (g.R.Sink.held c.args.report.now) (g.R.Sink.held c.run.new.report) (g.O.Sink.held c.args.out.now) (g.O.Sink.held c.run.new.out)
    (c.run.new.out ≡ c.args.out.now) c.run.result)
    (limits_of c.standard.result c.standard.ensures.leaves c.standard.ensures.bytes) c.run.ensures.did
