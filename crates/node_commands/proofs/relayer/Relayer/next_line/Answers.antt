use Rattle.std.proofs.Common.{subst}
use Rattle.node_commands.specs.Relayer.{RelayState, IsLineTaken}
use Rattle.node_commands.proofs.RelayLemmas.{line-taken}
use Rattle.node_commands.proofs.relayer.Relayer.next_line.Goals as goal

pub returns : goal.returns
returns g c =
    let i = c.self.inside in
    let r : RelayState = record { world = i.world; script = i.script; lines = i.lines; refused = i.refused } in
    subst (λ s. IsLineTaken s c.next_line.result (record r { script = c.next_line.new.self })) c.self.view_is
    (line-taken r c.next_line.result c.next_line.new.self c.next_line.ensures)
