use Rattle.std.proofs.Common.{◌≡◌, [], rules}
use Rattle.uo_base.specs.Ahead.{ahead}
use Rattle.uo_base.proofs.PortLemmas.{Keeps-behind, ReadConsumes-bare, ReadConsumes-kept}
use Rattle.uo_base.proofs.window.Window.read.Goals as goal

pub returns-in_err-self-clause-bytes : goal.returns-in_err-self-clause-bytes
returns-in_err-self-clause-bytes g c =
    let none : [] ≡ ahead c.args.self.now = search rules in
    ReadConsumes-kept _ _ _ _ c.from_residual.ensures.0 (Keeps-behind _ _ _ _ none c.in_err-self.ensures.bytes)

pub returns-then-into-ge-SIZE-clause-bytes : goal.returns-then-into-ge-SIZE-clause-bytes
returns-then-into-ge-SIZE-clause-bytes g c =
    let none : ahead c.args.self.now ≡ [] = search rules in
    ReadConsumes-bare _ _ _ _ _ none c.counted_read.ensures.bytes
