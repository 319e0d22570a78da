use Rattle.std.proofs.Common.{List, ◌≡◌, ◌++◌, ◌∷◌, []}
use Rattle.relay_core.specs.Acts.{WorldAct, act_of}
use Rattle.relay_core.specs.World.{WorldState, next_world}
use Rattle.relay_core.specs.Branches.{Begun, AreOnBranches, StandsForActs}
use Rattle.relay_core.proofs.Stepping.{on_ok, stands_on, branches_on, never_against, found_on, told_on}
use Rattle.relay_core.proofs.world.World.step.Goals as goal

pub returns-clause-told : goal.returns-clause-told
returns-clause-told g c = told_on g.D.Digester.digest_of c.handle.result c.args.self.now c.handle.new.self (act_of c.args.act)
    c.handle.ensures.outcome c.handle.ensures.next

pub returns-clause-stands : goal.returns-clause-stands
returns-clause-stands g c =
    let H = g.D.Digester.digest_of in
    let w : WorldState = c.args.self.now in
    let v : WorldState = c.handle.new.self in
    let act = act_of c.args.act in
    on_ok c.handle.result (v ≡ next_world H w act) ((begun : Begun) (acts : List WorldAct) → StandsForActs H begun acts w
    → StandsForActs H begun (acts ++ act ∷ []) v) c.handle.ensures.next
    (λ is. stands_on H w v act c.check_act.ensures is)

pub returns-clause-branches : goal.returns-clause-branches
returns-clause-branches g c =
    let H = g.D.Digester.digest_of in
    let w : WorldState = c.args.self.now in
    let v : WorldState = c.handle.new.self in
    let act = act_of c.args.act in
    on_ok c.handle.result (v ≡ next_world H w act) ((begun : Begun) (acts : List WorldAct) → StandsForActs H begun acts w
    → AreOnBranches H begun (acts ++ act ∷ []) v) c.handle.ensures.next
    (λ is. branches_on H g.met.D.Digester.has_32_bytes w v act c.check_act.ensures is)

pub returns-clause-accepted : goal.returns-clause-accepted
returns-clause-accepted g c = λ begun acts stands. never_against g.D.Digester.digest_of g.met.D.Digester.has_32_bytes c.args.self.now begun
    acts stands

pub returns-clause-found : goal.returns-clause-found
returns-clause-found g c = found_on g.D.Digester.digest_of c.handle.result g.met.D.Digester.has_32_bytes c.args.self.now (act_of c.args.act)
    c.handle.ensures.outcome
