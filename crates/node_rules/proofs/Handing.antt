-- What an exit by `?` hands on.
use Rattle.std.proofs.Common.{◌≡◌, sym, subst}
use Rattle.std.specs.Prelude.{Result, Ok, Err, IfErr, IsErrAnd}
use Rattle.block_rules.specs.declared.fault.RuleFault.{RuleFault}

pub handed_on : {T : Type 0} (P : RuleFault → Type 0) (result : Result T RuleFault) (fault : RuleFault) → IsErrAnd result (λ e. e ≡ fault) → P fault
    → IfErr result P
handed_on P (Ok x) fault h p = tt
handed_on P (Err e) fault h p = subst P (sym h) p
