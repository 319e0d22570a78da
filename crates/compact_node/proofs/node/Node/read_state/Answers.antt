use Rattle.std.proofs.Common.{◌≡◌, Err, ap}
use Rattle.std.specs.Prelude.{IsErrOf}
use Rattle.compact_node.proofs.node.Node.read_state.Goals as goal

-- the same error of a result of another type
same_err : {T U E : Type 0} (a b : E) → IsErrOf {T = T} (Err a) b → IsErrOf {T = U} (Err a) b
same_err a b e = let h : a ≡ b = cc in ap Err h

pub returns-in-Err-clause-version : goal.returns-in-Err-clause-version
returns-in-Err-clause-version g c = λ v. let h = c.in-Err.ensures.version v in (λ e. h.0 (same_err _ _ e), λ of. same_err _ _ (h.1 of))
