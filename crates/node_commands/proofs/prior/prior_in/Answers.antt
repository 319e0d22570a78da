use Rattle.std.proofs.Common.{Err, inl, inr, refl, ap, ◌∙◌}
use Rattle.node_commands.proofs.StartLemmas.{not_both}
use Rattle.node_commands.proofs.prior.prior_in.Goals as goal

pub returns-in-Ok-clause-begun : goal.returns-in-Ok-clause-begun
returns-in-Ok-clause-begun g c = record {
  short = c.requires.short;
  reads = c.in-Ok.ensures.found;
  limits_are = c.in-Ok.ensures.limits;
  is = c.chain-chain.ensures.node;
}

pub returns-in-Err-NotAState-clause-begun : goal.returns-in-Err-NotAState-clause-begun
returns-in-Err-NotAState-clause-begun g c =
    let e = c.in-Err-NotAState.is ∙ ap (λ e. Err e) c.in-Err-NotAState.field-0-is in
    inr (inr (record {
      short = c.requires.short;
      none = c.read_state.ensures.none e;
      no_other =
          λ v o. not_both _ v e ((c.read_state.ensures.version v).1 o);
      is = refl;
    }))

pub returns-in-Err-Version-clause-begun : goal.returns-in-Err-Version-clause-begun
returns-in-Err-Version-clause-begun g c =
    let e = c.in-Err-Version.is ∙ ap (λ e. Err e) c.in-Err-Version.field-0-is in
    inr (inl (record {
      short = c.requires.short;
      version = c.in-Err-Version.version;
      other =
          (c.read_state.ensures.version c.in-Err-Version.version).0 e;
      is = refl;
    }))
