use Rattle.std.proofs.Common.{◌∙◌, ◌++◌, ◌∷◌, [], ap, reverse, arith}
use Rattle.relay_core.proofs.Lines.{put_rest, put_all}
use Rattle.relay_core.proofs.line.put.Goals as goal
use Rattle.relay_core.proofs.line.put.Goals.{then-len-gt100, else-len-gt100}

pub returns-clause-is : goal.returns-clause-is
returns-clause-is c =
    elim c.if-len-gt100.branch [
      | then-len-gt100 w ↦
          ap reverse (c.push_reserved.ensures.items
          ∙ ap (λ l. l ++ c.args.serial ∷ []) (ap (λ v. v.items) w.serials-is ∙ w.remove.ensures.by_index.2))
          ∙ put_rest c.args.serial c.args.serials.now.items (omega (arith, c.requires.few, w.if-len-gt100.true, c.len.ensures, c.args.serials.now.ok))
      | else-len-gt100 w ↦
          ap reverse (c.push_reserved.ensures.items ∙ ap (λ l. l ++ c.args.serial ∷ []) (ap (λ v. v.items) w.serials-is))
          ∙ put_all c.args.serial c.args.serials.now.items (omega (arith, w.if-len-gt100.false, c.len.ensures, c.args.serials.now.ok))
    ]
