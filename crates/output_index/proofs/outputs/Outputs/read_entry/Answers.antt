use Rattle.std.proofs.Common.{Some, sym, ap, subst, ◌∙◌}
use Rattle.std.specs.Prelude.{option_map, not}
use Rattle.std.proofs.lemmas.Bool.{OnTrue_from}
use Rattle.output_index.specs.declared.entry.Entry.{Entry}
use Rattle.output_index.specs.Entries.{held_in}
use Rattle.output_index.specs.Links.{mark_in}
use Rattle.output_index.specs.Forgetting.{IsOldest, IsRead}
use Rattle.output_index.proofs.Holding.{spent_held}
use Rattle.output_index.proofs.Forgetting.{mark-in, oldest_from}
use Rattle.output_index.proofs.outputs.Outputs.read_entry.Goals as goal

pub at-entry-requires : goal.at-entry-requires
at-entry-requires c = spent_held c.args.number c.self.inside.entries c.args.self.now c.self.view_is c.self.invariant.rising c.requires

pub returns : goal.returns
returns c =
    let n = c.args.number in
    let es = c.self.inside.entries in
    let e : Entry = c.at-entry.result.now in
    let m = c.mark.result in
    subst (λ hs. IsRead hs n (record { mark = m; oldest = c.is_none.result })) c.self.view_is (record {
      mark = mark-in n es ∙ (ap (option_map mark_in) c.at-entry.ensures ∙ ap Some (sym c.mark.ensures));
      oldest = OnTrue_from c.is_none.result (IsOldest (held_in es) n m)
          (λ t. subst (λ k. IsOldest (held_in es) n k) (sym c.mark.ensures)
          (oldest_from n e es c.self.invariant.older c.at-entry.ensures (c.is_none.ensures ∙ ap not t)));
    })
