use Rattle.std.proofs.Common.{Option, None, set, map, sym, ap, ◌∙◌, arith}
use Rattle.std.specs.Prelude.{option_map}
use Rattle.std.proofs.lemmas.List.{length-map, length-set, map-set}
use Rattle.block_rules.specs.KeptOutputs.{KeptOutput}
use Rattle.block_rules.specs.Known.{named_point, leaf_at, history}
use Rattle.block_rules.proofs.Finding.{told_found, told_taken, told_within}
use Rattle.block_rules.proofs.Naming.{spent_kept}
use Rattle.block_rules.proofs.made_outputs.MadeOutputs.take.Goals as goal

pub index_mut-requires : goal.index_mut-requires
index_mut-requires c =
    let m = c.args.self.now in
    let within = told_within (named_point c.args.txid.now c.args.index) (history m) c.in-Some.number c.in-Some.ensures in
    let long = length-map m.outputs.items (option_map (leaf_at m.origins)) in
    let size = m.outputs.ok.0 in
    omega (arith, within, long, size)

pub returns-in-Some-clause-found : goal.returns-in-Some-clause-found
returns-in-Some-clause-found c = c.found-found.ensures
    ∙ told_found (named_point c.args.txid.now c.args.index) (history c.args.self.now) c.in-Some.number c.in-Some.ensures

pub returns-in-Some-clause-left : goal.returns-in-Some-clause-left
returns-in-Some-clause-left c =
    let m = c.args.self.now in
    ap (λ (x : Option KeptOutput). map (option_map (leaf_at m.origins)) (set m.outputs.items c.in-Some.number x)) c.none.ensures
    ∙ (map-set (option_map (leaf_at m.origins)) m.outputs.items c.in-Some.number None
    ∙ told_taken (named_point c.args.txid.now c.args.index) (history m) c.in-Some.number c.in-Some.ensures)

pub returns-in-Some-clause-known : goal.returns-in-Some-clause-known
returns-in-Some-clause-known c =
    let m = c.args.self.now in
    let n = c.in-Some.number in
    let all = c.requires.all in
    let is = ap (λ (x : Option KeptOutput). map (option_map (leaf_at m.origins)) (set m.outputs.items n x)) c.none.ensures
    ∙ map-set (option_map (leaf_at m.origins)) m.outputs.items n None in
    record {
      front = spent_kept m.origins.txids.items m.named.items m.newest m.known (history m) _ n is c.requires.front;
      all = all ∙ sym (length-set m.outputs.items n c.none.result);
    }
