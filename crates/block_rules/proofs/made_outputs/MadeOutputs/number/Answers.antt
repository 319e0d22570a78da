use Rattle.std.proofs.Common.{◌<◌, ℕ, Option, sym, ◌∙◌, ap, subst, arith}
use Rattle.std.specs.Prelude.{option_map}
use Rattle.std.specs.BTreeMap as tree
use Rattle.std.proofs.lemmas.List.{length-map}
use Rattle.block_rules.specs.Keys.{id_cmp}
use Rattle.block_rules.specs.Known.{named_point, leaf_at, history}
use Rattle.block_rules.proofs.Finding.{IsSought, steps_left, sought_starts, sought_some, sought_none, sought_on, sought_less, sought_found}
use Rattle.block_rules.proofs.made_outputs.MadeOutputs.number.Goals as goal

pub loop-next-init : goal.loop-next-init
loop-next-init c =
    let m = c.args.self.now in
    let all = c.requires.all in
    let long = length-map m.outputs.items (option_map (leaf_at m.origins)) in
    sought_starts m.origins.txids.items m.named.items m.newest m.known (history m) (named_point c.args.txid.now c.args.index) c.requires.front
    (omega (arith, all, long)) c.copied-next.result
    (c.copied-next.ensures ∙ (c.get.ensures.value ∙ ap (λ key. tree.get id_cmp m.newest key) c.key_of_txid.ensures))

pub number_in-requires-clause-ordered : goal.number_in-requires-clause-ordered
number_in-requires-clause-ordered c =
    let m = c.args.self.now in
    let s = sought_some m.origins.txids.items m.named.items m.newest m.known (history m) (named_point c.args.txid.now c.args.index) c.requires.front
    c.loop-next.next c.in-Some.place c.index.result.now c.in-Some.is c.loop-next.invariant c.index.ensures in
    (c.requires.front.placed c.in-Some.place c.index.result.now s.1).ordered

pub number_in-requires-clause-within : goal.number_in-requires-clause-within
number_in-requires-clause-within c =
    let m = c.args.self.now in
    let all = c.requires.all in
    let s = sought_some m.origins.txids.items m.named.items m.newest m.known (history m) (named_point c.args.txid.now c.args.index) c.requires.front
    c.loop-next.next c.in-Some.place c.index.result.now c.in-Some.is c.loop-next.invariant c.index.ensures in
    let within = (c.requires.front.placed c.in-Some.place c.index.result.now s.1).within in
    omega (arith, all, within)

pub returns-in-Some-number_in : goal.returns-in-Some-number_in
returns-in-Some-number_in c =
    let m = c.args.self.now in
    let p = named_point c.args.txid.now c.args.index in
    let s = sought_some m.origins.txids.items m.named.items m.newest m.known (history m) p c.requires.front c.loop-next.next c.in-Some.place
    c.index.result.now c.in-Some.is c.loop-next.invariant c.index.ensures in
    sought_found m.origins.txids.items m.named.items m.newest m.known (history m) p c.requires.front c.in-Some.place c.index.result.now s.0 s.1
    c.in-Some-number_in.number (sym c.in-Some-number_in.ensures)

pub loop-next-smaller : goal.loop-next-smaller
loop-next-smaller c =
    let m = c.args.self.now in
    let p = named_point c.args.txid.now c.args.index in
    let s = sought_some m.origins.txids.items m.named.items m.newest m.known (history m) p c.requires.front c.loop-next.next c.in-Some.place
    c.index.result.now c.in-Some.is c.loop-next.invariant c.index.ensures in
    subst (λ (x : Option ℕ). steps_left c.index.result.now.before < steps_left x) (sym c.in-Some.is)
    (sought_less m.origins.txids.items m.named.items m.newest m.known (history m) p c.requires.front c.in-Some.place c.index.result.now s.0 s.1)

pub loop-next-preserved : goal.loop-next-preserved
loop-next-preserved c =
    let m = c.args.self.now in
    let p = named_point c.args.txid.now c.args.index in
    let s = sought_some m.origins.txids.items m.named.items m.newest m.known (history m) p c.requires.front c.loop-next.next c.in-Some.place
    c.index.result.now c.in-Some.is c.loop-next.invariant c.index.ensures in
    sought_on m.origins.txids.items m.named.items m.newest m.known (history m) p c.requires.front c.in-Some.place c.index.result.now s.0 s.1
    (sym c.number_in.ensures ∙ c.in_default-number_in.is)

pub returns : goal.returns
returns c =
    let m = c.args.self.now in
    let p = named_point c.args.txid.now c.args.index in
    sym (ap (option_map (λ e. e.number)) (sought_none m.origins.txids.items m.named.items m.newest m.known (history m) p c.requires.front
    (subst (IsSought m.origins.txids.items m.named.items (history m) p) c.in_default.is c.loop-next.invariant)))
