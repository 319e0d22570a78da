use Rattle.std.proofs.Common.{◌≡◌, length, true, false, sym, ap, ◌∙◌, subst, arith}
use Rattle.std.specs.List.{remove}
use Rattle.std.proofs.lemmas.List.Edits.{length-remove}
use Rattle.live_forest.specs.Sets.{is_bit}
use Rattle.live_forest.specs.Pages.{PageState, AreOfHalves, told}
use Rattle.live_forest.proofs.Letting.{page_less, way_within, told_without}
use Rattle.live_forest.proofs.page.Page.let_go.Goals as goal

pub remove-requires : goal.remove-requires
remove-requires c =
    let p : PageState = record { listed = c.self.inside.listed; live = c.self.inside.live; cells = c.self.inside.cells.items } in
    let listed : is_bit p.listed c.args.number ≡ true = ap (λ x. is_bit x.listed c.args.number) c.self.view_is ∙ c.requires.listed in
    let way = way_within p c.args.number c.make_way-out.new.cells.items c.make_way-out.result c.self.invariant c.self.ranges.0.1 listed
    c.make_way-out.ensures in
    omega (arith, way.0, c.make_way-out.new.cells.ok.0)

pub invariant_of-self : goal.invariant_of-self
invariant_of-self c =
    let p : PageState = record { listed = c.self.inside.listed; live = c.self.inside.live; cells = c.self.inside.cells.items } in
    let listed : is_bit p.listed c.args.number ≡ true = ap (λ x. is_bit x.listed c.args.number) c.self.view_is ∙ c.requires.listed in
    let spent : is_bit p.live c.args.number ≡ false = ap (λ x. is_bit x.live c.args.number) c.self.view_is ∙ c.requires.spent in
    let cells = c.make_way-out.new.cells.items in
    let out = c.make_way-out.result in
    let way = way_within p c.args.number cells out c.self.invariant c.self.ranges.0.1 listed c.make_way-out.ensures in
    let less : c.shrink.new.cells.items ≡ remove cells out = c.shrink.ensures ∙ c.remove.ensures.items in
    page_less p c.without-self-inside.result c.args.number c.shrink.new.cells.items c.self.invariant c.requires.number listed spent
    c.without-self-inside.ensures (omega (arith, ap length less, length-remove cells out way.0, way.1))

pub returns-clause-same : goal.returns-clause-same
returns-clause-same c =
    let p : PageState = record { listed = c.self.inside.listed; live = c.self.inside.live; cells = c.self.inside.cells.items } in
    let listed : is_bit p.listed c.args.number ≡ true = ap (λ x. is_bit x.listed c.args.number) c.self.view_is ∙ c.requires.listed in
    let spent : is_bit p.live c.args.number ≡ false = ap (λ x. is_bit x.live c.args.number) c.self.view_is ∙ c.requires.spent in
    let cells = c.make_way-out.new.cells.items in
    let out = c.make_way-out.result in
    let less : c.shrink.new.cells.items ≡ remove cells out = c.shrink.ensures ∙ c.remove.ensures.items in
    let halves : AreOfHalves p c.args.n = subst (λ x. AreOfHalves x c.args.n) (sym c.self.view_is) c.requires.halves in
    λ r o h. rw (← c.self.view_is)
    (ap (λ xs. told (record { listed = c.without-self-inside.result; live = p.live; cells = xs }) r o) less
    ∙ told_without p c.without-self-inside.result c.args.number cells out c.self.invariant c.self.ranges.0.1 c.requires.number listed spent
    c.without-self-inside.ensures c.make_way-out.ensures c.args.n halves r o h)
