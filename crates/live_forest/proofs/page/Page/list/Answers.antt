use Rattle.std.proofs.Common.{◌≡◌, ℕ, Bool, ◌<◌, Some, true, ap, ◌∙◌, sym, subst}
use Rattle.std.specs.Prelude.{MatchOption, Option}
use Rattle.std.specs.Option.{unwrap_or}
use Rattle.uo_digest.specs.declared.digest.Digest.{Digest}
use Rattle.forest_place.specs.declared.place.Place.{Place}
use Rattle.live_forest.specs.Sets.{is_bit}
use Rattle.live_forest.specs.Pages.{PageState, IsAlone, IsBeside, when, digest_at, told}
use Rattle.live_forest.proofs.Bitmaps.{last_below}
use Rattle.live_forest.proofs.Telling.{beside_within}
use Rattle.live_forest.proofs.Letting.{page_more, told_more, IsLeftOf}
use Rattle.live_forest.proofs.page.Page.list.Goals as goal
use Rattle.live_forest.proofs.page.Page.list.Goals.{in-None, in-Some}

-- what the number meets first
met : (s : ℕ → Bool) (number : ℕ) (x : Option Place) (part : Place) → MatchOption x (IsAlone s number) (λ part. IsBeside s number part)
    → x ≡ Some part → IsBeside s number part
met s number x part is e = subst (λ y. MatchOption y (IsAlone s number) (λ part. IsBeside s number part)) e is

-- what is taken over where there is something
taken : (x : Option Digest) (d blank y : Digest) {left : Digest} → y ≡ unwrap_or x blank → left ≡ y → x ≡ Some d → left ≡ d
taken x d blank y is there some = there ∙ is ∙ ap (λ z. unwrap_or z blank) some

pub part-requires-clause-within : goal.part-requires-clause-within
part-requires-clause-within c =
    let part = c.in-Some.before in
    let is = met (is_bit c.self.inside.listed) c.args.number c.nearest.result part c.nearest.ensures c.in-Some.is in
    beside_within c.args.number part.row part.off c.requires.number is.row is.off

pub invariant_of-self-2 : goal.invariant_of-self-2
invariant_of-self-2 c =
    let p : PageState = record { listed = c.self.inside.listed; live = c.self.inside.live; cells = c.self.inside.cells.items } in
    let last : (i : ℕ) → is_bit p.listed i ≡ true → i < c.args.number =
    last_below p.listed c.args.number c.self.ranges.0.1
    (λ i low e. c.requires.last i low (ap (λ x. is_bit x.listed i) (sym c.self.view_is) ∙ e)) in
    rw c.in_ok-push.ensures.items
    (page_more p c.with-self-inside.result c.args.number _ c.self.invariant c.requires.number last c.with-self-inside.ensures)

pub returns-clause-same : goal.returns-clause-same
returns-clause-same c =
    let p : PageState = record { listed = c.self.inside.listed; live = c.self.inside.live; cells = c.self.inside.cells.items } in
    let last : (i : ℕ) → is_bit p.listed i ≡ true → i < c.args.number =
    last_below p.listed c.args.number c.self.ranges.0.1
    (λ i low e. c.requires.last i low (ap (λ x. is_bit x.listed i) (sym c.self.view_is) ∙ e)) in
    let on_left : IsLeftOf p c.args.number c.nearest.result c.match-nearest.left = elim c.match-nearest.branch [
      | in-None w ↦ subst (λ x. IsLeftOf p c.args.number x c.match-nearest.left) (sym w.in-None.is)
          (subst (λ x. MatchOption x (IsAlone (is_bit p.listed) c.args.number) (λ part. IsBeside (is_bit p.listed) c.args.number part)) w.in-None.is
          c.nearest.ensures)
      | in-Some w ↦
          let part = w.in-Some.before in
          let is = met (is_bit p.listed) c.args.number c.nearest.result part c.nearest.ensures w.in-Some.is in
          subst (λ x. IsLeftOf p c.args.number x c.match-nearest.left) (sym w.in-Some.is) (
            is,
            λ live. taken _ _ _ _ w.unwrap_or-left.ensures w.left-is
                (w.copied.ensures ∙ w.part.ensures ∙ ap (λ x. told x part.row part.off) (sym c.self.view_is)
                ∙ ap (λ b. when b (digest_at p.listed p.cells part.row part.off)) live),
          )
    ] in
    λ r o other. rw (c.in_ok-push.ensures.items, ← c.self.view_is)
    (told_more p c.with-self-inside.result c.args.number c.match-nearest.left _ c.nearest.result c.self.invariant c.self.ranges.0.1
    c.requires.number last c.with-self-inside.ensures on_left r o other)
