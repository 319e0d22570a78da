use Rattle.std.proofs.Common.{◌≡◌, ℕ, ◌-◌, length, take, get_or, ap, sym, ◌∙◌, arith}
use Rattle.std.specs.Prelude.{vec_len}
use Rattle.leaf_record.specs.Leaf.{Leaf}
use Rattle.std.proofs.lemmas.Option.{same_Some}
use Rattle.compact_node.proofs.Pending.{none_taken, one_taken}
use Rattle.compact_node.proofs.grow.take_watched.Goals as goal

pub returns-then-not-is_last : goal.returns-then-not-is_last
returns-then-not-is_last c = λ scripts leaf later e. none_taken scripts c.args.i leaf later c.args.left.now.items e
    (rw c.deref.ensures.value at c.if-not-is_last.ensures.other)

pub returns-in-Some : goal.returns-in-Some
returns-in-Some c =
    let items = c.args.left.now.items in
    let x : ℕ × Leaf = (c.in-Some.field-0-0, c.in-Some.leaf) in
    let there = rw c.deref.ensures.value at c.if-not-is_last.ensures.there in
    let len : vec_len c.args.left.now ≡ length items = c.args.left.now.ok.0 in
    let is = same_Some x _ (sym c.in-Some.is ∙ c.pop.ensures.value x (omega (arith, there.0, len))) ∙ ap (λ k. get_or items (k - 1) x) len in
    λ scripts leaf later e. one_taken scripts c.args.i leaf later items e there.0 there.1 x c.pop.new.self.items is
    (c.pop.ensures.rest ∙ ap (λ k. take (k - 1) items) len)
