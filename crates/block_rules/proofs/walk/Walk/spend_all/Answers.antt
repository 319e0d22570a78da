use Rattle.std.proofs.Common.{◌≡◌, ◌∷◌, ◌++◌, [], length, ap, ◌∙◌, arith}
use Rattle.tx_codec.specs.Views.{input_of}
use Rattle.block_rules.specs.Known.{history}
use Rattle.block_rules.proofs.Passing.{left_on, external_on, found_on}
use Rattle.block_rules.proofs.walk.Walk.spend_all.Goals as goal

pub loop-input-preserved : goal.loop-input-preserved
loop-input-preserved c =
    let e : c.loop-input.input-iterator ≡ input_of c.in-Some.input ∷ c.next.new.self = c.in-Some.ensures.steps in
    let long = ap length e in
    let v = c.loop-input.invariant in
    let s = c.in_ok-spend.ensures in
    let t = c.args.t in
    let i = c.loop-input.i in
    let input = input_of c.in-Some.input in
    let before = history c.loop-input.self.made in
    let after = history c.spend.new.self.made in
    record {
      at = let at = v.at in omega (arith, at, long);
      known = s.known;
      origins = s.origins ∙ v.origins;
      named = s.named ∙ v.named;
      bills = s.bills ∙ v.bills;
      left = left_on t i input c.loop-input.input-iterator c.next.new.self before after e s.left _ v.left;
      external = external_on t i input c.loop-input.input-iterator c.next.new.self before after e s.left _ _ _ s.external v.external;
      found = found_on t i input c.loop-input.input-iterator c.next.new.self before after e s.left _ _ _
          (c.in_ok-push.ensures.items ∙ ap (λ o. c.loop-input.own.items ++ o ∷ []) s.found) v.found;
    }
