use Rattle.std.proofs.Common.{◌<◌, length, subst, sym, arith}
use Rattle.proof_shape.specs.Shape.{IsFaultBy}
use Rattle.proof_shape.specs.declared.fault.ShapeFault.TheVariants.{Outside}
use Rattle.proof_shape.specs.Found.{IsSoundLength, IsFaultAt}
use Rattle.proof_shape.proofs.Faulty.{place_fault, fault_from, outside_from, whole}
use Rattle.proof_shape.proofs.wrong.fault_named.Goals as goal

pub returns-then-sound-len : goal.returns-then-sound-len
returns-then-sound-len c =
    let n = c.args.n in
    let xs = c.args.numbers.now in
    let ps = c.in_ok-places.places.items in
    let k = c.in_ok-sound.sound in
    let sound = subst (λ l. IsSoundLength n l k) c.deref.ensures.value c.in_ok-sound.ensures in
    let found = subst (λ l. IsFaultAt l k c.fault_at.result) c.deref-then-sound-len.ensures.value c.fault_at.ensures in
    fault_from c.args.naming n (omega (arith, c.requires.small)) xs ps c.in_ok-places.ensures c.fault_at.result
    (place_fault n ps (length xs) k c.fault_at.result (omega (arith, c.if-sound-len.true, c.len.ensures)) sound.sound found)

pub returns : goal.returns
returns c =
    let n = c.args.n in
    let xs = c.args.numbers.now in
    let ps = c.in_ok-places.places.items in
    let k = c.in_ok-sound.sound in
    let sound = subst (λ l. IsSoundLength n l k) c.deref.ensures.value c.in_ok-sound.ensures in
    let top : k < length ps → ⊥ = λ lt. omega (arith, lt, c.if-sound-len.false, c.len.ensures) in
    let w = whole n ps k sound top in
    subst (λ i. IsFaultBy c.args.naming n xs (Outside i)) (sym w.0)
    (outside_from c.args.naming n (omega (arith, c.requires.small)) xs ps c.in_ok-places.ensures w.1 c.requires.none)
