use Rattle.std.proofs.Common.{ℕ, List, ◌++◌, length, ap, ◌∙◌, arith}
use Rattle.message_upgrade.specs.Upgrade.{upgraded}
use Rattle.message_upgrade.proofs.Upgrading.{upgraded_long}
use Rattle.feed_upgrade.proofs.upgrader.push_frame.Goals as goal

pub push_proof-requires : goal.push_proof-requires
push_proof-requires c =
    let text = c.deref.ensures.value ∙ c.in_ok-old.ensures.text
    ∙ ap (λ (w : List ℕ). w ++ upgraded c.args.n c.args.message.now) c.new-text.ensures.items in
    omega (
      arith,
      ap (λ (w : List ℕ). length w) text,
      upgraded_long c.args.n c.args.message.now (λ i. omega (arith, c.type_inv.message i)),
      c.requires.short,
    )
