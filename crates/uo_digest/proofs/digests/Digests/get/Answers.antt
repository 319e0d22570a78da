use Rattle.std.proofs.Common.{◌≡◌, ◌+◌, ◌*◌, ◌-◌, take, drop, ap, ◌∙◌, arith}
use Rattle.uo_digest.proofs.DigestLaws.{digest_within, digest_index}
use Rattle.uo_digest.proofs.digests.Digests.get.Goals as goal

pub overflow_mul-from : goal.overflow_mul-from
overflow_mul-from c = let within = digest_within _ c.self.invariant _ _ c.self.view_is c.requires in omega (arith, within, c.self.told.0)

pub overflow_add-from : goal.overflow_add-from
overflow_add-from c = let within = digest_within _ c.self.invariant _ _ c.self.view_is c.requires in omega (arith, within, c.self.told.0)

pub slice_bounds-from_bytes-end : goal.slice_bounds-from_bytes-end
slice_bounds-from_bytes-end c = let within = digest_within _ c.self.invariant _ _ c.self.view_is c.requires in omega (arith, within)

pub returns : goal.returns
returns c =
    let size : 32 * c.args.i + 32 - 32 * c.args.i ≡ 32 = omega arith in
    digest_index _ c.self.invariant _ _ c.self.view_is c.requires _
    (c.from_bytes.ensures ∙ ap (λ n. take n (drop (32 * c.args.i) c.self.inside.bytes.now)) size)
