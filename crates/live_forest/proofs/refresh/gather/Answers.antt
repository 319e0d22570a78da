use Rattle.std.proofs.Common.{◌<◌, List, length, take, drop, get_or, Option, None, sym, ap, ◌∙◌, arith}
use Rattle.std.specs.Prelude.{map, option_copied}
use Rattle.std.proofs.lemmas.List.{get_or_append_left, get_or-take, length-map, length-take-le, take-map}
use Rattle.uo_digest.specs.declared.digest.Digest.{Digest}
use Rattle.live_forest.proofs.refresh.gather.Goals as goal

pub returns-clause-beside : goal.returns-clause-beside
returns-clause-beside g c =
    let found = c.find_beside-rows.new.beside in
    let rows = c.find_beside-rows.result in
    let all = c.find_beside-rows.ensures.beside in
    record {
      within = all.within;
      last = all.last;
      is = λ row lt.
          let long = length-take-le rows found (omega (arith, c.find_beside-rows.ensures.forty, c.find_beside-rows.ensures.few)) in
          let read = c.read_all.ensures in
          let some : row < length c.read_all.new.digests =
          omega (arith, lt, long, ap length read, length-map (take rows found) option_copied) in
          get_or_append_left c.read_all.new.digests (drop rows c.args.siblings.now) None row some
          ∙ ap (λ (xs : List (Option Digest)). get_or xs row None) (read ∙ sym (take-map option_copied rows found))
          ∙ get_or-take rows (map option_copied found) row None lt ∙ all.is row lt;
    }
