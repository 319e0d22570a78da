use Rattle.uo_base.proofs.Walks.{Gathered}
use Rattle.uo_digest.specs.Reading.{digest_in_front}
use Rattle.state_text.proofs.reading.gather_hashes.Given as goal

abbrev pub invariant-loop : goal.invariant-loop
invariant-loop l = record { gathered : Gathered digest_in_front l.count l.counter l.fn.at l.at l.hashes.items }
