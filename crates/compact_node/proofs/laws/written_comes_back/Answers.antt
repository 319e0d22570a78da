use Rattle.compact_node.proofs.Storing.{written_comes_back}
use Rattle.compact_node.proofs.laws.written_comes_back.Goals as goal

pub returns : goal.returns
returns c = λ H net scripts t s digests watched is history read. written_comes_back H net scripts t s digests watched is history read
