-- The plans of the ports in memory, and the most bytes that one call moves.
use Rattle.std.specs.Prelude.{ℕ}
use Rattle.uo_base.specs.declared.memory.MemSource.{MemSource}
use Rattle.uo_base.specs.declared.memory.MemSink.{MemSink}
use Rattle.uo_base.specs.Plans.{Plan}

abbrev pub source_plan : MemSource → Plan
source_plan s = record { failing = s.plan.failing.items; next = s.plan.calls }

abbrev pub source_piece : MemSource → ℕ
source_piece s = s.piece

abbrev pub sink_plan : MemSink → Plan
sink_plan s = record { failing = s.plan.failing.items; next = s.plan.calls }

abbrev pub sink_piece : MemSink → ℕ
sink_piece s = s.piece
