use Rattle.std.proofs.lemmas.Str.{IsUtf8-from_ascii}
use Rattle.report_lines.proofs.hash_text.ascii_text.Goals as goal

-- digits are UTF-8, so the other case does not come
pub unreachable-requires : goal.unreachable-requires
unreachable-requires c = c.in-Err.ensures.cases.0 (IsUtf8-from_ascii _ c.requires)
