-- The bytes of a script that is held, and a leaf without one.
use Rattle.std.specs.Prelude.{ℕ, List, []}
use Rattle.leaf_record.specs.Leaf.{Leaf}
use Rattle.output_index.specs.declared.script.Script.{Script}
use Rattle.output_index.specs.declared.script.Script.TheVariants.{Short, Long}

abbrev pub script_text : Script → List ℕ
script_text (Short bytes) = bytes.items
script_text (Long bytes) = bytes.items

abbrev pub without_script : Leaf → Leaf
without_script leaf = record leaf { rest = record leaf.rest { script = [] } }
