use Rattle.std.proofs.Common.{◌≡◌, take}
use Rattle.std.specs.Prelude.{flat_map}
use Rattle.dbtg_forms.specs.Forms.{vertex_numbers}
use Rattle.dbtg_forms.proofs.spelling.spelling.Given as goal

abbrev pub invariant-loop-vertex : goal.invariant-loop-vertex
invariant-loop-vertex l = l.numbers.items ≡ flat_map (vertex_numbers l.graph l.vertex-items) (take l.vertex-index l.vertex-items)
