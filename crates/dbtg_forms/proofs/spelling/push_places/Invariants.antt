use Rattle.std.proofs.Common.{◌≡◌, ◌++◌, take}
use Rattle.std.specs.Prelude.{map}
use Rattle.dbtg_forms.specs.Forms.{place}
use Rattle.dbtg_forms.proofs.spelling.push_places.Given as goal

abbrev pub invariant-loop-vertex : goal.invariant-loop-vertex
invariant-loop-vertex l = l.out.items ≡ l.initial.out.items ++ map (place l.order) (take l.vertex-index l.vertices)
