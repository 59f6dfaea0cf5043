use Rattle.std.proofs.Common.{◌≡◌, drop}
use Rattle.dbtg_forms.specs.Forms.{reached}
use Rattle.dbtg_forms.proofs.component.reach.Given as goal

abbrev pub invariant-loop-vertex : goal.invariant-loop-vertex
invariant-loop-vertex l = reached l.order.items (drop l.vertex-index l.vertices) ≡ reached l.initial.order.items l.vertices
