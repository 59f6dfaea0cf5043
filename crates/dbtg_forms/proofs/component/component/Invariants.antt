use Rattle.std.proofs.Common.{◌≡◌}
use Rattle.dbtg_forms.specs.Graphs.{links_of}
use Rattle.dbtg_forms.specs.Forms.{reached_by}
use Rattle.dbtg_forms.proofs.component.component.Given as goal

abbrev pub invariant-loop-at : goal.invariant-loop-at
invariant-loop-at l = l.order.items ≡ reached_by (links_of l.graph) l.root l.at
