use Rattle.std.proofs.Common.{◌∙◌, ap}
use Rattle.dbtg_cells.specs.Inside.MemberLists.{members_of}
use Rattle.dbtg_cells.proofs.ring.Ring.copy.Goals as goal

pub invariant_of-result : goal.invariant_of-result
invariant_of-result c = λ absent. ap members_of c.in_ok-list.ensures ∙ c.self.invariant absent
