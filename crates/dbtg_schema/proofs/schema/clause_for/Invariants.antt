use Rattle.std.proofs.Common.{◌≡◌, ◌==◌, drop}
use Rattle.std.specs.List.{find}
use Rattle.dbtg_schema.proofs.schema.clause_for.Given as goal

abbrev pub invariant-loop-member : goal.invariant-loop-member
invariant-loop-member l = find (λ member. member.rtype == l.rtype) (drop l.member-index l.members) ≡ find (λ member. member.rtype == l.rtype) l.members
