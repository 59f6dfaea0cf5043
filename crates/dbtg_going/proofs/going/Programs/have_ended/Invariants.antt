use Rattle.std.proofs.Common.{◌≡◌, true}
use Rattle.std.specs.Prelude.{is_none}
use Rattle.std.specs.List.{list_all, range_with_len}
use Rattle.dbtg_step.specs.Core.Whole.{Making}
use Rattle.dbtg_going.specs.Turns.{statement_of}
use Rattle.dbtg_going.specs.Inside.Members.{IsUnderWay}
use Rattle.dbtg_going.proofs.going.Programs.have_ended.Given as goal

abbrev pub invariant-loop-before : goal.invariant-loop-before
invariant-loop-before l =
    (m : Making) → IsUnderWay l.self.schema.now l.self.list.now m l.members → list_all (λ u. is_none (statement_of l.self.schema.now l.self.list.now m.history u)) (range_with_len 1 l.before) ≡ true
