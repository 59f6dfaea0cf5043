use Rattle.std.proofs.Common.{◌≡◌, None}
use Rattle.dbtg_erase.specs.Course.{IsCourse}
use Rattle.dbtg_erase.proofs.course.Course.next_of_each_record.Given as goal

abbrev pub invariant-loop-turn : goal.invariant-loop-turn
invariant-loop-turn l = record {
  course : IsCourse l.schema l.capacity l.held l.option l.key l.self;
  around : l.self.around ≡ None;
  done : l.self.done ≡ l._turn;
}
