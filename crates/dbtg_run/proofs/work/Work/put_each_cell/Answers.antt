use Rattle.std.proofs.Common.{rules, ◌∙◌}
use Rattle.dbtg_run.proofs.work.Work.put_each_cell.Goals as goal

pub cells-preserved : goal.cells-preserved
cells-preserved c =
    let i = c.cells.invariant in let given = c.put_cell.ensures in record {
      belongs = record { about = given.same.about ∙ i.belongs.about; table = given.same.table ∙ i.belongs.table };
      same = record { about = given.same.about ∙ i.same.about; unit = given.same.unit ∙ i.same.unit; journal = given.same.journal ∙ i.same.journal; table = given.same.table ∙ i.same.table };
      work = given.work;
      exclusive = given.exclusive ∙ i.exclusive;
      held = search rules;
    }
