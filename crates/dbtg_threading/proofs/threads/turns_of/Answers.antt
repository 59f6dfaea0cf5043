use Rattle.std.proofs.Common.{◌≡◌, ◌∙◌, map, subst, sym}
use Rattle.dbtg_unit.specs.declared.unit.Entry.{Entry}
use Rattle.dbtg_threading.specs.Inside.Between.{AreBetween}
use Rattle.dbtg_threading.proofs.threads.turns_of.Goals as goal

pub returns-clause-none : goal.returns-clause-none
returns-clause-none c between is =
    let units : c.as_slice.result.now ≡ map (λ (e : Entry). e.unit) c.args.history.now = c.as_slice.ensures.value ∙ c.in_ok-turns.ensures in
    c.in-None.ensures.none between (subst (λ us. AreBetween c.args.around c.args.units us between) (sym units) is)
