use Rattle.std.proofs.Common.{rules, not}
use Rattle.std.proofs.lemmas.List.Sorted.{IsPartitionPoint-from_clause}
use Rattle.dbtg_cells.specs.Inside.ByCalc.{is_behind, stands_before}
use Rattle.dbtg_cells.proofs.Rising.{parted, point_place}
use Rattle.dbtg_cells.proofs.CalcOrder.{behind_up}
use Rattle.dbtg_cells.proofs.by_calc.place_of.Goals as goal

pub returns-clause-at : goal.returns-clause-at
returns-clause-at c =
    let numbers = c.args.numbers.now in
    let listed = c.args.listed.now in
    let test = is_behind numbers (c.args.values.now, c.args.number) in
    let cut = parted (stands_before numbers) test (behind_up numbers (c.args.values.now, c.args.number)) listed c.requires in
    let point = IsPartitionPoint-from_clause (λ y. not (test y)) _ _ c.partition_point.ensures.partitioned cut (λ a r q k. search rules) in
    point_place test listed c.partition_point.result c.partition_point.ensures.bound point.0 point.1
