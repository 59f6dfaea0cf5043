use Rattle.std.proofs.Common.{◌+◌, length, ◌∙◌}
use Rattle.dbtg_run.proofs.Units.Made.{table_opens}
use Rattle.dbtg_run.proofs.making.lay.Goals as goal

pub new-requires : goal.new-requires
new-requires c =
    table_opens c.args.about.now c.args.schema.now c.requires.same c.requires.sound c.requires.few _ _ _ c.in_ok-cells.cells.items (λ j. 1 + length (c.areas.ensures.areas j) + c.cell_count.ensures.count j)
    (c.as_slice.ensures.value ∙ c.in_ok-words.ensures.items_if_clones_equal (λ y h. h)) c.in_ok-slots.ensures c.in_ok-cells.ensures
