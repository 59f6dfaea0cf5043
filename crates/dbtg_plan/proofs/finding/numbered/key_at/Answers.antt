use Rattle.std.proofs.Common.{◌∙◌, ◌+◌, ap, w32, arith}
use Rattle.std.specs.Prelude.{option_map}
use Rattle.std.proofs.lemmas.Int.{to_z_pos}
use Rattle.dbtg_schema.specs.Lookups.{nth}
use Rattle.dbtg_cells.specs.Numbers.{is_used, numbers_where}
use Rattle.dbtg_unit.specs.Inside.InHand.{key_of}
use Rattle.dbtg_plan.proofs.Find.NumberedKeys.{key_at_place}
use Rattle.dbtg_plan.proofs.finding.numbered.key_at.Goals as goal

pub returns : goal.returns
returns c =
    let t = c.args.rtype in
    let numbers = c.args.extent.now.numbers in
    c.key_of.ensures
    ∙ ap (option_map (key_of numbers t)) (c.nth_live.ensures ∙ ap (λ i. nth i (numbers_where is_used numbers)) (to_z_pos w32 (c.args.place + 1) (omega arith)))
    ∙ key_at_place t numbers c.args.place
