use Rattle.std.proofs.Common.{◌∙◌, sym, ap, slice_set, option_map}
use Rattle.dbtg_cells.specs.Inside.RecordOwners.{alone}
use Rattle.dbtg_cells.proofs.OwnersAlone.{none_elsewhere}
use Rattle.dbtg_cells.proofs.record_owners.joined_by_another.Goals as goal

pub returns-in-None : goal.returns-in-None
returns-in-None c =
    let row = alone c.args.sets c.args.set c.args.owner in
    sym (none_elsewhere c.args.sets c.args.set c.args.other c.args.owner c.requires.another)
    ∙ ap (slice_set row c.args.other) (ap (option_map (λ j. j.0)) (sym c.in-None.is) ∙ c.new.view_is)
