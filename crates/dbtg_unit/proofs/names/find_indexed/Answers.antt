use Rattle.std.proofs.Common.{◌≡◌, ◌∙◌, ap, sym, None}
use Rattle.std.specs.List.{position_from}
use Rattle.indexmap.specs.IndexMap.{get}
use Rattle.dbtg_cells.specs.Names.{name_eq}
use Rattle.dbtg_unit.specs.declared.names.TheConstants.{NAMES_IN_PLACE}
use Rattle.dbtg_unit.specs.Inside.HeldNames.{key_eq, past}
use Rattle.dbtg_unit.proofs.Hands.Holding.IndexOfNames.{found_in_place}
use Rattle.dbtg_unit.proofs.names.find_indexed.Goals as goal

pub returns-in-None : goal.returns-in-None
returns-in-None c =
    let name = c.args.name.now in
    let nowhere : past NAMES_IN_PLACE (position_from (name_eq name) 0 c.args.names.now) ≡ None = sym (c.requires name) ∙ ap (get key_eq c.args.index.now) (sym c.name_key.ensures) ∙ sym c.find_key.ensures ∙ c.in-None.is in
    c.find_name-in-None.ensures ∙ found_in_place NAMES_IN_PLACE name c.args.names.now nowhere
