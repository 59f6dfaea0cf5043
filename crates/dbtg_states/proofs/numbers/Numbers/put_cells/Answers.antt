use Rattle.std.proofs.Common.{◌≡◌, List, Some, length, refl, slice_get, subst, arith}
use Rattle.std.proofs.lemmas.List.{drop_all}
use Rattle.std.proofs.lemmas.Option.{slice_get_read}
use Rattle.dbtg_cells.specs.CellNumbers.{is_cell}
use Rattle.dbtg_cells.specs.declared.name.CellName.{CellName}
use Rattle.dbtg_unit.proofs.Public.{all_at, element_at}
use Rattle.dbtg_states.specs.Numbers.{IsNumberBut}
use Rattle.dbtg_states.specs.Parts.{parts_in}
use Rattle.dbtg_states.proofs.States.PutCells.{none_put, one_put}
use Rattle.dbtg_states.proofs.numbers.Numbers.put_cells.Goals as goal

pub loop-name-init : goal.loop-name-init
loop-name-init c = none_put c.args.database.now c.args.spelling.now.versions c.args.spelling.now.units c.args.self.now c.args.names.now c.args.array

pub put_cell-requires-clause-array : goal.put_cell-requires-clause-array
put_cell-requires-clause-array c = (c.loop-name.invariant.but c.requires.but.0 c.requires.but.1).is_array

pub put_cell-requires-clause-kept : goal.put_cell-requires-clause-kept
put_cell-requires-clause-kept c = (c.loop-name.invariant.but c.requires.but.0 c.requires.but.1).kept_once

pub put_cell-requires-clause-room : goal.put_cell-requires-clause-room
put_cell-requires-clause-room c = (c.loop-name.invariant.but c.requires.but.0 c.requires.but.1).room

pub loop-name-preserved : goal.loop-name-preserved
loop-name-preserved c =
    let d = c.args.database.now in
    let names = c.args.names.now in
    let i = c.loop-name.name-index in
    let name = c.name-item.result in
    let at : slice_get names i ≡ Some name = slice_get_read names (length names) i name refl (omega (arith, c.loop-name-test.true)) c.name-item.is in
    one_put d c.args.spelling.now.versions c.args.spelling.now.units c.args.self.now c.loop-name.self c.put_cell.new.self names i name c.args.array c.loop-name.number c.in_ok-number.number
    at (all_at (is_cell d.schema d.capacity) name names c.requires.cells (element_at names i name at)) c.loop-name.invariant c.in_ok-number.ensures

pub returns-clause-keeps : goal.returns-clause-keeps
returns-clause-keeps c = c.loop-name.invariant.keeps

pub returns-clause-number : goal.returns-clause-number
returns-clause-number c = λ unit h.
    let d = c.args.database.now in
    subst (λ (l : List CellName). IsNumberBut (parts_in c.args.spelling.now.versions c.args.spelling.now.units d unit) c.loop-name.self c.args.spelling.now.units l c.loop-name.number)
    (drop_all c.loop-name.name-index c.args.names.now (omega (arith, c.loop-name-test.false))) (c.loop-name.invariant.but unit h)
