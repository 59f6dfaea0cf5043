use Rattle.std.proofs.Common.{◌-◌, length, refl, subst, arith}
use Rattle.std.proofs.lemmas.Option.{IfSome_then, slice_get_read}
use Rattle.std.proofs.lemmas.Result.{IfOk-weaker}
use Rattle.dbtg_unit.specs.Database.State.Belongs.{IsUnitOf, IsWithin}
use Rattle.dbtg_states.proofs.States.InHand.{maker_is, needed_are}
use Rattle.dbtg_states.proofs.looks.Places.needed_cells.Goals as goal

pub needed_by-requires-clause-of_schema : goal.needed_by-requires-clause-of_schema
needed_by-requires-clause-of_schema c =
    let found = slice_get_read c.units.result.now (length c.units.result.now) (c.args.unit - 1) c.index-units-unit.result refl (omega (arith, c.requires.numbered, c.requires.within, c.units.ensures.count)) c.index-units-unit.is in
    subst (λ s. IsUnitOf s c.index-units-unit.result) c.requires.schema
    (maker_is c.args.database.now c.requires.sound c.history-history.ensures.of c.units.result.now c.units.ensures.units c.args.unit c.index-units-unit.result found).of_schema

pub needed_by-requires-clause-within : goal.needed_by-requires-clause-within
needed_by-requires-clause-within c =
    let found = slice_get_read c.units.result.now (length c.units.result.now) (c.args.unit - 1) c.index-units-unit.result refl (omega (arith, c.requires.numbered, c.requires.within, c.units.ensures.count)) c.index-units-unit.is in
    subst (λ k. IsWithin k c.index-units-unit.result) c.requires.capacity
    (maker_is c.args.database.now c.requires.sound c.history-history.ensures.of c.units.result.now c.units.ensures.units c.args.unit c.index-units-unit.result found).within

pub returns : goal.returns
returns c =
    let found = slice_get_read c.units.result.now (length c.units.result.now) (c.args.unit - 1) c.index-units-unit.result refl (omega (arith, c.requires.numbered, c.requires.within, c.units.ensures.count)) c.index-units-unit.is in
    IfOk-weaker c.needed_by.result _ _
    (λ cells ready. IfSome_then cells ready (λ names are.
    needed_are c.args.database.now c.requires.sound c.history-history.ensures.of c.units.result.now c.units.ensures.units c.args.unit c.index-units-unit.result found
    c.args.self.now.schema.now c.args.self.now.capacity c.args.statement.now names.items c.requires.schema c.requires.capacity are))
    c.needed_by.ensures
