use Rattle.std.proofs.Common.{◌≡◌, take}
use Rattle.dbtg_script.specs.Printing.Texts.{units_text}
use Rattle.dbtg_script.proofs.texts.units_text.Given as goal

abbrev pub invariant-loop-unit : goal.invariant-loop-unit
invariant-loop-unit l = l.out.items ≡ units_text l.schema (take l.unit-index l.units)
