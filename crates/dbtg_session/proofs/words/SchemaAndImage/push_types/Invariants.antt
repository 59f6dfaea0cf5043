use Rattle.std.proofs.Common.{◌≡◌, ◌++◌, drop}
use Rattle.dbtg_session.specs.UnitWords.{type_lines}
use Rattle.dbtg_session.proofs.words.SchemaAndImage.push_types.Given as goal

abbrev pub invariant-loop-i : goal.invariant-loop-i
invariant-loop-i l =
    l.out.items ++ type_lines l.self.schema.now l.self.image.now l.unit l.i (drop l.i l.types) ≡ l.initial.out.items ++ type_lines l.self.schema.now l.self.image.now l.unit 0 l.types
