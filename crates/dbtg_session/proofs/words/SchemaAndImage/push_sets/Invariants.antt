use Rattle.std.proofs.Common.{◌≡◌, ◌++◌, drop}
use Rattle.dbtg_session.specs.UnitWords.{set_lines}
use Rattle.dbtg_session.proofs.words.SchemaAndImage.push_sets.Given as goal

abbrev pub invariant-loop-i : goal.invariant-loop-i
invariant-loop-i l =
    l.out.items ++ set_lines l.self.schema.now l.self.image.now l.unit l.i (drop l.i l.sets) ≡ l.initial.out.items ++ set_lines l.self.schema.now l.self.image.now l.unit 0 l.sets
