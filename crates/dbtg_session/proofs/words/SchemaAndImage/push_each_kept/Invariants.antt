use Rattle.std.proofs.Common.{◌≡◌, ◌++◌, take}
use Rattle.std.specs.List.{flat_map}
use Rattle.dbtg_session.specs.UnitWords.{kept_line}
use Rattle.dbtg_session.proofs.words.SchemaAndImage.push_each_kept.Given as goal

abbrev pub invariant-loop-one : goal.invariant-loop-one
invariant-loop-one l = l.out.items ≡ l.initial.out.items ++ flat_map (kept_line l.self.schema.now l.self.image.now) (take l.one-index l.kept)
