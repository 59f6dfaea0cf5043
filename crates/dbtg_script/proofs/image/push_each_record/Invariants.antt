use Rattle.std.proofs.Common.{◌≡◌, ◌++◌, take}
use Rattle.dbtg_script.specs.Printing.Texts.{records_text}
use Rattle.dbtg_script.proofs.image.push_each_record.Given as goal

abbrev pub invariant-loop-entry : goal.invariant-loop-entry
invariant-loop-entry l = l.out.items ≡ l.initial.out.items ++ records_text l.schema (take l.entry-index l.records)
