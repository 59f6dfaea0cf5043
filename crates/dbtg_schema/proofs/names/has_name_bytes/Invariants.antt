use Rattle.std.proofs.Common.{◌≡◌, drop}
use Rattle.std.specs.List.{list_all}
use Rattle.dbtg_schema.specs.Texts.Spelling.{is_name_byte}
use Rattle.dbtg_schema.proofs.names.has_name_bytes.Given as goal

abbrev pub invariant-loop-b : goal.invariant-loop-b
invariant-loop-b l = list_all is_name_byte (drop l.b-index l.word) ≡ list_all is_name_byte l.word
