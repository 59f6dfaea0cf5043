use Rattle.std.proofs.Common.{◌≡◌, ◌<◌, ◌^◌, drop}
use Rattle.std.specs.List.{list_all}
use Rattle.dbtg_schema.specs.Texts.Spelling.{is_digit}
use Rattle.dbtg_script.specs.Printing.Spelling.{number, number_after}
use Rattle.dbtg_script.proofs.spelling.short_number.Given as goal

abbrev pub invariant-loop-b : goal.invariant-loop-b
invariant-loop-b l = record {
  below : l.n < 10 ^ l.b-index;
  digits : list_all is_digit (drop l.b-index l.text) ≡ list_all is_digit l.text;
  value : number_after l.n (drop l.b-index l.text) ≡ number l.text;
}
