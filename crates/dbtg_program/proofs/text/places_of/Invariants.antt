use Rattle.std.proofs.Common.{◌≡◌, ℕ, List, take}
use Rattle.dbtg_program.specs.Sentences.{field_named}
use Rattle.dbtg_program.specs.Inside.Gathered.{leads_to}
use Rattle.dbtg_program.proofs.text.places_of.Given as goal

abbrev pub invariant-loop-i : goal.invariant-loop-i
invariant-loop-i l = (name : List ℕ) → leads_to l.places name ≡ field_named (take l.i l.fields) name
