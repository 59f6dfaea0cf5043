use Rattle.std.proofs.Common.{◌≡◌, ℕ, List, map, take}
use Rattle.dbtg_program.specs.Sentences.{paragraph_at}
use Rattle.dbtg_program.specs.Inside.Gathered.{leads_to}
use Rattle.dbtg_program.specs.Inside.Views.{view_holding}
use Rattle.dbtg_program.proofs.text.paragraphs_of.Given as goal

abbrev pub invariant-loop-i : goal.invariant-loop-i
invariant-loop-i l = (name : List ℕ) → leads_to l.places name ≡ paragraph_at (map view_holding (take l.i l.sentences)) name
