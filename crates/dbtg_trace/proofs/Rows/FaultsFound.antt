-- The faults of lines, in their order.
use Rattle.std.specs.Prelude.{◌≡◌, refl, [], ◌∷◌, Some, None, codes}
use Rattle.dbtg_unit.proofs.Rows.Defined.Schemas.{shop}
use Rattle.dbtg_script.specs.declared.fault.Cause.TheVariants as cause
use Rattle.dbtg_script.specs.Lines.{lines}
use Rattle.dbtg_script.specs.Tokens.{into, onto, tokens}
use Rattle.dbtg_trace.specs.declared.fault.TraceCause.TheVariants.{AsInScript, NoUnit, NoArrow, NoAnswer}
use Rattle.dbtg_trace.specs.Faults.{line_faults, refusal}
use Rattle.dbtg_trace.specs.Parts.{arrow_at}

none : line_faults shop 2 0 (codes "1: GET => 0000 ITEM:1 PART=\"A   \" QTY=5") ≡ []
unfolding tokens onto into arrow_at
none = refl

from_left_to_right : line_faults shop 2 0 (codes "3: FETCH => 307") ≡ NoUnit ∷ AsInScript cause.NoStatementWord ∷ NoAnswer ∷ []
unfolding tokens onto into arrow_at
from_left_to_right = refl

no_arrow : line_faults shop 2 0 (codes "3: FETCH 307") ≡ NoUnit ∷ NoArrow ∷ []
unfolding tokens onto into arrow_at
no_arrow = refl

nothing_between : line_faults shop 2 0 (codes "1: => 0000") ≡ AsInScript cause.NoStatementWord ∷ []
unfolding tokens onto into arrow_at
nothing_between = refl

one_statement_more : line_faults shop 2 524280 (codes "1: KEEP => 0000") ≡ AsInScript cause.TooMuch ∷ []
unfolding tokens onto into arrow_at
one_statement_more = refl

a_note_behind_all : line_faults shop 2 524280 (codes "* KEEP") ≡ []
unfolding tokens onto into arrow_at
a_note_behind_all = refl

a_tab : line_faults shop 2 0 (codes "1: KEEP => 0000\t") ≡ AsInScript cause.LineNotAllowed ∷ NoAnswer ∷ []
unfolding tokens onto into arrow_at
a_tab = refl

a_tab_in_a_note : line_faults shop 2 0 (codes "*\t") ≡ AsInScript cause.LineNotAllowed ∷ []
unfolding tokens onto into arrow_at
a_tab_in_a_note = refl

-- the first line with a fault is reported
the_first_line : refusal shop 2 (codes "* load\n1: KEEP => 0\nKEEP\n") ≡ Some (record { line = 2; cause = NoAnswer })
unfolding tokens onto into lines arrow_at
the_first_line = refl

no_fault : refusal shop 2 (codes "* load\n\n1: KEEP => 0000\n") ≡ None
unfolding tokens onto into lines arrow_at
no_fault = refl
