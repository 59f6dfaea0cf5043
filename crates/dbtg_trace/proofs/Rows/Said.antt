-- What is said after an arrow, and by a trace.
use Rattle.std.specs.Prelude.{◌≡◌, refl, List, [], ◌∷◌, Some, None, codes}
use Rattle.std.specs.Fmt.{digits}
use Rattle.dbtg_unit.proofs.Rows.Defined.Schemas.{shop}
use Rattle.dbtg_cells.specs.declared.key.Value.TheVariants.{Num, Text}
use Rattle.dbtg_unit.specs.declared.statement.Statement.TheVariants.{Get, Keep}
use Rattle.dbtg_unit.specs.declared.unit.Cause.TheVariants.{NoCurrentOfRunUnit}
use Rattle.dbtg_unit.specs.declared.unit.Entry.{Entry}
use Rattle.dbtg_unit.specs.declared.unit.Status.TheVariants.{Done, Refused}
use Rattle.dbtg_script.specs.Lines.{lines}
use Rattle.dbtg_script.specs.Tokens.{into, onto, tokens}
use Rattle.dbtg_trace.specs.Answers.{answer_in}
use Rattle.dbtg_trace.specs.Parts.{arrow_at}
use Rattle.dbtg_trace.specs.Laws.{all_said}
use Rattle.dbtg_trace.specs.Printing.{trace_lines}
use Rattle.dbtg_trace.specs.Traces.{trace}

status_alone : answer_in shop (codes " 0307") ≡ Some (record { status = 307; key = None; items = None })
unfolding tokens onto into
status_alone = refl

key_alone : answer_in shop (codes " 0000 ITEM:7.2") ≡ Some (record { status = 0; key = Some (record { rtype = 2; number = 7; generation = 2 }); items = None })
unfolding tokens onto into
key_alone = refl

all_items : answer_in shop (codes " 0000 ITEM:1 PART=\"A \" QTY=005")
    ≡ Some (record { status = 0; key = Some (record { rtype = 2; number = 1; generation = 1 }); items = Some (Text (codes "A   ") ∷ Num 5 ∷ []) })
unfolding tokens onto into
all_items = refl

one_item_missing : answer_in shop (codes " 0000 ITEM:1 PART=\"A\"") ≡ None
unfolding tokens onto into
one_item_missing = refl

another_order : answer_in shop (codes " 0000 ITEM:1 QTY=5 PART=\"A\"") ≡ None
unfolding tokens onto into
another_order = refl

items_of_another_type : answer_in shop (codes " 0000 ORDR:1 PART=\"A\" QTY=5") ≡ None
unfolding tokens onto into
items_of_another_type = refl

items_without_a_key : answer_in shop (codes " 0000 PART=\"A\" QTY=5") ≡ None
unfolding tokens onto into
items_without_a_key = refl

too_great : answer_in shop (codes " 0000 ITEM:1 PART=\"A\" QTY=1000") ≡ None
unfolding tokens onto into
too_great = refl

one_word_more : answer_in shop (codes " 0000 ITEM:1 PART=\"A\" QTY=5 5") ≡ None
unfolding tokens onto into
one_word_more = refl

three_digits : answer_in shop (codes " 307") ≡ None
unfolding tokens onto into
three_digits = refl

five_digits : answer_in shop (codes " 00307") ≡ None
unfolding tokens onto into
five_digits = refl

nothing : answer_in shop (codes "") ≡ None
unfolding tokens onto into
nothing = refl

no_such_key : answer_in shop (codes " 0000 ITEM:0") ≡ None
unfolding tokens onto into
no_such_key = refl

open_text : answer_in shop (codes " 0000 ITEM:1 PART=\"A") ≡ None
unfolding tokens onto into
open_text = refl

-- notes count among the lines, and say nothing
two_of_three_lines : trace shop 2 (codes "* load\n1: KEEP => 0000\n2:GET.=>0413.") ≡
    record { line = 2; unit = 1; statement = Keep; said = record { status = 0; key = None; items = None } }
    ∷ record { line = 3; unit = 2; statement = Get None; said = record { status = 413; key = None; items = None } } ∷ []
unfolding tokens onto into lines arrow_at
two_of_three_lines = refl

-- what is printed of two entries is read back
abbrev made : List Entry
made =
    record { ticket = 0; unit = 1; statement = Keep; answer = record { status = Done; key = None; items = None } }
    ∷ record { ticket = 1; unit = 2; statement = Get None; answer = record { status = Refused NoCurrentOfRunUnit; key = None; items = None } } ∷ []

printed_back : trace shop 2 (trace_lines shop (codes "KEEP" ∷ codes "GET" ∷ []) made) ≡ all_said 1 made
unfolding tokens onto into lines arrow_at digits
printed_back = refl
