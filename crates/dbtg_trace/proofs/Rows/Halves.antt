-- The parts of a line: its unit, its statement, its answer.
use Rattle.std.specs.Prelude.{◌≡◌, refl, Some, None, codes}
use Rattle.dbtg_trace.specs.Parts.{arrow_at, halves, unit_named}

unit : unit_named 2 (codes "2: KEEP => 0000") ≡ Some 2
unit = refl

leading_zeros : unit_named 2 (codes "002:KEEP") ≡ Some 2
leading_zeros = refl

no_third_unit : unit_named 2 (codes "3: KEEP") ≡ None
no_third_unit = refl

no_unit_0 : unit_named 2 (codes "0: KEEP") ≡ None
no_unit_0 = refl

a_space_in_front : unit_named 2 (codes " 1: KEEP") ≡ None
a_space_in_front = refl

no_colon : unit_named 2 (codes "1") ≡ None
no_colon = refl

-- both sides lose one space next to the statement
parted : halves (codes "1: KEEP => 0000") ≡ Some (codes "KEEP", codes " 0000")
unfolding arrow_at
parted = refl

closely : halves (codes "1:KEEP=>0000") ≡ Some (codes "KEEP", codes "0000")
unfolding arrow_at
closely = refl

one_space_only : halves (codes "1:  KEEP  =>") ≡ Some (codes " KEEP ", codes "")
unfolding arrow_at
one_space_only = refl

-- an arrow inside a text does not count
behind_the_text : halves (codes "1:A \"=>\" => 1") ≡ Some (codes "A \"=>\"", codes " 1")
unfolding arrow_at
behind_the_text = refl

in_an_open_text : halves (codes "1:A \"B => 1") ≡ None
unfolding arrow_at
in_an_open_text = refl

-- the first arrow counts
two_arrows : halves (codes "1:A=>B=>C") ≡ Some (codes "A", codes "B=>C")
unfolding arrow_at
two_arrows = refl

-- a greater-than sign apart from its = is not an arrow
no_arrow : halves (codes "1: A = > 1") ≡ None
unfolding arrow_at
no_arrow = refl
