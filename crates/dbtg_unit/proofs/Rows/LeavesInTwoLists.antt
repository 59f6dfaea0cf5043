-- DELETE, where an optional member stands in two lists.
-- What is expected was worked out by hand, from the rule that stands above each.
use Rattle.std.specs.Prelude.{◌≡◌, refl, ℕ, List, drop, [], ◌∷◌, ◌++◌, Some, None}
use Rattle.dbtg_cells.specs.declared.key.Owner.TheVariants.{Rec}
use Rattle.dbtg_cells.specs.declared.key.Value.TheVariants.{Num}
use Rattle.dbtg_cells.specs.declared.usage.Mode.TheVariants.{Update}
use Rattle.dbtg_unit.specs.declared.statement.Erase.TheVariants.{Plain, Only, Selective, All}
use Rattle.dbtg_unit.specs.declared.statement.Form.TheVariants.{Key}
use Rattle.dbtg_unit.specs.declared.statement.Statement.TheVariants.{OpenArea, Insert, Remove, Delete, Keep}
use Rattle.dbtg_unit.specs.declared.statement.Statement.{Statement}
use Rattle.dbtg_unit.specs.declared.unit.Cause.TheVariants.{Mandatory, OwnerHasMembers}
use Rattle.dbtg_unit.specs.Database.Statements.Effect.{effect}
use Rattle.dbtg_unit.specs.Database.State.Image.{image_of}
use Rattle.dbtg_unit.proofs.Rows.Words.{find, store, by, owner_itself, done, found, no, run, unit, key}
use Rattle.dbtg_unit.proofs.Rows.Defined.OwnSchemas.{wood, roots, branches, leaves, bears, sheds, binds, tree}
use Rattle.dbtg_unit.specs.Database.Laws.Replay.{opening_state, state_after}

-- LEAF:1 is in one list, LEAF:2 in two by optional classes, LEAF:3 in one as optional and in one as mandatory, LEAF:4 in one; all
-- owners are below ROOT:1, which is current of run-unit. All but LEAF:3 are kept
abbrev pub leaves_in_two_lists : List (ℕ × Statement)
leaves_in_two_lists =
    by 1 (
    OpenArea wood Update ∷ store roots (Num 1 ∷ []) ∷ store branches (Num 1 ∷ []) ∷ store leaves (Num 1 ∷ [])
    ∷ store leaves (Num 2 ∷ []) ∷ Insert sheds ∷ store leaves (Num 3 ∷ []) ∷ Insert binds ∷ Remove binds
    ∷ store leaves (Num 4 ∷ []) ∷ Remove bears ∷ Insert sheds ∷ Keep ∷ find (Key (key leaves 2)) ∷ Keep
    ∷ find (Key (key leaves 1)) ∷ Keep ∷ find (Key (key branches 1)) ∷ Keep ∷ find (Key (key roots 1)) ∷ Keep ∷ [])

leaves_in_two_lists_answers : (run tree 4 1 leaves_in_two_lists).answers
    ≡ done ∷ found (key roots 1) ∷ found (key branches 1) ∷ found (key leaves 1) ∷ found (key leaves 2) ∷ done
    ∷ found (key leaves 3) ∷ done ∷ no Mandatory ∷ found (key leaves 4) ∷ done ∷ done ∷ done
    ∷ found (key leaves 2) ∷ done ∷ found (key leaves 1) ∷ done ∷ found (key branches 1) ∷ done
    ∷ found (key roots 1) ∷ done ∷ []
unfolding effect image_of
leaves_in_two_lists_answers = refl

leaves_in_two_lists_lists : (run tree 4 1 leaves_in_two_lists).lists
    ≡ ((Rec (key roots 1), key branches 1 ∷ []) ∷ [])
    ∷ ((Rec (key branches 1), key leaves 1 ∷ key leaves 2 ∷ key leaves 3 ∷ []) ∷ [])
    ∷ ((Rec (key roots 1), key leaves 2 ∷ key leaves 4 ∷ []) ∷ [])
    ∷ ((Rec (key branches 1), key leaves 3 ∷ []) ∷ [])
    ∷ []
unfolding effect image_of
leaves_in_two_lists_lists = refl

leaves_in_two_lists_units : (run tree 4 1 leaves_in_two_lists).units
    ≡ unit 1 (Some (key roots 1)) (Some (key roots 1) ∷ Some (key branches 1) ∷ Some (key leaves 1) ∷ [])
    (owner_itself (key roots 1) ∷ owner_itself (key branches 1) ∷ owner_itself (key roots 1) ∷ owner_itself (key branches 1) ∷ [])
    (Some (key roots 1) ∷ []) (Some Update ∷ []) ((key roots 1, 1) ∷ (key branches 1, 1) ∷ (key leaves 1, 1) ∷ (key leaves 2, 2) ∷ (key leaves 4, 3) ∷ [])
    ∷ []
unfolding effect image_of
leaves_in_two_lists_units = refl

leaves_in_two_lists_versions : (image_of tree 4 (state_after tree 4 (opening_state tree 1) leaves_in_two_lists).database).versions
    ≡ (key roots 1, 1) ∷ (key branches 1, 1) ∷ (key leaves 1, 1) ∷ (key leaves 2, 2) ∷ (key leaves 3, 2)
    ∷ (key leaves 4, 3) ∷ []
unfolding effect image_of
leaves_in_two_lists_versions = refl

-- the plain form is refused, and nothing changes
abbrev pub plain_is_refused : List (ℕ × Statement)
plain_is_refused =
    leaves_in_two_lists ++ by 1 (
    Delete Plain ∷ [])

plain_is_refused_answers : drop 21 (run tree 4 1 plain_is_refused).answers
    ≡ no OwnerHasMembers ∷ []
unfolding effect image_of
plain_is_refused_answers = refl

plain_is_refused_units : (run tree 4 1 plain_is_refused).units
    ≡ unit 1 (Some (key roots 1)) (Some (key roots 1) ∷ Some (key branches 1) ∷ Some (key leaves 1) ∷ [])
    (owner_itself (key roots 1) ∷ owner_itself (key branches 1) ∷ owner_itself (key roots 1) ∷ owner_itself (key branches 1) ∷ [])
    (Some (key roots 1) ∷ []) (Some Update ∷ []) ((key roots 1, 1) ∷ (key branches 1, 1) ∷ (key leaves 1, 1) ∷ (key leaves 2, 2) ∷ (key leaves 4, 3) ∷ [])
    ∷ []
unfolding effect image_of
plain_is_refused_units = refl

plain_is_refused_versions : (image_of tree 4 (state_after tree 4 (opening_state tree 1) plain_is_refused).database).versions
    ≡ (key roots 1, 1) ∷ (key branches 1, 1) ∷ (key leaves 1, 1) ∷ (key leaves 2, 2) ∷ (key leaves 3, 2)
    ∷ (key leaves 4, 3) ∷ []
unfolding effect image_of
plain_is_refused_versions = refl

-- ONLY takes the branch, and the leaf that is mandatory in a list of it. The others are taken out of their lists; each has its next
-- version, once, and the kept list knows it; nothing is kept of the record itself; of other records that went, the old version is kept
abbrev pub only_takes_mandatory : List (ℕ × Statement)
only_takes_mandatory =
    leaves_in_two_lists ++ by 1 (
    Delete Only ∷ [])

only_takes_mandatory_answers : drop 21 (run tree 4 1 only_takes_mandatory).answers
    ≡ done ∷ []
unfolding effect image_of
only_takes_mandatory_answers = refl

only_takes_mandatory_lists : (run tree 4 1 only_takes_mandatory).lists
    ≡ ([])
    ∷ ([])
    ∷ ([])
    ∷ ([])
    ∷ []
unfolding effect image_of
only_takes_mandatory_lists = refl

only_takes_mandatory_units : (run tree 4 1 only_takes_mandatory).units
    ≡ unit 1 None (Some (key roots 1) ∷ Some (key branches 1) ∷ Some (key leaves 1) ∷ [])
    (owner_itself (key roots 1) ∷ owner_itself (key branches 1) ∷ owner_itself (key roots 1) ∷ owner_itself (key branches 1) ∷ [])
    (Some (key roots 1) ∷ []) (Some Update ∷ []) ((key branches 1, 1) ∷ (key leaves 1, 2) ∷ (key leaves 2, 3) ∷ (key leaves 4, 4) ∷ [])
    ∷ []
unfolding effect image_of
only_takes_mandatory_units = refl

only_takes_mandatory_versions : (image_of tree 4 (state_after tree 4 (opening_state tree 1) only_takes_mandatory).database).versions
    ≡ (key leaves 1, 2) ∷ (key leaves 2, 3) ∷ (key leaves 4, 4) ∷ []
unfolding effect image_of
only_takes_mandatory_versions = refl

only_takes_mandatory_last : (image_of tree 4 (state_after tree 4 (opening_state tree 1) only_takes_mandatory).database).last
    ≡ (1 ∷ 0 ∷ 0 ∷ 0 ∷ []) ∷ (1 ∷ 0 ∷ 0 ∷ 0 ∷ []) ∷ (1 ∷ 1 ∷ 1 ∷ 1 ∷ []) ∷ []
unfolding effect image_of
only_takes_mandatory_last = refl

only_takes_mandatory_next : (run tree 4 1 only_takes_mandatory).next
    ≡ 1 ∷ 1 ∷ 3 ∷ []
unfolding effect image_of
only_takes_mandatory_next = refl

-- SELECTIVE takes the optional leaves of one list as well; the one in two lists stays, although both owners go
abbrev pub selective_spares_the_shared : List (ℕ × Statement)
selective_spares_the_shared =
    leaves_in_two_lists ++ by 1 (
    Delete Selective ∷ [])

selective_spares_the_shared_answers : drop 21 (run tree 4 1 selective_spares_the_shared).answers
    ≡ done ∷ []
unfolding effect image_of
selective_spares_the_shared_answers = refl

selective_spares_the_shared_lists : (run tree 4 1 selective_spares_the_shared).lists
    ≡ ([])
    ∷ ([])
    ∷ ([])
    ∷ ([])
    ∷ []
unfolding effect image_of
selective_spares_the_shared_lists = refl

selective_spares_the_shared_units : (run tree 4 1 selective_spares_the_shared).units
    ≡ unit 1 None (Some (key roots 1) ∷ Some (key branches 1) ∷ Some (key leaves 1) ∷ [])
    (owner_itself (key roots 1) ∷ owner_itself (key branches 1) ∷ owner_itself (key roots 1) ∷ owner_itself (key branches 1) ∷ [])
    (Some (key roots 1) ∷ []) (Some Update ∷ []) ((key branches 1, 1) ∷ (key leaves 1, 1) ∷ (key leaves 2, 3) ∷ (key leaves 4, 3) ∷ [])
    ∷ []
unfolding effect image_of
selective_spares_the_shared_units = refl

selective_spares_the_shared_versions : (image_of tree 4 (state_after tree 4 (opening_state tree 1) selective_spares_the_shared).database).versions
    ≡ (key leaves 2, 3) ∷ []
unfolding effect image_of
selective_spares_the_shared_versions = refl

selective_spares_the_shared_next : (run tree 4 1 selective_spares_the_shared).next
    ≡ 1 ∷ 1 ∷ 1 ∷ []
unfolding effect image_of
selective_spares_the_shared_next = refl

-- ALL takes every member
abbrev pub all_takes_all : List (ℕ × Statement)
all_takes_all =
    leaves_in_two_lists ++ by 1 (
    Delete All ∷ [])

all_takes_all_answers : drop 21 (run tree 4 1 all_takes_all).answers
    ≡ done ∷ []
unfolding effect image_of
all_takes_all_answers = refl

all_takes_all_lists : (run tree 4 1 all_takes_all).lists
    ≡ ([])
    ∷ ([])
    ∷ ([])
    ∷ ([])
    ∷ []
unfolding effect image_of
all_takes_all_lists = refl

all_takes_all_units : (run tree 4 1 all_takes_all).units
    ≡ unit 1 None (Some (key roots 1) ∷ Some (key branches 1) ∷ Some (key leaves 1) ∷ [])
    (owner_itself (key roots 1) ∷ owner_itself (key branches 1) ∷ owner_itself (key roots 1) ∷ owner_itself (key branches 1) ∷ [])
    (Some (key roots 1) ∷ []) (Some Update ∷ []) ((key branches 1, 1) ∷ (key leaves 1, 1) ∷ (key leaves 2, 2) ∷ (key leaves 4, 3) ∷ [])
    ∷ []
unfolding effect image_of
all_takes_all_units = refl

all_takes_all_versions : (image_of tree 4 (state_after tree 4 (opening_state tree 1) all_takes_all).database).versions
    ≡ []
unfolding effect image_of
all_takes_all_versions = refl

all_takes_all_next : (run tree 4 1 all_takes_all).next
    ≡ 1 ∷ 1 ∷ 1 ∷ []
unfolding effect image_of
all_takes_all_next = refl

-- where only the branch goes, the shared leaf stays in the list of the root
abbrev pub one_owner_goes : List (ℕ × Statement)
one_owner_goes =
    leaves_in_two_lists ++ by 1 (
    find (Key (key branches 1)) ∷ Delete Selective ∷ [])

one_owner_goes_answers : drop 21 (run tree 4 1 one_owner_goes).answers
    ≡ found (key branches 1) ∷ done ∷ []
unfolding effect image_of
one_owner_goes_answers = refl

one_owner_goes_lists : (run tree 4 1 one_owner_goes).lists
    ≡ ((Rec (key roots 1), []) ∷ [])
    ∷ ([])
    ∷ ((Rec (key roots 1), key leaves 2 ∷ key leaves 4 ∷ []) ∷ [])
    ∷ ([])
    ∷ []
unfolding effect image_of
one_owner_goes_lists = refl

one_owner_goes_versions : (image_of tree 4 (state_after tree 4 (opening_state tree 1) one_owner_goes).database).versions
    ≡ (key roots 1, 1) ∷ (key leaves 2, 3) ∷ (key leaves 4, 3) ∷ []
unfolding effect image_of
one_owner_goes_versions = refl
