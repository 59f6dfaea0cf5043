-- The lemmas that other crates cite. All others are this crate's own, free to change.

-- LISTS AND NUMBERS

-- if each element passes a test, all do
pub use Rattle.dbtg_unit.proofs.Lists.Agreeing.{all_in}
-- tests that agree on a list: some element passes the one where one passes the other
pub use Rattle.dbtg_unit.proofs.Lists.Agreeing.{any_agrees}
-- tests that agree keep the same
pub use Rattle.dbtg_unit.proofs.Lists.Agreeing.{filter_agrees_on_list}
-- functions that agree on the elements of a list make the same joined list of it
pub use Rattle.dbtg_unit.proofs.Lists.Agreeing.{flat_map_agrees}
-- functions that agree on the elements of a list make the same of it
pub use Rattle.dbtg_unit.proofs.Lists.Agreeing.{map_agrees_on_list}
-- functions that agree on all make the same of a list
pub use Rattle.dbtg_unit.proofs.Lists.Agreeing.{map_same}
-- a test that no element passes keeps none
pub use Rattle.dbtg_unit.proofs.Lists.Agreeing.{none_pass}
-- one ascending list behind another, each element of which is below, is ascending
pub use Rattle.dbtg_unit.proofs.Lists.Ascending.{ascending_join}
-- a range of numbers is ascending
pub use Rattle.dbtg_unit.proofs.Lists.Ascending.{ascending_range}
-- the first number of a range that is kept and passes is this one, where none before it is
pub use Rattle.dbtg_unit.proofs.Lists.NoAnswer.{find_here}
-- the first number of a range that is kept and passes is none that is not kept, or does not pass
pub use Rattle.dbtg_unit.proofs.Lists.NoAnswer.{find_skipped}
-- x is an element of the list
pub use Rattle.dbtg_unit.proofs.Lists.Membership.{In}
-- what all elements of a list pass, each one of them passes
pub use Rattle.dbtg_unit.proofs.Lists.Membership.{all_at}
-- where some element of a list passes, there is one in it that does
pub use Rattle.dbtg_unit.proofs.Lists.Membership.{any_element}
-- where an element of a list passes, some element passes
pub use Rattle.dbtg_unit.proofs.Lists.Membership.{any_in}
-- the first that passes is an element of the list and passes
pub use Rattle.dbtg_unit.proofs.Lists.Membership.{find_element}
-- where none is found, no element passes
pub use Rattle.dbtg_unit.proofs.Lists.Membership.{find_none_of}
-- an element that passes is among those that are kept
pub use Rattle.dbtg_unit.proofs.Lists.Membership.{in_filter}
-- an element of what one element is mapped to is in the joined list
pub use Rattle.dbtg_unit.proofs.Lists.Membership.{in_flat_map}
-- an element of the first list is in the joined list
pub use Rattle.dbtg_unit.proofs.Lists.Membership.{in_left}
-- an element of a list, mapped, is in the mapped list
pub use Rattle.dbtg_unit.proofs.Lists.Membership.{in_map}
-- a number between the bounds is in the range
pub use Rattle.dbtg_unit.proofs.Lists.Membership.{in_range}
-- an element of the second list is in the joined list
pub use Rattle.dbtg_unit.proofs.Lists.Membership.{in_right}
-- an element of a joined list is in the first or in the second
pub use Rattle.dbtg_unit.proofs.Lists.Membership.{of_append}
-- an element of those that are kept is in the list and passes
pub use Rattle.dbtg_unit.proofs.Lists.Membership.{of_filter}
-- an element of the joined list is in what some element is mapped to
pub use Rattle.dbtg_unit.proofs.Lists.Membership.{of_flat_map}
-- an element of a mapped list comes from one of the list
pub use Rattle.dbtg_unit.proofs.Lists.Membership.{of_map}
-- a number in a range is between its bounds
pub use Rattle.dbtg_unit.proofs.Lists.Membership.{of_range}
-- where there is a value and it passes, it is that value
pub use Rattle.dbtg_unit.proofs.Lists.Membership.{some_and_value}
-- the whole as it will be, if this many entries are rewritten
pub use Rattle.dbtg_unit.proofs.Lists.Numbered.{rewritten}
-- where all entries are rewritten, the list is the whole as it will be
pub use Rattle.dbtg_unit.proofs.Lists.Numbered.{rewritten_all}
-- where one more entry is rewritten, the whole as it will be is the same
pub use Rattle.dbtg_unit.proofs.Lists.Numbered.{rewritten_next}
-- where a list has no entry at a number, nothing is left from there
pub use Rattle.dbtg_unit.proofs.Lists.SideBySide.{drop_none}
-- if each element passes, so does each that a test keeps
pub use Rattle.dbtg_unit.proofs.Lists.WithANewMember.{all_filter}
-- what holds of each pair in a list holds of each pair that a test keeps
pub use Rattle.dbtg_unit.proofs.Lists.WithANewMember.{pairwise_filter}
-- WHAT A LEGAL DATABASE HAS

-- the numbers in the value of an extent; none for any other cell
pub use Rattle.dbtg_unit.proofs.Database.Records.Determined.{extent_in}
-- the occurrence in the value of a ring; none for any other cell
pub use Rattle.dbtg_unit.proofs.Database.Records.Determined.{ring_in}
-- the stored record in the value of a slot; none for any other cell
pub use Rattle.dbtg_unit.proofs.Database.Records.Determined.{slot_in}
-- the users in the value of a usage cell; none for any other cell
pub use Rattle.dbtg_unit.proofs.Database.Records.Determined.{usage_in}
-- what a FIND finds is live
pub use Rattle.dbtg_unit.proofs.Database.Records.FoundIsLive.{found_live}
-- an element of a mapped list passes
pub use Rattle.dbtg_unit.proofs.Database.Records.ItemsAfterModify.{any_mapped}
-- items that fit their pictures still fit them after changes that fit
pub use Rattle.dbtg_unit.proofs.Database.Records.ItemsAfterModify.{changed_fit}
-- the number of a set with a member clause is one of the schema's
pub use Rattle.dbtg_unit.proofs.Database.Records.ItemsAfterModify.{set_has_number}
-- each of all the keys of a database is live
pub use Rattle.dbtg_unit.proofs.Database.Records.LiveKeys.{all_are_live}
-- a key that is an element of a list is a member of it
pub use Rattle.dbtg_unit.proofs.Database.Records.LiveKeys.{in_member}
-- the owner whose list has a record has an occurrence of the set
pub use Rattle.dbtg_unit.proofs.Database.Records.LiveKeys.{listed_has_occurrence}
-- a live key is among all the keys of the database
pub use Rattle.dbtg_unit.proofs.Database.Records.LiveKeys.{live_in_all}
-- a live key is its number's latest
pub use Rattle.dbtg_unit.proofs.Database.Records.LiveKeys.{live_is_latest}
-- a key that is a member of a list is an element of it
pub use Rattle.dbtg_unit.proofs.Database.Records.LiveKeys.{member_in}
-- a record without an owner in a set is in no list of it
pub use Rattle.dbtg_unit.proofs.Database.Records.LiveKeys.{member_nowhere}
-- the list of a record's owner has the record
pub use Rattle.dbtg_unit.proofs.Database.Records.LiveKeys.{member_of_owner}
-- a key among the live keys of a type is live and of that type
pub use Rattle.dbtg_unit.proofs.Database.Records.LiveKeys.{of_live_keys}
-- an owner with an occurrence of a set is among the set's owners
pub use Rattle.dbtg_unit.proofs.Database.Records.LiveKeys.{owner_in}
-- the owner of a record is the one whose list has it
pub use Rattle.dbtg_unit.proofs.Database.Records.LiveKeys.{owner_of_member}
-- a record in no list of a set has no owner in it
pub use Rattle.dbtg_unit.proofs.Database.Records.LiveKeys.{unlisted_has_no_owner}
-- the first of cells in order comes before the last
pub use Rattle.dbtg_unit.proofs.Database.Records.NameOrder.{name_chain}
-- no cell comes before itself
pub use Rattle.dbtg_unit.proofs.Database.Records.NameOrder.{name_never}
-- one of two cells comes first, or they are the same
pub use Rattle.dbtg_unit.proofs.Database.Records.NameOrder.{name_total}
-- if three numbers are each below the next, the first is below the last
pub use Rattle.dbtg_unit.proofs.Database.Records.NameOrder.{number_chain}
-- no number is below itself
pub use Rattle.dbtg_unit.proofs.Database.Records.NameOrder.{number_never}
-- one of two numbers is below the other, or they are equal
pub use Rattle.dbtg_unit.proofs.Database.Records.NameOrder.{number_total}
-- every entry of a list of nulls is null
pub use Rattle.dbtg_unit.proofs.Database.Records.Openings.{nothing_at}
-- the opening unit is a unit of the schema
pub use Rattle.dbtg_unit.proofs.Database.Records.Openings.{opening_unit_of_schema}
-- the opening unit is within the capacity
pub use Rattle.dbtg_unit.proofs.Database.Records.Openings.{opening_unit_within}
-- a list that has a member is there
pub use Rattle.dbtg_unit.proofs.Database.Records.OwnersFound.{member_has_list}
-- the owner of a member of a list is found
pub use Rattle.dbtg_unit.proofs.Database.Records.OwnersFound.{member_owner_found}
-- the owner that is found has the member
pub use Rattle.dbtg_unit.proofs.Database.Records.OwnersFound.{owner_has_member}
-- an owner with an occurrence stands at the place that names it
pub use Rattle.dbtg_unit.proofs.Database.Records.OwnersFound.{owner_stands_at_place}
-- what holds of each holds of the one that a look-up gives
pub use Rattle.dbtg_unit.proofs.Database.Records.SortKeysCompare.{all_at_entry}
-- the keys of two records that can be members of a set can be compared, where it is sorted
pub use Rattle.dbtg_unit.proofs.Database.Records.SortKeysCompare.{keys_compare}
-- a place in a set that is of the schema and within the capacity
pub use Rattle.dbtg_unit.proofs.Database.Records.UnitsOfSchema.{IsGoodPlace}
-- the owner of a list is of the schema and within the capacity
pub use Rattle.dbtg_unit.proofs.Database.Records.UnitsOfSchema.{list_owner_is_good}
-- a live key is of the schema and within the capacity
pub use Rattle.dbtg_unit.proofs.Database.Records.UnitsOfSchema.{live_key_is_good}
-- LEGAL DATABASES STAY LEGAL

-- the effect of a statement that fits leaves the database legal and the unit a unit of it
pub use Rattle.dbtg_unit.proofs.Database.Legal.LegalEffect.{effect_step}
-- if no number of a list passes, one in it does not
pub use Rattle.dbtg_unit.proofs.Database.Legal.LegalEffect.{no_number_passes}
-- a statement that is not refused at once passes the checks without cells that the laws need
pub use Rattle.dbtg_unit.proofs.Database.Legal.LegalEffect.{passes_without_cells}
-- what is not null has a value
pub use Rattle.dbtg_unit.proofs.Database.Legal.LegalEffect.{some_from_not_none}
-- the opening database is legal with its opening units, however many
pub use Rattle.dbtg_unit.proofs.Database.Legal.LegalHistory.{opening_is_legal}
-- a history of statements that fit leads from a legal state to a legal state, whatever its answers
pub use Rattle.dbtg_unit.proofs.Database.Legal.LegalHistory.{replay_keeps_legal}
-- the effect of a statement that fits leaves the database legal with all its units, if it was before
pub use Rattle.dbtg_unit.proofs.Database.Legal.LegalUnits.{effect_keeps_legal}
-- if each member of a list passes, all its elements do
pub use Rattle.dbtg_unit.proofs.Database.Legal.ListsChanged.{all_members}
-- a list that has a member is there
pub use Rattle.dbtg_unit.proofs.Database.Legal.ListsChanged.{member_has_a_list}
-- the outcome of a statement about a current, which passes these checks
pub use Rattle.dbtg_unit.proofs.Database.Legal.Outcomes.{on_current}
-- where checks pass, the first does not apply and the others pass
pub use Rattle.dbtg_unit.proofs.Database.Legal.PassedChecks.{first_check_passes}
-- a number that is in a range lies within its bounds
pub use Rattle.dbtg_unit.proofs.Database.Legal.PassedChecks.{number_within}
-- where the checks of two lists joined pass, those of each list pass
pub use Rattle.dbtg_unit.proofs.Database.Legal.PassedChecks.{passes_append}
-- if a check and those after it pass, it does not apply and they pass
pub use Rattle.dbtg_unit.proofs.Database.Legal.PassedChecks.{passes_check}
-- where the checks of all numbers of a list pass, those of each number do
pub use Rattle.dbtg_unit.proofs.Database.Legal.PassedChecks.{passes_each}
-- the same CALC values make the same CALC items taken
pub use Rattle.dbtg_unit.proofs.Database.Legal.SameFacts.{calc_taken_agrees}
-- the same occurrence and key have the same checks at a place
pub use Rattle.dbtg_unit.proofs.Database.Legal.SameFacts.{checks_at_agree}
-- a record is the same in two views, an occurrence, and the numbers of a type
pub use Rattle.dbtg_unit.proofs.Database.Legal.SameFacts.{SameNumbers, SameOccurrence, SameRecord}
-- an INSERT has the same checks where the record, its owner and the occurrence are the same
pub use Rattle.dbtg_unit.proofs.Database.Legal.SameFacts.{insert_checks_agree}
-- a MODIFY asks only those of its sets in which the record has an owner
pub use Rattle.dbtg_unit.proofs.Database.Legal.SameFacts.{modify_checks_agree}
-- the same record has the same checks of its own
pub use Rattle.dbtg_unit.proofs.Database.Legal.SameFacts.{own_checks_agree}
-- a REMOVE has the same checks where the record and its owner are the same
pub use Rattle.dbtg_unit.proofs.Database.Legal.SameFacts.{remove_checks_agree}
-- the places of a new record are asked only where it gets a number and its CALC items are not taken
pub use Rattle.dbtg_unit.proofs.Database.Legal.SameFacts.{store_checks_agree}
-- a list after a record was placed has it, where it joins, and its old members
pub use Rattle.dbtg_unit.proofs.Database.Legal.StoreLegal.{member_connected}
-- a record that is not live is in no list
pub use Rattle.dbtg_unit.proofs.Database.Legal.StoreLegal.{not_member}
-- LAWS OF STATEMENTS AND HISTORIES

-- a statement changes the last generation of a number only where it stores a record under that number
pub use Rattle.dbtg_unit.proofs.Database.Laws.LastGenerations.{last_or_stored}
-- where the slot of a number shows the same before and after a statement, the number's last generation is the same
pub use Rattle.dbtg_unit.proofs.Database.Laws.LastGenerations.{same_slot_same_last}
-- an element of what one element gives is among what all give
pub use Rattle.dbtg_unit.proofs.Database.Laws.LeastSets.{in_flattened}
-- the types that can be reached from a record type are it and, with each, its member types, and no more
pub use Rattle.dbtg_unit.proofs.Database.Laws.LeastSets.{reachable_is_least}
-- a set with a member clause is a set of the schema
pub use Rattle.dbtg_unit.proofs.Database.Laws.LeastSets.{set_of_member}
-- answers that hold of a history hold of its rest, from the state that its beginning leads to
pub use Rattle.dbtg_unit.proofs.Database.Laws.OneMoreEntry.{answers_behind}
-- an entry of the unit comes after its others
pub use Rattle.dbtg_unit.proofs.Database.Laws.OneMoreEntry.{entries_mine}
-- a unit's entries with one more entry
pub use Rattle.dbtg_unit.proofs.Database.Laws.OneMoreEntry.{entries_more}
-- an entry of another unit leaves the unit's as they are
pub use Rattle.dbtg_unit.proofs.Database.Laws.OneMoreEntry.{entries_other}
-- there are as many units at the beginning as are wanted
pub use Rattle.dbtg_unit.proofs.Database.Laws.OneMoreEntry.{opening_length}
-- one number more
pub use Rattle.dbtg_unit.proofs.Database.Laws.OneMoreEntry.{range_more}
-- the replay of a history with one more entry leads on from the state before it
pub use Rattle.dbtg_unit.proofs.Database.Laws.OneMoreEntry.{replays_one_more}
-- the statements alone determine the state after a history, and the answers where they hold
pub use Rattle.dbtg_unit.proofs.Database.Laws.OneMoreEntry.{statements_determine}
-- no record has a version above the length of the history
pub use Rattle.dbtg_unit.proofs.Database.Laws.OneMoreEntry.{versions_are_bounded}
-- in a list in order, those that come before a new member stand before the others
pub use Rattle.dbtg_unit.proofs.Database.Laws.PlacingOrder.{divided_by_new_member}
-- what follows of each two elements that pass holds of each pair in the list
pub use Rattle.dbtg_unit.proofs.Database.Laws.PlacingOrder.{pairwise_weaker}
-- the effect of a statement makes no unit and removes none
pub use Rattle.dbtg_unit.proofs.Database.Laws.UnitCount.{effect_keeps_count}
-- after a history there are as many units as before it
pub use Rattle.dbtg_unit.proofs.Database.Laws.UnitCount.{replay_keeps_count}
-- an answer is to a unit that is there
pub use Rattle.dbtg_unit.proofs.Database.Laws.UnitCount.{unit_is_there}
-- each entry of a history is of a unit that is there
pub use Rattle.dbtg_unit.proofs.Database.Laws.UnitCount.{units_are_there}
-- WHAT IS READ OFF THE CELLS IN HAND

-- the members of an owner with their sort keys are read from the held ring
pub use Rattle.dbtg_unit.proofs.Hands.Reading.AsTheDatabase.{entries_in_hand}
-- a held cell shows what the database has in it
pub use Rattle.dbtg_unit.proofs.Hands.Reading.AsTheDatabase.{held_shows}
-- the items of a record are read from its held slot
pub use Rattle.dbtg_unit.proofs.Hands.Reading.AsTheDatabase.{items_in_hand}
-- the list of an owner is read from its held ring
pub use Rattle.dbtg_unit.proofs.Hands.Reading.AsTheDatabase.{list_in_hand}
-- an owner has a list just where its held ring has one
pub use Rattle.dbtg_unit.proofs.Hands.Reading.AsTheDatabase.{listed_in_hand}
-- a record is live just where its held slot has one
pub use Rattle.dbtg_unit.proofs.Hands.Reading.AsTheDatabase.{live_in_hand}
-- the members of an owner are read from its held ring
pub use Rattle.dbtg_unit.proofs.Hands.Reading.AsTheDatabase.{members_in_hand}
-- the numbers of a record type are read from its held extent
pub use Rattle.dbtg_unit.proofs.Hands.Reading.AsTheDatabase.{numbers_in_hand}
-- the owner of a record in a set is read from its held slot
pub use Rattle.dbtg_unit.proofs.Hands.Reading.AsTheDatabase.{owner_in_hand}
-- the owners in the held slot are those of the record
pub use Rattle.dbtg_unit.proofs.Hands.Reading.AsTheDatabase.{owners_in_hand}
-- the held ring answers as the database does
pub use Rattle.dbtg_unit.proofs.Hands.Reading.AsTheDatabase.{same_occurrence}
-- the held slot answers as the database does
pub use Rattle.dbtg_unit.proofs.Hands.Reading.AsTheDatabase.{same_record}
-- the users of an area are read from its held usage cell
pub use Rattle.dbtg_unit.proofs.Hands.Reading.AsTheDatabase.{users_in_hand}
-- the version of a record is read from its held slot
pub use Rattle.dbtg_unit.proofs.Hands.Reading.AsTheDatabase.{version_in_hand}
-- the CALC values of a record are read from the held extent
pub use Rattle.dbtg_unit.proofs.Hands.Reading.ExtentInHand.{calc_items_in_hand}
-- what a filter leaves of a mapped list is made of what passes once it is mapped
pub use Rattle.dbtg_unit.proofs.Hands.Reading.ExtentInHand.{filter_map}
-- the first of a mapped list is made of the first of the list
pub use Rattle.dbtg_unit.proofs.Hands.Reading.ExtentInHand.{first_map}
-- the number that is free for a new record is read from the held extent
pub use Rattle.dbtg_unit.proofs.Hands.Reading.ExtentInHand.{free_in_hand}
-- the keys of an extent that are behind a key are those of the numbers behind its number
pub use Rattle.dbtg_unit.proofs.Hands.Reading.ExtentInHand.{keys_behind_in_hand}
-- the last generation of a number is read from the held extent
pub use Rattle.dbtg_unit.proofs.Hands.Reading.ExtentInHand.{last_in_hand}
-- a record is live just where the held extent has its key
pub use Rattle.dbtg_unit.proofs.Hands.Reading.ExtentInHand.{live_by_extent}
-- the live keys of a record type are those of the used numbers of the held extent
pub use Rattle.dbtg_unit.proofs.Hands.Reading.ExtentInHand.{live_keys_in_hand}
-- the key of a new record is read from the held extent
pub use Rattle.dbtg_unit.proofs.Hands.Reading.ExtentInHand.{new_key_in_hand}
-- also beside a live record of the type, the held extent has the same CALC values as the database
pub use Rattle.dbtg_unit.proofs.Hands.Reading.ExtentInHand.{same_calc_beside}
-- the held extent answers as the database does
pub use Rattle.dbtg_unit.proofs.Hands.Reading.ExtentInHand.{same_numbers}
-- the keys with given CALC values are read from the held extent
pub use Rattle.dbtg_unit.proofs.Hands.Reading.ExtentInHand.{with_calc_in_hand}
-- a held record has a next version
pub use Rattle.dbtg_unit.proofs.Hands.Reading.NextVersions.{has_next_version}
-- a plan that is the statement's effect on every database that agrees with what is held
pub use Rattle.dbtg_unit.proofs.Hands.Reading.OnePlan.{HasPlan}
-- what a plan of a statement is read from; to carry it out, there must be next versions too
pub use Rattle.dbtg_unit.proofs.Hands.Reading.OnePlan.{MayPlan}
-- a caller that may prepare a statement may plan it
pub use Rattle.dbtg_unit.proofs.Hands.Reading.OnePlan.{may_plan}
-- one plan does the same on two databases that agree with what is held
pub use Rattle.dbtg_unit.proofs.Hands.Reading.OnePlan.{one_plan_does_the_same}
-- the CALC values of a live key of the type are those that the extent has
pub use Rattle.dbtg_unit.proofs.Hands.Reading.ReadingCells.{calc_reads}
-- keys set beside their sort keys, and taken again
pub use Rattle.dbtg_unit.proofs.Hands.Reading.ReadingCells.{firsts_pairs}
-- a held cell is the database's
pub use Rattle.dbtg_unit.proofs.Hands.Reading.ReadingCells.{held_cell_agrees}
-- a cell that is held is there
pub use Rattle.dbtg_unit.proofs.Hands.Reading.ReadingCells.{held_is_there}
-- the last generation of a number of the type is the one that the extent has
pub use Rattle.dbtg_unit.proofs.Hands.Reading.ReadingCells.{last_reads}
-- the list of an owner in the occurrence of a ring
pub use Rattle.dbtg_unit.proofs.Hands.Reading.ReadingCells.{list_in}
-- a key of the type is live where the extent has CALC values of it
pub use Rattle.dbtg_unit.proofs.Hands.Reading.ReadingCells.{live_reads}
-- the members of a ring are those of its owner's list, each with its sort key
pub use Rattle.dbtg_unit.proofs.Hands.Reading.ReadingCells.{ring_keys_read}
-- the list of an owner is the one in the ring's cell
pub use Rattle.dbtg_unit.proofs.Hands.Reading.ReadingCells.{ring_reads}
-- the number at an index of the numbers from a on
pub use Rattle.dbtg_unit.proofs.Hands.Reading.ReadingCells.{slice_get_range}
-- the areas and the cells that a statement needs are held, and no guess is wrong
pub use Rattle.dbtg_unit.proofs.Hands.Reading.ReadyParts.{HasAll}
-- a statement that is ready holds all that it needs of each database that agrees with it
pub use Rattle.dbtg_unit.proofs.Hands.Reading.ReadyParts.{prepared_has_all}
-- hands that show the same agree with the same databases
pub use Rattle.dbtg_unit.proofs.Hands.Reading.SameHands.{agrees_same}
-- if cells are as the database has them, so are others that show the same
pub use Rattle.dbtg_unit.proofs.Hands.Reading.SameHands.{all_agree_same}
-- hands that show the same hold the same cells
pub use Rattle.dbtg_unit.proofs.Hands.Reading.SameHands.{holds_same}
-- a caller that may prepare a statement with some hands may do so with others that show the same
pub use Rattle.dbtg_unit.proofs.Hands.Reading.SameHands.{may_prepare_same}
-- hands that show the same have the same occurrence of a ring
pub use Rattle.dbtg_unit.proofs.Hands.Reading.SameHands.{occurrence_in_same}
-- hands that show the same as others are shown the same by them
pub use Rattle.dbtg_unit.proofs.Hands.Reading.SameHands.{same_sym}
-- the cell that is shown as a record
pub use Rattle.dbtg_unit.proofs.Hands.Reading.SameHands.{slot_shown}
-- hands that show the same have the same users of an area
pub use Rattle.dbtg_unit.proofs.Hands.Reading.SameHands.{users_in_same}
-- hands that show the same have next versions alike
pub use Rattle.dbtg_unit.proofs.Hands.Reading.SameHands.{versions_same}
-- EDITS OF CELLS

-- a DELETE leaves behind exactly the records that stay and are taken out of the list of an owner that goes
pub use Rattle.dbtg_unit.proofs.Hands.Changes.DeleteCells.{left_are_taken_out}
-- a record that a DELETE leaves behind is live
pub use Rattle.dbtg_unit.proofs.Hands.Changes.DeleteCells.{left_live}
-- no record is left behind twice by a DELETE
pub use Rattle.dbtg_unit.proofs.Hands.Changes.DeleteCells.{left_once}
-- the edits that close the lists of a DELETE leave each cell that is no ring as it is
pub use Rattle.dbtg_unit.proofs.Hands.Changes.DeleteCells.{skips_closings}
-- the edits that take what a DELETE takes out of its lists leave each cell that is no ring as it is
pub use Rattle.dbtg_unit.proofs.Hands.Changes.DeleteCells.{skips_leavings}
-- a record that a DELETE leaves behind has its next version
pub use Rattle.dbtg_unit.proofs.Hands.Changes.DeleteCells.{version_left}
-- no number stands twice
pub use Rattle.dbtg_unit.proofs.Hands.Changes.EditsInTurn.{distinct}
-- edits, and then others behind them, are made one after another
pub use Rattle.dbtg_unit.proofs.Hands.Changes.EditsInTurn.{edited_at_append}
-- a number among others
pub use Rattle.dbtg_unit.proofs.Hands.Changes.EditsInTurn.{has_number}
-- a number that is there and passes a filter is left by it
pub use Rattle.dbtg_unit.proofs.Hands.Changes.EditsInTurn.{has_number_filter}
-- a number that a filter leaves passes it
pub use Rattle.dbtg_unit.proofs.Hands.Changes.EditsInTurn.{has_number_passes}
-- a number within the bounds of a range is in it
pub use Rattle.dbtg_unit.proofs.Hands.Changes.EditsInTurn.{has_number_range}
-- no number stands twice in a range
pub use Rattle.dbtg_unit.proofs.Hands.Changes.EditsInTurn.{range_distinct}
-- what a STORE that passes has found: a free number, and a current owner with a list in each automatic set
pub use Rattle.dbtg_unit.proofs.Hands.Changes.EffectEdits.{StoreFound}
-- the effect of a statement other than DELETE that is done is its edits, cell by cell
pub use Rattle.dbtg_unit.proofs.Hands.Changes.EffectEdits.{effect_is_its_edits}
-- a STORE that passes its checks has found a free number, and an owner with a list in each automatic set
pub use Rattle.dbtg_unit.proofs.Hands.Changes.EffectEdits.{store_found}
-- the effect of each statement that is done is its edits, cell by cell
pub use Rattle.dbtg_unit.proofs.Hands.Changes.EveryEdit.{every_effect_is_its_edits}
-- the edits take out the members of the cell's occurrence that pass
pub use Rattle.dbtg_unit.proofs.Hands.Changes.ManyEdits.{Thins}
-- a test that all pass keeps all
pub use Rattle.dbtg_unit.proofs.Hands.Changes.ManyEdits.{filter_all}
-- a key has this number of this type
pub use Rattle.dbtg_unit.proofs.Hands.Changes.ManyEdits.{is_of_number}
-- the edits that vacate the numbers of the keys vacate just these in the extent
pub use Rattle.dbtg_unit.proofs.Hands.Changes.ManyEdits.{numbers_left}
-- edits of other cells, one for each of a list, leave the cell as it is
pub use Rattle.dbtg_unit.proofs.Hands.Changes.ManyEdits.{skips_map}
-- the slot of a vacated key is empty, and each other slot is as it was
pub use Rattle.dbtg_unit.proofs.Hands.Changes.ManyEdits.{slots_vacated}
-- edits that each take out some members take out those that any of them takes out
pub use Rattle.dbtg_unit.proofs.Hands.Changes.ManyEdits.{thins_flat}
-- the edits that take a record out of an owner's ring take just it out of that cell
pub use Rattle.dbtg_unit.proofs.Hands.Changes.ManyEdits.{thins_ring}
-- a MODIFY changes the cells by its edits
pub use Rattle.dbtg_unit.proofs.Hands.Changes.ModifyCells.{modify_makes}
-- a new record has no ring of its own in the database before
pub use Rattle.dbtg_unit.proofs.Hands.Changes.StoreCells.{own_ring_before}
-- no owner of a list has the new record's number in the database before
pub use Rattle.dbtg_unit.proofs.Hands.Changes.StoreCells.{owner_not_k}
-- the owners of a new record are those that STORE gives it
pub use Rattle.dbtg_unit.proofs.Hands.Changes.StoreCells.{owners_first}
-- WHAT A STATEMENT LEAVES AS IT WAS

-- where each key of a list passes a test, all do
pub use Rattle.dbtg_unit.proofs.Hands.Untouched.InTurn.{all_from}
-- what a list has at an index is an element of it
pub use Rattle.dbtg_unit.proofs.Hands.Untouched.InTurn.{element_at}
-- the doomed records in turn are live
pub use Rattle.dbtg_unit.proofs.Hands.Untouched.InTurn.{met_are_live}
-- the doomed in turn are no more than the live records
pub use Rattle.dbtg_unit.proofs.Hands.Untouched.InTurn.{met_few}
-- each doomed record is met only once
pub use Rattle.dbtg_unit.proofs.Hands.Untouched.InTurn.{met_once}
-- an element of the first of two joined lists stands at the same place in the whole
pub use Rattle.dbtg_unit.proofs.Hands.Untouched.InTurn.{slice_get_front}
-- an order of keys with others added begins with the order
pub use Rattle.dbtg_unit.proofs.Hands.Untouched.InTurn.{with_those_extends}
-- if the keys of an order pass, and those added to it, all of the longer order pass
pub use Rattle.dbtg_unit.proofs.Hands.Untouched.InTurn.{with_those_pass}
-- the database after a DELETE
pub use Rattle.dbtg_unit.proofs.Hands.Untouched.LocalDelete.{after_delete}
-- a record that stays and is in a list of one that goes
pub use Rattle.dbtg_unit.proofs.Hands.Untouched.LocalDelete.{is_taken_out}
-- if no cell is missing, all are held
pub use Rattle.dbtg_unit.proofs.Hands.Untouched.LocalReady.{all_held}
-- a statement that is ready changes only held cells
pub use Rattle.dbtg_unit.proofs.Hands.Untouched.LocalReady.{changes_only_its_cells}
-- a cell is held if its name is among the held names
pub use Rattle.dbtg_unit.proofs.Hands.Untouched.LocalReady.{holds_any}
-- the effect of a statement that fits leaves a legal database
pub use Rattle.dbtg_unit.proofs.Hands.Untouched.LocalReady.{legal_after}
-- the current of run-unit of a MODIFY is of its type
pub use Rattle.dbtg_unit.proofs.Hands.Untouched.LocalReady.{modify_typed}
-- a name that is not among the names listed once is not in the list
pub use Rattle.dbtg_unit.proofs.Hands.Untouched.LocalStatements.{names_once_complete}
-- a new key is not live
pub use Rattle.dbtg_unit.proofs.Hands.Untouched.LocalStore.{new_is_fresh}
-- the held cells after a plan that is the effect show what the database has after it
pub use Rattle.dbtg_unit.proofs.Hands.Untouched.MadeOnEach.{cells_made}
-- a plan that can be finished makes the statement on every database to which the held cells belong
pub use Rattle.dbtg_unit.proofs.Hands.Untouched.MadeOnEach.{plan_makes}
-- a plan that is the statement's effect makes the statement on every database to which the held cells belong
pub use Rattle.dbtg_unit.proofs.Hands.Untouched.MadeOnEach.{prepared_makes}
-- THE ORDER OF TAKING

-- if each element of a list gives a list whose elements all pass, all elements of these lists pass
pub use Rattle.dbtg_unit.proofs.Hands.Taking.AreasOfCells.{all_flat}
-- if all of two lists pass, so do all of the joined list
pub use Rattle.dbtg_unit.proofs.Hands.Taking.AreasOfCells.{all_join}
-- where the slot of what is found passes, all slots of what is found do
pub use Rattle.dbtg_unit.proofs.Hands.Taking.AreasOfCells.{found_passes}
-- what a DELETE takes passes, where the record passes and each record's own members do
pub use Rattle.dbtg_unit.proofs.Hands.Taking.AreasOfDelete.{brought_all}
-- where all names pass, those listed once do
pub use Rattle.dbtg_unit.proofs.Hands.Taking.AreasOfDelete.{once_all}
-- the cells of a statement ascend, except those of a DELETE
pub use Rattle.dbtg_unit.proofs.Hands.Taking.CellsAscend.{cells_ascend}
-- a key that is chosen by its place in key order is among the keys
pub use Rattle.dbtg_unit.proofs.Hands.Taking.FoundKeys.{chosen_by_key_in}
-- a key that is chosen is among the keys, and passes
pub use Rattle.dbtg_unit.proofs.Hands.Taking.FoundKeys.{chosen_in}
-- what is found by a current: there is one, by which it is found
pub use Rattle.dbtg_unit.proofs.Hands.Taking.FoundKeys.{current_is}
-- the first of a list is in it
pub use Rattle.dbtg_unit.proofs.Hands.Taking.FoundKeys.{first_in}
-- the first of some keys, where there is one, is among them
pub use Rattle.dbtg_unit.proofs.Hands.Taking.FoundKeys.{first_is_in}
-- the first of those that a test keeps is in the list, and passes
pub use Rattle.dbtg_unit.proofs.Hands.Taking.FoundKeys.{first_of_filter}
-- what is found, where nothing keeps it from being found
pub use Rattle.dbtg_unit.proofs.Hands.Taking.FoundKeys.{found_is}
-- an element of a list turned round is in the list
pub use Rattle.dbtg_unit.proofs.Hands.Taking.FoundKeys.{of_reverse}
-- the areas of a statement that fits are the schema's
pub use Rattle.dbtg_unit.proofs.Hands.Taking.KnownAreas.{areas_known}
-- a need is above what was taken in turn
pub use Rattle.dbtg_unit.proofs.Hands.Taking.NeedsInOrder.{above_hands}
-- a cell that is needed lies in a held area
pub use Rattle.dbtg_unit.proofs.Hands.Taking.NeedsInOrder.{area_held}
-- the areas of a statement ascend
pub use Rattle.dbtg_unit.proofs.Hands.Taking.NeedsInOrder.{areas_ascend}
-- what decided that a cell is needed
pub use Rattle.dbtg_unit.proofs.Hands.Taking.NeedsInOrder.{chose_take}
-- a cell that is needed is not held, and lies in a held area
pub use Rattle.dbtg_unit.proofs.Hands.Taking.NeedsInOrder.{in_held_area}
-- the owner type of a set is a record type of the schema
pub use Rattle.dbtg_unit.proofs.Hands.Taking.SoundSchemas.{owner_is_type}
-- WHAT IS HELD WHILE EDITS ARE MADE

-- a cell of a name is there where one is held
pub use Rattle.dbtg_unit.proofs.Hands.Holding.NamesAndCells.{holds_there}
-- each of the edits can be made of what is held now
pub use Rattle.dbtg_unit.proofs.Hands.Holding.WhileEditing.{EachCanEdit}
-- the held cells, each with its name
pub use Rattle.dbtg_unit.proofs.Hands.Holding.WhileEditing.{Held}
-- no two of the edits are of one cell
pub use Rattle.dbtg_unit.proofs.Hands.Holding.WhileEditing.{are_distinct}
-- no edit is of this name, and no two are of one name
pub use Rattle.dbtg_unit.proofs.Hands.Holding.WhileEditing.{are_of_others}
-- if edits can be made in turn, the first can be made
pub use Rattle.dbtg_unit.proofs.Hands.Holding.WhileEditing.{can_make_front}
-- edits of distinct cells can be made in turn where each can be made of what is held now
pub use Rattle.dbtg_unit.proofs.Hands.Holding.WhileEditing.{can_make_distinct}
-- edits of distinct cells can be made, then last an edit of another cell and its next version
pub use Rattle.dbtg_unit.proofs.Hands.Holding.WhileEditing.{can_make_raised}
-- if edits can be made in turn, the last can be made once those before are
pub use Rattle.dbtg_unit.proofs.Hands.Holding.WhileEditing.{can_make_rest}
-- a cell that is written leaves the held cell of another name
pub use Rattle.dbtg_unit.proofs.Hands.Holding.WhileEditing.{cell_of_other}
-- edits of two lists can each be made of what is held where those of each list can
pub use Rattle.dbtg_unit.proofs.Hands.Holding.WhileEditing.{each_append}
-- the joined edits can each be made of what is held where those of each element can
pub use Rattle.dbtg_unit.proofs.Hands.Holding.WhileEditing.{each_flat_map}
-- a change of items leaves the version of a record as it is
pub use Rattle.dbtg_unit.proofs.Hands.Holding.WhileEditing.{items_leave_version}
-- edits, and then others, are all of them in turn
pub use Rattle.dbtg_unit.proofs.Hands.Holding.WhileEditing.{made_append}
-- what is held after edits shows what they make of it
pub use Rattle.dbtg_unit.proofs.Hands.Holding.WhileEditing.{made_values}
-- a change of an owner leaves the version of a record as it is
pub use Rattle.dbtg_unit.proofs.Hands.Holding.WhileEditing.{owner_leaves_version}
-- what is there after a cell was written is that cell, and there was one before
pub use Rattle.dbtg_unit.proofs.Hands.Holding.WhileEditing.{written_over}
