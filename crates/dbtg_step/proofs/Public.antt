-- The lemmas that other crates cite. All others are this crate's own, free to change.

-- EVENTS OF THE MACHINE

-- where one of two tests passes and both do not, the other does not
pub use Rattle.dbtg_step.proofs.EachEvent.Events.{and_false}
-- where no other unit passes a test, each unit of another number fails it
pub use Rattle.dbtg_step.proofs.EachEvent.Events.{any_other_false}
-- giving back the newest held cell is a safe update
pub use Rattle.dbtg_step.proofs.EachEvent.Events.{back_is_safe}
-- leaving the newest area is a safe update if no cell is held
pub use Rattle.dbtg_step.proofs.EachEvent.Events.{leave_is_safe}
-- where an element of a list passes a test, some element does
pub use Rattle.dbtg_step.proofs.EachEvent.Events.{list_any_true}
-- taking a cell that is at home, in a held area and before the ticket, is a safe update
pub use Rattle.dbtg_step.proofs.EachEvent.Events.{take_is_safe}
-- a cell that is held by the unit is among its cells
pub use Rattle.dbtg_step.proofs.EachEvent.UnitFacts.{holder_has_cell}
-- the replay of the history has the unit as it is in the state
pub use Rattle.dbtg_step.proofs.EachEvent.UnitFacts.{unit_found}
-- what is found in a list after a write: what was written, or what was there
pub use Rattle.dbtg_step.proofs.EachEvent.UnitLists.{found_of}
-- what a mapped list of units has at a number is made of what the list has there
pub use Rattle.dbtg_step.proofs.EachEvent.UnitLists.{map_at}
-- a cell that is relocated is where it was put
pub use Rattle.dbtg_step.proofs.EachEvent.UnitLists.{relocated_at}
-- each cell other than the relocated one is where it was
pub use Rattle.dbtg_step.proofs.EachEvent.UnitLists.{relocated_elsewhere}
-- a unit that is written in a list of units is found at its number
pub use Rattle.dbtg_step.proofs.EachEvent.UnitLists.{set_at}
-- where one unit of a list is written, the others are as they were
pub use Rattle.dbtg_step.proofs.EachEvent.UnitLists.{set_elsewhere}
-- what is found in a list in which one was written is that one, or stands elsewhere as before
pub use Rattle.dbtg_step.proofs.EachEvent.UnitLists.{set_found}
-- an update by a unit that leaves others what they hold, and cells at home as the history has them
pub use Rattle.dbtg_step.proofs.EachEvent.Updates.{SafeUpdate}
-- a safe update keeps a state lawful
pub use Rattle.dbtg_step.proofs.EachEvent.Updates.{safe_update_keeps}
-- RUNS OF THE MACHINE

-- answers that hold in the machine's replay hold in the database's
pub use Rattle.dbtg_step.proofs.Runs.Headlines.{answers_same}
-- the machine of some scripts is in an opening state
pub use Rattle.dbtg_step.proofs.Runs.Headlines.{machine_is_opening}
-- the machine's state after any moves is lawful
pub use Rattle.dbtg_step.proofs.Runs.Headlines.{machine_stays_lawful}
-- the machine's replay of a history and the database's are one
pub use Rattle.dbtg_step.proofs.Runs.Headlines.{replays_same}
-- the scripts of the units that begin with them
pub use Rattle.dbtg_step.proofs.Runs.Headlines.{scripts_opening}
-- the statements of a unit's entries are those of the machine's history
pub use Rattle.dbtg_step.proofs.Runs.Headlines.{statements_same}
-- where each entry has its place as its ticket, the tickets are in order
pub use Rattle.dbtg_step.proofs.Runs.Headlines.{tickets_in_order}
-- a run never changes the scripts
pub use Rattle.dbtg_step.proofs.Runs.Histories.{run_keeps_scripts}
-- nothing has happened yet, so all is lawful
pub use Rattle.dbtg_step.proofs.Runs.Opening.{opening_is_lawful}
-- the state after a whole draw: lawful, with one entry and ticket more, and the other units as they were
pub use Rattle.dbtg_step.proofs.Runs.Renewed.{Drawn}
-- a unit whose script and guesses are free draws a ticket
pub use Rattle.dbtg_step.proofs.Runs.Renewed.{draws}
-- with one unit written anew, there are as many units
pub use Rattle.dbtg_step.proofs.Runs.Renewed.{length_with}
-- what a mapped list of units has at a number comes from what the list has there
pub use Rattle.dbtg_step.proofs.Runs.Waiting.{came_from}
-- THE NETWORK DATABASE AS ONE OF THE MACHINE

-- where each guess has a ring, each cell of a statement exists
pub use Rattle.dbtg_step.proofs.Network.CellsExist.{cells_exist}
-- a FIND KEY that is not refused at once is not beyond the capacity
pub use Rattle.dbtg_step.proofs.Network.NeededCells.{not_beyond}
-- after a statement that leaves a legal database each guess has a ring
pub use Rattle.dbtg_step.proofs.Network.NeededCellsExist.{made_have_rings}
-- where nothing is guessed, each guess has a ring
pub use Rattle.dbtg_step.proofs.Network.NeededCellsExist.{none_guessed}
-- after a turn back each guess has a ring
pub use Rattle.dbtg_step.proofs.Network.NeededCellsExist.{turned_have_rings}
-- the network database of a sound schema is a sequential database for the machine
pub use Rattle.dbtg_step.proofs.Network.NetworkFacts.{network_is_sequential}
-- a cell that is needed is one of the statement's, which is not refused at once, and is not held
pub use Rattle.dbtg_step.proofs.Network.NetworkNeeds.{cell_wanted}
-- where an area is needed next, nothing was ready before, and the area is the one that was found
pub use Rattle.dbtg_step.proofs.Network.NetworkNeeds.{chose_area}
-- a cell that is needed is not held
pub use Rattle.dbtg_step.proofs.Network.NetworkNeeds.{needed_not_in_hand}
-- in the network database names that compare alike are one, and a cell that is needed is not held
pub use Rattle.dbtg_step.proofs.Network.NetworkNeeds.{network_names_cells}
-- no more pass than there are
pub use Rattle.dbtg_step.proofs.Network.TurnsBack.{count_length}
-- no more pass the harder test
pub use Rattle.dbtg_step.proofs.Network.TurnsBack.{count_up_to}
-- needs come to an end: no guess stays stale, and each need that is met leaves less
pub use Rattle.dbtg_step.proofs.Network.TurnsBack.{needs_come_to_an_end}
-- THE CORE

-- a history noted, and read again
pub use Rattle.dbtg_step.proofs.TheCore.CellsFound.{entries_again}
-- what is kept of a statement's needs stays right while more is taken
pub use Rattle.dbtg_step.proofs.TheCore.CoursesMatch.{course_stays}
-- hands with one area more have all that they had
pub use Rattle.dbtg_step.proofs.TheCore.CoursesMatch.{more_by_area}
-- and with one cell more
pub use Rattle.dbtg_step.proofs.TheCore.CoursesMatch.{more_by_cell}
-- nothing kept of a statement's needs is always right
pub use Rattle.dbtg_step.proofs.TheCore.CoursesMatch.{no_course}
-- there are as many guesses as sets after a statement too
pub use Rattle.dbtg_step.proofs.TheCore.DrawnShown.{guesses_length}
-- cells that show what the database has are what is due
pub use Rattle.dbtg_step.proofs.TheCore.DrawnShown.{held_are_due}
-- where versions are bounded, no held record is at the greatest
pub use Rattle.dbtg_step.proofs.TheCore.DrawnShown.{versions_next}
-- what stands at a number of a list is in the list
pub use Rattle.dbtg_step.proofs.TheCore.EventsShown.{slice_get_in}
-- after a turn back there is a guess for each set, as there was
pub use Rattle.dbtg_step.proofs.TheCore.FollowsShown.{noted_length}
-- some element of a reversed list passes a test just where one of the list does
pub use Rattle.dbtg_step.proofs.TheCore.NeedsShown.{any_reverse}
-- what is made of an element is made of the list
pub use Rattle.dbtg_step.proofs.TheCore.NeedsShown.{in_mapped}
-- an element of a list is one of the reversed list
pub use Rattle.dbtg_step.proofs.TheCore.NeedsShown.{in_reverse}
-- the need depends neither on the order in which areas and cells are held nor on what is in the cells
pub use Rattle.dbtg_step.proofs.TheCore.NeedsShown.{need_of_holding}
-- what follows from what an Ok has
pub use Rattle.dbtg_step.proofs.TheCore.NeedsShown.{ok_also}
-- distinct held cells have names of which none appears twice
pub use Rattle.dbtg_step.proofs.TheCore.NeedsShown.{once_of_distinct}
-- a cell put after the held ones is the newest for the machine
pub use Rattle.dbtg_step.proofs.TheCore.PlacesOfCells.{held_behind}
-- the number of a cell is below the count of cells
pub use Rattle.dbtg_step.proofs.TheCore.PlacesOfCells.{number_within}
-- STATEMENTS MADE WHOLE

-- a database stands where it stood if nothing is made
pub use Rattle.dbtg_step.proofs.MadeWhole.Bares.{continues_nothing}
-- entries that continue a history, and entries that continue it then
pub use Rattle.dbtg_step.proofs.MadeWhole.Bares.{continues_on}
-- the statements of all scripts, one script after another, are a serial run, with what they lead to
pub use Rattle.dbtg_step.proofs.MadeWhole.SerialShown.{serial_led}
-- where all entries fit, they do with one more that fits
pub use Rattle.dbtg_step.proofs.MadeWhole.Audits.{fits_more}
-- what a test decides, where it passes
pub use Rattle.dbtg_step.proofs.MadeWhole.Audits.{match_true}
-- entries with the same tickets, statements and answers are the same
pub use Rattle.dbtg_step.proofs.MadeWhole.SerialLaw.{entries_same}
