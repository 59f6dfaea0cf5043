-- The parts of the core show a state of the machine, and each of its functions an event of it.
-- May use: `EachEvent`, `Runs` and `Network`.
-- Promises: a lemma for each way out of each function of the core, and `CoreShown`: every core is what `Core` says.
pub mod Alone
pub mod CellsFound
pub mod CoreShown
pub mod CourseAlone
pub mod CoursesMatch
pub mod DrawnShown
pub mod EventsShown
pub mod FollowsShown
pub mod ImagesRead
pub mod NeedsOrdered
pub mod NeedsRefused
pub mod NeedsShown
pub mod NewestFirst
pub mod OpeningShown
pub mod PlacesOfCells
pub mod PositionsShown
pub mod QuitShown
pub mod RangePushes
pub mod RunsShown
pub mod WaitingShown
pub mod Work
