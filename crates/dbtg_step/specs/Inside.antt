-- What no contract of an exported function reaches: how the code keeps its parts, and words that lemmas use. Nobody has to believe it.
-- May use: the definitions beside this folder, which name nothing of it.
pub mod Audit
pub mod Courses
pub mod Events
pub mod Imaging
pub mod Leaves
pub mod NeverStuck
pub mod Openings
pub mod Parts
pub mod Reversible
pub mod Runs
pub mod SequentialDatabase
pub mod Stands
pub mod Step
pub mod Turns
pub mod Waiting
pub mod Whole
