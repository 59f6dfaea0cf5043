-- A statement of a script that is read fits the schema.
-- May use: `Reading`, for what a line without faults has.
-- Promises: `FittingStatements`: whoever reads a script need not test its statements.
pub mod Derivations
pub mod FittingFinds
pub mod FittingItems
pub mod FittingNames
pub mod FittingStatements
pub mod FittingValues
