-- What is printed: moves and turns that are read back, lines beside answers, texts that tell units apart.
-- May use: the steps of `Reading`.
-- Promises: `ReadBack`: printed moves and turns are those that were printed; `EchoedLines`: each answer has its statement
-- beside it.
pub mod Beside
pub mod DecimalSteps
pub mod EchoedLines
pub mod KeyText
pub mod ReadBack
pub mod UnitText
pub mod WordRuns
