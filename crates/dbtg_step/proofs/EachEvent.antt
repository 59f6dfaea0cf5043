-- Single events of the machine: each keeps what is lawful, and what it leaves of units, cells and history.
-- May use: any sequential database; nothing of the network.
-- Promises: `Keeps`: each event keeps a lawful state lawful; `Tickets`: so does a ticket.
pub mod EventCounts
pub mod Events
pub mod Images
pub mod Keeps
pub mod Premises
pub mod StepCases
pub mod TicketParts
pub mod Tickets
pub mod Turns
pub mod UnitFacts
pub mod UnitLists
pub mod Updates
