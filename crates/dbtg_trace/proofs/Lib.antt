mod Firsts
mod ArrowSteps
mod WordSteps
mod EntrySteps
mod CachedSteps
mod CachedAnswers
mod TraceSteps
mod PrintedSteps
mod ReadBack
mod Rows
pub mod Public
