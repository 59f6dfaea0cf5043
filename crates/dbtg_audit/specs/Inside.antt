-- What no contract of an exported function reaches.
pub mod Audits
