pub mod Reading
pub mod Echoing
pub mod First
pub mod Running
pub mod Threading
pub mod Checking
pub mod ScriptsOnThreads
pub mod Laws
