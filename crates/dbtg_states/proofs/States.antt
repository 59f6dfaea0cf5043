-- States part by part: what each part says, the numbers of states, and what is looked at of them.
-- May use: `Ranges`, and the image and replay of dbtg_unit.
-- Promises: `Alike`, `SameImages`, `SameParts`: what does not count in a state, and what tells it from others; `Numbers`: states have one
-- number just where their parts are the same; `Looked`: what is looked at determines what a statement does.
pub mod Alike
pub mod InHand
pub mod Leads
pub mod Looked
pub mod Looks
pub mod Numbers
pub mod Places
pub mod PutCells
pub mod SameImages
pub mod SameParts
pub mod ShownParts
pub mod Spelled
pub mod Units
pub mod Written
