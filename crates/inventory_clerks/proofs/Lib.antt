mod Audited
mod Belonging
mod Closing
mod Crosses
mod Filling
mod Rounds
