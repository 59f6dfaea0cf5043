-- The worked rows: the words of the table through one statement; what tickets, scripts and a settlement leave.
mod Ended
mod Words
