mod Steps
mod Printed
mod Rows
