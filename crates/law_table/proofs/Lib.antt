mod Counts
mod Entries
mod Laying
mod Numbers
