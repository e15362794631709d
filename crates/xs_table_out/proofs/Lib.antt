mod Finding
mod Laying
mod Marks
mod Owing
mod Spellings
