mod Digits
mod Words
