mod Numerals
mod Parts
