mod Parts
mod Bits
mod Nibble
mod Answer
