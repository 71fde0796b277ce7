pub mod Passing
pub mod Ranges
pub mod SampleBytes
pub mod Counting
pub mod Gathered
