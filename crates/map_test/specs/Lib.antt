pub mod MapTest
