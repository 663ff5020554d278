pub mod WholeTest
