-- All are the interface: the answer by definition, what it is among all structures, and what fills do to it.
pub mod Answer
pub mod Demand
pub mod Fills
