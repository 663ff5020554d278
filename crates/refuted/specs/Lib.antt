pub mod WrongPrograms
pub mod WrongFitted
pub mod WrongWalk
pub mod WrongSizes
pub mod WrongBundle
