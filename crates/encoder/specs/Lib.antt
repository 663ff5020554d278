-- SheetWritten is the interface, what writing a sheet asks and leaves behind; Parts serves the proofs.
pub mod SheetWritten
pub mod Parts
