pub mod LongestSheet
