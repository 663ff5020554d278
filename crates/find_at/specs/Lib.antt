-- All are the interface: what find and find_at share, find_at for every call, and what it is among all structures.
pub mod Found
pub mod FindAt
pub mod Promise
