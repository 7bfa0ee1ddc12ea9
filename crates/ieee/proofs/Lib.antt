pub mod Nans
pub mod Values
pub mod RootBits
pub mod RootsOfPatterns
pub mod Grid
pub mod NearestRoots
pub mod SquareRoots
