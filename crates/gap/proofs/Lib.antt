pub mod Steps
pub mod VirtualBoxes
