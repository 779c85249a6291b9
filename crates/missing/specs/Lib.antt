-- The cheapest missing dimensions as a call answers them, and what the code keeps.
pub mod Missing
pub mod Links
pub mod Choosing
