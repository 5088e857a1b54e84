pub mod Admitted
pub mod Arranged
pub mod Chains
pub mod Placed
pub mod Relabelled
pub mod Worklist
