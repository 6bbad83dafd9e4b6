pub mod Asked
pub mod Faults
pub mod Filers
pub mod Filing
pub mod Intake
pub mod Noting
pub mod WriteRefusals
pub mod Writing
