pub mod Beginnings
pub mod Made
pub mod Seats
pub mod Views
pub mod IdleSteps
pub mod HeldSteps
pub mod Passes
