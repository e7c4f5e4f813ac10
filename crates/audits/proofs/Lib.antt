pub mod LaterLaws
pub mod PassLaws
pub mod DemandLaws
pub mod EarlierLaws
pub mod BlocksLaws
