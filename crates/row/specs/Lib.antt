pub mod Put
pub mod Row
pub mod View
pub mod Laws
pub mod Written
