pub mod Form
pub mod Room
pub mod Row
pub mod Text
