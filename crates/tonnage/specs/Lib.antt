pub mod Text
pub mod Grammar
pub mod Services
