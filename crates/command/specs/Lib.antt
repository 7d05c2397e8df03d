pub mod Kind
pub mod Shape
