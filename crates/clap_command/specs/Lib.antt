pub mod Arguments
pub mod Values
pub mod Numbers
pub mod Plain
