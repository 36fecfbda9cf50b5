pub mod Orders
pub mod Derived
pub mod Origins
mod FlowOrder
pub mod OriginsRead
pub mod Members
pub mod Narrowed
pub mod Located
mod Worked
