pub mod CountLaws
pub mod SumOrders
pub mod FirstOrders
pub mod Monotone
