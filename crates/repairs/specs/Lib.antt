pub mod Offer
pub mod Answer
pub mod Left
pub mod Agreement
