-- Writing into lent space: what a call answers, what it leaves there, and how one piece of writing follows another.
pub mod Written
pub mod Space
pub mod Text
