pub mod Facts
pub mod Laying
