pub mod Laying
pub mod Sheets
