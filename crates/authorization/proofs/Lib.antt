pub mod Authorizes
