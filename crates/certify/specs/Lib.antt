pub mod Certify
