pub mod Unlimited
