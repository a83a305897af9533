pub mod FedLaws
