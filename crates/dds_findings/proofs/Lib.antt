mod Agreement
mod FaultLists
mod Joined
mod Listed
mod Plain
