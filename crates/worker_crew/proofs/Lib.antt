pub mod RoomLemmas
pub mod RigLemmas
pub mod DealLemmas
pub mod FinishLemmas
pub mod CrewLemmas
pub mod EndLemmas
pub mod SeatLemmas
