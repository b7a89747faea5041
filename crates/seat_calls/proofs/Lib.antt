pub mod DoneLemmas
