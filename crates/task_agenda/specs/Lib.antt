pub mod Lists
pub mod Agendas
