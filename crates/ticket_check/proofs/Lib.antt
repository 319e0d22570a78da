pub mod TicketLaws
pub mod Tickets
pub mod KeptTickets
pub mod ClashLaws
pub mod CheckLaws
