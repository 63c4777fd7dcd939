-- The rows that a form names, the texts of forms and the room that they need.
pub mod AimLemmas
pub mod ReadLemmas
pub mod RoomLemmas
pub mod RowLemmas
pub mod TextLemmas
pub mod WritingLemmas
