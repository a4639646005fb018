pub mod OtherSlots
