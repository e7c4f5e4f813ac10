pub mod EditsLaws
