pub mod SeenLaws
mod Widths
