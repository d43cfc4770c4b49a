pub mod Canvases
