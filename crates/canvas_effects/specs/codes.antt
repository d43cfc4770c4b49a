pub mod PlaceCode
pub mod KnownText
