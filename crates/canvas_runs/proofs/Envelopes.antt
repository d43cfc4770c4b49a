-- Messages that read back from their envelopes, and a run of them.
pub mod Readings
pub mod AsciiBack
pub mod RunMessages
pub mod ReadBack
pub mod ChordBack
pub mod ChordRuns
