-- What `draw` promises. Definitions only.
pub mod Drawing
