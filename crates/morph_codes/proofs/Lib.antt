mod Pieces
mod Rooms
mod Losses
mod Kept
mod Decodings
mod Spans
mod Encodings
