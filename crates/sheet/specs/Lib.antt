-- The facts of a pattern sheet, the rules that refuse them, and the bytes that stand for them. First is the reader of document
-- 01 alone, Centres the sketch of a round light's centres (2026-01), Growth a sheet with more constraints (2026-13).
pub mod Facts
pub mod Field
pub mod Rules
pub mod Decode
pub mod Encode
pub mod WithoutTags
pub mod Noted
pub mod Accepted
pub mod Answer
pub mod RoundTrip
pub mod Graph
pub mod Refusals
pub mod First
pub mod Centres
pub mod Growth
