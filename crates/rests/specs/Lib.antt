-- What clusters rest on (`theory` Rests), as 64-bit words.
pub mod Words
