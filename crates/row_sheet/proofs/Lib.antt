mod Chunks
mod Sporadic
