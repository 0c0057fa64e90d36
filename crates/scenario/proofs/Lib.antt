mod Cuts
mod Reading
