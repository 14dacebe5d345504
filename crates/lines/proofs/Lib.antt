mod Cuts
mod Values
mod Texts
