mod Between
mod Breaking
mod Closing
mod Closures
mod Counting
mod Effects
mod Floors
mod Results
