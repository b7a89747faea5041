mod Moments
mod Lists
mod Crash
mod Unique
mod Still
mod Opening
mod Numbers
