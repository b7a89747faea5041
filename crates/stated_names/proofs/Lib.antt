mod HeaderNames
mod TreeNames
