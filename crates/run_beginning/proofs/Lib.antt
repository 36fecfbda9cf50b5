mod Points
mod CallNeeds
mod Told
mod Counting
mod Fronts
mod Sizes
mod Moments
mod Rows
