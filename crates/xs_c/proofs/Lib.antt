mod AsBox
mod Files
mod Statuses
mod Texts
