mod Files
mod Folders
mod Pieces
