mod Appending
mod FlatRequests
mod PieceWrites
