pub mod CutMoves
