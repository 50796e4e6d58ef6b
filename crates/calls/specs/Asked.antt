-- A call of the code as the call that demand 3 speaks of, and what the piece that is lent beside it then holds.
use Rattle.std.specs.Prelude.{ℕ, List}
use Rattle.volume.specs.Calls.{Outcome}
use Rattle.promise.specs.Calls as promise
use Rattle.calls.specs.declared.Call.{Call}
use Rattle.calls.specs.declared.Call.TheVariants.{Grow, GrowBeyondDoubling, Copy, Checkpoint, Advance, Write, Read, Restart, Flushed}

-- the same call; write and read take the lent piece
abbrev pub asked : (call : Call) (piece : List ℕ) → promise.Call
asked (Grow count) piece = promise.grow count
asked (GrowBeyondDoubling count) piece = promise.grow_beyond_doubling count
asked (Copy x) piece = promise.copy x.0
asked Checkpoint piece = promise.checkpoint
asked Advance piece = promise.advance
asked (Write x) piece = promise.write x.0 piece
asked (Read x) piece = promise.read x.0 piece
asked Restart piece = promise.restart
asked Flushed piece = promise.flushed

-- the piece after it: the outcome's for write and read; the calls that take none leave what was lent
unfoldable pub piece_after : (call : Call) (piece : List ℕ) (o : Outcome) → List ℕ
piece_after (Grow count) piece o = piece
piece_after (GrowBeyondDoubling count) piece o = piece
piece_after (Copy x) piece o = piece
piece_after Checkpoint piece o = piece
piece_after Advance piece o = piece
piece_after (Write x) piece o = o.piece
piece_after (Read x) piece o = o.piece
piece_after Restart piece o = piece
piece_after Flushed piece o = piece
