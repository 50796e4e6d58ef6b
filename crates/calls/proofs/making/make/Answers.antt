-- `make` meets its contract.
use mathlib.Core.Path.{refl}
use Rattle.promise.specs.Lists.{call_outcome}
use Rattle.promise.proofs.EventSteps.{read_stores, restart_stores, flushed_stores}
use Rattle.calls.specs.Asked.{piece_after}
use Rattle.calls.proofs.MakingCode.{write_piece, stored_nothing}
use Rattle.calls.proofs.making.make.Goals as goal

pub returns-in-Grow : goal.returns-in-Grow
unfolding piece_after call_outcome
returns-in-Grow c = rw c.in-Grow.is (record {
  value = c.grow.ensures.value;
  medium_after = c.grow.ensures.medium_after;
  piece_after = refl;
})

pub returns-in-GrowBeyondDoubling : goal.returns-in-GrowBeyondDoubling
unfolding piece_after call_outcome
returns-in-GrowBeyondDoubling c =
    rw c.in-GrowBeyondDoubling.is
    (record {
      value = c.grow_beyond_doubling.ensures.value;
      medium_after = c.grow_beyond_doubling.ensures.medium_after;
      piece_after = refl;
    })

pub returns-in-Copy : goal.returns-in-Copy
unfolding piece_after call_outcome
returns-in-Copy c = rw c.in-Copy.is (record {
  value = c.copy.ensures.value;
  medium_after = c.copy.ensures.medium_after;
  piece_after = refl;
})

pub returns-in-Checkpoint : goal.returns-in-Checkpoint
unfolding piece_after call_outcome
returns-in-Checkpoint c = rw c.in-Checkpoint.is (record {
  value = c.checkpoint.ensures.value;
  medium_after = c.checkpoint.ensures.medium_after;
  piece_after = refl;
})

pub returns-in-Advance : goal.returns-in-Advance
unfolding piece_after call_outcome
returns-in-Advance c = rw c.in-Advance.is (record {
  value = c.advance.ensures.value;
  medium_after = c.advance.ensures.medium_after;
  piece_after = refl;
})

pub returns-in-Write : goal.returns-in-Write
unfolding piece_after call_outcome
returns-in-Write c = rw c.in-Write.is (record {
  value = c.write.ensures.value;
  medium_after = c.write.ensures.medium_after;
  piece_after = write_piece _ _ _ _;
})

pub returns-in-Read : goal.returns-in-Read
unfolding piece_after call_outcome
returns-in-Read c = rw c.in-Read.is (record {
  value = c.read.ensures.value;
  medium_after = stored_nothing _ _ _ (read_stores _ _ _ _);
  piece_after = c.read.ensures.piece_after;
})

pub returns-in-Restart : goal.returns-in-Restart
unfolding piece_after call_outcome
returns-in-Restart c = rw c.in-Restart.is (record {
  value = c.restart.ensures;
  medium_after = stored_nothing _ _ _ (restart_stores _);
  piece_after = refl;
})

pub returns-in-Flushed : goal.returns-in-Flushed
unfolding piece_after call_outcome
returns-in-Flushed c = rw c.in-Flushed.is (record {
  value = c.flushed.ensures;
  medium_after = stored_nothing _ _ _ (flushed_stores _);
  piece_after = refl;
})
