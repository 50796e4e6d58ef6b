-- `write` meets its contract.
use mathlib.Core.Path.{refl}
use Rattle.layout.specs.Tally.{live_spot_of}
use Rattle.medium.specs.Medium.{observe, block_store}
use Rattle.volume.specs.Calls.{doing, write_effect, write_outcome}
use Rattle.volume.specs.States.{tally_of, pending_with}
use Rattle.volume.proofs.Accepted.{write_accepted}
use Rattle.volume.proofs.BlockCode.{piece_fits}
use Rattle.volume.proofs.CallsCode.{done_made}
use Rattle.volume.proofs.Judged.{found_tells, found_takes, refused_reply, refused_stores, accepted_reply, accepted_stores}
use Rattle.volume.proofs.Volume.write.Goals as goal

pub returns-in-Err : goal.returns-in-Err
unfolding write_outcome observe
returns-in-Err c =
    let a = c.args in
    let f = found_tells _ _ _ _ c.write_spot.ensures c.in-Err.is in
    record {
      value = refused_reply _ a.self a.piece.now _ _ f a.self _ refl c.refuse.ensures;
      medium_after = refused_stores _ a.self a.piece.now _ _ f _ _;
    }

pub store_block-requires : goal.store_block-requires
store_block-requires c =
    let t = found_takes _ _ _ _ c.write_spot.ensures c.in-Ok.is in
    let h = piece_fits _ _ _ _ (write_accepted _ _ _ _ t.0).0 _ c.geometry.ensures _ t.1 in
    record { size_in_range = h.0; inside = h.1.0; piece_len = h.1.1 }

pub returns-in-Ok : goal.returns-in-Ok
unfolding write_outcome write_effect doing pending_with observe
returns-in-Ok c =
    let a = c.args in
    let t = found_takes _ _ _ _ c.write_spot.ensures c.in-Ok.is in
    let store = block_store (live_spot_of (tally_of a.self) a.x.0) a.piece.now in
    record {
      value = accepted_reply _ a.self a.piece.now _ t.0 _ (done_made a.self _ _ store refl c.after_block.ensures _ a.piece.now c.accept.ensures);
      medium_after = accepted_stores _ a.self a.piece.now _ t.0 _ _ _ (rw (t.1, c.geometry.ensures) at c.store_block.ensures);
    }
