-- `read` meets its contract.
use mathlib.Core.Path.{refl}
use lib.ListN.{length}
use Rattle.medium.specs.Medium.{observe}
use Rattle.volume.specs.Calls.{doing, read_effect, read_outcome}
use Rattle.volume.specs.States.{pending_with, with_pending}
use Rattle.volume.proofs.Accepted.{ReadFacts, read_accepted}
use Rattle.volume.proofs.BlockCode.{piece_fits}
use Rattle.volume.proofs.Judged.{checked_tells, checked_takes, refused_reply, refused_piece, accepted_reply, accepted_piece}
use Rattle.volume.proofs.Volume.read.Goals as goal
use Rattle.volume.proofs.Volume.read.Goals.{In_default}

pub returns-in-Err : goal.returns-in-Err
unfolding read_outcome observe
returns-in-Err c =
    let a = c.args in
    let f = checked_tells _ _ _ c.check_read.ensures c.in-Err.is in
    record {
      value = refused_reply _ a.self a.piece.now _ _ f a.self _ refl c.refuse.ensures;
      piece_after = refused_piece _ a.self a.piece.now _ _ f;
    }

accepted : (c : In_default)
    → let a = c.args in ReadFacts a.self a.x.0 (length a.piece.now) (length a.medium.now)
accepted c = read_accepted _ _ _ _ (checked_takes _ _ c.check_read.ensures c.in_default.not-Err)

pub live_spot-p-requires : goal.live_spot-p-requires
live_spot-p-requires c =
    let a = accepted (goal.at.live_spot-p-requires c).In_default in
    record { sound_state = a.is_sound; x_bound = a.block_open }

pub fetch_block-requires : goal.fetch_block-requires
fetch_block-requires c =
    let h = piece_fits _ _ _ _ (accepted (goal.at.fetch_block-requires c).In_default) _ c.geometry.ensures _ c.live_spot-p.ensures in
    record { size_in_range = h.0; inside = h.1.0; piece_len = h.1.1 }

pub returns : goal.returns
unfolding read_outcome read_effect doing pending_with with_pending observe
returns c =
    let a = c.args in
    let e = checked_takes _ _ c.check_read.ensures c.in_default.not-Err in
    record {
      value = accepted_reply _ a.self a.piece.now _ e _ c.accept.ensures;
      piece_after = accepted_piece _ a.self a.piece.now _ e _ (rw (c.live_spot-p.ensures, c.geometry.ensures) at c.fetch_block.ensures);
    }
