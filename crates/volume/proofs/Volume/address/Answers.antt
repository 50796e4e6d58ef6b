-- `address` meets its contract.
use mathlib.Core.Path.{sym, ◌∙◌}
use Rattle.volume.proofs.Accepted.{address_accepted}
use Rattle.volume.proofs.Judged.{checked_tells, checked_takes}
use Rattle.volume.proofs.LookUpLaws.{address_refused, address_found}
use Rattle.volume.proofs.Volume.address.Goals as goal

pub returns-in-Err : goal.returns-in-Err
returns-in-Err c = c.refuse.ensures ∙ sym (address_refused _ _ _ (checked_tells _ _ _ c.check_address.ensures c.in-Err.is))

pub live_address-requires : goal.live_address-requires
live_address-requires c =
    let a = address_accepted _ _ (checked_takes _ _ c.check_address.ensures c.in_default.not-Err) in
    record { sound_state = a.is_sound; x_bound = a.block_open }

pub returns : goal.returns
returns c =
    rw c.live_address.ensures at c.accept.ensures
    ∙ sym (address_found _ _ (checked_takes _ _ c.check_address.ensures c.in_default.not-Err))
