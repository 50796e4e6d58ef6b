-- `check_read` meets its contract.
use mathlib.Core.Path.{◌≡◌, sym, ◌∙◌}
use mathlib.Core.Bool.{true, false}
use lib.Dec.{leb}
use borrow.Author.Tests.{le-leb, lt-leb, eq-eqb, ne_eqb}
use Rattle.base.specs.declared.Refusal.TheVariants.{NotSound, MediumTooShort, BlockNotOpen, PieceSize}
use Rattle.base.specs.Refusals.{refusal, refusal_number}
use Rattle.layout.specs.Tally.{open_blocks}
use Rattle.volume.specs.Calls.{read_table, too_short}
use Rattle.volume.specs.Sound.{sound}
use Rattle.volume.specs.States.{geometry, disks, tally_of}
use Rattle.volume.proofs.CallsCode.{disks_most}
use Rattle.volume.proofs.Judged.{tells, err_checked, ok_checked}
use Rattle.volume.proofs.Volume.check_read.Goals as goal
use Rattle.volume.proofs.Volume.check_read.Goals.{Else-blocks-x, Else-is_short, Else-not-is_sound}

is_sound : (c : Else-not-is_sound) → sound c.args.self.now ≡ true
is_sound c = sym c.is_sound.ensures ∙ c.if-not-is_sound.false

pub returns-then-not-is_sound : goal.returns-then-not-is_sound
unfolding refusal refusal_number read_table
returns-then-not-is_sound c =
    let e : sound c.args.self.now ≡ false = sym c.is_sound.ensures ∙ c.if-not-is_sound.true in
    err_checked _ NotSound (tells _ _ (simp e))

pub is_short-requires : goal.is_short-requires
is_short-requires c =
    let e = is_sound (goal.at.is_short-requires c).Else-not-is_sound in
    record { sound_state = e; disks_le_most_disks = rw c.disk_count.ensures (disks_most _ e) }

pub returns-then-is_short : goal.returns-then-is_short
unfolding refusal refusal_number read_table
returns-then-is_short c = err_checked _ MediumTooShort (tells _ _ (simp (is_sound (goal.at.returns-then-is_short c).Else-not-is_sound, ← c.disk_count.ensures, ← c.is_short.ensures, c.if-is_short.true)))

-- the medium is long enough
is_long : (c : Else-is_short)
    → let a = c.args in too_short (geometry a.self.now) (disks a.self.now) a.len ≡ false
is_long c = simp (← c.disk_count.ensures, ← c.is_short.ensures, c.if-is_short.false)

pub returns-then-blocks-x : goal.returns-then-blocks-x
unfolding refusal refusal_number read_table
returns-then-blocks-x c =
    err_checked _ BlockNotOpen (tells _ _ (simp (
      is_sound (goal.at.returns-then-blocks-x c).Else-not-is_sound,
      is_long (goal.at.returns-then-blocks-x c).Else-is_short,
      le-leb _ _ (rw c.open_blocks-blocks.ensures at c.if-blocks-x.true),
    )))

-- block x is open
is_open : (c : Else-blocks-x) → let a = c.args in leb (open_blocks (tally_of a.self.now)) a.x.0 ≡ false
is_open c = lt-leb _ _ (rw c.open_blocks-blocks.ensures at c.if-blocks-x.false)

pub returns-then-piece-self : goal.returns-then-piece-self
unfolding refusal refusal_number read_table
returns-then-piece-self c =
    err_checked _ PieceSize (tells _ _ (simp (
      is_sound (goal.at.returns-then-piece-self c).Else-not-is_sound,
      is_long (goal.at.returns-then-piece-self c).Else-is_short,
      is_open (goal.at.returns-then-piece-self c).Else-blocks-x,
      ne_eqb _ _ c.if-piece-self.true,
    )))

pub returns : goal.returns
unfolding refusal read_table
returns c =
    ok_checked _ (simp (
      is_sound (goal.at.returns c).Else-not-is_sound,
      is_long (goal.at.returns c).Else-is_short,
      is_open (goal.at.returns c).Else-blocks-x,
      eq-eqb _ _ c.if-piece-self.false,
    ))
